use Rattle.octo_run.proofs.Ends.{done_end, fault_end}
use Rattle.octo_run.proofs.frame.perform.Goals as goal

pub returns-in-Ok-clause-ended : goal.returns-in-Ok-clause-ended
returns-in-Ok-clause-ended g c = done_end _ _ _ _ _ _ _ _ _ c.in-Ok.ensures.done c.in-Ok.ensures.accepted

pub returns-in-Err-clause-ended : goal.returns-in-Err-clause-ended
returns-in-Err-clause-ended g c =
    fault_end _ _ _ _ _ _ _ _ _ c.in-Err.fault _ c.tell.ensures.status c.tell.ensures.line c.in-Err.ensures.reason
