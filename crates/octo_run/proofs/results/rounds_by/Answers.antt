use Rattle.octo_run.proofs.Texts.{rounds_lawful}
use Rattle.octo_run.proofs.results.rounds_by.Goals as goal

pub results_from-requires-clause-journal : goal.results_from-requires-clause-journal
results_from-requires-clause-journal g c κs within =
    rounds_lawful _ _ _ c.requires.rounds (rw c.as_slice.ensures at c.in_ok-settled.ensures.journal)
