use Rattle.capture_load.proofs.Noted.{keeps_more}
use Rattle.capture_load.proofs.steps.NgReaderFrames.step.Goals as goal

pub returns-in-Ok-clause-stepped : goal.returns-in-Ok-clause-stepped
returns-in-Ok-clause-stepped c = λ bytes frames noted. (
  _,
  record {
    stands = c.in-Some.ensures.front bytes frames noted.stands;
    keeps = keeps_more c.args.notes.now _ frames _ noted.keeps c.note.ensures.amount c.in-Ok.ensures.packets c.in-Ok.ensures.skipped;
  },
)

pub returns-in-None-clause-stepped : goal.returns-in-None-clause-stepped
returns-in-None-clause-stepped c = λ bytes frames noted.
    c.take_ng.ensures.stepped bytes frames (record { stands = c.in-None.ensures.stands bytes frames noted.stands; keeps = noted.keeps })
