use Rattle.capture_load.proofs.Noted.{keeps_more}
use Rattle.capture_load.proofs.steps.ReaderFrames.step.Goals as goal

pub returns-in-Ok-clause-stepped : goal.returns-in-Ok-clause-stepped
returns-in-Ok-clause-stepped c = λ bytes frames noted. (
  _,
  record {
    stands = c.in-Some.ensures.front bytes frames noted.stands;
    keeps = keeps_more c.args.notes.now _ frames _ noted.keeps c.note.ensures.amount c.in-Ok.ensures.packets c.in-Ok.ensures.skipped;
  },
)
