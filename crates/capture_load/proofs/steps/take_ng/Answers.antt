use Rattle.std.proofs.Common.{ℕ, ◌++◌, subst}
use Rattle.pcapng_read.specs.Capture.{RefusesNext}
use Rattle.capture_load.proofs.Noted.{keeps_more, ng_part, ng_whole, when_not, when_so}
use Rattle.capture_load.proofs.steps.take_ng.Goals as goal

pub returns-then-not-taken-clause-stepped : goal.returns-then-not-taken-clause-stepped
returns-then-not-taken-clause-stepped c = λ bytes frames noted.
    ng_part _ _ _ frames (when_not _ _ c.in-Ok.taken.packet c.if-not-taken.true (c.in-Ok.ensures.takes bytes frames noted.stands)) noted.keeps

pub returns-in-Ok-note-clause-stepped : goal.returns-in-Ok-note-clause-stepped
returns-in-Ok-note-clause-stepped c = λ bytes frames noted.
    let whole = when_so _ _ c.in-Ok.taken.packet c.if-not-taken.false (c.in-Ok.ensures.takes bytes frames noted.stands) in (
      _,
      record {
        stands = ng_whole _ _ frames _ whole c.lent-frame.ensures;
        keeps = keeps_more c.args.notes.now _ frames _ noted.keeps c.note.ensures.amount c.in-Ok-note.ensures.packets c.in-Ok-note.ensures.skipped;
      },
    )

pub returns-in-Err-clause-stepped : goal.returns-in-Err-clause-stepped
returns-in-Err-clause-stepped c = λ bytes frames noted.
    (frames, subst (λ (n : ℕ). RefusesNext n (bytes ++ c.args.piece.now) frames c.in-Err.bad) c.requires.counted.0 (c.in-Err.ensures.takes bytes frames noted.stands))
