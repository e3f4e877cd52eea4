use Rattle.std.proofs.Common.{◌≡◌}
use Rattle.octo_engine.specs.Answers.{IsLike}
use Rattle.octo_engine.proofs.looks.answer_all.Given as goal

abbrev pub invariant-asks : goal.invariant-asks
invariant-asks l = (l.answers.room ≡ l.initial.answers.room) × IsLike l.reader l.number l.looks.items l.initial.answers.items l.answers.items
