use Rattle.std.proofs.Common.{◌≡◌, ◌*◌}
use Rattle.octo_engine.specs.Answers.{AreLooksByReader}
use Rattle.octo_engine.proofs.looks.answers_from.Given as goal

abbrev pub invariant-readers : goal.invariant-readers
invariant-readers l = (l.answers.room ≡ l.options.readers * l.options.asks) × AreLooksByReader l.reader l.options.asks l.looks.items l.answers.items
