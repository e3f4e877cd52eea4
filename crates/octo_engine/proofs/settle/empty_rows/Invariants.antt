use Rattle.std.proofs.Common.{◌≡◌, length}
use Rattle.octo_engine.proofs.settle.empty_rows.Given as goal

abbrev pub invariant-rows : goal.invariant-rows
invariant-rows l = (l.rows.room ≡ l.count) × (length l.rows.items ≡ l.counter)
