use Rattle.std.proofs.Common.{◌≡◌}
use Rattle.std.specs.Prelude.{map}
use Rattle.std.specs.List.{range_with_len}
use Rattle.hash_rows.specs.Tables.{used_in}
use Rattle.reports.proofs.totals.used_of.Given as goal

abbrev pub invariant-loop-row : goal.invariant-loop-row
invariant-loop-row g l = (l.used.items ≡ map (used_in l.fn.table) (range_with_len 0 l.row)) × (l.used.room ≡ l.rows)
