use Rattle.std.proofs.Common.{◌≡◌, ◌≤◌, ◌==◌, length, slice_index_or}
use Rattle.std.specs.Prelude.{filter}
use Rattle.std.specs.List.{range_with_len}
use Rattle.shares.proofs.owners.count_owned.Given as goal

abbrev pub invariant-loop-position : goal.invariant-loop-position
invariant-loop-position l = (l.count ≡ length (filter (λ i. slice_index_or l.owners.items i 0 == l.worker) (range_with_len 0 l.position))) × (l.count ≤ l.position)
