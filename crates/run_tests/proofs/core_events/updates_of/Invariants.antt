use Rattle.std.proofs.Common.{◌≡◌, ◌<◌, length, true}
use Rattle.std.specs.Prelude.{All}
use Rattle.run_tests.proofs.core_events.updates_of.Given as goal

abbrev pub invariant-loop-place : goal.invariant-loop-place
invariant-loop-place g l =
    (length l.row.items ≡ l.place) × (l.row.room ≡ length l.counts) × All (λ u. u.cell < 2) l.row.items
    × All (λ u. g.K.Kind.rules.is_value u.value ≡ true) l.row.items
