use Rattle.std.proofs.Common.{◌≡◌, ◌<◌, ◌^◌, ℕ, length, map, slice_get, Some}
use Rattle.hash_rows.specs.Shapes.{size_of}
use Rattle.lag_core.specs.Workers.{IsFreshWorker, terms_within}
use Rattle.lag_core.proofs.lag.new_workers.Given as goal

abbrev pub invariant-loop-number : goal.invariant-loop-number
invariant-loop-number g l =
    (length l.workers.items ≡ l.number) × ((w : ℕ) (d : _) → slice_get l.workers.items w ≡ Some d → IsFreshWorker g.K.Kind.stands
    (terms_within g.K.Kind.rules (record { threshold = l.threshold; capacity = l.capacity; full = l.full; updates = map (λ row. row.items) l.updates.items })) (size_of l.shape) w d)
    × ((w : ℕ) (row : _) → w < l.number → slice_get l.updates.items w ≡ Some row → length row.items < 2 ^ 32)
