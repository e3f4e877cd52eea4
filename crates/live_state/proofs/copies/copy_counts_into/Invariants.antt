use Rattle.std.proofs.Common.{◌≡◌, ℕ, ◌<◌, length, get_or}
use Rattle.live_state.proofs.copies.copy_counts_into.Given as goal

abbrev pub invariant-loop-place : goal.invariant-loop-place
invariant-loop-place l =
    (length l.into.items ≡ length l.from) × (l.into.room ≡ l.fn.into.room) × ((k : ℕ) → k < l.place → get_or l.into.items k 0 ≡ get_or l.from k 0)
