use Rattle.std.proofs.Common.{◌≡◌, length, take}
use Rattle.live_state.specs.Copies.{estimates_in}
use Rattle.live_view.proofs.copies.estimate_all.Given as goal

abbrev pub invariant-loop-place : goal.invariant-loop-place
invariant-loop-place g l =
    (length l.into.items ≡ length l.keys) × (l.into.room ≡ l.fn.into.room) × (take l.place l.into.items ≡ estimates_in g.K.Kind.rules l.published.figures (take l.place l.keys))
