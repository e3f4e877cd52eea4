use Rattle.std.proofs.Common.{◌≡◌, ◌≤◌, [], length}
use Rattle.std.specs.Prelude.{All}
use Rattle.live_view.specs.Views.{layout_for}
use Rattle.live_view.proofs.pair.make_views.Given as goal

abbrev pub invariant-loop : goal.invariant-loop
invariant-loop g l =
    (length l.views.items ≡ l.counter) × (l.counter ≤ l.fn.readers) × (l.views.room ≡ l.fn.readers)
    × (l.writer.published ≡ []) × (l.writer.pending ≡ []) × (l.writer.layout ≡ layout_for l.fn.shape l.fn.workers l.fn.heavy l.fn.least)
    × All (λ v. (v.book ≡ l.writer.book) × (v.layout ≡ l.writer.layout) × (v.known ≡ []) × (v.told ≡ [])) l.views.items
