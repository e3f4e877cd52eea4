use Rattle.std.proofs.Common.{◌≡◌, ◌≤◌, ◌<◌, ℕ, [], length, take, slice_index_or}
use Rattle.octo_engine.specs.Residues.{IsRow}
use Rattle.octo_engine.proofs.settle.refused_rows.Given as goal

abbrev pub invariant-parts : goal.invariant-parts
invariant-parts g l =
    (l.parts.items ≡ take (length l.parts.items) l.fn.parts.items) × (l.place ≡ length l.parts.items) × (length l.rows.items ≡ length l.fn.parts.items)
    × ((w : ℕ) (p : _) → l.place ≤ w → w < length l.fn.parts.items → IsRow g.K.Kind.rules g.K.Kind.stands (slice_index_or l.fn.parts.items w p) (slice_index_or l.rows.items w []))

abbrev pub decreases-parts : goal.decreases-parts
decreases-parts g l = length l.parts.items
