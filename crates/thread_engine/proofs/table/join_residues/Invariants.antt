use Rattle.std.proofs.Common.{◌≡◌, ◌<◌, ℕ, length, slice_index_or}
use Rattle.hash_rows.specs.Shapes.{size_of}
use Rattle.push_rule.specs.Residues.{Counted, HasJoined, residue_of}
use Rattle.push_rule.specs.Stands.{StandsFor}
use Rattle.thread_engine.proofs.table.join_residues.Given as goal

abbrev pub invariant-loop-sketch : goal.invariant-loop-sketch
invariant-loop-sketch g l =
    (l.table.shape ≡ l.fn.table.shape) × (length l.table.cells ≡ size_of l.fn.table.shape)
    × ((by : ℕ → Counted) → ((w : ℕ) (s : _) → w < length l.sketches → StandsFor g.K.Kind.stands g.K.Kind.rules (slice_index_or l.sketches w s) (by w).updates (by w).messages (by w).refused)
    → HasJoined g.K.Kind.rules.join (λ w. residue_of g.K.Kind.rules (by w)) l.sketch-index (size_of l.fn.table.shape) l.fn.table.cells l.table.cells)
