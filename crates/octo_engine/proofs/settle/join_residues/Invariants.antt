use Rattle.std.proofs.Common.{◌≡◌, ◌<◌, ℕ, length, slice_index_or}
use Rattle.hash_rows.specs.Shapes.{size_of}
use Rattle.push_history.specs.LagRun.{Terms, Worker}
use Rattle.push_rule.specs.Keeps.{Keeps}
use Rattle.push_rule.specs.Residues.{HasJoined}
use Rattle.octo_engine.specs.Residues.{residue_by}
use Rattle.octo_engine.proofs.settle.join_residues.Given as goal

abbrev pub invariant-loop-part : goal.invariant-loop-part
invariant-loop-part g l =
    (l.table.shape ≡ l.fn.table.shape) × (length l.table.cells ≡ size_of l.fn.table.shape)
    × ((t : Terms) (xs : ℕ → Worker) → t.rules ≡ g.K.Kind.rules → ((w : ℕ) (p : _) → w < length l.parts → Keeps g.K.Kind.stands t w (slice_index_or l.parts w p).counter (xs w))
    → HasJoined t.rules.join (residue_by t xs) l.part-index (size_of l.fn.table.shape) l.fn.table.cells l.table.cells)
