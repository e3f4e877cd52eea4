use Rattle.std.proofs.Common.{◌≡◌, ◌<◌, ◌≤◌, ℕ, List, length}
use Rattle.hash_rows.specs.declared.shape.Push.{Push}
use Rattle.hash_rows.specs.declared.shape.Update.{Update}
use Rattle.hash_rows.specs.Shapes.{size_of}
use Rattle.hash_rows.specs.Tables.{value_at}
use Rattle.push_history.specs.Residue.{residue}
use Rattle.push_rule.specs.Stands.{StandsFor}
use Rattle.push_rule.proofs.residues.join_residue.Given as goal

abbrev pub invariant-loop-cell : goal.invariant-loop-cell
invariant-loop-cell g l =
    (l.table.shape ≡ l.fn.table.shape) × (length l.table.cells ≡ size_of l.fn.table.shape) × ((c : ℕ) → l.cell ≤ c → value_at l.table.cells c ≡ value_at l.fn.table.cells c)
    × ((updates : List Update) (messages : List Push) (refused : List ℕ) → StandsFor g.K.Kind.stands g.K.Kind.rules l.sketch updates messages refused → (c : ℕ) → c < l.cell
    → value_at l.table.cells c ≡ g.K.Kind.rules.join (value_at l.fn.table.cells c) (residue g.K.Kind.rules updates messages (length updates) c))
