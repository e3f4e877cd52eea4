use Rattle.std.proofs.Common.{rules, ◌≡◌, ◌≤◌, ◌<◌, length, ap, ◌∙◌, ◌+◌, ℤ, List, sym, subst, refl}
use Rattle.std.proofs.lemmas.List.{length-replicate, length-set}
use Rattle.std.specs.Prelude.{pos, true, slice_index_or}
use Rattle.hash_rows.specs.Tables.{joined_at}
use Rattle.live_state.proofs.Copied.{AreCopied, none_copied, one_copied, all_copied}
use Rattle.live_state.proofs.copies.fill_table.Goals as goal

pub loop-cell-init : goal.loop-cell-init
loop-cell-init g c =
    let cells = c.args.cells.now in
    let zeros = c.requires.zeros in
    (search rules, ap length zeros ∙ (length-replicate _ (pos 0) ∙ sym c.requires.size), none_copied cells c.args.into.now.cells c.args.into.now.shape zeros c.requires.size)

pub loop-cell-preserved : goal.loop-cell-preserved
loop-cell-preserved g c =
    let h = c.loop-cell.invariant in
    let cells = c.args.cells.now in
    let into = c.loop-cell.into in
    let cell = c.loop-cell.cell in
    let inside : cell < length cells = search rules in
    let a : ℤ = slice_index_or cells cell (pos 0) in
    let now : c.put.new.self.cells ≡ joined_at g.K.Kind.rules.join into.cells cell a = search rules in
    let shape : c.put.new.self.shape ≡ into.shape = search rules in
    let value : g.K.Kind.rules.is_value a ≡ true = c.requires.values cell (pos 0) inside in
    let laws = (g.met.K.Kind g.world.𝓛 g.world.𝓜 g.world.𝓡 ((λ s x. x), (λ x. x), (λ x. x), (λ x. x))).laws in
    let one = one_copied g.K.Kind.rules laws cells into.cells cell a h.2 h.1 inside refl value in (
      shape ∙ h.0,
      ap length now ∙ (length-set into.cells cell _ ∙ h.1),
      subst (λ (l : List ℤ). AreCopied cells l (cell + 1)) (sym now) one,
    )

pub returns-clause-cells : goal.returns-clause-cells
returns-clause-cells g c =
    let h = c.loop-cell.invariant in
    let all : length c.args.cells.now ≤ c.loop-cell.cell = search rules in
    all_copied c.args.cells.now c.loop-cell.into.cells c.loop-cell.cell h.2 h.1 all
