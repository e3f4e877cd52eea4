use Rattle.std.proofs.Common.{rules, ◌∙◌, ◌<◌, ap, w64, length, length-set}
use Rattle.std.proofs.lemmas.Int.{to_z-of_z}
use mir.Val.{SFits}
use Rattle.push_history.specs.Residue.{residue}
use Rattle.push_rule.proofs.CounterSteps.{residue_value}
use Rattle.push_rule.proofs.Joining.{cell_kept, cell_more}
use Rattle.push_rule.proofs.residues.join_residue.Goals as goal

pub put-requires-clause-value : goal.put-requires-clause-value
put-requires-clause-value g c κs within =
    let kind = g.met.K.Kind g.world.𝓛 g.world.𝓜 g.world.𝓡 ((λ s x. x), (λ x. x), (λ x. x), (λ x. x)) in
    let one = c.requires.one in
    let at = one.stands_for.cells c.loop-cell.cell in
    let fits : SFits w64 c.residue.result = search rules in
    let inside : c.loop-cell.cell < length c.args.sketch.now.held = search rules in
    residue_value g.K.Kind.stands g.K.Kind.rules kind.laws kind.stands_for_values _ c.loop-cell.cell inside _ _ _ at (to_z-of_z w64 c.residue.result fits ∙ c.residue.ensures.gap _ _ at)

pub loop-cell-preserved : goal.loop-cell-preserved
loop-cell-preserved g c =
    let was = c.loop-cell.invariant in
    let fits : SFits w64 c.residue.result = search rules in
    let cells = ap (λ t. t.cells) c.put.ensures in
    let inside : c.loop-cell.cell < length c.loop-cell.table.cells = search rules in (
      ap (λ t. t.shape) c.put.ensures ∙ was.0,
      ap length cells ∙ length-set c.loop-cell.table.cells c.loop-cell.cell _ ∙ was.1,
      cell_kept c.args.table.now.cells c.loop-cell.table.cells c.put.new.self.cells c.loop-cell.cell _ cells was.2,
      λ updates messages refused stands.
          cell_more g.K.Kind.rules.join c.args.table.now.cells c.loop-cell.table.cells c.put.new.self.cells c.loop-cell.cell (λ cell. residue g.K.Kind.rules updates messages (length updates) cell) _ inside
          cells (to_z-of_z w64 c.residue.result fits ∙ c.residue.ensures.stands updates messages refused stands) (was.3 updates messages refused stands) was.2,
    )
