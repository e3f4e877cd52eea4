use Rattle.std.proofs.Common.{rules, ◌≡◌, ◌∙◌, sym, ap, w64, length}
use Rattle.std.proofs.lemmas.Int.{to_z-of_z}
use Rattle.std.proofs.lemmas.List.{length-set}
use mir.Val.{SFits}
use Rattle.hash_rows.specs.declared.options.Sketch.TheVariants.{CountSketch}
use Rattle.hash_rows.specs.Rules.{rules_of}
use Rattle.hash_rows.specs.Shapes.{size_of, cell_of}
use Rattle.hash_rows.specs.Tables.{TableView}
use Rattle.reports.proofs.Adding.{reached_none, reached_put, added_all}
use Rattle.epoch_run.specs.Epochs.{sketch_table}
use Rattle.epoch_run.proofs.counting.count_packet.Goals as goal

pub loop-row-init : goal.loop-row-init
loop-row-init c = record {
  shape = sym c.shape-shape.ensures.shape;
  cells = c.requires.cells;
  used = c.requires.used;
  table = λ packets was. was ∙ sym (reached_none (rules_of CountSketch) c.shape-shape.result packets c.args.packet.now);
}

pub loop-row-preserved : goal.loop-row-preserved
loop-row-preserved c =
    let fits : SFits w64 c.value_in_row-amount.result = search rules in
    let value = to_z-of_z w64 c.value_in_row-amount.result fits ∙ c.value_in_row-amount.ensures in
    let hash = c.hash_in_row-hash.ensures c.args.packet.now.key c.key_hash-key_hash.ensures in
    let cell : c.cell_in_row.result ≡ cell_of c.shape-shape.result c.args.packet.now.key c.loop-row.row = c.cell_in_row.ensures.place c.args.packet.now.key hash in
    let before = c.loop-row.invariant in
    record {
      shape = ap (λ (t : TableView). t.shape) c.count_cell.ensures.table ∙ before.shape;
      cells = ap (λ (t : TableView). length t.cells) c.count_cell.ensures.table ∙ length-set c.loop-row.table.cells _ _ ∙ before.cells ∙ sym (ap (λ (t : TableView). size_of t.shape) c.count_cell.ensures.table);
      used = c.count_cell.ensures.used;
      table = λ packets was. c.count_cell.ensures.table ∙ reached_put (rules_of CountSketch) c.shape-shape.result packets c.args.packet.now c.loop-row.row _ _ _ (before.table packets was) cell c.cell_in_row.ensures.within value;
    }

pub returns-clause-table : goal.returns-clause-table
unfolding sketch_table
returns-clause-table c = λ shape packets was.
    let all : c.shape-shape.result.rows ≡ c.loop-row.row = search rules in
    added_all (rules_of CountSketch) c.shape-shape.result shape packets c.args.packet.now c.loop-row.row _ _ c.shape-shape.ensures.shape all was (c.loop-row.invariant.table packets)
