use Rattle.std.proofs.Common.{◌≡◌, ◌∙◌, ◌<◌, sym, ap, subst, length, take, arith}
use Rattle.hash_rows.specs.declared.shape.Shape.{Shape}
use Rattle.hash_rows.specs.Shapes.{size_of}
use Rattle.hash_rows.specs.Tables.{value_at}
use Rattle.push_history.specs.LagRun.{updates_by}
use Rattle.push_rule.specs.Keeps.{Keeps}
use Rattle.push_rule.specs.Residues.{HasJoined, IsWorkerFor}
use Rattle.push_rule.specs.Stands.{PrivateView, StandsFor}
use Rattle.push_rule.proofs.CounterSteps.{sketch_stands}
use Rattle.push_rule.proofs.Joining.{joined_more}
use Rattle.octo_engine.specs.declared.worker.Part.{Part}
use Rattle.octo_engine.specs.Residues.{residue_by}
use Rattle.octo_engine.proofs.Settling.{joined_by}
use Rattle.octo_engine.proofs.settle.join_residues.Goals as goal

pub join_residue-requires-clause-one : goal.join_residue-requires-clause-one
join_residue-requires-clause-one g c κs within =
    let own = c.requires.each c.loop-part.part-index c.part-item.result c.loop-part-test.true in
    subst (λ (s : Shape). IsWorkerFor g.K.Kind.stands g.K.Kind.rules s c.sketch.result.now) (sym c.loop-part.invariant.0)
    (subst (λ (s : PrivateView g.row.K-Held.Denot). IsWorkerFor g.K.Kind.stands g.K.Kind.rules c.args.table.now.shape s) (sym c.sketch.ensures)
    (subst (λ (p : Part g.row.K.Denot g.row.K-Held.Denot). IsWorkerFor g.K.Kind.stands g.K.Kind.rules c.args.table.now.shape p.counter.sketch) (sym c.part-item.is) own))

pub loop-part-preserved : goal.loop-part-preserved
loop-part-preserved g c =
    let was = c.loop-part.invariant in
    let shape = c.join_residue.ensures.shape ∙ was.0 in (
      shape,
      c.join_residue.ensures.size ∙ ap size_of shape,
      λ t xs same each.
          let w = c.loop-part.part-index in
          let mine = each w c.part-item.result c.loop-part-test.true in
          let keeps = subst (λ (p : Part g.row.K.Denot g.row.K-Held.Denot). Keeps g.K.Kind.stands t w p.counter (xs w)) (sym c.part-item.is) mine in
          let stood = subst (λ (s : PrivateView g.row.K-Held.Denot). StandsFor g.K.Kind.stands g.K.Kind.rules s (take (xs w).counted (updates_by t w)) (xs w).sent (xs w).refused) (sym c.sketch.ensures)
          (sketch_stands g.K.Kind.stands t w c.part-item.result.counter (xs w) keeps g.K.Kind.rules same) in
          joined_more t.rules.join (residue_by t xs) w (size_of c.args.table.now.shape) c.args.table.now.cells c.loop-part.table.cells c.join_residue.new.table.cells (was.2 t xs same each)
          (λ cell lt. joined_by g.K.Kind.stands t w c.part-item.result.counter (xs w) keeps g.K.Kind.rules same cell (value_at c.loop-part.table.cells cell) (value_at c.join_residue.new.table.cells cell)
          (c.join_residue.ensures.joined _ _ _ stood cell (subst (λ s. cell < size_of s) (sym was.0) lt))),
    )

pub returns-clause-cells : goal.returns-clause-cells
returns-clause-cells g c = λ t xs same each.
    let done : c.loop-part.part-index ≡ length c.args.parts.now = omega (arith, c.loop-part-test.false, c.loop-part.auto.part-index-end) in
    subst (λ n. HasJoined t.rules.join (residue_by t xs) n (size_of c.args.table.now.shape) c.args.table.now.cells c.loop-part.table.cells) done (c.loop-part.invariant.2 t xs same each)
