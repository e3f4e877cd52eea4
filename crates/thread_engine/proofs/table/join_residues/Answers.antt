use Rattle.std.proofs.Common.{◌≡◌, ◌∙◌, ◌<◌, length, sym, ap, subst, arith}
use Rattle.hash_rows.specs.Shapes.{size_of}
use Rattle.push_rule.specs.Residues.{HasJoined, IsWorkerFor, residue_of}
use Rattle.push_rule.specs.Stands.{PrivateView, StandsFor}
use Rattle.push_rule.proofs.Joining.{joined_more}
use Rattle.thread_engine.proofs.table.join_residues.Goals as goal

pub join_residue-requires-clause-one : goal.join_residue-requires-clause-one
join_residue-requires-clause-one g c κs within =
    let own = c.requires.each c.loop-sketch.sketch-index c.sketch-item.result c.loop-sketch-test.true in
    subst (λ s. IsWorkerFor g.K.Kind.stands g.K.Kind.rules s c.sketch-item.result) (sym c.loop-sketch.invariant.0)
    (subst (λ (s : PrivateView g.row.K-Held.Denot). IsWorkerFor g.K.Kind.stands g.K.Kind.rules c.args.table.now.shape s) (sym c.sketch-item.is) own)

pub loop-sketch-preserved : goal.loop-sketch-preserved
loop-sketch-preserved g c =
    let was = c.loop-sketch.invariant in
    let shape = c.join_residue.ensures.shape ∙ was.0 in (
      shape,
      c.join_residue.ensures.size ∙ ap size_of shape,
      λ by each.
          let w = c.loop-sketch.sketch-index in
          let mine = each w c.sketch-item.result c.loop-sketch-test.true in
          let stood = subst (λ (s : PrivateView g.row.K-Held.Denot). StandsFor g.K.Kind.stands g.K.Kind.rules s (by w).updates (by w).messages (by w).refused) (sym c.sketch-item.is) mine in
          joined_more g.K.Kind.rules.join (λ v. residue_of g.K.Kind.rules (by v)) w (size_of c.args.table.now.shape) c.args.table.now.cells c.loop-sketch.table.cells c.join_residue.new.table.cells (was.2 by each)
          (λ cell lt. c.join_residue.ensures.joined _ _ _ stood cell (subst (λ s. cell < size_of s) (sym was.0) lt)),
    )

pub returns-clause-joined : goal.returns-clause-joined
returns-clause-joined g c = λ by each.
    let all : c.loop-sketch.sketch-index ≡ length c.args.sketches.now = omega (arith, c.loop-sketch-test.false, c.loop-sketch.auto.sketch-index-end) in
    subst (λ n. HasJoined g.K.Kind.rules.join (λ w. residue_of g.K.Kind.rules (by w)) n (size_of c.args.table.now.shape) c.args.table.now.cells c.loop-sketch.table.cells) all (c.loop-sketch.invariant.2 by each)
