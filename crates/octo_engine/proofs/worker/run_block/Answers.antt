use Rattle.std.proofs.Common.{rules, ◌≡◌, ◌∙◌, ◌+◌, sym, ap, subst, ℕ, arith, List, set}
use Rattle.octo_engine.specs.Counts.{HasShare}
use Rattle.octo_engine.specs.Parts.{AreEnds, HasRun, block}
use Rattle.octo_engine.proofs.Running.{ends_more, run_more, batch_more}
use Rattle.octo_engine.proofs.worker.run_block.Goals as goal

pub loop-round-preserved : goal.loop-round-preserved
loop-round-preserved g c =
    let inv = c.loop-round.invariant in
    let d = c.loop-round.part.counter in
    let now = c.run_round.new.counter in
    let taken = c.run_round.ensures.taken in
    let ends = ends_more c.loop-round.part.ends.items c.loop-round.round d.taken now.taken inv.3 taken.0 c.loop-round-test.true in
    let stored = c.set-in-loop-round.ensures.items in (
      search inv,
      search rules,
      c.run_round.ensures.room ∙ inv.2,
      subst (λ (es : List ℕ). AreEnds es (c.loop-round.round + 1) now.taken) (sym (stored ∙ ap (λ e. set c.loop-round.part.ends.items (c.loop-round.round + 1) e) c.taken-end.ensures)) ends,
      batch_more c.loop-round.round c.args.options.now.batch d.taken now.taken inv.4 taken.1,
      λ t w x has keeps.
          let here = subst (λ (l : List ℕ). HasShare g.K.Kind.rules t c.args.options.now.shape c.args.packets.now w l) (sym inv.0) has in
          let run = inv.5 t w x has keeps in
          subst (λ (es : List ℕ). HasRun g.K.Kind.stands t c.args.options.now w x (c.loop-round.round + 1) es now) (sym stored)
          (run_more g.K.Kind.stands t c.args.options.now w x c.loop-round.round c.loop-round.part.ends.items d now c.taken-end.result run inv.3 inv.1.taken c.run_round.ensures.grows c.loop-round-test.true c.taken-end.ensures
          (c.run_round.ensures.keeps t w _ here run.keeps) (c.run_round.ensures.folded t w _ here run.keeps)),
    )

pub returns-clause-run : goal.returns-clause-run
returns-clause-run g c = λ t w x has keeps.
    let all : c.loop-round.round ≡ block = grind arith in
    subst (λ n. HasRun g.K.Kind.stands t c.args.options.now w x n c.loop-round.part.ends.items c.loop-round.part.counter) all (c.loop-round.invariant.5 t w x has keeps)
