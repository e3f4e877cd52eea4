use Rattle.std.proofs.Common.{List, sym, subst}
use Rattle.hash_rows.specs.declared.shape.Push.{Push}
use Rattle.aggregate.specs.Takens.{AreNamed, AreTaken}
use Rattle.live_state.specs.declared.layout.Layout.{Layout}
use Rattle.thread_ends.specs.Ends.{both_sents, kept_in}
use Rattle.thread_engine.proofs.settling.publish_rest.Goals as goal

pub returns-clause-published : goal.returns-clause-published
returns-clause-published g c =
    let r = g.K.Kind.rules in
    let w = c.drain_all.new.writer in
    let sents = both_sents c.drain_all.new.passes.items in
    let begun = subst (λ (l : List (List Push)). AreTaken r c.args.writer.now.layout l (kept_in c.args.writer.now)) (sym c.take_in_all.ensures.passes.taken) c.requires.taken in
    let all = c.in_ok-drain_all.ensures.taken begun in
    subst (λ (l : Layout). AreTaken r l sents c.publish.new.self.published) (sym c.publish.ensures.pair.1)
    (subst (λ (ms : List Push). AreTaken r w.layout sents ms) (sym c.publish.ensures.published)
    (subst (λ (l : List (List Push)). AreTaken r w.layout l (kept_in w)) c.in_ok-drain_all.ensures.drained all))

pub drain_all-requires-clause-named : goal.drain_all-requires-clause-named
drain_all-requires-clause-named g c κs within =
    subst (λ (l : List (List Push)). AreNamed g.K.Kind.rules c.args.writer.now.layout l) (sym c.take_in_all.ensures.passes.sents) c.requires.named
