use Rattle.std.proofs.Common.{rules, ◌∙◌, ap, arith, length, length-append}
use Rattle.push_history.specs.Journal.{terms_of}
use Rattle.octo_engine.specs.Parts.{IsWorkerAfter}
use Rattle.octo_engine.proofs.Beginning.{grown, rules_are, suits}
use Rattle.octo_engine.proofs.setup.parts_of.Goals as goal

pub loop-worker-preserved : goal.loop-worker-preserved
loop-worker-preserved g c =
    let kind = g.met.K.Kind g.world.𝓛 g.world.𝓜 g.world.𝓡 ((λ s x. x), (λ x. x), (λ x. x), (λ x. x)) in
    let o = c.args.options.now in
    let packets = c.args.packets.now in
    let was = c.loop-worker.invariant in
    let rules_is = rules_are g.K.Kind.rules o g.K.Kind.sketch kind.is_sketch c.requires.sketch in
    let items = c.push_reserved.ensures.items in
    let long = ap length items ∙ length-append c.loop-worker.parts.items _ in (
      omega (arith, long, was.0),
      search rules,
      grown (λ w p. IsWorkerAfter g.K.Kind.stands (terms_of packets o) o packets 0 w p) c.loop-worker.parts.items c.push_reserved.new.self.items c.loop-worker.worker _ was.0 items was.2
          (record {
            share = c.in_ok-part.ensures.share;
            sound = c.in_ok-part.ensures.sound;
            keeps = c.in_ok-part.ensures.fresh (terms_of packets o) (suits g.K.Kind.rules packets o rules_is);
          }),
      was.3,
    )
