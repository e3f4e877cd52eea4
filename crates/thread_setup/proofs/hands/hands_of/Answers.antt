use Rattle.std.proofs.Common.{◌∙◌, arith}
use Rattle.aggregate.proofs.Kept.{ends_len}
use Rattle.thread_setup.proofs.Beginnings.{hands_more, hands_none}
use Rattle.thread_setup.proofs.hands.hands_of.Goals as goal

pub loop-worker-init : goal.loop-worker-init
loop-worker-init g c =
    let e = c.in_ok-hands.ensures in
    record {
      hands = hands_none g.K.Kind.stands g.K.Kind.rules c.args.options.now c.args.packets.now c.in_ok-hands.hands e.lanes.0 e.workers.0 e.outs.0;
      lanes = e.lanes.1;
      workers = e.workers.1;
      outs = e.outs.1;
      owners = c.in_ok-owners.ensures;
    }

pub loop-worker-preserved : goal.loop-worker-preserved
loop-worker-preserved g c =
    let h = c.loop-worker.invariant in
    let e = c.add_hand.ensures in
    record {
      hands = hands_more g.K.Kind.stands g.K.Kind.rules c.args.options.now c.args.packets.now c.loop-worker.worker c.loop-worker.hands c.add_hand.new.hands _ h.hands c.in_ok-hand.ensures e.lanes.0 e.workers.0 e.outs.0;
      lanes = e.lanes.1 ∙ h.lanes;
      workers = e.workers.1 ∙ h.workers;
      outs = e.outs.1 ∙ h.outs;
      owners = h.owners;
    }

pub add_hand-requires-clause-outs : goal.add_hand-requires-clause-outs
add_hand-requires-clause-outs g c κs within =
    let h = c.loop-worker.invariant in
    let len = ends_len c.loop-worker.hands.lanes.items c.loop-worker.hands.outs.items h.hands.ends in
    omega (arith, len, h.hands.lanes_len, h.outs, c.loop-worker-test.true)
