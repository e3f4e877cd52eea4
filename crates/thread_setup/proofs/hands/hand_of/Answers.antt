use Rattle.std.proofs.Common.{◌∙◌, ap, arith, length}
use Rattle.shares.proofs.Sharing.{share_few}
use Rattle.thread_setup.proofs.hands.hand_of.Goals as goal

pub sketch_of-requires-clause-few : goal.sketch_of-requires-clause-few
sketch_of-requires-clause-few g c κs within =
    let few = share_few c.args.options.now c.args.packets.now c.args.worker in
    let len = c.len.ensures ∙ ap length c.in_ok-share.ensures.share in
    omega (arith, few, len, c.requires.few)
