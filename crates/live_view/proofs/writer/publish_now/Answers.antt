use Rattle.live_view.proofs.Turns.{publishes}
use Rattle.live_view.proofs.writer.publish_now.Goals as goal

pub publish_as-requires : goal.publish_as-requires
publish_as-requires g c next is = publishes g.K.Kind.rules _ _ c.args.writer.desk.shown.value next _ c.requires.fit c.requires.chain is
