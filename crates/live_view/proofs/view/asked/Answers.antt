use Rattle.live_view.proofs.Turns.{enters}
use Rattle.live_view.proofs.view.asked.Goals as goal

pub enter_as-requires : goal.enter_as-requires
enter_as-requires g c = enters g.K.Kind.rules _ _
