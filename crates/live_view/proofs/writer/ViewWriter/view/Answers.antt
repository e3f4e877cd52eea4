use Rattle.live_view.proofs.Turns.{forks, pairs}
use Rattle.live_view.proofs.writer.ViewWriter.view.Goals as goal

pub tell-requires : goal.tell-requires
tell-requires g c = forks g.K.Kind.rules _ _

pub learn-requires-clause-rule : goal.learn-requires-clause-rule
learn-requires-clause-rule g c = pairs g.K.Kind.rules _ _ _ _
