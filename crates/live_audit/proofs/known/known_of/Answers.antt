use Rattle.live_audit.proofs.Counting.{lists_fit}
use Rattle.live_audit.proofs.known.known_of.Goals as goal

pub table_of-requires-clause-fit : goal.table_of-requires-clause-fit
table_of-requires-clause-fit g c κs within = lists_fit g.K.Kind.rules c.args.options.now.shape c.args.lists.now c.requires.sent
