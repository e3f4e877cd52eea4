use Rattle.thread_setup.proofs.Beginnings.{all_first}
use Rattle.thread_setup.proofs.setup.pair_of.Goals as goal

pub returns-clause-views : goal.returns-clause-views
returns-clause-views g c = all_first c.in_ok-writer.writer c.in_ok-writer.views.items c.in_ok-writer.ensures.views
