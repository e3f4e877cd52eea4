use Rattle.thread_law.proofs.Fitting.{messages_fit}
use Rattle.thread_law.proofs.laws.lawful_messages_fit.Goals as goal

pub returns : goal.returns
returns c = messages_fit
