use Rattle.push_history.proofs.Fitting.{rules_lawful}
use Rattle.thread_law.specs.Ran.{marked_by}
use Rattle.thread_law.proofs.Sequentials.{settled_sequential}
use Rattle.thread_law.proofs.laws.ran_is_sequential.Goals as goal

pub returns : goal.returns
returns c packets o messages folded bits pushes answers live missed lawful small h cell =
    settled_sequential packets o lawful (rules_lawful o.sketch) small messages (marked_by bits) folded h.messages_len (λ w lt. (h.each w lt).pushes) h.fold h.values cell
