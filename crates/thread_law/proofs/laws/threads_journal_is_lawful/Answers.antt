use Rattle.std.proofs.Common.{refl, subst, sym}
use Rattle.hash_rows.specs.declared.options.Mode.{Mode}
use Rattle.push_history.specs.Journal.{journal_in}
use Rattle.push_history.specs.LawfulJournal.{IsJournalIn}
use Rattle.push_history.proofs.Fitting.{rules_lawful}
use Rattle.thread_law.proofs.Threads.{threads_journal}
use Rattle.thread_law.proofs.laws.threads_journal_is_lawful.Goals as goal

pub returns : goal.returns
returns c packets o messages folded bits pushes answers live missed lawful mode total h = record {
  options = refl;
  by_mode = subst (λ (m : Mode). IsJournalIn m packets o (journal_in o bits pushes answers live missed)) (sym mode)
      (threads_journal packets o messages folded bits pushes answers live missed lawful total (rules_lawful o.sketch) h);
}
