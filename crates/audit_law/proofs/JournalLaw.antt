-- None of the tests of a journal fails exactly where it is lawful for a run in threads.
use Rattle.std.proofs.Common.{◌++◌, List, length, subst}
use Rattle.std.specs.Prelude.{All}
use Rattle.std.specs.List.{flat_map, range_with_len}
use Rattle.hash_rows.specs.declared.options.Options.{Options}
use Rattle.hash_rows.specs.declared.shape.Packet.{Packet}
use Rattle.hash_rows.specs.declared.shape.Push.{Push}
use Rattle.push_history.specs.Journal.{Journal}
use Rattle.push_history.specs.LawfulJournal.{IsThreadsJournal, LawfulWorkers, IsLawfulAnswer}
use Rattle.audit_law.specs.Forms.{HasForm}
use Rattle.audit_law.specs.Tests.{Test}
use Rattle.audit_law.specs.WorkerTests.{all_given, all_worker_tests}
use Rattle.audit_law.specs.AnswerTests.{answer_tests}
use Rattle.audit_law.specs.LiveTests.{live_tests, missed_tests}
use Rattle.audit_law.specs.Judged.{tests_of}
use Rattle.audit_law.proofs.Holding.{Hold, hold_front, hold_back, hold_append}
use Rattle.audit_law.proofs.WorkerLaw.{all_given_length, lawful_all, workers_lawful, workers_tested}
use Rattle.audit_law.proofs.AnswerLaw.{answers_lawful, answers_ordered, answers_tested}
use Rattle.audit_law.proofs.LiveLaw.{AreLive, live_lawful, live_tested}

module _ (packets : List Packet) (o : Options) (j : Journal) (form : HasForm o j) where
  abbrev messages : List (List Push)
  messages = all_given packets o j

  abbrev of_answers : List Test
  of_answers = flat_map (answer_tests o j messages) (range_with_len 0 (length j.answers))

  abbrev of_live : List Test
  of_live = flat_map (live_tests o j messages) (range_with_len 0 (length j.live)) ++ missed_tests o j messages

  pub lawful_where_none : Hold (tests_of packets o j) → IsThreadsJournal packets o j
  unfolding tests_of
  lawful_where_none h =
      let workers = all_given_length packets o j in
      let rest = hold_back (all_worker_tests packets o j) (of_answers ++ of_live) h in
      let answers = hold_front of_answers of_live rest in
      let live = live_lawful o j messages (hold_back of_answers of_live rest) in
      record {
        messages = messages;
        workers = workers_lawful packets o j form (hold_front (all_worker_tests packets o j) (of_answers ++ of_live) h);
        places = form.places;
        answers = answers_lawful o j messages workers form answers;
        ordered = answers_ordered o j messages workers form answers;
        heavy = record { live_table = live.live_table; growing = live.growing; alone = live.alone };
      }

  pub none_where_lawful : IsThreadsJournal packets o j → Hold (tests_of packets o j)
  unfolding tests_of
  none_where_lawful h =
      let workers = all_given_length packets o j in
      let is = lawful_all packets o j h.messages h.workers in
      hold_append (all_worker_tests packets o j) (of_answers ++ of_live)
      (workers_tested packets o j (subst (λ (t : List (List Push)). LawfulWorkers packets o j t) is h.workers))
      (hold_append of_answers of_live
      (answers_tested o j messages workers form (subst (λ (t : List (List Push)). All (IsLawfulAnswer o t) j.answers) is h.answers) h.ordered)
      (live_tested o j messages (subst (λ (t : List (List Push)). AreLive o j t) is (record { live_table = h.heavy.live_table; growing = h.heavy.growing; alone = h.heavy.alone }))))
