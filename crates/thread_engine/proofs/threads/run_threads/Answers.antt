use Rattle.std.proofs.Common.{List, refl, subst, sym}
use Rattle.packet_key.specs.declared.key.FlowKey.{FlowKey}
use Rattle.hash_rows.specs.declared.options.Mode.{Mode}
use Rattle.push_history.specs.Journal.{journal_of_lists}
use Rattle.push_history.specs.LawfulJournal.{IsJournalIn}
use Rattle.push_history.proofs.Fitting.{rules_lawful}
use Rattle.octo_engine.proofs.Beginning.{few_amounts}
use Rattle.push_lane.specs.Views.{LaneView}
use Rattle.thread_run.specs.Rest.{IsRestDone}
use Rattle.thread_run.specs.Workers.{HaveWorked}
use Rattle.thread_law.proofs.Nears.{answers_near}
use Rattle.thread_law.proofs.Threads.{threads_journal}
use Rattle.thread_law.proofs.Wholes.{ran_matches, ran_whole}
use Rattle.thread_engine.proofs.threads.run_threads.Goals as goal

pub settle-requires-clause-ended : goal.settle-requires-clause-ended
settle-requires-clause-ended g c κs within = record {
  before = c.in_ok-keys.field-0;
  begun = c.in_ok-keys.ensures.ready;
  keys_are = refl;
  lanes_are = refl;
  spare_is = refl;
  worked = subst (λ (l : List LaneView). HaveWorked g.K.Kind.stands g.K.Kind.rules c.args.options.now c.args.packets.now l c.in_ok-keys.field-0.workers.items c.in-Ok.workers.items)
      c.as_slice-2.ensures c.in-Ok.ensures.worked;
  rested = subst (λ (l : List LaneView). IsRestDone g.K.Kind.rules c.in_ok-keys.field-0.keys.items l c.in_ok-keys.field-0.rest c.run_beside.new.rest) c.as_slice-2.ensures
      (subst (λ (ks : List FlowKey). IsRestDone g.K.Kind.rules ks c.as_slice-2.result.now c.in_ok-keys.field-0.rest c.run_beside.new.rest) c.as_slice.ensures c.run_beside.ensures.rest);
}

pub returns-clause-journal : goal.returns-clause-journal
returns-clause-journal g c =
    let s = c.in_ok-ran.ran.settled in
    let o = c.args.options.now in
    let packets = c.args.packets.now in
    let total = few_amounts packets c.in_ok-keys.ensures.amounts c.requires.packets in
    record {
      options = refl;
      by_mode = subst (λ (m : Mode). IsJournalIn m packets o (journal_of_lists o s.lists)) (sym c.requires.mode)
          (threads_journal packets o _ _ s.lists.refused.items s.lists.pushes.items s.lists.answers.items s.lists.live.items s.lists.missed c.requires.lawful total (rules_lawful o.sketch) c.in_ok-ran.ensures.ran);
    }

pub returns-clause-whole : goal.returns-clause-whole
returns-clause-whole g c = ran_whole c.args.packets.now c.args.options.now _ _ _ _ _ _ _ c.in_ok-ran.ensures.ran

pub returns-clause-upto : goal.returns-clause-upto
returns-clause-upto g c = ran_matches c.args.packets.now c.args.options.now _ _ _ _ _ _ _ c.in_ok-ran.ensures.ran

pub returns-clause-bracket : goal.returns-clause-bracket
returns-clause-bracket g c is =
    let total = few_amounts c.args.packets.now c.in_ok-keys.ensures.amounts c.requires.packets in
    answers_near c.args.packets.now c.args.options.now _ _ _ _ _ _ _ c.requires.lawful is total c.in_ok-ran.ensures.ran
