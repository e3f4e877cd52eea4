-- What the journal of a run says.
use Rattle.std.specs.Prelude.{ℕ, ◌∷◌, List, [], Bool, true, length, map}
use Rattle.std.specs.List.{range_with_len}
use Rattle.packet_key.specs.declared.key.FlowKey.{FlowKey}
use Rattle.hash_rows.specs.declared.answer.Answer.{Answer}
use Rattle.hash_rows.specs.declared.options.Options.{Options}
use Rattle.hash_rows.specs.declared.options.Sketch.{Sketch}
use Rattle.hash_rows.specs.declared.options.Sketch.TheVariants.{LogLog}
use Rattle.hash_rows.specs.declared.shape.Packet.{Packet}
use Rattle.hash_rows.specs.declared.shape.Update.{Update}
use Rattle.hash_rows.specs.Marks.{marked}
use Rattle.hash_rows.specs.Rules.{Rules, rules_of}
use Rattle.push_history.specs.declared.event.Event.{Event}
use Rattle.push_history.specs.declared.run_lists.RunLists.{RunLists}
use Rattle.push_history.specs.Share.{share_of_worker, zero_key}
use Rattle.push_history.specs.Updates.{updates_of}
use Rattle.push_history.specs.LiveHeavy.{live_keys, missed_keys}
use Rattle.push_history.specs.LagRun.{Terms, lag_run}
use Rattle.push_history.specs.Answers.{AnswerParts, answers_of, parts_of}

-- the options; each worker's refused updates and its number of pushes; the answers by reader, then by number; the live
-- keys and how many were missed
pub record Journal : Type 0 where
  pub options : Options
  pub refused : List (List ℕ)
  pub pushes : List ℕ
  pub answers : List AnswerParts
  pub live : List FlowKey
  pub missed : ℕ

-- the options, with the journal asked for
unfoldable pub with_journal : Options → Options
with_journal o = record o { journal = true }

-- the journal that these lists tell: the refused updates of a worker are those whose bits are set
abbrev pub journal_in : Options → List (List Bool) → List ℕ → List Answer → List FlowKey → ℕ → Journal
journal_in o bits pushes answers live missed = record {
  options = with_journal o;
  refused = map marked bits;
  pushes = pushes;
  answers = map parts_of answers;
  live = live;
  missed = missed;
}

-- the journal of a run with these options and lists
abbrev pub journal_of_lists : Options → RunLists → Journal
journal_of_lists o lists = journal_in o lists.refused.items lists.pushes.items lists.answers.items lists.live.items lists.missed

-- the keys that each ask asks for
abbrev pub asked_keys : Sketch → List FlowKey → List FlowKey
asked_keys LogLog watched = zero_key ∷ []
asked_keys _ watched = watched

-- those of a run
abbrev pub keys_of : Options → List FlowKey
keys_of o = asked_keys o.sketch o.watch.items

-- the functions of the sketch that is asked for
abbrev pub rules_in : Options → Rules
rules_in o = rules_of o.sketch

-- the updates of worker w
unfoldable pub updates_by_options : List Packet → Options → ℕ → List Update
updates_by_options packets o w = updates_of (rules_in o) o.shape packets (share_of_worker o.share o.workers packets w)

-- what a run with these options is of
unfoldable pub terms_of : List Packet → Options → Terms
terms_of packets o = record {
  rules = rules_in o;
  threshold = o.threshold;
  capacity = o.lane;
  full = o.full;
  updates = map (updates_by_options packets o) (range_with_len 0 o.workers);
}

-- what the journal says of some events
unfoldable pub journal_of : List Packet → Options → List Event → Journal
journal_of packets o events =
    let t = terms_of packets o in
    let s = lag_run t o.readers events in
    record {
      options = with_journal o;
      refused = map (λ w. w.refused) s.workers;
      pushes = map (λ w. length w.sent) s.workers;
      answers = answers_of t o.shape (keys_of o) o.readers events;
      live = live_keys t.rules o.shape o.heavy o.least s.folded;
      missed = missed_keys t.rules o.shape o.heavy o.least s.folded;
    }
