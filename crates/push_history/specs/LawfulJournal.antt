-- Lawful journals of a run in rounds, and of a run in threads.
use Rattle.std.specs.Prelude.{◌≡◌, ◌<◌, ◌≤◌, ◌≤ℤ◌, ◌⊎◌, ℕ, ℤ, List, [], All, Contains, not, ◌&&◌, length, map, filter, sum, int_le, slice_index_or}
use Rattle.std.specs.List.{flat_map, range_with_len, IsDistinct}
use Rattle.packet_key.specs.declared.key.FlowKey.{FlowKey}
use Rattle.hash_rows.specs.declared.options.Mode.{Mode}
use Rattle.hash_rows.specs.declared.options.Mode.TheVariants.{Rounds, Threads}
use Rattle.hash_rows.specs.declared.options.Options.{Options}
use Rattle.hash_rows.specs.declared.options.Sketch.TheVariants.{CountMin, LogLog}
use Rattle.hash_rows.specs.declared.shape.Packet.{Packet}
use Rattle.hash_rows.specs.declared.shape.Flow.{Flow}
use Rattle.hash_rows.specs.declared.shape.Push.{Push}
use Rattle.packet_key.specs.Keys.{same_key}
use Rattle.push_history.specs.Pushes.{LawfulPushes}
use Rattle.push_history.specs.Front.{IsFront}
use Rattle.push_history.specs.Shown.{shown_cells, told_cells}
use Rattle.push_history.specs.LiveHeavy.{is_among, notes_of, live_keys, missed_keys}
use Rattle.push_history.specs.Answers.{AnswerParts}
use Rattle.push_history.specs.Journal.{Journal, with_journal, keys_of, rules_in, updates_by_options}
use Rattle.push_history.specs.Rounds.{IsRoundsJournal}

-- the messages of worker w
abbrev pub sent_by : List (List Push) → ℕ → List Push
sent_by messages w = slice_index_or messages w []

-- the messages of all workers
abbrev pub all_of : List (List Push) → List Push
all_of messages = flat_map (λ sent. sent) messages

-- the refused updates determine lawful messages, as many as the journal says
pub record LawfulWorker (packets : List Packet) (o : Options) (j : Journal) (messages : List (List Push)) (w : ℕ) : Type 0 where
  pub lawful : LawfulPushes (rules_in o) w o.threshold o.lane o.full (updates_by_options packets o w) (sent_by messages w)
      (slice_index_or j.refused w [])
  pub pushes : slice_index_or j.pushes w 0 ≡ length (sent_by messages w)

-- so is it with each worker
pub record LawfulWorkers (packets : List Packet) (o : Options) (j : Journal) (messages : List (List Push)) : Type 0 where
  pub refused : length j.refused ≡ o.workers
  pub pushes : length j.pushes ≡ o.workers
  pub sent : length messages ≡ o.workers
  pub each : (w : ℕ) → w < o.workers → LawfulWorker packets o j messages w

-- the reader and the number of each answer
abbrev pub places_of : List AnswerParts → List (ℕ × ℕ)
places_of answers = map (λ a. (a.reader, a.number)) answers

-- so many asks of each reader, by reader, then by number
abbrev pub places_by : ℕ → ℕ → List (ℕ × ℕ)
places_by readers asks = flat_map (λ q. map (λ n. (q, n)) (range_with_len 0 asks)) (range_with_len 0 readers)

-- the answer shows what the messages up to its front tell
pub record IsLawfulAnswer (o : Options) (messages : List (List Push)) (a : AnswerParts) : Type 0 where
  pub front : IsFront messages a.front
  pub folded : a.folded ≡ sum a.front
  pub shown : a.shown ≡ map ((rules_in o).estimate o.shape (shown_cells (rules_in o) o.shape messages a.front)) (keys_of o)

-- at most the other in every place
abbrev pub NoFurther : List ℕ → List ℕ → Type 0
NoFurther front other = (w : ℕ) → slice_index_or front w 0 ≤ slice_index_or other w 0

-- fronts don't fall within a reader, and of any two one is at most the other
pub record AreOrdered (answers : List AnswerParts) : Type 0 where
  pub of_reader : (a b : AnswerParts) → Contains answers a → Contains answers b → a.reader ≡ b.reader → a.number ≤ b.number
      → NoFurther a.front b.front
  pub of_any : (a b : AnswerParts) → Contains answers a → Contains answers b → NoFurther a.front b.front ⊎ NoFurther b.front a.front

-- the messages whose key isn't live
abbrev pub not_live : List FlowKey → List Push → List Push
not_live live messages = filter (λ m. not (is_among live m.key)) messages

-- the live keys differ, are few, and are keys of messages; none is missed while there is room
pub record IsLiveTable (o : Options) (messages : List (List Push)) (live : List FlowKey) (missed : ℕ) : Type 0 where
  pub distinct : IsDistinct same_key live
  pub most : length live ≤ o.heavy
  pub keys : All (λ key. Contains (map (λ m. m.key) (all_of messages)) key) live
  pub room : length live < o.heavy → missed ≡ 0
  pub few : missed ≤ length (not_live live (all_of messages))
  pub none_of_loglog : o.sketch ≡ LogLog → (live ≡ []) × (missed ≡ 0)

-- the estimate of a key on all messages
abbrev pub estimate_on_all : Options → List (List Push) → FlowKey → ℤ
estimate_on_all o messages key = (rules_in o).estimate o.shape (told_cells (rules_in o) o.shape (all_of messages)) key

-- the notes of messages that are sure and whose key isn't live: the estimate on the first messages of the message's own
-- worker reaches `least`
abbrev pub sure_missed : Options → List (List Push) → List FlowKey → List Flow
sure_missed o messages live =
    filter (λ note. int_le o.least note.estimate && not (is_among live note.key)) (flat_map (notes_of (rules_in o) o.shape) messages)

-- the messages that are possible and whose key isn't live: the estimate on all messages reaches `least`
abbrev pub possible_missed : Options → List (List Push) → List FlowKey → List Push
possible_missed o messages live = filter (λ m. int_le o.least (estimate_on_all o messages m.key)) (not_live live (all_of messages))

-- for Count-Min, whose estimates only grow
pub record IsGrowingTable (o : Options) (messages : List (List Push)) (live : List FlowKey) (missed : ℕ) : Type 0 where
  pub reach : All (λ key. o.least ≤ℤ estimate_on_all o messages key) live
  pub sure : length (sure_missed o messages live) ≤ missed
  pub possible : missed ≤ length (possible_missed o messages live)

-- no other worker than w has messages
abbrev pub OnlyOf : List (List Push) → ℕ → Type 0
OnlyOf messages w = all_of messages ≡ sent_by messages w

-- the live keys and how many were missed are lawful; where one worker alone has messages, they are those of its list
pub record IsLawfulHeavy (o : Options) (messages : List (List Push)) (live : List FlowKey) (missed : ℕ) : Type 0 where
  pub live_table : IsLiveTable o messages live missed
  pub growing : o.sketch ≡ CountMin → IsGrowingTable o messages live missed
  pub alone : (w : ℕ) → OnlyOf messages w
      → (live ≡ live_keys (rules_in o) o.shape o.heavy o.least (sent_by messages w))
      × (missed ≡ missed_keys (rules_in o) o.shape o.heavy o.least (sent_by messages w))

-- the messages that the workers sent, and what the journal says of them
pub record IsThreadsJournal (packets : List Packet) (o : Options) (j : Journal) : Type 0 where
  pub messages : List (List Push)
  pub workers : LawfulWorkers packets o j messages
  pub places : places_of j.answers ≡ places_by o.readers o.asks
  pub answers : All (IsLawfulAnswer o messages) j.answers
  pub ordered : AreOrdered j.answers
  pub heavy : IsLawfulHeavy o messages j.live j.missed

-- by the mode of the run
abbrev pub IsJournalIn : Mode → List Packet → Options → Journal → Type 0
IsJournalIn Rounds packets o j = IsRoundsJournal packets o j
IsJournalIn Threads packets o j = IsThreadsJournal packets o j

-- the journal is lawful for the packets and these options
pub record LawfulJournal (packets : List Packet) (o : Options) (j : Journal) : Type 0 where
  pub options : j.options ≡ with_journal o
  pub by_mode : IsJournalIn o.mode packets o j
