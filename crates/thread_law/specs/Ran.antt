-- What the parts of a run in threads leave.
use Rattle.std.specs.Prelude.{◌≡◌, ◌<◌, ◌≤◌, ℤ, ◌∷◌, ℕ, ◌+◌, ◌*◌, List, [], All, Bool, Some, length, map, take, slice_get, slice_index_or, true}
use Rattle.std.specs.List.{range_with_len, zip}
use Rattle.packet_key.specs.declared.key.FlowKey.{FlowKey}
use Rattle.hash_rows.specs.declared.answer.Answer.{Answer}
use Rattle.hash_rows.specs.declared.options.Options.{Options}
use Rattle.hash_rows.specs.declared.shape.Packet.{Packet}
use Rattle.hash_rows.specs.declared.shape.Push.{Push}
use Rattle.hash_rows.specs.Marks.{marked}
use Rattle.hash_rows.specs.Sequential.{joined_of}
use Rattle.push_history.specs.Front.{upto_of}
use Rattle.push_history.specs.Journal.{keys_of, rules_in, terms_of, updates_by_options}
use Rattle.push_history.specs.LawfulJournal.{sent_by}
use Rattle.push_history.specs.declared.run_lists.RunLists.{RunLists}
use Rattle.push_history.specs.LiveHeavy.{live_keys, missed_keys}
use Rattle.push_history.specs.Pushes.{LawfulPushes}
use Rattle.push_history.specs.Residue.{residue}
use Rattle.push_history.specs.Told.{told_of}
use Rattle.bracket.specs.Bracket.{IsNear}
use Rattle.fold_law.specs.Folds.{IsFoldOf}
use Rattle.push_history.specs.Looks.{IsLook}

-- the refused updates of worker w are those whose bits are set
abbrev pub marked_by : List (List Bool) → ℕ → List ℕ
marked_by bits w = slice_index_or (map marked bits) w []

-- answer number k of reader q was made from as many first messages of the fold as it says
pub record IsAnswer (o : Options) (folded : List Push) (q k : ℕ) (a : Answer) : Type 0 where
  pub reader : a.reader ≡ q
  pub number : a.number ≡ k
  pub within : a.folded ≤ length folded
  pub look : IsLook (rules_in o) o (take a.folded folded) a

-- answer number k of reader q, where the answers stand by reader, then by number
abbrev pub IsAnswerNumber : Options → List Answer → ℕ → ℕ → Answer → Type 0
IsAnswerNumber o answers q k a = slice_get answers (q * o.asks + k) ≡ Some a

-- so many asks of each reader were answered, each from a beginning of the fold, which never gets shorter within a reader
pub record AreAnswers (o : Options) (folded : List Push) (answers : List Answer) : Type 0 where
  pub len : length answers ≡ o.readers * o.asks
  pub each : (q k : ℕ) (a : Answer) → q < o.readers → k < o.asks → IsAnswerNumber o answers q k a → IsAnswer o folded q k a
  pub rising : (q j k : ℕ) (a b : Answer) → q < o.readers → j ≤ k → k < o.asks → IsAnswerNumber o answers q j a
      → IsAnswerNumber o answers q k b
      → a.folded ≤ b.folded

-- the messages of each worker and its refused updates are lawful up to all its updates
abbrev pub AreLawful : List Packet → Options → List (List Push) → List (List Bool) → Type 0
AreLawful packets o messages bits =
    (w : ℕ) → w < o.workers
    → LawfulPushes (rules_in o) w o.threshold o.lane o.full (updates_by_options packets o w) (sent_by messages w) (marked_by bits w)

-- the messages of each worker and its refused updates are lawful; the fold has these messages, in order, and no others;
-- pushes are their numbers; the answers are those of beginnings of the fold; live keys and missed ones are those of all
-- of it
pub record HasRan (packets : List Packet) (o : Options) (messages : List (List Push)) (folded : List Push) (bits : List (List Bool))
    (pushes : List ℕ) (answers : List Answer) (live : List FlowKey) (missed : ℕ) : Type 0 where
  pub bits_len : length bits ≡ o.workers
  pub messages_len : length messages ≡ o.workers
  pub each : AreLawful packets o messages bits
  pub fold : IsFoldOf messages folded
  pub values : All (λ m. (rules_in o).is_value m.amount ≡ true) folded
  pub pushes_are : pushes ≡ map (λ (l : List Push). length l) messages
  pub answers_are : AreAnswers o folded answers
  pub live_are : live ≡ live_keys (rules_in o) o.shape o.heavy o.least folded
  pub missed_is : missed ≡ missed_keys (rules_in o) o.shape o.heavy o.least folded

-- the same of the lists of a run
abbrev pub HasRunTo : List Packet → Options → List (List Push) → List Push → RunLists → Type 0
HasRunTo packets o messages folded lists =
    HasRan packets o messages folded lists.refused.items lists.pushes.items lists.answers.items lists.live.items lists.missed

-- what all messages tell of a cell, and then each worker's residue joined in
unfoldable pub settled_of : List Packet → Options → List (List Push) → List Push → ℕ → ℤ
settled_of packets o messages folded cell =
    let residue_by : ℕ → ℤ = λ w. residue (rules_in o) (updates_by_options packets o w) (sent_by messages w)
    (length (updates_by_options packets o w)) cell in
    joined_of (rules_in o) (told_of (rules_in o) cell folded ∷ map residue_by (range_with_len 0 o.workers))

-- the answer's last updates are those of its front, by the messages of each worker
abbrev pub MatchesItsFront : List (List Push) → Answer → Type 0
MatchesItsFront messages a = a.upto.items ≡ map (λ p. upto_of p.0 p.1) (zip messages a.front.items)

-- each number that the answer shows is near the true estimate of its key
abbrev pub ShowsNear : List Packet → Options → List (List Push) → List (List Bool) → Answer → Type 0
ShowsNear packets o messages bits a =
    (i : ℕ) (key : FlowKey) (number : ℤ) → slice_get (keys_of o) i ≡ Some key → slice_get a.shown.items i ≡ Some number
    → IsNear o.threshold (terms_of packets o).updates messages (map marked bits) a.front.items o.shape key number
