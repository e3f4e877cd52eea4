-- What readers are answered.
use Rattle.std.specs.Prelude.{ℕ, ℤ, ◌==◌, ◌∷◌, List, [], Bool, false, if◌then◌else◌, length, take, map}
use Rattle.std.specs.List.{flat_map, enumerate_from, range_with_len}
use Rattle.packet_key.specs.declared.key.FlowKey.{FlowKey}
use Rattle.hash_rows.specs.declared.answer.Answer.{Answer}
use Rattle.hash_rows.specs.declared.shape.Shape.{Shape}
use Rattle.push_history.specs.declared.event.Event.{Event}
use Rattle.push_history.specs.declared.event.Event.TheVariants.{Ask}
use Rattle.push_history.specs.Front.{front_of}
use Rattle.push_history.specs.Shown.{shown_cells}
use Rattle.push_history.specs.LagRun.{Terms, State, lag_step, start}

-- the reader; its asks before; how many messages were folded, and of each worker; the estimates of the asked keys
pub record AnswerParts : Type 0 where
  pub reader : ℕ
  pub number : ℕ
  pub folded : ℕ
  pub front : List ℕ
  pub shown : List ℤ

-- what is written of an answer
unfoldable pub parts_of : Answer → AnswerParts
parts_of a = record { reader = a.reader; number = a.number; folded = a.folded; front = a.front.items; shown = a.shown.items }

-- whether the event is an ask of the reader
abbrev pub is_ask : ℕ → Event → Bool
is_ask reader (Ask q) = q == reader
is_ask reader _ = false

-- the states in which the reader asks
abbrev pub asked_in : Terms → ℕ → State → List Event → List State
asked_in t reader s [] = []
asked_in t reader s (e ∷ es) =
    let later = asked_in t reader (lag_step t s e).0 es in
    if is_ask reader e then s ∷ later else later

-- the front of the messages that are shown
abbrev pub shown_front : State → List ℕ
shown_front s = front_of (length s.workers) (take s.shown s.folded)

-- the estimates of the keys on what the messages up to that front tell
unfoldable pub answer_in : Terms → Shape → List FlowKey → ℕ → ℕ → State → AnswerParts
answer_in t shape keys reader number s = record {
  reader = reader;
  number = number;
  folded = s.shown;
  front = shown_front s;
  shown = map (t.rules.estimate shape (shown_cells t.rules shape (map (λ w. w.sent) s.workers) (shown_front s))) keys;
}

-- the answers to a reader, in order
unfoldable pub answers_to : Terms → Shape → List FlowKey → ℕ → List Event → ℕ → List AnswerParts
answers_to t shape keys readers events reader =
    map (λ p. answer_in t shape keys reader p.0 p.1) (enumerate_from 0 (asked_in t reader (start (length t.updates) readers) events))

-- the answers to all readers, by reader
unfoldable pub answers_of : Terms → Shape → List FlowKey → ℕ → List Event → List AnswerParts
answers_of t shape keys readers events = flat_map (answers_to t shape keys readers events) (range_with_len 0 readers)
