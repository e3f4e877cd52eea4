-- What a run in rounds comes to.
use Rattle.std.specs.Prelude.{◌≡◌, ◌<◌, ℕ, ℤ, ◌+◌, ◌*◌, ◌∷◌, List, [], All, Bool, false, Some, length, map, min, slice_get, slice_index_or}
use Rattle.std.specs.List.{range_with_len, zip}
use Rattle.bracket.specs.Bracket.{IsNear}
use Rattle.packet_key.specs.declared.key.FlowKey.{FlowKey}
use Rattle.hash_rows.specs.declared.answer.Answer.{Answer}
use Rattle.hash_rows.specs.declared.options.Options.{Options}
use Rattle.hash_rows.specs.Sequential.{joined_of}
use Rattle.push_history.specs.Front.{front_of, upto_of}
use Rattle.push_history.specs.Journal.{keys_of}
use Rattle.push_history.specs.LagRun.{Terms, Worker, State, updates_by, worker_in}
use Rattle.push_history.specs.declared.run_lists.RunLists.{RunLists}
use Rattle.push_history.specs.LiveHeavy.{live_keys, missed_keys}
use Rattle.push_history.specs.Pushes.{is_refused}
use Rattle.push_history.specs.Residue.{residue}
use Rattle.round_law.specs.RoundStates.{round_state}
use Rattle.push_history.specs.Rounds.{is_busy, events_of_rounds}
use Rattle.push_history.specs.Told.{told_of}
use Rattle.push_history.specs.Looks.{IsLook}
use Rattle.round_law.specs.OwnRounds.{folded_after}

-- ask k of reader q is answered after round k + 1, or after the last round
pub record IsAnswerAt (t : Terms) (o : Options) (rounds q k : ℕ) (a : Answer) : Type 0 where
  pub reader : a.reader ≡ q
  pub number : a.number ≡ k
  pub look : IsLook t.rules o (folded_after t o (min (k + 1) rounds)) a

-- the worker's refused updates are those whose bits are set
pub record AreMarks (t : Terms) (w : ℕ) (x : Worker) (bits : List Bool) : Type 0 where
  pub len : length bits ≡ length (updates_by t w)
  pub marks : (k : ℕ) → slice_index_or bits k false ≡ is_refused k x.refused

-- after so many rounds no worker is busy; its refused updates, pushes, answers, live keys and missed ones are these
pub record IsOutcome (t : Terms) (o : Options) (rounds : ℕ) (bits : List (List Bool)) (pushes : List ℕ) (answers : List Answer)
    (live : List FlowKey) (missed : ℕ) : Type 0 where
  pub idle : is_busy t o (events_of_rounds t o rounds) ≡ false
  pub bits_len : length bits ≡ o.workers
  pub bits_are : (w : ℕ) → w < o.workers → AreMarks t w (worker_in (round_state t o rounds) w) (slice_index_or bits w [])
  pub pushes_are : pushes ≡ front_of o.workers (folded_after t o rounds)
  pub answers_len : length answers ≡ o.readers * o.asks
  pub answers_are : (q k : ℕ) (a : Answer) → q < o.readers → k < o.asks → slice_get answers (q * o.asks + k) ≡ Some a
      → IsAnswerAt t o rounds q k a
  pub live_are : live ≡ live_keys t.rules o.shape o.heavy o.least (folded_after t o rounds)
  pub missed_is : missed ≡ missed_keys t.rules o.shape o.heavy o.least (folded_after t o rounds)

-- what all messages tell of a cell, and then each worker's residue joined in
unfoldable pub settled_cell : Terms → Options → ℕ → ℕ → ℤ
settled_cell t o rounds cell =
    let s = round_state t o rounds in
    let residue_by : ℕ → ℤ = λ w. let x = worker_in s w in residue t.rules (updates_by t w) x.sent x.counted cell in
    joined_of t.rules (told_of t.rules cell s.folded ∷ map residue_by (range_with_len 0 o.workers))

-- each worker and each answer is told of
pub record IsWhole (o : Options) (bits : List (List Bool)) (pushes : List ℕ) (answers : List Answer) : Type 0 where
  pub refused : length bits ≡ o.workers
  pub pushes_len : length pushes ≡ o.workers
  pub answers_len : length answers ≡ o.readers * o.asks
  pub fronts : All (λ a. length a.front.items ≡ o.workers) answers
  pub shown : All (λ a. length a.shown.items ≡ length (keys_of o)) answers

-- the same of the lists of a run
abbrev pub IsWholeRun : Options → RunLists → Type 0
IsWholeRun o lists = IsWhole o lists.refused.items lists.pushes.items lists.answers.items

-- the answer's last updates are those of its front, by the messages of each worker
abbrev pub MatchesFront : State → Answer → Type 0
MatchesFront s a = a.upto.items ≡ map (λ p. upto_of p.0 p.1) (zip (map (λ w. w.sent) s.workers) a.front.items)

-- each number that the answer shows is near the true estimate of its key
abbrev pub IsNearAnswer : Terms → Options → State → Answer → Type 0
IsNearAnswer t o s a =
    (i : ℕ) (key : FlowKey) (number : ℤ) → slice_get (keys_of o) i ≡ Some key → slice_get a.shown.items i ≡ Some number
    → IsNear t.threshold t.updates (map (λ w. w.sent) s.workers) (map (λ w. w.refused) s.workers) a.front.items o.shape key number
