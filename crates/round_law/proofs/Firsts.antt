-- The messages that were folded are the first ones of each worker.
use Rattle.std.proofs.Common.{◌≡◌, ◌<◌, ◌≤◌, ℕ, zero, suc, ◌+◌, ◌-◌, ◌==◌, List, [], ◌++◌, length, get_or, take, drop, true, sym, ap, ◌∙◌, arith, append_assoc}
use Rattle.std.specs.Prelude.{All}
use Rattle.std.specs.List.{flat_map, range_with_len}
use Rattle.std.proofs.Math.Seq.{take-append_seam}
use Rattle.std.proofs.lemmas.List.{append-nil, get_or-map, length-map, take-append-drop}
use Rattle.std.proofs.lemmas.List.Elements.{filter-append}
use Rattle.std.proofs.lemmas.Option.{get_or_from_slice_get, slice_get_within}
use Rattle.hash_rows.specs.Rules.{Rules, AreLaws}
use Rattle.hash_rows.specs.Shapes.{size_of}
use Rattle.hash_rows.specs.declared.options.Options.{Options}
use Rattle.hash_rows.specs.declared.shape.Push.{Push}
use Rattle.hash_rows.specs.declared.shape.Shape.{Shape}
use Rattle.push_history.specs.Front.{front_of, messages_of}
use Rattle.push_history.specs.LagRun.{Terms, Worker, State, worker_in, fresh_worker}
use Rattle.push_history.specs.LawfulRun.{IsLawfulState}
use Rattle.push_history.specs.OwnSteps.{folded_in_round}
use Rattle.round_law.specs.RoundStates.{round_state}
use Rattle.push_history.specs.Shown.{shown_cells, shown_of, told_cells}
use Rattle.push_history.specs.Told.{told_of}
use Rattle.push_history.proofs.Folded.{fold_shown}
use Rattle.push_history.proofs.Notes.{map_range_same}
use Rattle.bracket.proofs.Counted.{messages_in}
use Rattle.round_law.specs.OwnRounds.{folded_after, own_rounds}
use Rattle.round_law.proofs.OwnRounds.{folded_more, rounds_lawful}

-- of each worker, these are its first messages
abbrev pub AreFirsts : State → List Push → Type 0
AreFirsts s ms = (w : ℕ) → w < length s.workers → messages_of w ms ≡ take (length (messages_of w ms)) (worker_in s w).sent

first_of : {X : Type 0} (xs ys zs : List X) (n : ℕ) → xs ++ ys ≡ take n zs → xs ≡ take (length xs) zs
first_of xs ys zs n parts =
    let all : xs ++ (ys ++ drop n zs) ≡ zs = sym (append_assoc xs ys (drop n zs)) ∙ ap (λ l. l ++ drop n zs) parts ∙ take-append-drop n zs in
    sym (take-append_seam xs (ys ++ drop n zs)) ∙ ap (take (length xs)) all

pub firsts_of : (t : Terms) (s : State) → IsLawfulState t s → (ms more : List Push) → ms ++ more ≡ s.folded → AreFirsts s ms
firsts_of t s h ms more all w lt =
    first_of (messages_of w ms) (messages_of w more) (worker_in s w).sent (worker_in s w).taken
    (sym (filter-append (λ m. m.worker == w) ms more) ∙ ap (messages_of w) all ∙ h.folded w (omega (arith, lt, h.workers)))

-- what was folded in fewer rounds comes first
pub folded_first : (t : Terms) (o : Options) → length t.updates ≡ o.workers → (n k : ℕ) → (more : List Push) × (folded_after t o n ++ more ≡ folded_after t o (n + k))
folded_first t o same n zero = ([], append-nil (folded_after t o n) ∙ ap (folded_after t o) (omega arith))
folded_first t o same n (suc k) =
    let was = folded_first t o same n k in
    let round : List Push = flat_map (λ w. folded_in_round t o w (own_rounds t o w (n + k) fresh_worker)) (range_with_len 0 o.workers) in
    let next : suc (n + k) ≡ n + suc k = omega arith in (
      was.0 ++ round,
      sym (append_assoc (folded_after t o n) was.0 round) ∙ ap (λ l. l ++ round) was.1 ∙ sym (folded_more t o same (n + k)) ∙ ap (folded_after t o) next,
    )

pub rounds_firsts : (t : Terms) (o : Options) → length t.updates ≡ o.workers → (n k : ℕ) → n ≤ k → AreFirsts (round_state t o k) (folded_after t o n)
rounds_firsts t o same n k le =
    let more = folded_first t o same n (k - n) in
    let at : n + (k - n) ≡ k = omega (arith, le) in
    firsts_of t (round_state t o k) (rounds_lawful t o k) (folded_after t o n) more.0 (more.1 ∙ ap (folded_after t o) at)

-- the messages of all workers, by place
sent_at : (s : State) (w : ℕ) → w < length s.workers → get_or (messages_in s) w [] ≡ (worker_in s w).sent
sent_at s w lt = get_or-map (λ (x : Worker). x.sent) s.workers w fresh_worker [] lt

-- what is shown at the front of such messages is what they tell
pub firsts_shown : (r : Rules) → AreLaws r → (shape : Shape) (workers : ℕ) (s : State) (ms : List Push) → length s.workers ≡ workers
    → All (λ m. m.worker < workers) ms → All (λ m. r.is_value m.amount ≡ true) ms → AreFirsts s ms
    → shown_cells r shape (messages_in s) (front_of workers ms) ≡ told_cells r shape ms
unfolding shown_cells told_cells
firsts_shown r laws shape workers s ms len within values firsts =
    let long : length (messages_in s) ≡ length s.workers = length-map s.workers (λ (x : Worker). x.sent) in
    map_range_same (shown_of r (messages_in s) (front_of workers ms)) (λ cell. told_of r cell ms) 0 (size_of shape)
    (λ cell _ _. fold_shown r laws workers (messages_in s) ms (long ∙ len) within values
    (λ w sent is.
    let lt : w < length s.workers = omega (arith, slice_get_within (messages_in s) w sent is, long) in
    let its : (worker_in s w).sent ≡ sent = sym (sent_at s w lt) ∙ get_or_from_slice_get (messages_in s) w sent [] is in
    firsts w lt ∙ ap (take (length (messages_of w ms))) its) cell)
