-- Fronts of beginnings of a fold.
use Rattle.std.proofs.Common.{zero, suc, ◌≡◌, ◌<◌, ◌≤◌, ℕ, ◌+◌, ◌==◌, List, [], ◌∷◌, ◌++◌, length, get_or, set, take, drop, refl, sym, ap, ◌∙◌, arith, inl, inr, length-append}
use Rattle.std.specs.Prelude.{All, sum}
use Rattle.std.proofs.lemmas.Bool.{cases_lt}
use Rattle.std.proofs.lemmas.List.{take_more, take_at, take-take, take-append-drop, get_or_past}
use Rattle.std.proofs.lemmas.List.Elements.{filter-append}
use Rattle.std.proofs.lemmas.List.Folds.{sum_by-replicate}
use Rattle.std.proofs.lemmas.List.Sums.{sum_by-set}
use Rattle.hash_rows.specs.declared.shape.Push.{Push}
use Rattle.push_history.specs.Front.{front_of, message_at, messages_of}
use Rattle.push_history.specs.LawfulJournal.{NoFurther}
use Rattle.push_history.proofs.MoreMessages.{front_none, front_at, front_more, front_len}

-- one message more is one more in the sum
sum_more : (front : List ℕ) (w : ℕ) → w < length front → sum (set front w (get_or front w 0 + 1)) ≡ sum front + 1
sum_more front w lt = omega (arith, sum_by-set (λ (x : ℕ). x) front w (get_or front w 0 + 1) 0 lt)

sum_taken : (n : ℕ) (xs : List Push) → All (λ m. m.worker < n) xs → (k : ℕ) → k ≤ length xs → sum (front_of n (take k xs)) ≡ k
sum_taken n xs all zero le = ap sum (sym (front_none n)) ∙ sum_by-replicate (λ (x : ℕ). x) n 0 ∙ omega arith
sum_taken n xs all (suc k) le =
    let next : suc k ≡ k + 1 = omega arith in
    let lt : k < length xs = omega (arith, le) in
    let m : Push = message_at xs k in
    let more : take (k + 1) xs ≡ take k xs ++ m ∷ [] = take_more xs k _ lt in
    let inside : m.worker < n = all k _ lt in
    let was = sum_taken n xs all k (omega (arith, le)) in
    let long : m.worker < length (front_of n (take k xs)) = omega (arith, inside, front_len n (take k xs)) in
    ap (λ (j : ℕ). sum (front_of n (take j xs))) next
    ∙ ap (λ (l : List Push). sum (front_of n l)) more
    ∙ ap sum (sym (front_more n (take k xs) m (front_of n (take k xs)) refl inside))
    ∙ sum_more (front_of n (take k xs)) m.worker long
    ∙ omega (arith, was)

-- the front of the first k messages sums up to k
pub front_sum : (n : ℕ) (xs : List Push) → All (λ m. m.worker < n) xs → (k : ℕ) → k ≤ length xs → sum (front_of n (take k xs)) ≡ k
front_sum = sum_taken

-- the messages of a worker in a shorter beginning come first
pub firsts_of : (w : ℕ) (xs : List Push) (i j : ℕ) → i ≤ j → messages_of w (take j xs) ≡ messages_of w (take i xs) ++ messages_of w (drop i (take j xs))
firsts_of w xs i j le =
    let parts : take j xs ≡ take i xs ++ drop i (take j xs) = sym (take-append-drop i (take j xs)) ∙ ap (λ (l : List Push). l ++ drop i (take j xs)) (take-take i j xs le) in
    ap (messages_of w) parts ∙ filter-append (λ (m : Push). m.worker == w) (take i xs) (drop i (take j xs))

pub no_further : (n : ℕ) (xs : List Push) (i j : ℕ) → i ≤ j → NoFurther (front_of n (take i xs)) (front_of n (take j xs))
no_further n xs i j le w = elim (cases_lt w n) [
  | inl lt ↦ (
      let a = front_at n (take i xs) w lt in
      let b = front_at n (take j xs) w lt in
      let c = ap length (firsts_of w xs i j le) in
      omega (arith, a, b, c, length-append (messages_of w (take i xs)) (messages_of w (drop i (take j xs)))))
  | inr le' ↦ (
      let none = get_or_past (front_of n (take i xs)) w 0 (omega (arith, le', front_len n (take i xs))) in
      omega (arith, none))
]

-- what the first k messages have of a worker begins what all have
pub begins_all : (w : ℕ) (xs : List Push) (k : ℕ) → messages_of w (take k xs) ≡ take (length (messages_of w (take k xs))) (messages_of w xs)
begins_all w xs k =
    let a = messages_of w (take k xs) in
    let b = messages_of w (drop k xs) in
    let parts : messages_of w xs ≡ a ++ b = ap (messages_of w) (sym (take-append-drop k xs)) ∙ filter-append (λ (m : Push). m.worker == w) (take k xs) (drop k xs) in
    sym (ap (take (length a)) parts ∙ take_at a b (length a) refl)
