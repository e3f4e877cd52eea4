-- What readers are answered in rounds: the k-th ask sees the state after round k + 1, or that after the last round.
use Rattle.std.proofs.Common.{◌≡◌, ◌<◌, ◌≤◌, ℕ, zero, suc, ◌+◌, ◌-◌, ◌==◌, List, [], ◌∷◌, ◌++◌, length, replicate, true, false, nat_lt, refl, sym, ap, ◌∙◌, subst, arith, append_assoc, ◌⊎◌, inl, inr}
use Rattle.std.specs.Prelude.{fold, if◌then◌else◌, min, count_by, map}
use Rattle.std.specs.Fn.{iterate}
use Rattle.std.specs.List.{range_with_len}
use Rattle.std.proofs.Math.Nat.{eq-or-lt_of_le}
use Rattle.std.proofs.lemmas.Bool.{cases_lt}
use Rattle.std.proofs.lemmas.List.{append-nil, length_push}
use Rattle.std.proofs.lemmas.List.FromFn.{length-map-range_with_len, map-range_with_len_more}
use Rattle.packet_key.specs.declared.key.FlowKey.{FlowKey}
use Rattle.hash_rows.specs.declared.options.Options.{Options}
use Rattle.hash_rows.specs.declared.shape.Shape.{Shape}
use Rattle.push_history.specs.declared.event.Event.{Event}
use Rattle.push_history.specs.declared.event.Event.TheVariants.{Ask}
use Rattle.push_history.specs.LagRun.{Terms, State, lag_run}
use Rattle.push_history.specs.Answers.{AnswerParts, is_ask, answer_in, answers_to}
use Rattle.push_history.specs.Rounds.{ask_in_round, ask_at_end, with_round, events_of_rounds}
use Rattle.round_law.specs.RoundStates.{round_state}
use Rattle.round_law.proofs.RoundSteps.{SameRun, same_then, same_run, ask_run, asks_run, before_asks, ask_in_round_run}
use Rattle.round_law.proofs.AskLists.{own_ask, quiet_event, quiet_before}
use Rattle.round_law.proofs.AskParts.{same_answer, answers_more, answers_same, answers_count, other_ask, its_ask}

module _ (t : Terms) (o : Options) (shape : Shape) (keys : List FlowKey) (q : ℕ) where
  abbrev answers : List Event → List AnswerParts
  answers events = answers_to t shape keys o.readers events q

  -- answer k on a state
  abbrev at : ℕ → State → AnswerParts
  at k s = answer_in t shape keys q k s

  -- the readers from a on don't have q among them
  asks_skip : (a k : ℕ) (events : List Event) → (q < a) ⊎ (a + k ≤ q) → answers (fold (ask_in_round o) events (range_with_len a k)) ≡ answers events
  asks_skip a zero events out = refl
  asks_skip a (suc k) events out =
      let apart : (a == q) ≡ false = elim out [ inl lt ↦ grind (arith, lt) | inr le ↦ grind (arith, le) ] in
      let rest : (q < a + 1) ⊎ (a + 1 + k ≤ q) = elim out [ inl lt ↦ inl (omega (arith, lt)) | inr le ↦ inr (omega (arith, le)) ] in
      asks_skip (a + 1) k (ask_in_round o events a) rest ∙ other_ask t o shape keys q a events apart

  -- the new answer of a round
  abbrev new : ℕ → State → List AnswerParts
  new n s = if nat_lt n o.asks then at n s ∷ [] else []

  asks_hit : (a k n : ℕ) (events : List Event) → a ≤ q → q < a + k → length (answers events) ≡ n
      → answers (fold (ask_in_round o) events (range_with_len a k)) ≡ answers events ++ new n (lag_run t o.readers events)
  asks_hit a zero n events low high len = absurd (omega (arith, low, high))
  asks_hit a (suc k) n events low high len = elim (eq-or-lt_of_le low) [
    | inl e ↦ asks_skip (a + 1) k (ask_in_round o events a) (inl (omega (arith, e)))
        ∙ subst (λ p. answers (ask_in_round o events p) ≡ answers events ++ new n (lag_run t o.readers events)) (sym e) (its_ask t o shape keys q events n len)
    | inr lt ↦
        let apart : (a == q) ≡ false = grind (arith, lt) in
        let same = other_ask t o shape keys q a events apart in
        asks_hit (a + 1) k n (ask_in_round o events a) (omega (arith, lt)) (omega (arith, high)) (ap length same ∙ len)
        ∙ ap (λ l. l ++ new n (lag_run t o.readers (ask_in_round o events a))) same
        ∙ ap (λ x. answers events ++ (if nat_lt n o.asks then x ∷ [] else [])) (same_answer t shape keys q n _ _ (ask_in_round_run t o events a))
  ]

  round_answers : (n : ℕ) (events : List Event) → q < o.readers → length (answers events) ≡ n
      → answers (with_round t o events) ≡ answers events ++ new n (lag_run t o.readers (with_round t o events))
  unfolding with_round
  round_answers n events within len =
      let before = before_asks t o events in
      let same : answers before ≡ answers events = answers_same t shape keys o.readers q events before (quiet_before t o q events) in
      asks_hit 0 o.readers n before (omega arith) (omega (arith, within)) (ap length same ∙ len)
      ∙ ap (λ l. l ++ new n (lag_run t o.readers before)) same
      ∙ ap (λ x. answers events ++ (if nat_lt n o.asks then x ∷ [] else [])) (sym (same_answer t shape keys q n _ _ (asks_run t o 0 o.readers before)))

iterate_more : {A : Type 0} (h : A → A) (n : ℕ) (x : A) → iterate h (suc n) x ≡ h (iterate h n x)
iterate_more h zero x = refl
iterate_more h (suc n) x = iterate_more h n (h x)

-- the events of one round more
pub one_round_more : (t : Terms) (o : Options) (n : ℕ) → events_of_rounds t o (suc n) ≡ with_round t o (events_of_rounds t o n)
unfolding events_of_rounds
one_round_more t o n = iterate_more (with_round t o) n []

one_new : (t : Terms) (o : Options) (shape : Shape) (keys : List FlowKey) (q n : ℕ)
    → map (λ k. answer_in t shape keys q k (round_state t o (k + 1))) (range_with_len 0 (min n o.asks)) ++ new t o shape keys q (min n o.asks) (round_state t o (suc n))
    ≡ map (λ k. answer_in t shape keys q k (round_state t o (k + 1))) (range_with_len 0 (min (suc n) o.asks))
one_new t o shape keys q n =
    let f : ℕ → AnswerParts = λ k. answer_in t shape keys q k (round_state t o (k + 1)) in
    elim (cases_lt n o.asks) [
      | inl lt ↦
          let now : min n o.asks ≡ n = omega (arith, lt) in
          let later : n + 1 ≡ min (suc n) o.asks = omega (arith, lt) in
          let asks : nat_lt n o.asks ≡ true = grind (arith, lt) in
          let last : suc n ≡ n + 1 = omega arith in
          rw (now, ← later, asks) (ap (λ m. map f (range_with_len 0 n) ++ answer_in t shape keys q n (round_state t o m) ∷ []) last
          ∙ sym (map-range_with_len_more f 0 n n (omega arith)))
      | inr le ↦
          let now : min n o.asks ≡ o.asks = omega (arith, le) in
          let later : min (suc n) o.asks ≡ o.asks = omega (arith, le) in
          let done : nat_lt o.asks o.asks ≡ false = grind arith in
          rw (now, later, done) (append-nil (map f (range_with_len 0 o.asks)))
    ]

-- the answers after n rounds
pub answers_after : (t : Terms) (o : Options) (shape : Shape) (keys : List FlowKey) (q : ℕ) → q < o.readers → (n : ℕ)
    → answers_to t shape keys o.readers (events_of_rounds t o n) q ≡ map (λ k. answer_in t shape keys q k (round_state t o (k + 1))) (range_with_len 0 (min n o.asks))
unfolding answers_to events_of_rounds round_state
answers_after t o shape keys q within zero =
    let none : 0 ≡ min 0 o.asks = omega arith in
    ap (λ n. map (λ k. answer_in t shape keys q k (round_state t o (k + 1))) (range_with_len 0 n)) none
answers_after t o shape keys q within (suc n) =
    let events = events_of_rounds t o n in
    let f : ℕ → AnswerParts = λ k. answer_in t shape keys q k (round_state t o (k + 1)) in
    let was : answers_to t shape keys o.readers events q ≡ map f (range_with_len 0 (min n o.asks)) = answers_after t o shape keys q within n in
    let len : length (answers_to t shape keys o.readers events q) ≡ min n o.asks = ap length was ∙ length-map-range_with_len f 0 (min n o.asks) in
    ap (λ es. answers_to t shape keys o.readers es q) (one_round_more t o n)
    ∙ round_answers t o shape keys q (min n o.asks) events within len
    ∙ ap (λ es. answers_to t shape keys o.readers events q ++ new t o shape keys q (min n o.asks) (lag_run t o.readers es)) (sym (one_round_more t o n))
    ∙ ap (λ l. l ++ new t o shape keys q (min n o.asks) (round_state t o (suc n))) was
    ∙ one_new t o shape keys q n

-- the remaining asks of the readers from a on, among whom q isn't
end_skip : (t : Terms) (o : Options) (shape : Shape) (keys : List FlowKey) (q p m : ℕ) (events : List Event) → (p == q) ≡ false
    → answers_to t shape keys o.readers (events ++ replicate m (Ask p)) q ≡ answers_to t shape keys o.readers events q
end_skip t o shape keys q p zero events apart = ap (λ es. answers_to t shape keys o.readers es q) (append-nil events)
end_skip t o shape keys q p (suc m) events apart =
    ap (λ es. answers_to t shape keys o.readers es q) (sym (append_assoc events (Ask p ∷ []) (replicate m (Ask p))))
    ∙ end_skip t o shape keys q p m (events ++ Ask p ∷ []) apart
    ∙ answers_same t shape keys o.readers q events (events ++ Ask p ∷ []) (quiet_event t o.readers q events (Ask p) apart)

end_run : (t : Terms) (readers p m : ℕ) (events : List Event) → SameRun (lag_run t readers events) (lag_run t readers (events ++ replicate m (Ask p)))
end_run t readers p zero events = subst (λ es. SameRun (lag_run t readers events) (lag_run t readers es)) (sym (append-nil events)) (same_run (lag_run t readers events))
end_run t readers p (suc m) events = subst (λ es. SameRun (lag_run t readers events) (lag_run t readers es)) (append_assoc events (Ask p ∷ []) (replicate m (Ask p)))
    (same_then _ _ _ (ask_run t readers events p) (end_run t readers p m (events ++ Ask p ∷ [])))

-- its own remaining asks
end_own : (t : Terms) (o : Options) (shape : Shape) (keys : List FlowKey) (q m n : ℕ) (events : List Event) → length (answers_to t shape keys o.readers events q) ≡ n
    → answers_to t shape keys o.readers (events ++ replicate m (Ask q)) q
    ≡ answers_to t shape keys o.readers events q ++ map (λ k. answer_in t shape keys q k (lag_run t o.readers events)) (range_with_len n m)
end_own t o shape keys q zero n events len = ap (λ es. answers_to t shape keys o.readers es q) (append-nil events) ∙ sym (append-nil (answers_to t shape keys o.readers events q))
end_own t o shape keys q (suc m) n events len =
    let s = lag_run t o.readers events in
    let next = events ++ Ask q ∷ [] in
    let was = answers_to t shape keys o.readers events q in
    let one : answers_to t shape keys o.readers next q ≡ was ++ answer_in t shape keys q n s ∷ [] =
    answers_more t shape keys o.readers q events next s (own_ask t o.readers q events) ∙ ap (λ k. was ++ answer_in t shape keys q k s ∷ []) len in
    let longer : length (answers_to t shape keys o.readers next q) ≡ n + 1 = ap length one ∙ omega (arith, length_push was (answer_in t shape keys q n s), len) in
    ap (λ es. answers_to t shape keys o.readers es q) (sym (append_assoc events (Ask q ∷ []) (replicate m (Ask q))))
    ∙ end_own t o shape keys q m (n + 1) next longer
    ∙ ap (λ l. l ++ map (λ k. answer_in t shape keys q k (lag_run t o.readers next)) (range_with_len (n + 1) m)) one
    ∙ ap (λ f. (was ++ answer_in t shape keys q n s ∷ []) ++ map f (range_with_len (n + 1) m)) (λ i k. same_answer t shape keys q k _ _ (ask_run t o.readers events q) i)
    ∙ append_assoc was (answer_in t shape keys q n s ∷ []) (map (λ k. answer_in t shape keys q k s) (range_with_len (n + 1) m))

-- the readers from a on make their remaining asks
ends_run : (t : Terms) (o : Options) (a k : ℕ) (events : List Event) → SameRun (lag_run t o.readers events) (lag_run t o.readers (fold (ask_at_end o) events (range_with_len a k)))
unfolding ask_at_end
ends_run t o a zero events = same_run (lag_run t o.readers events)
ends_run t o a (suc k) events = same_then _ _ _ (end_run t o.readers a _ events) (ends_run t o (a + 1) k (ask_at_end o events a))

ends_skip : (t : Terms) (o : Options) (shape : Shape) (keys : List FlowKey) (q a k : ℕ) (events : List Event) → q < a
    → answers_to t shape keys o.readers (fold (ask_at_end o) events (range_with_len a k)) q ≡ answers_to t shape keys o.readers events q
unfolding ask_at_end
ends_skip t o shape keys q a zero events lt = refl
ends_skip t o shape keys q a (suc k) events lt =
    ends_skip t o shape keys q (a + 1) k (ask_at_end o events a) (omega (arith, lt)) ∙ end_skip t o shape keys q a _ events (grind (arith, lt))

-- all that reader q is answered in the end
ends_hit : (t : Terms) (o : Options) (shape : Shape) (keys : List FlowKey) (q a k n : ℕ) (events : List Event) → a ≤ q → q < a + k → length (answers_to t shape keys o.readers events q) ≡ n
    → answers_to t shape keys o.readers (fold (ask_at_end o) events (range_with_len a k)) q
    ≡ answers_to t shape keys o.readers events q ++ map (λ k. answer_in t shape keys q k (lag_run t o.readers events)) (range_with_len n (o.asks - n))
unfolding ask_at_end
ends_hit t o shape keys q a zero n events low high len = absurd (omega (arith, low, high))
ends_hit t o shape keys q a (suc k) n events low high len = elim (eq-or-lt_of_le low) [
  | inl e ↦ ends_skip t o shape keys q (a + 1) k (ask_at_end o events a) (omega (arith, e))
      ∙ ap (λ p. answers_to t shape keys o.readers (events ++ replicate (o.asks - count_by (is_ask p) events) (Ask p)) q) e
      ∙ ap (λ m. answers_to t shape keys o.readers (events ++ replicate (o.asks - m) (Ask q)) q) (sym (answers_count t shape keys o.readers q events) ∙ len)
      ∙ end_own t o shape keys q (o.asks - n) n events len
  | inr lt ↦
      let same = end_skip t o shape keys q a (o.asks - count_by (is_ask a) events) events (grind (arith, lt)) in
      ends_hit t o shape keys q (a + 1) k n (ask_at_end o events a) (omega (arith, lt)) (omega (arith, high)) (ap length same ∙ len)
      ∙ ap (λ l. l ++ map (λ k. answer_in t shape keys q k (lag_run t o.readers (ask_at_end o events a))) (range_with_len n (o.asks - n))) same
      ∙ ap (λ f. answers_to t shape keys o.readers events q ++ map f (range_with_len n (o.asks - n))) (λ i k. same_answer t shape keys q k _ _ (end_run t o.readers a (o.asks - count_by (is_ask a) events) events) i)
]

-- the events of all rounds, with the remaining asks
pub finish_run : (t : Terms) (o : Options) (n : ℕ) → SameRun (round_state t o n) (lag_run t o.readers (fold (ask_at_end o) (events_of_rounds t o n) (range_with_len 0 o.readers)))
unfolding round_state
finish_run t o n = ends_run t o 0 o.readers (events_of_rounds t o n)

-- all that reader q is answered, where n rounds were run
pub all_answers : (t : Terms) (o : Options) (shape : Shape) (keys : List FlowKey) (q : ℕ) → q < o.readers → (n : ℕ)
    → answers_to t shape keys o.readers (fold (ask_at_end o) (events_of_rounds t o n) (range_with_len 0 o.readers)) q
    ≡ map (λ k. answer_in t shape keys q k (round_state t o (k + 1))) (range_with_len 0 (min n o.asks))
    ++ map (λ k. answer_in t shape keys q k (round_state t o n)) (range_with_len (min n o.asks) (o.asks - min n o.asks))
unfolding round_state
all_answers t o shape keys q within n =
    let f : ℕ → AnswerParts = λ k. answer_in t shape keys q k (round_state t o (k + 1)) in
    let was = answers_after t o shape keys q within n in
    let len : length (answers_to t shape keys o.readers (events_of_rounds t o n) q) ≡ min n o.asks = ap length was ∙ length-map-range_with_len f 0 (min n o.asks) in
    ends_hit t o shape keys q 0 o.readers (min n o.asks) (events_of_rounds t o n) (omega arith) (omega (arith, within)) len
    ∙ ap (λ l. l ++ map (λ k. answer_in t shape keys q k (lag_run t o.readers (events_of_rounds t o n))) (range_with_len (min n o.asks) (o.asks - min n o.asks))) was
