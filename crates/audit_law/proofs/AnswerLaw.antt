-- None of the tests of the answers fails exactly where they are lawful and ordered.
use Rattle.std.proofs.Common.{◌≡◌, ◌<◌, ◌≤◌, ℕ, ℤ, pos, zero, suc, ◌+◌, ◌-◌, ◌==◌, List, [], ◌++◌, length, map, get_or, Bool, true, false, if◌then◌else◌, nat_le, refl, sym, ap, ◌∙◌, subst, arith, ◌⊎◌, inl, inr}
use Rattle.std.specs.Prelude.{All, sum}
use Rattle.std.specs.List.{flat_map, list_all, range_with_len}
use Rattle.std.proofs.Math.Nat.{eq-or-lt_of_le}
use Rattle.std.proofs.lemmas.Bool.{eqb-true, eqb-false, eq-eqb, leb-true, le-leb, and_parts, and_from, or_cases, or_left, or_right, cases_lt, cases_order}
use Rattle.std.proofs.lemmas.Bool.Decides.{Decides-int_eq}
use Rattle.std.proofs.lemmas.List.{get_or_past, get_or-map, length-map, ext_get_or, get_or_default}
use Rattle.std.proofs.lemmas.List.Elements.{Contains-get_or}
use Rattle.packet_key.specs.declared.key.FlowKey.{FlowKey}
use Rattle.hash_rows.specs.declared.options.Options.{Options}
use Rattle.hash_rows.specs.declared.shape.Push.{Push}
use Rattle.push_history.specs.Answers.{AnswerParts}
use Rattle.push_history.specs.Journal.{Journal, keys_of, rules_in}
use Rattle.push_history.specs.LawfulJournal.{sent_by, IsLawfulAnswer, NoFurther, AreOrdered}
use Rattle.push_history.specs.Share.{zero_key}
use Rattle.push_history.specs.Shown.{shown_cells}
use Rattle.audit_law.specs.Forms.{HasForm, HasPlaces}
use Rattle.audit_law.specs.LineNumbers.{answer_line}
use Rattle.audit_law.specs.Tests.{Test}
use Rattle.audit_law.specs.AnswerTests.{no_answer, answer_at, place_in, within_test, rising_test, is_no_further, order_test, estimate_shown, estimate_test, rising_tests, answer_tests}
use Rattle.audit_law.proofs.Holding.{Hold, hold_head, hold_tail, hold_cons, hold_nil, hold_front, hold_back, hold_append, hold_each, hold_range, holds_each, holds_range}
use Rattle.audit_law.proofs.PlaceLaw.{by_number, between, later_number, before_it}

list_each : (p : ℕ → Bool) (a n : ℕ) → list_all p (range_with_len a n) ≡ true → (k : ℕ) → a ≤ k → k < a + n → p k ≡ true
list_each p a zero is k low high = absurd (omega (arith, low, high))
list_each p a (suc n) is k low high =
    let parts = and_parts (p a) (list_all p (range_with_len (a + 1) n)) is in
    elim (eq-or-lt_of_le low) [
      | inl same ↦ ap p (sym same) ∙ parts.0
      | inr lt ↦ list_each p (a + 1) n parts.1 k (omega (arith, lt)) (omega (arith, high))
    ]

each_list : (p : ℕ → Bool) (a n : ℕ) → ((k : ℕ) → p k ≡ true) → list_all p (range_with_len a n) ≡ true
each_list p a zero each = refl
each_list p a (suc n) each = and_from (p a) (list_all p (range_with_len (a + 1) n)) (each a) (each_list p (a + 1) n each)

pub further_is : (front other : List ℕ) → is_no_further front other ≡ true → NoFurther front other
unfolding is_no_further
further_is front other is w = elim (cases_lt w (length front)) [
  | inl inside ↦ leb-true (place_in front w) (place_in other w) (list_each (λ w. nat_le (place_in front w) (place_in other w)) 0 (length front) is w (omega arith) (omega (arith, inside)))
  | inr past ↦ (let none : get_or front w 0 ≡ 0 = get_or_past front w 0 past in omega (arith, none))
]

pub is_further : (front other : List ℕ) → NoFurther front other → is_no_further front other ≡ true
unfolding is_no_further
is_further front other h = each_list (λ w. nat_le (place_in front w) (place_in other w)) 0 (length front) (λ w. le-leb (place_in front w) (place_in other w) (h w))

-- the parts of an answer's tests
record IsTested (o : Options) (j : Journal) (messages : List (List Push)) (i : ℕ) : Type 0 where
  folded : (answer_at j i).folded ≡ sum (answer_at j i).front
  within : (w : ℕ) → w < length messages → place_in (answer_at j i).front w ≤ length (sent_by messages w)
  rises : 0 < (answer_at j i).number → NoFurther (answer_at j (i - 1)).front (answer_at j i).front
  ordered : (e : ℕ) → e < i → NoFurther (answer_at j e).front (answer_at j i).front ⊎ NoFurther (answer_at j i).front (answer_at j e).front
  shown : (k : ℕ) → k < length (keys_of o) → get_or (answer_at j i).shown k (pos 0) ≡ estimate_shown o messages (answer_at j i).front k

module _ (o : Options) (j : Journal) (messages : List (List Push)) (workers : length messages ≡ o.workers) (form : HasForm o j) where
  abbrev at : ℕ → AnswerParts
  at i = answer_at j i

  abbrev line : ℕ → ℕ
  line i = answer_line j i

  long : (i : ℕ) → i < length j.answers → HasPlaces o (at i)
  long i lt = form.answers i no_answer lt

  rise : (i : ℕ) → (b : Bool) → ((at i).number == 0) ≡ b
      → Hold (if b then [] else map (rising_test (line i) (at (i - 1)).front (at i).front) (range_with_len 0 (length (at i).front)))
      → length (at (i - 1)).front ≤ length (at i).front → 0 < (at i).number → NoFurther (at (i - 1)).front (at i).front
  unfolding rising_test
  rise i true none h len later = absurd (let is = eqb-true (at i).number 0 none in omega (arith, is, later))
  rise i false some h len later = λ w. elim (cases_lt w (length (at i).front)) [
    | inl inside ↦ leb-true (place_in (at (i - 1)).front w) (place_in (at i).front w)
        (holds_each (rising_test (line i) (at (i - 1)).front (at i).front) 0 (length (at i).front) h w (omega arith) (omega (arith, inside)))
    | inr past ↦ (let none : get_or (at (i - 1)).front w 0 ≡ 0 = get_or_past (at (i - 1)).front w 0 (omega (arith, past, len)) in omega (arith, none))
  ]

  risen : (i : ℕ) → (b : Bool) → ((at i).number == 0) ≡ b → (0 < (at i).number → NoFurther (at (i - 1)).front (at i).front)
      → Hold (if b then [] else map (rising_test (line i) (at (i - 1)).front (at i).front) (range_with_len 0 (length (at i).front)))
  unfolding rising_test
  risen i true none h = hold_nil
  risen i false some h =
      let later : 0 < (at i).number = elim (cases_order (at i).number 0) [ inl e ↦ absurd (eqb-false (at i).number 0 some e) | inr (inl lt) ↦ absurd (omega (arith, lt)) | inr (inr lt) ↦ lt ] in
      holds_range (rising_test (line i) (at (i - 1)).front (at i).front) 0 (length (at i).front)
      (λ w low lt. le-leb (place_in (at (i - 1)).front w) (place_in (at i).front w) (h later w))

  in_order : (i e : ℕ) → (order_test (line i) (at i).front (at e).front).holds ≡ true → NoFurther (at e).front (at i).front ⊎ NoFurther (at i).front (at e).front
  unfolding order_test
  in_order i e is = elim (or_cases (is_no_further (at e).front (at i).front) (is_no_further (at i).front (at e).front) is) [
    | inl behind ↦ inl (further_is (at e).front (at i).front behind)
    | inr before ↦ inr (further_is (at i).front (at e).front before)
  ]

  ordered_is : (i e : ℕ) → NoFurther (at e).front (at i).front ⊎ NoFurther (at i).front (at e).front → (order_test (line i) (at i).front (at e).front).holds ≡ true
  unfolding order_test
  ordered_is i e (inl behind) = or_left (is_no_further (at e).front (at i).front) (is_no_further (at i).front (at e).front) (is_further (at e).front (at i).front behind)
  ordered_is i e (inr before) = or_right (is_no_further (at e).front (at i).front) (is_no_further (at i).front (at e).front) (is_further (at i).front (at e).front before)

  abbrev withins : ℕ → List Test
  withins i = map (within_test (line i) messages (at i).front) (range_with_len 0 (length messages))

  abbrev orders : ℕ → List Test
  orders i = map (λ e. order_test (line i) (at i).front (answer_at j e).front) (range_with_len 0 i)

  abbrev estimates : ℕ → List Test
  estimates i = map (estimate_test (line i) o messages (at i)) (range_with_len 0 (length (keys_of o)))

  is_tested : (i : ℕ) → i < length j.answers → Hold (answer_tests o j messages i) → IsTested o j messages i
  unfolding answer_tests rising_tests within_test estimate_test
  is_tested i lt h =
      let second = hold_tail _ _ h in
      let third = hold_back (withins i) (rising_tests (line i) j i ++ (orders i ++ estimates i)) second in
      let fourth = hold_back (rising_tests (line i) j i) (orders i ++ estimates i) third in
      let rising : Hold (rising_tests (line i) j i) = hold_front (rising_tests (line i) j i) (orders i ++ estimates i) third in
      let lens : length (at (i - 1)).front ≤ length (at i).front = omega (arith, (long (i - 1) (omega (arith, lt))).front, (long i lt).front) in
      record {
        folded = eqb-true (at i).folded (sum (at i).front) (hold_head _ _ h);
        within = λ w inside. leb-true (place_in (at i).front w) (length (sent_by messages w))
            (holds_each (within_test (line i) messages (at i).front) 0 (length messages) (hold_front (withins i) (rising_tests (line i) j i ++ (orders i ++ estimates i)) second) w (omega arith) (omega (arith, inside)));
        rises = rise i ((at i).number == 0) refl rising lens;
        ordered = λ e before. in_order i e
            (holds_each (λ e. order_test (line i) (at i).front (answer_at j e).front) 0 i (hold_front (orders i) (estimates i) fourth) e (omega arith) (omega (arith, before)));
        shown = λ k inside. (Decides-int_eq (get_or (at i).shown k (pos 0)) (estimate_shown o messages (at i).front k)).0
            (holds_each (estimate_test (line i) o messages (at i)) 0 (length (keys_of o)) (hold_back (orders i) (estimates i) fourth) k (omega arith) (omega (arith, inside)));
      }

  tests_hold : (i : ℕ) → IsTested o j messages i → Hold (answer_tests o j messages i)
  unfolding answer_tests rising_tests within_test estimate_test
  tests_hold i t =
      hold_cons _ _ (eq-eqb (at i).folded (sum (at i).front) t.folded)
      (hold_append (withins i) (rising_tests (line i) j i ++ (orders i ++ estimates i))
      (holds_range (within_test (line i) messages (at i).front) 0 (length messages) (λ w low inside. le-leb (place_in (at i).front w) (length (sent_by messages w)) (t.within w (omega (arith, inside)))))
      (hold_append (rising_tests (line i) j i) (orders i ++ estimates i)
      (risen i ((at i).number == 0) refl t.rises)
      (hold_append (orders i) (estimates i)
      (holds_range (λ e. order_test (line i) (at i).front (answer_at j e).front) 0 i (λ e low before. ordered_is i e (t.ordered e (omega (arith, before)))))
      (holds_range (estimate_test (line i) o messages (at i)) 0 (length (keys_of o))
      (λ k low inside. (Decides-int_eq (get_or (at i).shown k (pos 0)) (estimate_shown o messages (at i).front k)).1 (t.shown k (omega (arith, inside))))))))

  -- an answer by itself
  answer_lawful : (i : ℕ) → i < length j.answers → IsTested o j messages i → IsLawfulAnswer o messages (at i)
  unfolding estimate_shown
  answer_lawful i lt t =
      let estimate : FlowKey → ℤ = (rules_in o).estimate o.shape (shown_cells (rules_in o) o.shape messages (at i).front) in
      record {
        front = record { workers = (long i lt).front ∙ sym workers; within = t.within };
        folded = t.folded;
        shown = ext_get_or (pos 0) (at i).shown (map estimate (keys_of o)) ((long i lt).shown ∙ sym (length-map (keys_of o) estimate))
            (λ k inside.
            let there : k < length (keys_of o) = omega (arith, inside, (long i lt).shown) in
            t.shown k there ∙ sym (get_or-map estimate (keys_of o) k zero_key (pos 0) there));
      }

  shown_is : (i : ℕ) → IsLawfulAnswer o messages (at i) → (k : ℕ) → k < length (keys_of o) → get_or (at i).shown k (pos 0) ≡ estimate_shown o messages (at i).front k
  unfolding estimate_shown
  shown_is i h k lt =
      let estimate : FlowKey → ℤ = (rules_in o).estimate o.shape (shown_cells (rules_in o) o.shape messages (at i).front) in
      ap (λ (t : List ℤ). get_or t k (pos 0)) h.shown ∙ get_or-map estimate (keys_of o) k zero_key (pos 0) lt

  module _ (all : (i : ℕ) → i < length j.answers → IsTested o j messages i) where
    -- from one answer of a reader to a later one
    onward : (i m : ℕ) → i ≤ m → m < length j.answers → ((n : ℕ) → i ≤ n → n ≤ m → (at n).reader ≡ (at i).reader) → NoFurther (at i).front (at m).front
    onward i zero low lt same = let e : i ≡ 0 = omega (arith, low) in subst (λ (n : ℕ). NoFurther (at i).front (at n).front) e (λ w. omega arith)
    onward i (suc m) low lt same = elim (eq-or-lt_of_le low) [
      | inl e ↦ subst (λ (n : ℕ). NoFurther (at i).front (at n).front) e (λ w. omega arith)
      | inr below ↦
          let before = onward i m (omega (arith, below)) (omega (arith, lt)) (λ n from to. same n from (omega (arith, to))) in
          let step : NoFurther (at m).front (at (suc m)).front =
          subst (λ (n : ℕ). NoFurther (at n).front (at (suc m)).front) (let e : suc m - 1 ≡ m = omega arith in e)
          ((all (suc m) lt).rises (later_number j.answers o.readers o.asks form.places i (suc m) below lt (same (suc m) low (omega arith)))) in
          λ w. omega (arith, before w, step w)
    ]

    beside : (i k : ℕ) → i < length j.answers → k < length j.answers → NoFurther (at i).front (at k).front ⊎ NoFurther (at k).front (at i).front
    beside i k lt lt' = elim (cases_order i k) [
      | inl e ↦ inl (subst (λ (n : ℕ). NoFurther (at i).front (at n).front) e (λ w. omega arith))
      | inr (inl before) ↦ (all k lt').ordered i before
      | inr (inr behind) ↦ elim ((all i lt).ordered k behind) [ inl first ↦ inr first | inr second ↦ inl second ]
    ]

    found : (a : AnswerParts) (k : ℕ) → k < length j.answers → get_or j.answers k a ≡ a → at k ≡ a
    found a k lt is = get_or_default j.answers k no_answer a lt ∙ is

    are_ordered : AreOrdered j.answers
    are_ordered = record {
      of_reader = λ a b has has' same le.
          let is = found a has.0 has.1 has.2 in
          let is' = found b has'.0 has'.1 has'.2 in
          let readers : (at has.0).reader ≡ (at has'.0).reader = ap (λ (x : AnswerParts). x.reader) is ∙ same ∙ sym (ap (λ (x : AnswerParts). x.reader) is') in
          let numbers : (at has.0).number ≤ (at has'.0).number = omega (arith, ap (λ (x : AnswerParts). x.number) is, ap (λ (x : AnswerParts). x.number) is', le) in
          let from = by_number j.answers o.readers o.asks form.places has.0 has'.0 has.1 has'.1 readers numbers in
          let go : NoFurther (at has.0).front (at has'.0).front =
          onward has.0 has'.0 from has'.1 (λ n low high. between j.answers o.readers o.asks form.places has.0 n has'.0 low high has'.1 readers) in
          subst (λ (x : AnswerParts). NoFurther x.front b.front) is (subst (λ (x : AnswerParts). NoFurther (at has.0).front x.front) is' go);
      of_any = λ a b has has'.
          let is = found a has.0 has.1 has.2 in
          let is' = found b has'.0 has'.1 has'.2 in
          subst (λ (x : AnswerParts). NoFurther x.front b.front ⊎ NoFurther b.front x.front) is
          (subst (λ (x : AnswerParts). NoFurther (at has.0).front x.front ⊎ NoFurther x.front (at has.0).front) is' (beside has.0 has'.0 has.1 has'.1));
    }

  abbrev all_tests : List Test
  all_tests = flat_map (answer_tests o j messages) (range_with_len 0 (length j.answers))

  each_tested : Hold all_tests → (i : ℕ) → i < length j.answers → IsTested o j messages i
  each_tested h i lt = is_tested i lt (hold_each (answer_tests o j messages) 0 (length j.answers) h i (omega arith) (omega (arith, lt)))

  pub answers_lawful : Hold all_tests → All (IsLawfulAnswer o messages) j.answers
  answers_lawful h = λ i d lt.
      subst (IsLawfulAnswer o messages) (get_or_default j.answers i no_answer d lt) (answer_lawful i lt (each_tested h i lt))

  pub answers_ordered : Hold all_tests → AreOrdered j.answers
  answers_ordered h = are_ordered (each_tested h)

  pub answers_tested : All (IsLawfulAnswer o messages) j.answers → AreOrdered j.answers → Hold all_tests
  answers_tested lawful ordered =
      hold_range (answer_tests o j messages) 0 (length j.answers)
      (λ i low high.
      let lt : i < length j.answers = omega (arith, high) in
      let here : IsLawfulAnswer o messages (at i) = lawful i no_answer lt in
      tests_hold i (record {
        folded = here.folded;
        within = here.front.within;
        rises = λ later.
            let before = before_it j.answers o.readers o.asks form.places i lt later in
            ordered.of_reader (at (i - 1)) (at i) (Contains-get_or j.answers (i - 1) no_answer (omega (arith, lt))) (Contains-get_or j.answers i no_answer lt) before.1 before.2;
        ordered = λ e lt'. ordered.of_any (at e) (at i) (Contains-get_or j.answers e no_answer (omega (arith, lt', lt))) (Contains-get_or j.answers i no_answer lt);
        shown = shown_is i here;
      }))
