-- A front that stands between two of answers whose fronts rise is ordered with each of them.
use Rattle.std.proofs.Common.{◌≡◌, ◌≢◌, ◌<◌, ◌≤◌, ◌==◌, ◌%◌, ℕ, zero, suc, ◌+◌, ◌-◌, ◌*◌, List, [], ◌∷◌, length, map, get_or, true, false, refl, sym, ap, ◌∙◌, arith, inl, inr}
use Rattle.std.specs.Prelude.{All, min, Some, slice_get}
use Rattle.std.specs.List.{range_with_len}
use Rattle.std.proofs.Math.Nat.{add-mul-mod_self_right, eq-or-lt_of_le, mod-eq_of_lt}
use Rattle.std.proofs.lemmas.Bool.{cases_lt, or_left, or_right}
use Rattle.std.proofs.lemmas.List.{length-map}
use Rattle.std.proofs.lemmas.List.Elements.{All-head, All-tail}
use Rattle.hash_rows.specs.declared.answer.Answer.{Answer}
use Rattle.hash_rows.specs.declared.options.Options.{Options}
use Rattle.hash_rows.specs.declared.shape.Push.{Push}
use Rattle.push_history.specs.Answers.{parts_of}
use Rattle.push_history.specs.Journal.{Journal as Told, keys_of}
use Rattle.push_history.specs.LawfulJournal.{NoFurther}
use Rattle.octo_text.specs.Content.{content_of}
use Rattle.octo_text.specs.Readable.{CanBeJudged}
use Rattle.octo_text.specs.declared.journal.Journal.{Journal}
use Rattle.audit_law.specs.LineNumbers.{answer_line}
use Rattle.audit_law.specs.AnswerTests.{answer_at, answer_tests, estimate_test, is_no_further, no_answer, order_test}
use Rattle.audit_law.proofs.AnswerLaw.{further_is, is_further}
use Rattle.audit_law.proofs.Failing.{NoneFail}
use Rattle.audit_law.specs.Tests.{first_failing}
use Rattle.audit_law.proofs.Holding.{hold_front}
use Rattle.answer_audit.specs.Answered.{front_tests}
use Rattle.answer_audit.specs.Risen.{AreNumbered, HaveRisen, RiseIn}
use Rattle.answer_audit.proofs.Judging.{later_rises, number_is, tests_parted}
use Rattle.answer_audit.proofs.Placed.{order_holds}

further_on : (a b c : List ℕ) → NoFurther a b → NoFurther b c → NoFurther a c
further_on a b c first second = λ w. let x = first w in let y = second w in omega (arith, x, y)

module _ (j : Told) where
  abbrev front_at : ℕ → List ℕ
  front_at e = (answer_at j e).front

  rise_to : (start end i m k : ℕ) → RiseIn j start end → start ≤ i → m < end → m ≡ i + k → NoFurther (front_at i) (front_at m)
  rise_to start end i m zero rise low high is = λ w.
      let same : i ≡ m = omega (arith, is) in
      let at = ap (λ (n : ℕ). get_or (front_at n) w 0) same in
      omega (arith, at)
  rise_to start end i m (suc k) rise low high is =
      further_on (front_at i) (front_at (m - 1)) (front_at m)
      (rise_to start end i (m - 1) k rise low (omega (arith, high, is)) (omega (arith, is)))
      (rise m (omega (arith, low, is)) high)

  pub ordered_in : (f : List ℕ) (start end t : ℕ) → start ≤ t → t ≤ end
      → (start < t → is_no_further (front_at (t - 1)) f ≡ true) → (t < end → is_no_further f (front_at t) ≡ true) → RiseIn j start end
      → (line e : ℕ) → start ≤ e → e < end → (order_test line f (front_at e)).holds ≡ true
  ordered_in f start end t from to below above rise line e low high = order_holds line f (front_at e) ∙ elim (cases_lt e t) [
    | inl early ↦
        let last = further_is (front_at (t - 1)) f (below (omega (arith, low, early))) in
        let rest = rise_to start end e (t - 1) (t - 1 - e) rise low (omega (arith, early, to)) (omega (arith, early)) in
        or_left (is_no_further (front_at e) f) (is_no_further f (front_at e)) (is_further (front_at e) f (further_on (front_at e) (front_at (t - 1)) f rest last))
    | inr late ↦
        let next = further_is f (front_at t) (above (omega (arith, late, high))) in
        let rest = rise_to start end t e (e - t) rise from high (omega (arith, late)) in
        or_right (is_no_further (front_at e) f) (is_no_further f (front_at e)) (is_further f (front_at e) (further_on f (front_at t) (front_at e) next rest))
  ]

  -- within a reader's answers no number is 0 but the first
  rise_in : (asks reader place start end : ℕ) → AreNumbered asks j → HaveRisen j place → place ≤ length j.answers
      → start ≡ min (reader * asks) place → end ≡ min (start + asks) place → RiseIn j start end
  rise_in asks reader place start end numbered risen within from to e low high =
      risen e (omega (arith, high, to)) (λ none. omega (arith, none, number, low, first))
    where
      first : start ≡ reader * asks
      first = omega (arith, from, to, low, high)

      turned : e ≡ (e - reader * asks) + reader * asks
      turned = omega (arith, low, first)

      number : (answer_at j e).number ≡ e - reader * asks
      number =
          numbered e (omega (arith, high, to, within))
          ∙ ap (λ (n : ℕ). n % asks) turned
          ∙ add-mul-mod_self_right (e - reader * asks) reader asks
          ∙ mod-eq_of_lt (omega (arith, high, to, first, low))

  pub ordered_more : (f : List ℕ) (asks reader place start end : ℕ) → place ≤ length j.answers
      → start ≡ min (reader * asks) place → end ≡ min (start + asks) place
      → (RiseIn j start end → (line e : ℕ) → start ≤ e → e < end → (order_test line f (front_at e)).holds ≡ true)
      → (AreNumbered asks j → HaveRisen j place → (line e : ℕ) → e < reader * asks → e < place → (order_test line f (front_at e)).holds ≡ true)
      → AreNumbered asks j → HaveRisen j place → (line e : ℕ) → e < (reader + 1) * asks → e < place → (order_test line f (front_at e)).holds ≡ true
  ordered_more f asks reader place start end within from to here before numbered risen line e lt early = elim (cases_lt e (reader * asks)) [
    | inl done ↦ before numbered risen line e done early
    | inr late ↦
        let more : (reader + 1) * asks ≡ reader * asks + asks = omega arith in
        here (rise_in asks reader place start end numbered risen within from to) line e (omega (arith, late, from, early)) (omega (arith, lt, more, from, to, early, late))
  ]

pub answers_len : (j : Journal) → length (content_of j).answers ≡ length j.lists.answers.items
unfolding content_of
answers_len j = length-map j.lists.answers.items parts_of

fronts_long : (o : Options) (answers : List Answer) → All (CanBeJudged o) answers → (e : ℕ) → e < length answers
    → length (get_or (map parts_of answers) e no_answer).front ≡ o.workers
unfolding parts_of
fronts_long o [] judged e lt = absurd (omega (arith, lt))
fronts_long o (a ∷ rest) judged zero lt = (All-head (CanBeJudged o) a rest judged).fits.front
fronts_long o (a ∷ rest) judged (suc e) lt = fronts_long o rest (All-tail (CanBeJudged o) a rest judged) e (omega (arith, lt))

front_long : (o : Options) (j : Journal) (e : ℕ) → All (CanBeJudged o) j.lists.answers.items → e < length j.lists.answers.items
    → length (answer_at (content_of j) e).front ≡ o.workers
unfolding content_of
front_long o j e judged lt = fronts_long o j.lists.answers.items judged e lt

not_first : (n : ℕ) → n ≢ 0 → (n == 0) ≡ false
not_first zero other = absurd (other refl)
not_first (suc n) other = grind arith

-- the fronts of answers whose tests hold have risen
pub risen_of : (o : Options) (j : Journal) (messages : List (List Push)) (place : ℕ) → All (CanBeJudged o) j.lists.answers.items → place ≤ length j.lists.answers.items
    → NoneFail (answer_tests o (content_of j) messages) place → HaveRisen (content_of j) place
risen_of o j messages place judged within none e lt later =
    let c = content_of j in
    let line = answer_line c e in
    let estimates = map (estimate_test line o messages (answer_at c e)) (range_with_len 0 (length (keys_of o))) in
    let hold = hold_front (front_tests line c messages e) estimates (record { none = ap first_failing (sym (tests_parted o c messages e)) ∙ none e lt }) in
    let here = front_long o j e judged (omega (arith, lt, within)) in
    let before = front_long o j (e - 1) judged (omega (arith, lt, within)) in
    later_rises line c messages e hold.none (not_first (answer_at c e).number later) (before ∙ sym here)

-- one number more
pub numbered_more : (j : Journal) (asks n : ℕ) (a : Answer) → slice_get j.lists.answers.items n ≡ Some a → a.number ≡ n % asks
    → ((e : ℕ) → e < n → (answer_at (content_of j) e).number ≡ e % asks) → (e : ℕ) → e < n + 1 → (answer_at (content_of j) e).number ≡ e % asks
numbered_more j asks n a at is before e lt = elim (eq-or-lt_of_le (let le : e ≤ n = omega (arith, lt) in le)) [
  | inl same ↦ ap (λ (k : ℕ). (answer_at (content_of j) k).number) same ∙ number_is j n a at ∙ is ∙ ap (λ (k : ℕ). k % asks) (sym same)
  | inr below ↦ before e below
]
