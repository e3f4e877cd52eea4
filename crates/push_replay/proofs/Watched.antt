-- The first refused update that may not be refused, with one update more.
use Rattle.std.proofs.Common.{◌≡◌, ◌<◌, ◌≤◌, ℕ, List, [], ◌∷◌, ◌++◌, length, Bool, true, false, nat_lt, if◌then◌else◌, refl, sym, ap, ◌∙◌, subst, arith, inl, inr}
use Rattle.std.specs.Prelude.{Option, Some, None, All}
use Rattle.std.proofs.lemmas.List.{length_push}
use Rattle.hash_rows.specs.declared.shape.Update.{Update}
use Rattle.hash_rows.specs.declared.shape.Push.{Push}
use Rattle.hash_rows.specs.Rules.{Rules}
use Rattle.push_history.specs.Pushes.{is_refused, distance_at}
use Rattle.push_history.specs.Told.{told_of}
use Rattle.push_history.specs.Whole.{whole_of}
use Rattle.push_history.proofs.Lists.{last_or_before}
use Rattle.push_history.proofs.Growing.{distance_last}
use Rattle.push_rule.proofs.Standing.{whole_own}
use Rattle.given_law.specs.Given.{given_messages, given_before}
use Rattle.given_law.proofs.Determined.{given_before_more, distance_before, all_below}
use Rattle.push_replay.specs.declared.replay.Fault.{Fault}
use Rattle.push_replay.specs.declared.replay.Fault.TheVariants.{TooNear, TooFew}
use Rattle.push_replay.specs.Replays.{first_fault, distance_given, AreFine, IsFirstFault}

module _ (r : Rules) (w T L : ℕ) (F : List ℕ) (U : List Update) (u : Update) where
  dist_stays : (k : ℕ) → k < length U → distance_given r w T (U ++ u ∷ []) F k ≡ distance_given r w T U F k
  dist_stays k lt =
      ap (λ (t : List Push). distance_at r (U ++ u ∷ []) t k) (given_before_more r w T U u F k (omega (arith, lt)))
      ∙ distance_before r U u (given_before r w T U F k) k lt

  len_stays : (k : ℕ) → k ≤ length U → length (given_before r w T (U ++ u ∷ []) F k) ≡ length (given_before r w T U F k)
  len_stays k le = ap length (given_before_more r w T U u F k le)

  fine_stays : (n : ℕ) → n ≤ length U → AreFine r w T L U F n → AreFine r w T L (U ++ u ∷ []) F n
  fine_stays n le fine = λ k lt refused.
      let h = fine k lt refused in
      let d = dist_stays k (omega (arith, lt, le)) in
      let l = len_stays k (omega (arith, lt, le)) in
      (subst (λ (x : ℕ). T ≤ x) (sym d) h.0, subst (λ (x : ℕ). L ≤ x) (sym l) h.1)

  longer : (k : ℕ) → k < length U → k < length (U ++ u ∷ [])
  longer k lt = omega (arith, lt, length_push U u)

  some_stays : (f : Fault) → IsFirstFault r w T L U F (Some f) → IsFirstFault r w T L (U ++ u ∷ []) F (Some f)
  some_stays (TooNear k d) h = (longer k h.0, h.1, fine_stays k (omega (arith, h.0)) h.2, h.3 ∙ sym (dist_stays k h.0), h.4)
  some_stays (TooFew k n) h = (
    longer k h.0,
    h.1,
    fine_stays k (omega (arith, h.0)) h.2,
    subst (λ (x : ℕ). T ≤ x) (sym (dist_stays k h.0)) h.3,
    h.4 ∙ sym (len_stays k (omega (arith, h.0))),
    h.5,
  )

  all_fine : AreFine r w T L U F (length U)
      → (is_refused (length U) F ≡ true → (T ≤ distance_given r w T (U ++ u ∷ []) F (length U)) × (L ≤ length (given_before r w T (U ++ u ∷ []) F (length U))))
      → AreFine r w T L (U ++ u ∷ []) F (length (U ++ u ∷ []))
  all_fine fine here = λ k lt refused. elim (last_or_before U u k lt) [
    | inr early ↦ fine_stays (length U) (omega arith) fine k early refused
    | inl last ↦ subst (λ (n : ℕ). (T ≤ distance_given r w T (U ++ u ∷ []) F n) × (L ≤ length (given_before r w T (U ++ u ∷ []) F n))) (sym last)
        (here (subst (λ (n : ℕ). is_refused n F ≡ true) last refused))
  ]

  module _ (S : List Push) (is : S ≡ given_messages r w T U F) where
    abbrev pub far_here : ℕ
    far_here = r.distance (told_of r u.cell S) (r.join (whole_of r u.cell U) u.value)

    given_is : given_before r w T (U ++ u ∷ []) F (length U) ≡ S
    unfolding given_messages
    given_is = given_before_more r w T U u F (length U) (omega arith) ∙ sym is

    dist_here : distance_given r w T (U ++ u ∷ []) F (length U) ≡ far_here
    unfolding given_messages
    dist_here =
        ap (λ (t : List Push). distance_at r (U ++ u ∷ []) t (length U)) given_is
        ∙ distance_last r U u S (subst (All (λ m. m.update < length U)) (sym is) (all_below r w T U F (length U)))
        ∙ ap (r.distance (told_of r u.cell S)) (whole_own r U u)

    pub quiet : (fault : Option Fault) → IsFirstFault r w T L U F fault → is_refused (length U) F ≡ false → IsFirstFault r w T L (U ++ u ∷ []) F fault
    quiet None h free = all_fine h (λ refused. absurd (let bad : true ≡ false = sym refused ∙ free in cc))
    quiet (Some f) h free = some_stays f h

    near : (fault : Option Fault) (d : ℕ) → IsFirstFault r w T L U F fault → is_refused (length U) F ≡ true → d ≡ far_here → far_here < T
        → IsFirstFault r w T L (U ++ u ∷ []) F (first_fault fault (Some (TooNear (length U) d)))
    near None d h refused d_is low = (omega (arith, length_push U u), refused, fine_stays (length U) (omega arith) h, d_is ∙ sym dist_here, omega (arith, d_is, low))
    near (Some f) d h refused d_is low = some_stays f h

    -- a count that makes no push due
    pub none_step : (fault result : Option Fault) (b : Bool) (number d : ℕ) → IsFirstFault r w T L U F fault → b ≡ is_refused (length U) F → number ≡ length U → d ≡ far_here → far_here < T
        → result ≡ first_fault fault (if b then Some (TooNear number d) else None) → IsFirstFault r w T L (U ++ u ∷ []) F result
    none_step fault result true number d h refused n d_is low is_result =
        subst (IsFirstFault r w T L (U ++ u ∷ []) F) (sym (is_result ∙ ap (λ (k : ℕ). first_fault fault (Some (TooNear k d))) n)) (near fault d h (sym refused) d_is low)
    none_step None result false number d h free n d_is low is_result = subst (IsFirstFault r w T L (U ++ u ∷ []) F) (sym is_result) (quiet None h (sym free))
    none_step (Some f) result false number d h free n d_is low is_result = subst (IsFirstFault r w T L (U ++ u ∷ []) F) (sym is_result) (some_stays f h)

    few : (fault : Option Fault) (n : ℕ) (b : Bool) → nat_lt n L ≡ b → IsFirstFault r w T L U F fault → is_refused (length U) F ≡ true → T ≤ far_here → n ≡ length S
        → IsFirstFault r w T L (U ++ u ∷ []) F (first_fault fault (if b then Some (TooFew (length U) n) else None))
    few None n true low h refused far many =
        let below : n < L = grind arith in
        (omega (arith, length_push U u), refused, fine_stays (length U) (omega arith) h, subst (λ (x : ℕ). T ≤ x) (sym dist_here) far, many ∙ sym (ap length given_is), below)
    few None n false high h refused far many =
        let above : L ≤ n = grind arith in
        all_fine h (λ _. (subst (λ (x : ℕ). T ≤ x) (sym dist_here) far, omega (arith, above, many, ap length given_is)))
    few (Some f) n b test h refused far many = some_stays f h

    -- a due push that is refused
    pub refused_step : (fault result : Option Fault) (number n : ℕ) → IsFirstFault r w T L U F fault → is_refused (length U) F ≡ true → number ≡ length U → n ≡ length S → T ≤ far_here
        → result ≡ first_fault fault (if nat_lt n L then Some (TooFew number n) else None) → IsFirstFault r w T L (U ++ u ∷ []) F result
    refused_step fault result number n h refused k many far is_result =
        subst (IsFirstFault r w T L (U ++ u ∷ []) F) (sym (is_result ∙ ap (λ (j : ℕ). first_fault fault (if nat_lt n L then Some (TooFew j n) else None)) k))
        (few fault n (nat_lt n L) refl h refused far many)
