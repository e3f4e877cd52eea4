-- One message more of a lane.
use Rattle.std.proofs.Common.{zero, suc, ◌≡◌, ◌≢◌, ◌<◌, ℕ, ◌==◌, Bool, true, false, cond, List, [], ◌∷◌, ◌++◌, length, set, get_or, refl, sym, ap, subst, ◌∙◌, arith, inl, inr, true≢false}
use Rattle.std.specs.Prelude.{All}
use Rattle.std.proofs.lemmas.List.{get_or-set_other, get_or-set_same, length_push, get_or_push, get_or_append_left}
use Rattle.std.proofs.lemmas.Bool.{cases_eq}
use Rattle.hash_rows.specs.declared.shape.Push.{Push}
use Rattle.hash_rows.specs.Rules.{Rules}
use Rattle.push_history.specs.Front.{messages_of}
use Rattle.push_history.proofs.Lists.{filter_push_no, filter_push_yes}
use Rattle.push_lane.specs.Views.{OutView}
use Rattle.live_state.specs.Fold.{fits}
use Rattle.live_state.specs.declared.layout.Layout.{Layout}
use Rattle.aggregate.specs.Takens.{AreNamed, AreTaken, takens, taken_at}

-- the lists with one message more at the place
abbrev pub with_one : List (List Push) → ℕ → Push → List (List Push)
with_one lists place m = set lists place (get_or lists place [] ++ m ∷ [])

module _ (lists : List (List Push)) (place : ℕ) (m : Push) (within : place < length lists) where
  at_place : taken_at (with_one lists place m) place ≡ taken_at lists place ++ m ∷ []
  at_place = get_or-set_same lists place (get_or lists place [] ++ m ∷ []) [] within

  at_other : (w : ℕ) → w ≢ place → taken_at (with_one lists place m) w ≡ taken_at lists w
  at_other w other = get_or-set_other lists place w (get_or lists place [] ++ m ∷ []) [] other

  module _ (r : Rules) (l : Layout) (named : AreNamed r l (with_one lists place m)) where
    -- what holds of the longer lists holds of the message, and of the shorter ones
    of_message : (m.worker ≡ place) × (fits r l m ≡ true)
    of_message =
        let xs = taken_at lists place in
        let all : All (λ x. (x.worker ≡ place) × (fits r l x ≡ true)) (xs ++ m ∷ []) = subst (λ (ys : List Push). All (λ x. (x.worker ≡ place) × (fits r l x ≡ true)) ys) at_place (named place) in
        let last = all (length xs) m (omega (arith, length_push xs m)) in
        subst (λ (x : Push). (x.worker ≡ place) × (fits r l x ≡ true)) (get_or_push xs m m (length xs) refl) last

    pub still_named : AreNamed r l lists
    still_named = λ w. elim (cases_eq w place) [
      | inl same ↦ (λ k d lt.
          let xs = taken_at lists w in
          let all : All (λ x. (x.worker ≡ w) × (fits r l x ≡ true)) (xs ++ m ∷ []) = subst (λ (ys : List Push). All (λ x. (x.worker ≡ w) × (fits r l x ≡ true)) ys) (subst (λ (n : ℕ). taken_at (with_one lists place m) n ≡ taken_at lists n ++ m ∷ []) (sym same) at_place) (named w) in
          let at = all k d (omega (arith, length_push xs m, lt)) in
          subst (λ (x : Push). (x.worker ≡ w) × (fits r l x ≡ true)) (get_or_append_left xs (m ∷ []) d k lt) at)
      | inr other ↦ subst (λ (ys : List Push). All (λ x. (x.worker ≡ w) × (fits r l x ≡ true)) ys) (at_other w other) (named w)
    ]

    pub fits_one : fits r l m ≡ true
    fits_one = of_message.1

    pub taken_one : (messages : List Push) → ((w : ℕ) → messages_of w messages ≡ taken_at lists w) → (w : ℕ) → messages_of w (messages ++ m ∷ []) ≡ taken_at (with_one lists place m) w
    taken_one messages before w = elim (cases_eq w place) [
      | inl same ↦ (
          let here : (m.worker == w) ≡ true = (let e : m.worker ≡ w = of_message.0 ∙ sym same in grind arith) in
          filter_push_yes (λ (x : Push). x.worker == w) messages m here ∙ ap (λ (l : List Push). l ++ m ∷ []) (before w) ∙ sym (subst (λ (n : ℕ). taken_at (with_one lists place m) n ≡ taken_at lists n ++ m ∷ []) (sym same) at_place))
      | inr other ↦ (
          let not : (m.worker == w) ≡ false = (let e : m.worker ≡ place = of_message.0 in grind (arith, other)) in
          filter_push_no (λ (x : Push). x.worker == w) messages m not ∙ before w ∙ sym (at_other w other))
    ]

  -- a message that was taken, and appended if it fits
  pub taken_more : (r : Rules) (l : Layout) (messages : List Push) → AreTaken r l lists messages
      → (after : List Push) (b : Bool) → b ≡ fits r l m → after ≡ cond b (messages ++ m ∷ []) messages → AreTaken r l (with_one lists place m) after
  taken_more r l messages before after true is same named = λ w.
      ap (messages_of w) same ∙ taken_one r l named messages (before (still_named r l named)) w
  taken_more r l messages before after false is same named =
      absurd (true≢false (sym (fits_one r l named) ∙ sym is))

-- nothing was taken
pub none_taken : (r : Rules) (l : Layout) (outs : List OutView) → All (λ (o : OutView). o.taken ≡ []) outs → AreTaken r l (takens outs) []
none_taken r l outs none named w = sym (all_empty outs none w)
  where
    all_empty : (os : List OutView) → All (λ (o : OutView). o.taken ≡ []) os → (k : ℕ) → taken_at (takens os) k ≡ []
    all_empty [] h k = refl
    all_empty (o ∷ os) h zero = h zero o (omega arith)
    all_empty (o ∷ os) h (suc k) = all_empty os (λ j d lt. h (suc j) d (omega (arith, lt))) k
