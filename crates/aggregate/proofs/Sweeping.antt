-- What a call took of one lane after another, and what it kept of it.
use Rattle.std.proofs.Common.{◌≡◌, ◌≢◌, ◌<◌, ◌≤◌, ◌+◌, ℕ, Bool, true, false, cond, List, [], ◌∷◌, ◌++◌, length, set, get_or, refl, sym, ap, subst, ◌∙◌, arith, inl, inr}
use Rattle.std.specs.Prelude.{filter}
use Rattle.std.proofs.lemmas.Bool.{cases_lt}
use Rattle.std.proofs.lemmas.Grind.{flat_map-append}
use Rattle.std.proofs.lemmas.List.{append_assoc, append-nil, get_or_append_left, get_or_past, get_or_push, get_or-set_same, get_or-set_other, length-append, length_push, set-get_or, set-set}
use Rattle.std.proofs.lemmas.List.Elements.{filter-append}
use Rattle.hash_rows.specs.declared.shape.Push.{Push}
use Rattle.hash_rows.specs.Rules.{Rules}
use Rattle.live_state.specs.Fold.{fits}
use Rattle.live_state.specs.declared.layout.Layout.{Layout}
use Rattle.push_history.proofs.Lists.{filter_push_no, filter_push_yes}
use Rattle.push_lane.specs.Views.{OutView}
use Rattle.aggregate.specs.Sweeps.{AggregatorView, HasSwept, HasSweptLane, HaveTaken, in_order, kept_by}
use Rattle.aggregate.specs.Takens.{taken_at, takens}
use Rattle.aggregate.proofs.Grown.{with_one}

-- the lists with these messages more at the place
abbrev pub with_more : List (List Push) → ℕ → List Push → List (List Push)
with_more lists place more = set lists place (taken_at lists place ++ more)

pub more_none : (lists : List (List Push)) (place : ℕ) → lists ≡ with_more lists place []
more_none lists place = sym (ap (set lists place) (append-nil (taken_at lists place)) ∙ set-get_or lists place [])

pub more_one : (lists now : List (List Push)) (place : ℕ) (more : List Push) (m : Push) → place < length lists → now ≡ with_more lists place more
    → with_one now place m ≡ with_more lists place (more ++ m ∷ [])
more_one lists now place more m within is =
    let front = taken_at lists place ++ more in
    let at : get_or now place [] ≡ front = ap (λ (l : List (List Push)). get_or l place []) is ∙ get_or-set_same lists place front [] within in
    ap (λ (x : List Push). set now place (x ++ m ∷ [])) at
    ∙ ap (λ (l : List (List Push)). set l place (front ++ m ∷ [])) is
    ∙ set-set lists place front (front ++ m ∷ [])
    ∙ ap (set lists place) (append_assoc (taken_at lists place) more (m ∷ []))

-- what fits of one message more
kept_more : (p : Push → Bool) (before : List Push) (more : List Push) (m : Push) (b : Bool) → p m ≡ b
    → cond b ((before ++ filter p more) ++ m ∷ []) (before ++ filter p more) ≡ before ++ filter p (more ++ m ∷ [])
kept_more p before more m true passes = append_assoc before (filter p more) (m ∷ []) ∙ ap (λ (l : List Push). before ++ l) (sym (filter_push_yes p more m passes))
kept_more p before more m false fails = ap (λ (l : List Push). before ++ l) (sym (filter_push_no p more m fails))

pub lane_none : (r : Rules) (place : ℕ) (a : AggregatorView) → HasSweptLane r place [] a a
lane_none r place a = record { took = more_none (takens a.outs) place; kept = sym (append-nil (kept_by a)) }

pub lane_more : (r : Rules) (place : ℕ) (more : List Push) (m : Push) (a b c : AggregatorView) → place < length (takens a.outs) → HasSweptLane r place more a b
    → b.writer.layout ≡ a.writer.layout → takens c.outs ≡ with_one (takens b.outs) place m
    → kept_by c ≡ cond (fits r b.writer.layout m) (kept_by b ++ m ∷ []) (kept_by b) → HasSweptLane r place (more ++ m ∷ []) a c
lane_more r place more m a b c within h layout outs kept =
    let p = fits r a.writer.layout in
    record {
      took = outs ∙ more_one (takens a.outs) (takens b.outs) place more m within h.took;
      kept = kept ∙ ap (λ (l : Layout). cond (fits r l m) (kept_by b ++ m ∷ []) (kept_by b)) layout
          ∙ ap (λ (l : List Push). cond (p m) (l ++ m ∷ []) l) h.kept ∙ kept_more p (kept_by a) more m (p m) refl;
    }

-- nothing was taken yet
pub taken_none : (most : ℕ) (outs : List OutView) → HaveTaken most [] outs outs
taken_none most outs = record { each = λ w. sym (append-nil (taken_at (takens outs) w)); few = λ w. omega arith }

-- after the first lanes the next one
module _ (most : ℕ) (mores : List (List Push)) (more : List Push) (old mid new : List OutView) (place : ℕ) (len : length mores ≡ place) (within : place < length (takens mid))
    (h : HaveTaken most mores old mid) (few : length more ≤ most) (took : takens new ≡ with_more (takens mid) place more) where
  next : List (List Push)
  next = mores ++ more ∷ []

  same_lane : taken_at (takens new) place ≡ taken_at (takens old) place ++ taken_at next place
  unfolding next
  same_lane =
      ap (λ (l : List (List Push)). taken_at l place) took
      ∙ get_or-set_same (takens mid) place (taken_at (takens mid) place ++ more) [] within
      ∙ ap (λ (l : List Push). l ++ more) (h.each place ∙ ap (λ (l : List Push). taken_at (takens old) place ++ l) (get_or_past mores place [] (omega (arith, len))) ∙ append-nil (taken_at (takens old) place))
      ∙ ap (λ (l : List Push). taken_at (takens old) place ++ l) (sym (get_or_push mores more [] place len))

  before : (w : ℕ) → w < place → taken_at next w ≡ taken_at mores w
  unfolding next
  before w lt = get_or_append_left mores (more ∷ []) [] w (omega (arith, lt, len))

  past : (w : ℕ) → place < w → taken_at next w ≡ taken_at mores w
  unfolding next
  past w gt = get_or_past next w [] (omega (arith, gt, len, length_push mores more)) ∙ sym (get_or_past mores w [] (omega (arith, gt, len)))

  other_lane : (w : ℕ) → w ≢ place → taken_at next w ≡ taken_at mores w → taken_at (takens new) w ≡ taken_at (takens old) w ++ taken_at next w
  other_lane w not same =
      ap (λ (l : List (List Push)). taken_at l w) took
      ∙ get_or-set_other (takens mid) place w (taken_at (takens mid) place ++ more) [] not
      ∙ h.each w ∙ ap (λ (l : List Push). taken_at (takens old) w ++ l) (sym same)

  its_more : taken_at next place ≡ more
  unfolding next
  its_more = get_or_push mores more [] place len

  each_lane : (w : ℕ) → (taken_at (takens new) w ≡ taken_at (takens old) w ++ taken_at next w) × (length (taken_at next w) ≤ most)
  each_lane w = elim (cases_lt w place) [
    | inl early ↦ (
        let same = before w early in
        (other_lane w (omega (arith, early)) same, subst (λ (l : List Push). length l ≤ most) (sym same) (h.few w)))
    | inr late ↦ (elim (cases_lt place w) [
      | inl behind ↦ (
          let same = past w behind in
          (other_lane w (omega (arith, behind)) same, subst (λ (l : List Push). length l ≤ most) (sym same) (h.few w)))
      | inr here ↦ (
          let is : place ≡ w = omega (arith, late, here) in
          let its : taken_at next place ≡ more = its_more in
          subst (λ (n : ℕ). (taken_at (takens new) n ≡ taken_at (takens old) n ++ taken_at next n) × (length (taken_at next n) ≤ most)) is
          (same_lane, subst (λ (l : List Push). length l ≤ most) (sym its) few))
    ])
  ]

  pub taken_next : HaveTaken most (mores ++ more ∷ []) old new
  unfolding next
  taken_next = record { each = λ w. (each_lane w).0; few = λ w. (each_lane w).1 }

pub order_next : (mores : List (List Push)) (more : List Push) → in_order (mores ++ more ∷ []) ≡ in_order mores ++ more
order_next mores more = flat_map-append (λ (l : List Push). l) mores (more ∷ []) ∙ ap (λ (l : List Push). in_order mores ++ l) (append-nil more)

pub count_next : (mores : List (List Push)) (more : List Push) (n k : ℕ) → n ≡ length (in_order mores) → k ≡ length more → n + k ≡ length (in_order (mores ++ more ∷ []))
count_next mores more n k first second = omega (arith, first, second, ap length (order_next mores more), length-append (in_order mores) more)

-- no lane was swept yet
pub swept_none : (r : Rules) (a b : AggregatorView) → takens b.outs ≡ takens a.outs → kept_by b ≡ kept_by a → HasSwept r [] a b
swept_none r a b outs kept = record {
  took = record {
    each = λ w. ap (λ (l : List (List Push)). taken_at l w) outs ∙ sym (append-nil (taken_at (takens a.outs) w));
    few = λ w. omega arith;
  };
  kept = kept ∙ sym (append-nil (kept_by a));
}

-- one lane more
pub swept_next : (r : Rules) (mores : List (List Push)) (more : List Push) (a b c : AggregatorView) (place : ℕ) → length mores ≡ place → place < length (takens b.outs)
    → HasSwept r mores a b → b.writer.layout ≡ a.writer.layout → length more ≤ a.batch → HasSweptLane r place more b c → HasSwept r (mores ++ more ∷ []) a c
swept_next r mores more a b c place len within h layout few lane =
    let p = fits r a.writer.layout in
    record {
      took = taken_next a.batch mores more a.outs b.outs c.outs place len within h.took few lane.took;
      kept = lane.kept
          ∙ ap (λ (l : Layout). kept_by b ++ filter (fits r l) more) layout
          ∙ ap (λ (l : List Push). l ++ filter p more) h.kept
          ∙ append_assoc (kept_by a) (filter p (in_order mores)) (filter p more)
          ∙ ap (λ (l : List Push). kept_by a ++ l) (sym (filter-append p (in_order mores) more) ∙ ap (filter p) (sym (order_next mores more)));
    }

-- what is published afterwards changes nothing of it
pub swept_same : (r : Rules) (mores : List (List Push)) (a b c : AggregatorView) → HasSwept r mores a b → c.outs ≡ b.outs → kept_by c ≡ kept_by b → HasSwept r mores a c
swept_same r mores a b c h outs kept = record {
  took = subst (λ (o : List OutView). HaveTaken a.batch mores a.outs o) (sym outs) h.took;
  kept = kept ∙ h.kept;
}

pub lane_same : (r : Rules) (place : ℕ) (more : List Push) (a b c : AggregatorView) → HasSweptLane r place more a b → takens c.outs ≡ takens b.outs → kept_by c ≡ kept_by b
    → HasSweptLane r place more a c
lane_same r place more a b c h outs kept = record { took = outs ∙ h.took; kept = kept ∙ h.kept }
