-- A fold keeps its layout and counts its messages, so a list that a fold begins with, and that is counted whole, is the whole list.
use Rattle.std.proofs.Common.{◌≡◌, ◌+◌, ◌<◌, ◌≤◌, Bool, true, false, cond, min, List, [], ◌∷◌, ◌++◌, length, fold, refl, ap, sym, subst, ◌∙◌, arith}
use Rattle.std.proofs.lemmas.List.Elements.{All-head, All-tail, All-append}
use Rattle.std.proofs.lemmas.List.Sums.{fold-append}
use mathlib.Core.List.{IsPrefix}
use Rattle.hash_rows.specs.Rules.{Rules}
use Rattle.live_state.specs.Fold.{StateView, fits, added, absorbed, layout_of, fresh_state, most, state_after, Fit, IsStateAfter}
use Rattle.hash_rows.specs.declared.shape.Push.{Push}
use Rattle.live_state.specs.declared.layout.Layout.{Layout}
use Rattle.live_state.proofs.Layouts.{fresh_layout, absorbed_layout, layout_all}
use Rattle.push_history.proofs.Prefixes.{prefix_whole}

module _ (r : Rules) where
  counts_chosen : (b : Bool) (s t : StateView) → b ≡ true → t.folded ≡ min (s.folded + 1) most → (cond b t s).folded ≡ min (s.folded + 1) most
  counts_chosen true s t e h = h
  counts_chosen false s t e h = absurd (cc (e))

  counts_one : (s : StateView) (m : Push) → fits r (layout_of s) m ≡ true → (absorbed r s m).folded ≡ min (s.folded + 1) most
  counts_one s m e = counts_chosen (fits r (layout_of s) m) s (added r s m) e refl

  pub counts : (s : StateView) (log : List Push) → Fit r (layout_of s) log → s.folded ≤ most → (fold (absorbed r) s log).folded ≡ min (s.folded + length log) most
  counts s [] h le = omega arith
  counts s (m ∷ log) h le =
      let one = counts_one s m (All-head (λ (x : Push). fits r (layout_of s) x ≡ true) m log h) in
      let less : (absorbed r s m).folded ≤ most = omega (arith, one) in
      let tail : Fit r (layout_of s) log = All-tail (λ (x : Push). fits r (layout_of s) x ≡ true) m log h in
      let rest = counts (absorbed r s m) log (subst (λ (z : Layout). Fit r z log) (sym (absorbed_layout r s m)) tail) less in
      omega (arith, one, rest)

  pub count_is : (s : StateView) (log : List Push) → IsStateAfter r s log → s.folded ≡ min (length log) most
  count_is s log h =
      let z = fresh_state (layout_of s) in
      let fit : Fit r (layout_of z) log = subst (λ (y : Layout). Fit r y log) (sym (fresh_layout (layout_of s))) h.fit in
      let n = counts z log fit (omega arith) in
      let e = ap (λ (u : StateView). u.folded) h.sums in
      omega (arith, n, e)

  -- the writer's list, which is short enough to be counted, is the whole log
  pub whole : (s : StateView) (list log : List Push) → IsStateAfter r s list → IsStateAfter r s log → IsPrefix list log → length list < most → list ≡ log
  whole s list log a b pre lt = prefix_whole list log pre (omega (arith, count_is s list a, count_is s log b))

  pub goes_on : (s t : StateView) (list more : List Push) → IsStateAfter r s list → Fit r (layout_of s) more → t ≡ fold (absorbed r) s more → IsStateAfter r t (list ++ more)
  goes_on s t list more h fit e =
      let same : layout_of s ≡ layout_of t = sym (ap layout_of e ∙ layout_all r s more) in
      let both : Fit r (layout_of s) (list ++ more) = All-append (λ (x : Push). fits r (layout_of s) x ≡ true) list more h.fit fit in
      record {
        fit = subst (λ (z : Layout). Fit r z (list ++ more)) same both;
        sums = e ∙ (ap (λ (u : StateView). fold (absorbed r) u more) h.sums ∙ (sym (fold-append (absorbed r) (fresh_state (layout_of s)) list more) ∙ ap (λ (z : Layout). fold (absorbed r) (fresh_state z) (list ++ more)) same));
      }

  -- the state after messages that fit is their fold
  pub after_is_fold : (l : Layout) (log : List Push) → Fit r l log → IsStateAfter r (state_after r l log) log
  after_is_fold l log fit =
      let same : layout_of (state_after r l log) ≡ l = layout_all r (fresh_state l) log ∙ fresh_layout l in
      record { fit = subst (λ (z : Layout). Fit r z log) (sym same) fit; sums = ap (λ (z : Layout). state_after r z log) (sym same) }

  -- a list that begins the log, and is as long as the state after the log says, is the log
  pub known_whole : (l : Layout) (list log : List Push) → Fit r l log → IsPrefix list log → (state_after r l log).folded ≡ length list → length list < most → log ≡ list
  known_whole l list log fit pre found short =
      let count = count_is (state_after r l log) log (after_is_fold l log fit) in
      sym (prefix_whole list log pre (omega (arith, count, found, short)))
