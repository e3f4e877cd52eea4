-- Each step keeps the rule of the pair.
use Rattle.std.proofs.Common.{◌≡◌, ◌≢◌, ℕ, zero, suc, List, [], ◌∷◌, ◌++◌, fold, set, refl, sym, subst, ap, ◌∙◌, ⊎_elim, Option, Some, None, append_assoc}
use Rattle.std.proofs.lemmas.List.{append-nil}
use Rattle.std.proofs.lemmas.List.Elements.{All-nil}
use Rattle.std.specs.Prelude.{IfSome}
use mathlib.Core.List.{IsPrefix}
use mathlib.Core.Option.{some, some-injective, some-ne-none}
use lib.ListN.{get_elem?}
use Rattle.crossbeam_utils.specs.Register.{Admits, Turns, TurnsAt, Forks, Merges}
use Rattle.atomic_table.proofs.Lists.{at_set, at_snoc}
use Rattle.hash_rows.specs.Rules.{Rules}
use Rattle.live_view.specs.Views.{History, PublishedView, with_all}
use Rattle.live_state.specs.Fold.{StateView, absorbed, layout_of, fresh_state, Fit, IsStateAfter}
use Rattle.live_view.specs.Rule.{notes, pair_of, paired, Knows, IsPublished, Entered, turned, messages, IsChain}
use Rattle.hash_rows.specs.declared.shape.Push.{Push}
use Rattle.live_state.specs.declared.layout.Layout.{Layout}
use Rattle.live_view.specs.declared.history.Entry.{Entry}
use Rattle.live_view.specs.declared.rule.Notes.{Notes}
use Rattle.live_view.specs.declared.rule.Pair.{Pair}
use Rattle.push_history.proofs.Prefixes.{prefix_self, prefix_trans}
use Rattle.live_state.proofs.Layouts.{layout_all, fresh_layout}
use Rattle.live_view.proofs.Folds.{goes_on}

abbrev IsPair : PublishedView → Option Pair → Type 0
IsPair p o = IfSome o (λ z. z ≡ pair_of p)

pair_alike : (p q : PublishedView) (o : Option Pair) → pair_of p ≡ pair_of q → IsPair p o → IsPair q o
pair_alike p q None e h = tt
pair_alike p q (Some z) e h = h ∙ e

nothing : (p : PublishedView) → Knows p (notes [] None)
nothing p = record { known = (p.history.log, refl); pair = tt }

whole_log : (p : PublishedView) (o : Option Pair) → IsPair p o → Knows p (notes p.history.log o)
whole_log p o h = record { known = prefix_self p.history.log; pair = h }

goes_along : (p q : PublishedView) (v : Notes) → IsPrefix p.history.log q.history.log → pair_of p ≡ pair_of q → Knows p v → Knows q v
goes_along p q v pre same h = record {
  known = prefix_trans v.known p.history.log q.history.log h.known pre;
  pair = pair_alike p q v.pair same h.pair;
}

know_set : (p : PublishedView) (views : List Notes) (seat : ℕ) (w : Notes) → ((j : ℕ) (u : Notes) → get_elem? views j ≡ some u → Knows p u) → Knows p w
    → (j : ℕ) (u : Notes) → get_elem? (set views seat w) j ≡ some u → Knows p u
know_set p views seat w h k j u e = ⊎_elim (λ (t : (j ≡ seat) × (w ≡ u)). subst (Knows p) t.1 k) (λ (t : (j ≢ seat) × (get_elem? views j ≡ some u)). h j u t.1) (at_set views seat j w u e)

know_snoc : (p : PublishedView) (views : List Notes) (w : Notes) → ((j : ℕ) (u : Notes) → get_elem? views j ≡ some u → Knows p u) → Knows p w
    → (j : ℕ) (u : Notes) → get_elem? (views ++ w ∷ []) j ≡ some u → Knows p u
know_snoc p views w h k j u e = ⊎_elim (h j u) (λ (t : w ≡ u). subst (Knows p) t k) (at_snoc views w u j e)

only : (seat : ℕ) (v : Notes) → get_elem? (notes [] None ∷ []) seat ≡ some v → notes [] None ≡ v
only zero v at = some-injective (notes [] None) v at
only (suc seat) v at = absurd (some-ne-none v (sym at))

module _ (r : Rules) where
  pub empty : (z : Layout) → IsStateAfter r (fresh_state z) []
  empty z = record { fit = All-nil _; sums = ap fresh_state (sym (fresh_layout z)) }

  -- what all entries of a chain make of a published state
  pub turned_all : (p : PublishedView) (es : List Entry) → IsChain p.history es → fold (turned r) p es ≡ record { figures = fold (absorbed r) p.figures (messages es); history = with_all p.history (messages es) }
  turned_all p [] h = λ i. record { figures = p.figures; history = record { book = p.history.book; log = sym (append-nil p.history.log) i } }
  turned_all p (e ∷ es) h =
      let q : PublishedView = turned r p e in
      let rest = turned_all q es h.1 in
      let log : e.prefix.log ++ messages es ≡ p.history.log ++ e.message ∷ messages es = ap (λ (s : History). s.log ++ messages es) h.0 ∙ append_assoc p.history.log (e.message ∷ []) (messages es) in
      rest ∙ (λ i. record { figures = fold (absorbed r) p.figures (e.message ∷ messages es); history = record { book = (h.0 i).book; log = log i } })

  pub same_pair : (p q : PublishedView) (es : List Entry) → IsChain p.history es → q ≡ fold (turned r) p es → pair_of q ≡ pair_of p
  same_pair p q es h e = ap pair_of (e ∙ turned_all p es h) ∙ ap (λ z. paired p.history.book z) (layout_all r p.figures (messages es))

  pub same_layout : (p q : PublishedView) (es : List Entry) → IsChain p.history es → q ≡ fold (turned r) p es → layout_of q.figures ≡ layout_of p.figures
  same_layout p q es h e = ap (λ (x : PublishedView). layout_of x.figures) (e ∙ turned_all p es h) ∙ layout_all r p.figures (messages es)

  pub sums_go_on : (p q : PublishedView) (es : List Entry) → IsStateAfter r p.figures p.history.log → Fit r (layout_of p.figures) (messages es) → IsChain p.history es → q ≡ fold (turned r) p es → IsStateAfter r q.figures q.history.log
  sums_go_on p q es sums fit h e =
      let all = e ∙ turned_all p es h in
      let next = goes_on r p.figures q.figures p.history.log (messages es) sums fit (ap (λ (x : PublishedView). x.figures) all) in
      subst (λ (l : List Push). IsStateAfter r q.figures l) (sym (ap (λ (x : PublishedView). x.history.log) all)) next

  pub admits : Admits (IsPublished r) (notes [] None)
  admits p views h = record { sums = h.sums; known = know_snoc p views (notes [] None) h.known (nothing p) }

  pub enters : (seat : ℕ) (v : Notes) → Turns (IsPublished r) seat v (λ s. s) (λ v x y w. Entered r v x w)
  enters seat v p views h at = let w = notes p.history.log v.pair in let mine = h.known seat v at in (
    w,
    record { sums = h.sums; known = know_set p views seat w h.known (whole_log p v.pair mine.pair) },
    record { sums = h.sums; before = mine; seat = refl },
  )

  pub publishes : (seat : ℕ) (v : Notes) (p q : PublishedView) (es : List Entry) → Fit r (layout_of p.figures) (messages es) → IsChain p.history es → q ≡ fold (turned r) p es
      → TurnsAt (IsPublished r) seat v p q (λ v x y w. w ≡ notes y.history.log (Some (pair_of y)))
  publishes seat v p q es fit chain e views h at =
      let all = e ∙ turned_all p es chain in
      let pre : IsPrefix p.history.log q.history.log = subst (λ (l : List Push). IsPrefix p.history.log l) (sym (ap (λ (x : PublishedView). x.history.log) all)) (messages es, refl) in
      let same : pair_of p ≡ pair_of q = sym (same_pair p q es chain e) in
      let w = notes q.history.log (Some (pair_of q)) in (
        w,
        record {
          sums = sums_go_on p q es h.sums fit chain e;
          known = know_set q views seat w (λ j u is. goes_along p q u pre same (h.known j u is)) (whole_log q (Some (pair_of q)) refl);
        },
        refl,
      )

  pub forks : (seat : ℕ) (v : Notes) → Forks (IsPublished r) seat v v v
  forks seat v p views h at = record {
    sums = h.sums;
    known = know_snoc p (set views seat v) v (know_set p views seat v h.known (h.known seat v at)) (h.known seat v at);
  }

  pub pairs : (seat : ℕ) (v : Notes) (other : ℕ) (w : Notes) → Merges (IsPublished r) seat v other w (notes v.known w.pair) (notes [] None)
  pairs seat v other w p views h at apart there =
      let both = notes v.known w.pair in
      let w_known : Knows p w = ⊎_elim (λ (t : (other ≡ seat) × (both ≡ w)). absurd (apart t.0)) (λ (t : (other ≢ seat) × (get_elem? views other ≡ some w)). h.known other w t.1) (at_set views seat other both w there) in
      let mine : Knows p both = record { known = (h.known seat v at).known; pair = w_known.pair } in
      record {
        sums = h.sums;
        known = know_set p (set views seat both) other (notes [] None) (know_set p views seat both h.known mine) (nothing p);
      }

  pub opens : (p : PublishedView) (z : Layout) → p.figures ≡ fresh_state z → p.history.log ≡ [] → IsPublished r p (notes [] None ∷ [])
  opens p z is none = record {
    sums = subst (λ (t : StateView × List Push). IsStateAfter r t.0 t.1) (λ i. (sym is i, sym none i)) (empty z);
    known = λ seat v at. subst (Knows p) (only seat v at) (nothing p);
  }
