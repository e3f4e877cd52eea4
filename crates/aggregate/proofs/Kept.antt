-- What an aggregator keeps.
use Rattle.std.proofs.Common.{◌≡◌, ◌<◌, ℕ, cond, List, [], ◌∷◌, ◌++◌, length, set, get_or, refl, sym, ap, subst, ◌∙◌, arith, append_assoc, append-nil, slice_get}
use Rattle.std.specs.Prelude.{Some, None, Option, MatchOption}
use Rattle.std.proofs.lemmas.List.{map-set, get_or-map, length-map}
use Rattle.std.proofs.lemmas.Option.{get_or_from_slice_get, slice_get_within}
use Rattle.std.proofs.Math.Seq.{map-set_same}
use Rattle.hash_rows.specs.declared.shape.Push.{Push}
use Rattle.hash_rows.specs.Rules.{Rules}
use Rattle.push_lane.specs.Views.{LaneView, OutView}
use Rattle.live_state.specs.Fold.{fits}
use Rattle.live_state.specs.declared.layout.Layout.{Layout}
use Rattle.aggregate.specs.Sweeps.{HasTaken, KeepsPair, AggregatorView, kept_by}
use Rattle.aggregate.specs.Takens.{ArePassesOf, AreTaken, takens}
use Rattle.aggregate.proofs.Grown.{taken_more, with_one}

pub same_self : (s : AggregatorView) → KeepsPair s s
same_self s = record { book = refl; layout = refl; batch = refl }

pub same_then : (a b c : AggregatorView) → KeepsPair a b → KeepsPair b c → KeepsPair a c
same_then a b c x y = record { book = y.book ∙ x.book; layout = y.layout ∙ x.layout; batch = y.batch ∙ x.batch }

-- the lists with one message more
pub kept_appended : (p q q' : List Push) (m : Push) → q' ≡ q ++ m ∷ [] → p ++ q' ++ [] ≡ p ++ q ++ [] ++ m ∷ []
kept_appended p q q' m is =
    append-nil (p ++ q') ∙ ap (λ (l : List Push). p ++ l) is ∙ sym (append_assoc p q (m ∷ [])) ∙ ap (λ (l : List Push). l ++ m ∷ []) (sym (append-nil (p ++ q)))

pub kept_held : (p q : List Push) (m : Push) → p ++ q ++ m ∷ [] ≡ p ++ q ++ [] ++ m ∷ []
kept_held p q m = ap (λ (l : List Push). l ++ m ∷ []) (sym (append-nil (p ++ q)))

-- all that was pending is published
pub kept_published : (p q : List Push) → (p ++ q) ++ [] ++ [] ≡ p ++ q ++ []
kept_published p q = append-nil (p ++ q ++ [])

-- a pass whose list grew
module _ (lanes : List LaneView) (outs : List OutView) (place : ℕ) (old new : OutView) (at : slice_get outs place ≡ Some old) where
  within : place < length outs
  within = slice_get_within outs place old at

  old_at : (d : OutView) → get_or outs place d ≡ old
  old_at d = get_or_from_slice_get outs place old d at

  pub ends_stay : ArePassesOf lanes outs → new.id ≡ old.id → ArePassesOf lanes (set outs place new)
  ends_stay ends same = map-set_same (λ (o : OutView). o.id) outs place new old (same ∙ ap (λ (o : OutView). o.id) (sym (old_at old))) ∙ ends

  taken_old : get_or (takens outs) place [] ≡ old.taken
  taken_old = get_or-map (λ (o : OutView). o.taken) outs place old [] within ∙ ap (λ (o : OutView). o.taken) (old_at old)

  pub takens_grow : (m : Push) → new.taken ≡ old.taken ++ m ∷ [] → takens (set outs place new) ≡ with_one (takens outs) place m
  takens_grow m grew =
      map-set (λ (o : OutView). o.taken) outs place new
      ∙ ap (λ (l : List Push). set (takens outs) place l) (grew ∙ ap (λ (l : List Push). l ++ m ∷ []) (sym taken_old))

  pub takens_stay : new.taken ≡ old.taken → takens (set outs place new) ≡ takens outs
  takens_stay same = map-set_same (λ (o : OutView). o.taken) outs place new old (same ∙ ap (λ (o : OutView). o.taken) (sym (old_at old)))

-- a message was taken of the lane at the place, and kept if it fits
pub swept_one : (r : Rules) (a b : AggregatorView) (place : ℕ) (m : Push) → place < length (takens a.outs) → b.writer.layout ≡ a.writer.layout → takens b.outs ≡ with_one (takens a.outs) place m
    → kept_by b ≡ cond (fits r a.writer.layout m) (kept_by a ++ m ∷ []) (kept_by a) → HasTaken r a → HasTaken r b
swept_one r a b place m within layout outs kept was =
    subst (λ (l : Layout). AreTaken r l (takens b.outs) (kept_by b)) (sym layout)
    (subst (λ (ls : List (List Push)). AreTaken r a.writer.layout ls (kept_by b)) (sym outs)
    (taken_more (takens a.outs) place m within r a.writer.layout (kept_by a) was (kept_by b) (fits r a.writer.layout m) refl kept))

pub has_taken_same : (r : Rules) (a b : AggregatorView) → b.writer.layout ≡ a.writer.layout → takens b.outs ≡ takens a.outs → kept_by b ≡ kept_by a → HasTaken r a → HasTaken r b
has_taken_same r a b layout outs kept was =
    subst (λ (l : Layout). AreTaken r l (takens b.outs) (kept_by b)) (sym layout)
    (subst (λ (ls : List (List Push)). AreTaken r a.writer.layout ls (kept_by b)) (sym outs)
    (subst (AreTaken r a.writer.layout (takens a.outs)) (sym kept) was))

-- the pass at a place is one of the lane there
pub tied : (lanes : List LaneView) (outs : List OutView) (place : ℕ) (lane : LaneView) (out : OutView) → ArePassesOf lanes outs → place < length lanes → lane ≡ get_or lanes place lane
    → slice_get outs place ≡ Some out → out.id ≡ lane.id
tied lanes outs place lane out ends inside on at =
    sym (ap (λ (o : OutView). o.id) (get_or_from_slice_get outs place out out at))
    ∙ sym (get_or-map (λ (o : OutView). o.id) outs place out out.id (slice_get_within outs place out at))
    ∙ ap (λ l. get_or l place out.id) ends
    ∙ get_or-map (λ (l : LaneView). l.id) lanes place lane out.id inside
    ∙ ap (λ (l : LaneView). l.id) (sym on)

pub ends_len : (lanes : List LaneView) (outs : List OutView) → ArePassesOf lanes outs → length outs ≡ length lanes
ends_len lanes outs ends = sym (length-map outs (λ (o : OutView). o.id)) ∙ ap length ends ∙ length-map lanes (λ (l : LaneView). l.id)

pub ends_within : (lanes : List LaneView) (outs : List OutView) (place : ℕ) → ArePassesOf lanes outs → place < length lanes → place < length (takens outs)
ends_within lanes outs place ends inside = omega (arith, ends_len lanes outs ends, length-map outs (λ (o : OutView). o.taken), inside)

-- what a take makes of the lists
pub takens_after : (outs : List OutView) (place : ℕ) (old new : OutView) → slice_get outs place ≡ Some old → (o : Option Push)
    → MatchOption o (new.taken ≡ old.taken) (λ m. new.taken ≡ old.taken ++ m ∷ [])
    → MatchOption o (takens (set outs place new) ≡ takens outs) (λ m. takens (set outs place new) ≡ with_one (takens outs) place m)
takens_after outs place old new at None same = takens_stay [] outs place old new at same
takens_after outs place old new at (Some m) grew = takens_grow [] outs place old new at m grew
