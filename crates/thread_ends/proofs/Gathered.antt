-- One more reader that gives its answers away.
use Rattle.std.proofs.Common.{ℕ, subst, ◌≡◌, ◌<◌, ◌≤◌, ◌+◌, List, [], ◌∷◌, length, map, get_or, take, refl, sym, ap, ◌∙◌, arith}
use Rattle.std.specs.Prelude.{All}
use Rattle.std.specs.List.{flat_map}
use mathlib.Core.List.{IsPrefix}
use Rattle.hash_rows.specs.declared.answer.Answer.{Answer}
use Rattle.hash_rows.specs.declared.shape.Push.{Push}
use Rattle.live_view.specs.Views.{WriterView}
use Rattle.thread_run.specs.declared.parts.ReaderPart.{ReaderPart}
use Rattle.std.proofs.lemmas.List.Folds.{length-flat_map-take}

-- what was yielded of a list, as it stands
pub as_it_is : {X : Type 0} (xs : List X) → map (λ x. x) xs ≡ xs
as_it_is [] = refl
as_it_is (x ∷ xs) = ap (λ l. x ∷ l) (as_it_is xs)

-- there is room for what the next one gives
pub room_for : {X Y : Type 0} (f : X → List Y) (all so_far : List X) (x : X) → map (λ y. y) so_far ≡ take (length so_far) all → (length so_far < length all) × (x ≡ get_or all (length so_far) x)
    → length (flat_map f so_far) + length (f x) ≤ length (flat_map f all)
room_for f all so_far x front turn =
    let e = ap (λ l. length (flat_map f l)) (sym (as_it_is so_far) ∙ front) in
    let g = ap (λ y. length (f y)) turn.1 in
    omega (arith, e, g, length-flat_map-take f all (length so_far) x turn.0)

-- what holds of all of a list holds of the one that is yielded next
pub at_turn : {X : Type 0} (P : X → Type 0) (all : List X) (n : ℕ) (x : X) → All P all → (n < length all) × (x ≡ get_or all n x) → P x
at_turn P all n x each turn = subst P (sym turn.1) (each n x turn.0)

module _ {K H : Type 0} where
  abbrev pub gives : ReaderPart K H → List Answer
  gives p = p.answers.items

  abbrev pub IsOfPair : WriterView → ReaderPart K H → Type 0
  IsOfPair w p = (p.view.book ≡ w.book) × (p.view.layout ≡ w.layout)

  abbrev pub KnowsFront : List Push → ReaderPart K H → Type 0
  KnowsFront published p = IsPrefix p.view.known published
