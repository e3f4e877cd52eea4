-- The messages of one worker after another.
use Rattle.std.proofs.Common.{◌≡◌, ℕ, ◌+◌, List, [], ◌∷◌, ◌++◌, map, sym, ap, ◌∙◌, arith}
use Rattle.std.specs.List.{range_with_len}
use Rattle.std.proofs.lemmas.List.{map_push}
use Rattle.std.proofs.lemmas.List.FromFn.{map-range_with_len_more}
use Rattle.std.specs.Global.{Vec}
use Rattle.hash_rows.specs.declared.shape.Push.{Push}

pub items_more : (f : ℕ → List Push) (lists new : List (Vec Push)) (list : Vec Push) (n : ℕ) → map (λ v. v.items) lists ≡ map f (range_with_len 0 n) → new ≡ lists ++ list ∷ []
    → list.items ≡ f n → map (λ v. v.items) new ≡ map f (range_with_len 0 (n + 1))
items_more f lists new list n was is here =
    ap (map (λ (v : Vec Push). v.items)) is ∙ map_push (λ (v : Vec Push). v.items) lists list
    ∙ ap (λ (t : List (List Push)). t ++ list.items ∷ []) was ∙ ap (λ (t : List Push). map f (range_with_len 0 n) ++ t ∷ []) here
    ∙ sym (map-range_with_len_more f 0 n n (omega arith))
