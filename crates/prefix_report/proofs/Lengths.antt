-- The networks of a length, one after another.
use Rattle.std.proofs.Common.{◌≡◌, ◌+◌, ◌<◌, ℕ, Bool, true, false, List, [], ◌∷◌, ◌++◌, cond, length, take, get_or, refl, sym, ap, ◌∙◌, arith}
use Rattle.std.specs.Prelude.{◌==◌}
use Rattle.std.specs.List.{flat_map}
use Rattle.std.proofs.lemmas.List.{length-append, take_more}
use Rattle.std.proofs.lemmas.List.Elements.{filter-append}
use Rattle.std.proofs.lemmas.Grind.{flat_map-append}
use Rattle.prefix_stack.specs.declared.hit.Hit.{Hit}
use Rattle.prefix_report.specs.PrefixText.{of_length}

-- a network of the length
pub one_of : (bits : ℕ) (hit : Hit) → hit.prefix.length ≡ bits → of_length bits (hit ∷ []) ≡ hit ∷ []
one_of bits hit is =
    let yes : (hit.prefix.length == bits) ≡ true = grind arith in
    ap (λ (b : Bool). cond b (hit ∷ []) []) yes

-- and one of another
pub none_of : (bits : ℕ) (hit : Hit) → (hit.prefix.length == bits) ≡ false → of_length bits (hit ∷ []) ≡ []
none_of bits hit is = ap (λ (b : Bool). cond b (hit ∷ []) []) is

-- one more
pub of_length_more : (bits : ℕ) (hits : List Hit) (k : ℕ) (d : Hit) → k < length hits
    → of_length bits (take (k + 1) hits) ≡ of_length bits (take k hits) ++ of_length bits (get_or hits k d ∷ [])
of_length_more bits hits k d lt =
    ap (of_length bits) (take_more hits k d lt) ∙ filter-append (λ hit. hit.prefix.length == bits) (take k hits) (get_or hits k d ∷ [])

pub count_more : (bits : ℕ) (hits : List Hit) (k : ℕ) (d : Hit) (one : List Hit) → k < length hits → of_length bits (get_or hits k d ∷ []) ≡ one
    → length (of_length bits (take (k + 1) hits)) ≡ length (of_length bits (take k hits)) + length one
count_more bits hits k d one lt is =
    ap length (of_length_more bits hits k d lt) ∙ length-append (of_length bits (take k hits)) (of_length bits (get_or hits k d ∷ []))
    ∙ ap (λ (l : List Hit). length (of_length bits (take k hits)) + length l) is

-- the texts of those of the length are the texts of all, where the others have none
pub texts_of : (text : Hit → List ℕ) (bits : ℕ) (hits : List Hit) → flat_map (λ hit. flat_map text (of_length bits (hit ∷ []))) hits ≡ flat_map text (of_length bits hits)
texts_of text bits [] = refl
texts_of text bits (hit ∷ hits) =
    ap (λ (l : List ℕ). flat_map text (of_length bits (hit ∷ [])) ++ l) (texts_of text bits hits)
    ∙ sym (flat_map-append text (of_length bits (hit ∷ [])) (of_length bits hits))
    ∙ ap (flat_map text) (sym (filter-append (λ h. h.prefix.length == bits) (hit ∷ []) hits))
