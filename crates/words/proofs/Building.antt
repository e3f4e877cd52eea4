-- The parser after one more name.
use Rattle.std.proofs.Common.{◌≡◌, ◌∙◌, ◌<◌, ◌+◌, ℕ, sym, ap, ap₂, List, [], ◌∷◌, ◌++◌, map, take, length, get_or, append_assoc}
use Rattle.std.proofs.lemmas.List.{map-append, take_more}
use Rattle.std.specs.Borrow.{Bor}
use Rattle.clap.specs.Walk.{Rule}
use Rattle.clap.specs.Simple.{App, with_rule}
use Rattle.words.specs.Grammar.{Name, Text}
use Rattle.words.specs.Rules.{app_for, app_of_names, rule_told}

one_more : (ns : List Name) (n : Name) (a new : App) (r : Rule) → a ≡ app_of_names ns → r ≡ rule_told n → new ≡ with_rule a r → new ≡ app_of_names (ns ++ n ∷ [])
one_more ns n a new r e f g = g ∙ ap₂ with_rule e f ∙ ap app_for (sym (map-append rule_told ns (n ∷ [])))

pub more : (name : Bor Text → Name) (before : List Name) (xs : List (Bor Text)) (i : ℕ) (d : Bor Text) (a new : App) (r : Rule) → i < length xs
    → a ≡ app_of_names (before ++ map name (take i xs)) → r ≡ rule_told (name (get_or xs i d)) → new ≡ with_rule a r
    → new ≡ app_of_names (before ++ map name (take (i + 1) xs))
more name before xs i d a new r lt e f g =
    one_more (before ++ map name (take i xs)) (name (get_or xs i d)) a new r e f g
    ∙ ap app_of_names (append_assoc before (map name (take i xs)) (name (get_or xs i d) ∷ [])
    ∙ ap (λ (ns : List Name). before ++ ns) (sym (map-append name (take i xs) (get_or xs i d ∷ [])) ∙ ap (map name) (sym (take_more xs i d lt))))
