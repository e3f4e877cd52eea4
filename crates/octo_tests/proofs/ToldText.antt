-- What a source and an output that tell their bytes make of the clauses of a run.
use Rattle.std.proofs.Common.{◌≡◌, ◌∙◌, refl, sym, ap, subst, append-nil, List, [], ℕ, ◌++◌}
use Rattle.std.specs.Prelude.{Option, Some}
use Rattle.flow_base.specs.Flow.{behind, Given}
use Rattle.octo_run.specs.Ends.{Reported}

-- the one text is what the output took
pub told : (IsText : List ℕ → List ℕ → Type 0) → ((given s t : List ℕ) → IsText given s → IsText given t → s ≡ t) → (held held' bytes : List ℕ)
    → Reported IsText (Some held) (Some held') bytes [] → (text : List ℕ) → IsText bytes text → held' ≡ held ++ text
told IsText one held held' bytes reported text is =
    let grew : Some held' ≡ Some (held ++ reported.1) = reported.3 in
    let now : held' ≡ held ++ reported.1 = cc in
    now ∙ ap (λ (t : List ℕ). held ++ t) (one bytes reported.1 text reported.2 is)

-- all bytes of the source were given
pub given_all : (IsText : List ℕ → List ℕ → Type 0) (before after : Option (List ℕ)) (bytes left given : List ℕ) → Some bytes ≡ behind given (Some left)
    → Given (Some bytes) (Some left) (Reported IsText before after) → Reported IsText before after bytes []
given_all IsText before after bytes left given front holds =
    let reported = holds given left front refl in
    let split : bytes ≡ given ++ left = cc in
    let whole : given ≡ bytes = sym (append-nil given) ∙ ap (λ (rest : List ℕ). given ++ rest) (sym reported.0) ∙ sym split in
    subst (λ (g : List ℕ). Reported IsText before after g []) whole (subst (λ (r : List ℕ). Reported IsText before after given r) reported.0 reported)
