-- What a source has left whose next bytes were looked at.
use Rattle.std.proofs.Common.{◌≡◌, ◌<◌, ◌∙◌, refl, ℕ, List, [], ◌∷◌, ◌++◌, length, sym, ap, subst, arith}
use Rattle.std.specs.Prelude.{Option, Some, IfSome}
use Rattle.flow_base.specs.Flow.{behind}
use Rattle.flow_base.proofs.FlowLemmas.{behind-append, behind-nil}

module _ (old left left' : Option (List ℕ)) (given ahead ahead' : List ℕ) (was : old ≡ behind given (behind ahead left)) (filled : behind ahead' left' ≡ behind ahead left) where
  -- the bytes ahead are given too
  pub given_ahead : old ≡ behind (given ++ ahead') left'
  given_ahead = was ∙ ap (behind given) (sym filled) ∙ behind-append given ahead' left'

  -- none are ahead
  pub given_drained : ahead' ≡ [] → old ≡ behind given left'
  given_drained none = was ∙ ap (behind given) (sym filled ∙ ap (λ (bytes : List ℕ). behind bytes left') none ∙ behind-nil left')

pub no_bytes : (bytes : List ℕ) → length bytes ≡ 0 → bytes ≡ []
no_bytes [] none = refl
no_bytes (b ∷ bytes) none = absurd (omega (arith, none))

-- where none are ahead once they were filled, and nothing was left before, nothing is left
pub ended_ahead : (left left' : Option (List ℕ)) (ahead ahead' : List ℕ) → (0 < length ahead → ahead' ≡ ahead) → behind ahead' left' ≡ behind ahead left → ahead' ≡ []
    → IfSome left (λ rest. rest ≡ []) → (rest : List ℕ) → left' ≡ Some rest → rest ≡ []
ended_ahead left left' [] ahead' kept filled none ended rest is =
    let same : left ≡ Some rest = sym (sym is ∙ (sym (behind-nil left') ∙ ap (λ (bytes : List ℕ). behind bytes left') (sym none) ∙ filled ∙ behind-nil left)) in
    subst (λ (l : Option (List ℕ)). IfSome l (λ bytes. bytes ≡ [])) same ended
ended_ahead left left' (b ∷ ahead) ahead' kept filled none ended rest is = absurd (let e : [] ≡ b ∷ ahead = sym none ∙ kept (omega arith) in cc)
