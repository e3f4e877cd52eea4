-- Lines of keys.
use Rattle.std.proofs.Common.{◌≡◌, ◌≢◌, ◌∙◌, ℕ, List, ◌++◌, ◌∷◌, [], ◌≤◌, refl, sym, arith, codes, length}
use Rattle.std.specs.Prelude.{All, Contains}
use Rattle.std.proofs.lemmas.List.{append_cancel_left, append_cancel_right}
use Rattle.packet_key.specs.declared.key.FlowKey.{FlowKey}
use Rattle.packet_key.specs.KeyText.{IsKey, text_of}
use Rattle.octo_text.specs.Lines.{key_line}

-- the line of a key has its text
pub same_text : (name : List ℕ) (k l : FlowKey) → key_line name k ≡ key_line name l → text_of k ≡ text_of l
unfolding key_line
same_text name k l same =
    append_cancel_left (name ++ codes " ") (text_of k) (text_of l)
    (append_cancel_right (name ++ codes " " ++ text_of k) (name ++ codes " " ++ text_of l) (codes "\n") same)

pub among_is_none : (line : List ℕ) (keys : List FlowKey) (read k : FlowKey) → ((a b : FlowKey) → IsKey a → IsKey b → text_of a ≡ text_of b → a ≡ b)
    → IsKey read → IsKey k → line ≡ key_line (codes "watched") read → line ≡ key_line (codes "watched") k
    → Contains keys read → All (λ l. l ≢ k) keys → ⊥
among_is_none line keys read k once key₁ key₂ is₁ is₂ among new =
    let same : read ≡ k = once read k key₁ key₂ (same_text (codes "watched") read k (sym is₁ ∙ is₂)) in
    new among.0 read among.1 (among.2 ∙ same)

pub no_items : {X : Type 0} (xs : List X) → length xs ≤ 0 → xs ≡ []
no_items [] none = refl
no_items (x ∷ xs) none = absurd (omega (arith, none))
