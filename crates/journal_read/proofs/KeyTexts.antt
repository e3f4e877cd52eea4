-- The key at the end of a line.
use Rattle.std.proofs.Common.{◌≡◌, ◌≢◌, ◌∙◌, ℕ, ◌+◌, ◌-◌, List, [], ◌∷◌, ◌++◌, Option, Some, None, sym, ap, drop, take, length, codes, append_assoc, arith}
use Rattle.std.specs.Prelude.{MatchOption}
use Rattle.std.proofs.lemmas.List.{take_at, drop_at, length-append}
use Rattle.packet_key.specs.declared.key.FlowKey.{FlowKey}
use Rattle.packet_key.specs.KeyText.{IsKey, text_of}
use Rattle.octo_text.specs.Lines.{key_line}

pub key_grouped : (name : List ℕ) (k : FlowKey) → key_line name k ≡ (name ++ codes " ") ++ (text_of k ++ codes "\n")
unfolding key_line
key_grouped name k = append_assoc (name ++ codes " ") (text_of k) (codes "\n")

-- the line behind the name and a space
pub behind_name : (line name back : List ℕ) (k : FlowKey) → back ≡ drop (length name + 1) line → line ≡ key_line name k → back ≡ text_of k ++ 10 ∷ []
behind_name line name back k skipped is =
    skipped
    ∙ ap (drop (length name + 1)) (is ∙ key_grouped name k)
    ∙ drop_at (name ++ codes " ") (text_of k ++ codes "\n") (length name + 1) (length-append name (codes " "))

pub front_of : (text front : List ℕ) (last n : ℕ) → text ≡ front ++ last ∷ [] → n ≡ length text - 1 → take n text ≡ front
front_of text front last n is long =
    ap (take n) is ∙ take_at front (last ∷ []) n (omega (arith, long, ap length is, length-append front (last ∷ [])))

-- a key that is read of the text of a key has that text
pub same_text : (r : Option FlowKey) (text : List ℕ) (k : FlowKey) → IsKey k → text ≡ text_of k
    → MatchOption r ((l : FlowKey) → IsKey l → text ≢ text_of l) (λ read. text ≡ text_of read) → MatchOption r ⊥ (λ read. text_of read ≡ text_of k)
same_text None text k key is none = none k key is
same_text (Some read) text k key is some = sym some ∙ is

-- the line of a key is told by the key's text
pub line_of_text : (name : List ℕ) (k l : FlowKey) → text_of k ≡ text_of l → key_line name k ≡ key_line name l
unfolding key_line
line_of_text name k l same = ap (λ (t : List ℕ). name ++ codes " " ++ t ++ codes "\n") same
