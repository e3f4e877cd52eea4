-- `==` finds two keys equal exactly where they are one.
use Rattle.std.proofs.Common.{◌≡◌, ◌↔◌, ℕ, true, ◌&&◌, ◌==◌, subst}
use Rattle.std.specs.Str.{bytes_eq}
use Rattle.std.proofs.lemmas.Bool.{and_parts, eqb-true}
use Rattle.std.proofs.lemmas.Slice.Eq.{bytes_eq-Decides}
use Rattle.packet_key.specs.declared.key.FlowKey.{FlowKey}
use Rattle.packet_key.specs.declared.key.FlowKey.TheVariants.{V4, V6}
use Rattle.packet_key.specs.contracts.key.FlowKeyEq.TheImpl.Laws.{laws-law}
use Rattle.packet_key.specs.Keys.{same_key}

-- the tests of ports and protocol
same_tail : (c d e c' d' e' : ℕ) → ((c == c') && ((d == d') && (e == e'))) ≡ true → (c ≡ c') × (d ≡ d') × (e ≡ e')
same_tail c d e c' d' e' same =
    let first = and_parts (c == c') ((d == d') && (e == e')) same in
    let second = and_parts (d == d') (e == e') first.1 in
    (eqb-true c c' first.0, eqb-true d d' second.0, eqb-true e e' second.1)

pub same_key-eq : (a b : FlowKey) → same_key a b ≡ true → a ≡ b
same_key-eq (V4 a b c d e) (V4 a' b' c' d' e') same =
    let first = and_parts (a == a') ((b == b') && ((c == c') && ((d == d') && (e == e')))) same in
    let second = and_parts (b == b') ((c == c') && ((d == d') && (e == e'))) first.1 in
    let tail = same_tail c d e c' d' e' second.1 in
    let source : a ≡ a' = eqb-true a a' first.0 in
    let target : b ≡ b' = eqb-true b b' second.0 in
    cc (tail.0, tail.1, tail.2)
same_key-eq (V4 a b c d e) (V6 a' b' c' d' e') same = cc
same_key-eq (V6 a b c d e) (V4 a' b' c' d' e') same = cc
same_key-eq (V6 a b c d e) (V6 a' b' c' d' e') same =
    let first = and_parts (bytes_eq a a') (bytes_eq b b' && ((c == c') && ((d == d') && (e == e')))) same in
    let second = and_parts (bytes_eq b b') ((c == c') && ((d == d') && (e == e'))) first.1 in
    let tail = same_tail c d e c' d' e' second.1 in
    let source : a ≡ a' = (bytes_eq-Decides a a').0 first.0 in
    let target : b ≡ b' = (bytes_eq-Decides b b').0 second.0 in
    cc (tail.0, tail.1, tail.2)

pub eq-same_key : (a b : FlowKey) → a ≡ b → same_key a b ≡ true
eq-same_key a b one = subst (λ (k : FlowKey). same_key a k ≡ true) one (laws-law.refl a)

pub same_key_is : (a b : FlowKey) → (same_key a b ≡ true) ↔ (a ≡ b)
same_key_is a b = (same_key-eq a b, eq-same_key a b)
