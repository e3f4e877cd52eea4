-- The derived order of keys is that of their bytes.
use Rattle.std.proofs.Common.{◌≡◌, ◌∙◌, ℕ, ◌/◌, ◌%◌, ◌^◌, ◌<◌, List, [], ◌∷◌, ◌++◌, length, length-append, refl, sym, ap, ap₂, arith, Ordering, Less, Equal, Greater, nat_cmp}
use Rattle.std.proofs.lemmas.Bool.Decides.{nat_tests}
use Rattle.std.specs.Cmp.Lexicographic.{slice_cmp}
use Rattle.std.specs.Int.{to_be_bytes, w16, w32}
use Rattle.std.specs.Ordering.{ordering_then}
use Rattle.packet_key.specs.declared.key.FlowKey.{FlowKey}
use Rattle.packet_key.specs.declared.key.FlowKey.TheVariants.{V4, V6}
use Rattle.packet_key.specs.contracts.key.FlowKeyOrd.TheImpl.{ghosts}
use Rattle.packet_key.specs.KeyBytes.{tail_of}
use Rattle.packet_key.specs.KeyText.{IsKey}
use Rattle.packet_key.specs.KeyOrder.{key_order}

then_assoc : (o p q : Ordering) → ordering_then (ordering_then o p) q ≡ ordering_then o (ordering_then p q)
then_assoc Less p q = refl
then_assoc Equal p q = refl
then_assoc Greater p q = refl

then_equal : (o : Ordering) → ordering_then o Equal ≡ o
then_equal Less = refl
then_equal Equal = refl
then_equal Greater = refl

-- the front decides first
slice_cmp-append : (xs xs₂ ys ys₂ : List ℕ) → length xs ≡ length xs₂
    → slice_cmp nat_cmp (xs ++ ys) (xs₂ ++ ys₂) ≡ ordering_then (slice_cmp nat_cmp xs xs₂) (slice_cmp nat_cmp ys ys₂)
slice_cmp-append [] [] ys ys₂ same = refl
slice_cmp-append [] (y ∷ xs₂) ys ys₂ same = absurd (omega arith)
slice_cmp-append (x ∷ xs) [] ys ys₂ same = absurd (omega arith)
slice_cmp-append (x ∷ xs) (y ∷ xs₂) ys ys₂ same =
    ap (ordering_then (nat_cmp x y)) (slice_cmp-append xs xs₂ ys ys₂ (omega arith)) ∙ sym (then_assoc (nat_cmp x y) _ _)

-- the last byte decides last
nat_cmp-byte : (x y : ℕ) → nat_cmp x y ≡ ordering_then (nat_cmp (x / 256) (y / 256)) (nat_cmp (x % 256) (y % 256))
nat_cmp-byte x y = grind (arith, nat_tests)

slice_cmp-two : (x y : ℕ) → x < 2 ^ 16 → y < 2 ^ 16 → slice_cmp nat_cmp (to_be_bytes w16 x) (to_be_bytes w16 y) ≡ nat_cmp x y
slice_cmp-two x y small too =
    let high : x / 256 % 256 ≡ x / 256 = omega arith in
    let other : y / 256 % 256 ≡ y / 256 = omega arith in
    rw (high, other) (ap (ordering_then (nat_cmp (x / 256) (y / 256))) (then_equal _) ∙ sym (nat_cmp-byte x y))

four_thens : (p q r s : Ordering) → ordering_then p (ordering_then q (ordering_then r (ordering_then s Equal)))
    ≡ ordering_then (ordering_then (ordering_then p q) r) s
four_thens Less q r s = refl
four_thens Greater q r s = refl
four_thens Equal Less r s = refl
four_thens Equal Greater r s = refl
four_thens Equal Equal Less s = refl
four_thens Equal Equal Greater s = refl
four_thens Equal Equal Equal s = then_equal s

slice_cmp-four : (x y : ℕ) → x < 2 ^ 32 → y < 2 ^ 32 → slice_cmp nat_cmp (to_be_bytes w32 x) (to_be_bytes w32 y) ≡ nat_cmp x y
slice_cmp-four x y small too =
    let first : x / 16777216 % 256 ≡ x / 256 / 256 / 256 = omega arith in
    let second : x / 65536 % 256 ≡ x / 256 / 256 % 256 = omega arith in
    let first₂ : y / 16777216 % 256 ≡ y / 256 / 256 / 256 = omega arith in
    let second₂ : y / 65536 % 256 ≡ y / 256 / 256 % 256 = omega arith in
    let last = nat_cmp-byte x y in
    let third = nat_cmp-byte (x / 256) (y / 256) in
    let front = nat_cmp-byte (x / 256 / 256) (y / 256 / 256) in
    let low = nat_cmp (x % 256) (y % 256) in
    let next = nat_cmp (x / 256 % 256) (y / 256 % 256) in
    rw (first, second, first₂, second₂)
    (four_thens (nat_cmp (x / 256 / 256 / 256) (y / 256 / 256 / 256)) (nat_cmp (x / 256 / 256 % 256) (y / 256 / 256 % 256)) next low
    ∙ ap (λ o. ordering_then (ordering_then o next) low) (sym front)
    ∙ ap (λ o. ordering_then o low) (sym third)
    ∙ sym last)

-- three parts, of which the first two are as long
slice_cmp-parts : (a a₂ b b₂ t t₂ : List ℕ) → length a ≡ length a₂ → length b ≡ length b₂
    → slice_cmp nat_cmp ((a ++ b) ++ t) ((a₂ ++ b₂) ++ t₂)
    ≡ ordering_then (slice_cmp nat_cmp a a₂) (ordering_then (slice_cmp nat_cmp b b₂) (slice_cmp nat_cmp t t₂))
slice_cmp-parts a a₂ b b₂ t t₂ same too =
    slice_cmp-append (a ++ b) (a₂ ++ b₂) t t₂ (simp length-append (omega arith))
    ∙ ap (λ o. ordering_then o (slice_cmp nat_cmp t t₂)) (slice_cmp-append a a₂ b b₂ same)
    ∙ then_assoc (slice_cmp nat_cmp a a₂) (slice_cmp nat_cmp b b₂) (slice_cmp nat_cmp t t₂)

slice_cmp-tail : (c c₂ d d₂ e e₂ : ℕ) → c < 2 ^ 16 → c₂ < 2 ^ 16 → d < 2 ^ 16 → d₂ < 2 ^ 16
    → slice_cmp nat_cmp (tail_of c d e) (tail_of c₂ d₂ e₂) ≡ ordering_then (nat_cmp c c₂) (ordering_then (nat_cmp d d₂) (nat_cmp e e₂))
slice_cmp-tail c c₂ d d₂ e e₂ fits fits₂ small small₂ =
    slice_cmp-parts (to_be_bytes w16 c) (to_be_bytes w16 c₂) (to_be_bytes w16 d) (to_be_bytes w16 d₂) (e ∷ []) (e₂ ∷ []) refl refl
    ∙ ap₂ ordering_then (slice_cmp-two c c₂ fits fits₂) (ap₂ ordering_then (slice_cmp-two d d₂ small small₂) (then_equal (nat_cmp e e₂)))

-- `cmp` of the derived `Ord`
pub cmp_is_order : (k l : FlowKey) → IsKey k → IsKey l → ghosts.cmp k l ≡ key_order k l
cmp_is_order (V4 a b c d e) (V4 a₂ b₂ c₂ d₂ e₂) is too = sym
    (slice_cmp-parts (to_be_bytes w32 a) (to_be_bytes w32 a₂) (to_be_bytes w32 b) (to_be_bytes w32 b₂) (tail_of c d e) (tail_of c₂ d₂ e₂) refl refl
    ∙ ap₂ ordering_then (slice_cmp-four a a₂ is.0 too.0) (ap₂ ordering_then (slice_cmp-four b b₂ is.1 too.1)
    (slice_cmp-tail c c₂ d d₂ e e₂ is.2 too.2 is.3 too.3)))
cmp_is_order (V4 a b c d e) (V6 a₂ b₂ c₂ d₂ e₂) is too = refl
cmp_is_order (V6 a b c d e) (V4 a₂ b₂ c₂ d₂ e₂) is too = refl
cmp_is_order (V6 a b c d e) (V6 a₂ b₂ c₂ d₂ e₂) is too = sym
    (slice_cmp-parts a a₂ b b₂ (tail_of c d e) (tail_of c₂ d₂ e₂) (is.0.len ∙ sym too.0.len) (is.1.len ∙ sym too.1.len)
    ∙ ap (λ o. ordering_then (slice_cmp nat_cmp a a₂) (ordering_then (slice_cmp nat_cmp b b₂) o))
    (slice_cmp-tail c c₂ d d₂ e e₂ is.2 too.2 is.3 too.3))
