-- What the text of a network says.
use Rattle.std.proofs.Common.{◌≡◌, ◌∙◌, ℕ, ◌-◌, ◌%◌, ◌^◌, ◌<◌, true, true≢false, List, [], ◌∷◌, ◌++◌, length, get_or, decimal, All, Option, Result, Ok, refl, sym, ap, subst, inl, inr, arith, append_assoc, length-append}
use Rattle.std.proofs.lemmas.Bool.{cases_lt}
use Rattle.std.proofs.lemmas.Bool.Decides.{nat_tests}
use Rattle.std.proofs.lemmas.Fmt.{decimal_injective, decimal_is_IsNumeral, parse-decimal}
use Rattle.std.specs.Str.Parse.{ParsesUnsigned}
use Rattle.std.proofs.lemmas.List.{get_or_past}
use Rattle.std.proofs.lemmas.List.Elements.{All-nil, All-cons, All-append, All-from_get_or, All-weaker}
use Rattle.std.proofs.lemmas.Nat.{from_be_bytes-to_be_bytes_4}
use Rattle.std.proofs.lemmas.Str.Parse.{digit_at}
use Rattle.std.proofs.lemmas.Str.Pattern.{IsSplitOnceResult, split_after}
use Rattle.std.proofs.NetLemmas.Alphabet.{IsDigitOrDot, All-ipv4_text}
use Rattle.std.proofs.NetLemmas.Texts.{IsDotted-ipv4_text}
use Rattle.std.proofs.NetLemmas.Theorems.{Parses_gives, IsIpv4Text_unique}
use Rattle.std.specs.Borrow.{Bor}
use Rattle.std.specs.Int.{IsInRange, to_be_bytes, w32}
use Rattle.std.specs.Net.Addr.{ipv4_bits}
use Rattle.std.specs.Net.Grammar.{Parses, IsIpv4Text}
use Rattle.std.specs.Net.Text.{ipv4_text}
use Rattle.std.proofs.lemmas.List.Splits.{slice_split_at, slice_split_none}
use Rattle.std.specs.List.{slice_split}
use Rattle.std.specs.Option.{MatchOption}
use Rattle.std.specs.Prelude.{◌==◌, false, Some}
use Rattle.std.specs.Str.{IsAscii}
use Rattle.std.specs.declared.net.ipv4_addr.Ipv4Addr.{Ipv4Addr}
use Rattle.packet_key.specs.Alphabet.{IsOf, Lacks}
use Rattle.prefixes.specs.declared.network.Prefix.{Prefix}
use Rattle.prefixes.specs.Networks.{IsLength, IsNetwork, addresses_in, network_of}
use Rattle.prefixes.specs.Texts.{is_text_byte, prefix_text}

module _ {E : Type 0} where
  pub parsed_address : (text : List ℕ) (a : Ipv4Addr) (r : Result Ipv4Addr E) → Parses IsIpv4Text text r → IsIpv4Text text a → r ≡ Ok a
  parsed_address text a r parsed spelled = Parses_gives IsIpv4Text text a r (IsIpv4Text_unique text) spelled parsed

  pub parsed_number : (text : List ℕ) (n : ℕ) (r : Result ℕ E) → ParsesUnsigned 32 10 text r → n < 2 ^ 32 → text ≡ decimal n → r ≡ Ok n
  parsed_number text n r parsed small spelled = parse-decimal 32 n text r (omega arith) (omega arith) spelled parsed

octets_fit : (n k : ℕ) → get_or (to_be_bytes w32 n) k 0 < 256
octets_fit n k = grind arith

-- a network's address
abbrev pub address_of : Prefix → Ipv4Addr
address_of p = record { octets = to_be_bytes w32 p.bits }

-- its text
abbrev pub address_text : Prefix → List ℕ
address_text p = ipv4_text (to_be_bytes w32 p.bits)

pub spells_address : (p : Prefix) → IsIpv4Text (address_text p) (address_of p)
spells_address p = IsDotted-ipv4_text (to_be_bytes w32 p.bits) refl (octets_fit p.bits)

pub bits_of_address : (p : Prefix) → p.bits < 2 ^ 32 → ipv4_bits (address_of p) ≡ p.bits
unfolding ipv4_bits
bits_of_address p fits = from_be_bytes-to_be_bytes_4 p.bits fits

-- a network is that of its own address
pub own_network : (p : Prefix) → IsNetwork p → network_of p.length p.bits ≡ p
unfolding network_of
own_network p is = let same : p.bits - p.bits % addresses_in p.length ≡ p.bits = omega (arith, is.rest) in λ i. record { bits = same i; length = p.length }

abbrev TextByte : ℕ → Type 0
TextByte b = is_text_byte b ≡ true

of_address : (b : ℕ) → IsDigitOrDot b → TextByte b
of_address b is = grind (arith, nat_tests)

of_digit : (b : ℕ) → IsInRange 48 57 b → TextByte b
of_digit b is = grind (arith, nat_tests)

All-decimal : (n : ℕ) → n < 2 ^ 16 → All TextByte (decimal n)
All-decimal n fits = All-from_get_or TextByte (decimal n) 0 (λ i h. of_digit _ (digit_at (decimal n) i (decimal_is_IsNumeral n (omega arith)).0.1 h))

length_fits : (p : Prefix) → IsNetwork p → p.length < 2 ^ 16
length_fits p is = grind (arith, is.length)

-- the bytes of a network's text
pub IsOf-prefix_text : (p : Prefix) → IsNetwork p → IsOf is_text_byte (prefix_text p)
unfolding prefix_text
IsOf-prefix_text p is =
    let address = All-weaker IsDigitOrDot TextByte of_address (address_text p) (All-ipv4_text (to_be_bytes w32 p.bits) (octets_fit p.bits)) in
    let front = All-append TextByte _ (47 ∷ []) address (All-cons TextByte 47 [] refl (All-nil TextByte)) in
    All-append TextByte _ _ front (All-decimal p.length (length_fits p is))

-- a byte of another sort stands in no network's text
pub Lacks-prefix_text : (byte : ℕ) → is_text_byte byte ≡ false → (p : Prefix) → IsNetwork p → Lacks byte (prefix_text p)
Lacks-prefix_text byte other p is i d lt same = true≢false (sym (IsOf-prefix_text p is i d lt) ∙ ap is_text_byte same ∙ other)

below : (b : ℕ) → is_text_byte b ≡ true → b < 128
below b is = grind (arith, nat_tests)

pub IsAscii-prefix_text : (p : Prefix) → IsNetwork p → IsAscii (prefix_text p)
IsAscii-prefix_text p is i =
    elim (cases_lt i (length (prefix_text p))) [
      | inl inside ↦ below _ (IsOf-prefix_text p is i 0 inside)
      | inr past ↦ rw (get_or_past (prefix_text p) i 0 past) (omega arith)
    ]

pub length-prefix_text : (p : Prefix) → 0 < length (prefix_text p)
unfolding prefix_text
length-prefix_text p = simp length-append (omega arith)

no_slash : (b : ℕ) → IsDigitOrDot b → b ≡ 47 → ⊥
no_slash b is same = grind (arith, is, same)

address_lacks : (p : Prefix) → Lacks 47 (address_text p)
address_lacks p = All-weaker IsDigitOrDot (λ b. b ≡ 47 → ⊥) no_slash (address_text p) (All-ipv4_text (to_be_bytes w32 p.bits) (octets_fit p.bits))

text_cut : (p : Prefix) → prefix_text p ≡ address_text p ++ (47 ∷ decimal p.length)
unfolding prefix_text
text_cut p = append_assoc (address_text p) (47 ∷ []) (decimal p.length)

-- at `/` stand the address and the length
pub split_text : (p : Prefix) → (text : List ℕ) → text ≡ prefix_text p
    → (r : Option (Bor (List ℕ) × Bor (List ℕ))) → IsSplitOnceResult 47 text r
    → MatchOption r ⊥ (λ x. (x.0.now ≡ address_text p) × (x.1.now ≡ decimal p.length))
split_text p text same r cut =
    split_after 47 text (address_text p) (decimal p.length) r cut (omega arith)
    (same ∙ text_cut p) (λ i lt. address_lacks p i 0 lt)

not_equal : (x k : ℕ) → (x ≡ k → ⊥) → (x == k) ≡ false
not_equal x k e = grind arith

no_slashes : (xs : List ℕ) → Lacks 47 xs → All (λ b. (b == 47) ≡ false) xs
no_slashes xs lacks = All-weaker (λ b. b ≡ 47 → ⊥) (λ b. (b == 47) ≡ false) (λ b. not_equal b 47) xs lacks

digit_is_none : (b : ℕ) → IsInRange 48 57 b → (b == 47) ≡ false
digit_is_none b is = grind (arith, nat_tests)

-- the pieces of a network's text
abbrev pieces : List ℕ → List (List ℕ)
pieces text = slice_split (λ b. b == 47) text

text_pieces : (p : Prefix) → IsNetwork p → pieces (prefix_text p) ≡ address_text p ∷ decimal p.length ∷ []
text_pieces p is =
    let small = length_fits p is in
    let digits : All (λ b. (b == 47) ≡ false) (decimal p.length) = All-from_get_or (λ b. (b == 47) ≡ false) (decimal p.length) 0 (λ i h. digit_is_none _ (digit_at (decimal p.length) i (decimal_is_IsNumeral p.length (omega arith)).0.1 h)) in
    ap pieces (text_cut p)
    ∙ slice_split_at _ (address_text p) 47 (decimal p.length) (no_slashes (address_text p) (address_lacks p)) refl
    ∙ ap (λ (ts : List (List ℕ)). address_text p ∷ ts) (slice_split_none _ (decimal p.length) digits)

-- two networks of one text are one network
pub one_network : (p q : Prefix) → IsNetwork p → IsNetwork q → prefix_text p ≡ prefix_text q → p ≡ q
one_network p q is too same =
    let parts : address_text p ∷ decimal p.length ∷ [] ≡ address_text q ∷ decimal q.length ∷ [] = sym (text_pieces p is) ∙ ap pieces same ∙ text_pieces q too in
    let addresses : address_text p ≡ address_text q = cc in
    let numbers : decimal p.length ≡ decimal q.length = cc in
    let spelled = subst (λ t. IsIpv4Text t (address_of q)) (sym addresses) (spells_address q) in
    let address = IsIpv4Text_unique (address_text p) (address_of p) (address_of q) (spells_address p) spelled in
    let bits : p.bits ≡ q.bits = sym (bits_of_address p is.fits) ∙ ap ipv4_bits address ∙ bits_of_address q too.fits in
    let small = length_fits p is in
    let small₂ = length_fits q too in
    let lengths : p.length ≡ q.length = decimal_injective _ _ (omega arith) (omega arith) numbers in
    λ i. record { bits = bits i; length = lengths i }

pub same_some : {A : Type 0} {a b : A} → Some a ≡ Some b → a ≡ b
same_some {A} {a} {b} same = cc

-- the network of a network's own numbers
pub same_network : (p : Prefix) → IsNetwork p → (bits length : ℕ) → bits ≡ p.bits → length ≡ p.length
    → (found : Prefix) → found ≡ network_of length bits → found ≡ p
same_network p is bits length same_bits same_length found made = made ∙ (λ i. network_of (same_length i) (same_bits i)) ∙ own_network p is

pub length_fits_32 : (n : ℕ) → IsLength n → n < 2 ^ 32
length_fits_32 n is = grind (arith, is)
