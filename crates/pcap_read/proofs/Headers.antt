-- What a header is refused for doesn't depend on the bytes behind.
use Rattle.std.proofs.Common.{◌≡◌, ℕ, ◌+◌, ◌-◌, ◌≤◌, ◌<◌, ◌==◌, ◌&&◌, not, List, ◌++◌, length, take, Option, Some, None, Bool, true, false, refl, sym, ap, ◌∙◌, arith, length-append, nat_lt, if◌then◌else◌}
use Rattle.std.proofs.lemmas.List.{take-append-le, take_all}
use Rattle.std.proofs.Math.Seq.{take-append-add}
use Rattle.byteorder.specs.Endian.{big_number}
use Rattle.byteorder.specs.Numbers.{big_from-append}
use Rattle.pcap_read.specs.Header.{number_at, order_of, link_of, refusal_in, header_refusal}
use Rattle.pcap_read.proofs.Numbers.{number_at_append}
use Rattle.pcap_read.specs.declared.bad.Bad.{Bad}
use Rattle.pcap_read.specs.declared.bad.Bad.TheVariants.{BadVersion, NotEthernet}
use Rattle.pcap_read.specs.declared.bad.Order.{Order}

-- four tests, one after the other
abbrev chain : Bool → Bool → Bad → Bool → Bool → Bad → Option Bad
chain early wrong p short other q = if early then None else if wrong then Some p else if short then None else if other then Some q else None

chain_stays : (s v r l t w u m : Bool) (p q a b bad : Bad) → (s ≡ false → (t ≡ false) × (w ≡ v) × (a ≡ p)) → (r ≡ false → (u ≡ false) × (m ≡ l) × (b ≡ q))
    → chain s v p r l q ≡ Some bad → chain t w a u m b ≡ Some bad
chain_stays true v r l t w u m p q a b bad f g e = absurd (cc)
chain_stays false true r l t w u m p q a b bad f g e = let h = f refl in rw (h.0, h.1) (ap Some h.2 ∙ e)
chain_stays false false true l t w u m p q a b bad f g e = absurd (cc)
chain_stays false false false l t w u m p q a b bad f g e = let h = f refl in let k = g refl in rw (h.0, h.1, k.0, k.1, k.2) e

not_short : (b x : List ℕ) (n : ℕ) → nat_lt (length b) n ≡ false → (n ≤ length b) × (nat_lt (length (b ++ x)) n ≡ false)
not_short b x n e =
    let long : n ≤ length b = grind arith in
    let more : n ≤ length (b ++ x) = omega (arith, long, length-append b x) in
    (long, grind arith)

refusal_in_stays : (o : Option Order) (b x : List ℕ) (bad : Bad) → 4 ≤ length b → refusal_in o b ≡ Some bad → refusal_in o (b ++ x) ≡ Some bad
unfolding refusal_in
refusal_in_stays None b x bad long refused = rw (big_from-append 4 b x long) refused
refusal_in_stays (Some order) b x bad long refused =
    chain_stays (nat_lt (length b) 8) (not (number_at order 2 b 4 == 2 && number_at order 2 b 6 == 4)) (nat_lt (length b) 24) (not (link_of order b == 1))
    (nat_lt (length (b ++ x)) 8) (not (number_at order 2 (b ++ x) 4 == 2 && number_at order 2 (b ++ x) 6 == 4)) (nat_lt (length (b ++ x)) 24) (not (link_of order (b ++ x) == 1))
    (BadVersion (number_at order 2 b 4) (number_at order 2 b 6)) (NotEthernet (link_of order b))
    (BadVersion (number_at order 2 (b ++ x) 4) (number_at order 2 (b ++ x) 6)) (NotEthernet (link_of order (b ++ x))) bad
    (λ e.
    let long = not_short b x 8 e in
    let major = number_at_append order 2 b x 4 (omega (arith, long.0)) in
    let minor = number_at_append order 2 b x 6 (omega (arith, long.0)) in
    (long.1, rw (major, minor) refl, rw (major, minor) refl))
    (λ e.
    let long = not_short b x 24 e in
    let link = number_at_append order 4 b x 20 (omega (arith, long.0)) in
    (long.1, rw link refl, rw link refl))
    refused

stays_by : (b x : List ℕ) (bad : Bad) (s : Bool) → nat_lt (length b) 4 ≡ s → (if s then None else refusal_in (order_of (big_number 4 b)) b) ≡ Some bad
    → (if nat_lt (length (b ++ x)) 4 then None else refusal_in (order_of (big_number 4 (b ++ x))) (b ++ x)) ≡ Some bad
stays_by b x bad true e refused = absurd (cc)
stays_by b x bad false e refused =
    let long = not_short b x 4 e in
    let same : big_number 4 (b ++ x) ≡ big_number 4 b = big_from-append 4 b x long.0 in
    rw (long.1, same) (refusal_in_stays (order_of (big_number 4 b)) b x bad long.0 refused)

pub header_refusal_stays : (b x : List ℕ) (bad : Bad) → header_refusal b ≡ Some bad → header_refusal (b ++ x) ≡ Some bad
unfolding header_refusal
header_refusal_stays b x bad refused = stays_by b x bad (nat_lt (length b) 4) refl refused

front_by : (b x : List ℕ) (bad : Bad) (s : Bool) → nat_lt (length b) 24 ≡ s → header_refusal (take 24 b) ≡ Some bad → header_refusal (take 24 (b ++ x)) ≡ Some bad
front_by b x bad true e refused =
    let short : length b < 24 = grind arith in
    let all : take 24 b ≡ b = take_all 24 b (omega (arith, short)) in
    let same : header_refusal b ≡ header_refusal (take 24 b) = ap header_refusal (sym all) in
    let size : length b + (24 - length b) ≡ 24 = omega (arith, short) in
    let front : take 24 (b ++ x) ≡ b ++ take (24 - length b) x = ap (λ (n : ℕ). take n (b ++ x)) (sym size) ∙ take-append-add b x (24 - length b) in
    ap header_refusal front ∙ header_refusal_stays b (take (24 - length b) x) bad (same ∙ refused)
front_by b x bad false e refused =
    let long : 24 ≤ length b = grind arith in
    ap header_refusal (take-append-le 24 b x long) ∙ refused

-- a refusal that stands in the front of a header stands with more bytes behind
pub front_stays : (b x : List ℕ) (bad : Bad) → header_refusal (take 24 b) ≡ Some bad → header_refusal (take 24 (b ++ x)) ≡ Some bad
front_stays b x bad refused = front_by b x bad (nat_lt (length b) 24) refl refused
