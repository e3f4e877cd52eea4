-- The children of networks are networks, and each network is a child of the one that is 8 bits shorter.
use Rattle.std.proofs.Common.{◌≡◌, ◌∙◌, ◌<◌, ◌+◌, ◌-◌, ◌*◌, ◌/◌, ◌%◌, ◌^◌, ℕ, length, refl, sym, ap, subst, inl, inr, arith, All}
use Rattle.std.specs.List.{Contains}
use Rattle.std.proofs.lemmas.List.FromFn.{get_or-map-range_with_len, length-map-range_with_len}
use Rattle.prefixes.specs.declared.network.Prefix.{Prefix}
use Rattle.prefixes.specs.Networks.{IsLength, IsNetwork, addresses_in, network_of}
use Rattle.prefix_stack.specs.Descent.{IsParent, child_of, children_of, everything}

-- how many addresses are in a network of each length
pub in_0 : addresses_in 0 ≡ 4294967296
unfolding addresses_in
in_0 = refl

pub in_8 : addresses_in 8 ≡ 16777216
unfolding addresses_in
in_8 = refl

pub in_16 : addresses_in 16 ≡ 65536
unfolding addresses_in
in_16 = refl

pub in_24 : addresses_in 24 ≡ 256
unfolding addresses_in
in_24 = refl

pub in_32 : addresses_in 32 ≡ 1
unfolding addresses_in
in_32 = refl

-- the sizes of a parent and its children, and that of all addresses
pub record Sizes (above below : ℕ) : Type 0 where
  pub whole : (bits k : ℕ) → bits < 2 ^ 32 → bits % above ≡ 0 → k < 256 → (bits + k * below < 2 ^ 32) × ((bits + k * below) % below ≡ 0)
  pub above_of : (bits : ℕ) → (bits - bits % above) % above ≡ 0
  pub number : (bits : ℕ) → bits < 2 ^ 32 → bits % below ≡ 0 → (bits % above / below < 256) × ((bits - bits % above) + bits % above / below * below ≡ bits)
  pub parent : (source bits : ℕ) → source - source % below ≡ bits → source - source % above ≡ bits - bits % above

sizes_8 : Sizes 4294967296 16777216
sizes_8 = record {
  whole = λ bits k fits rest few. (omega arith, omega arith);
  above_of = λ bits. omega arith;
  number = λ bits fits rest. (omega arith, omega arith);
  parent = λ source bits same. omega arith;
}

sizes_16 : Sizes 16777216 65536
sizes_16 = record {
  whole = λ bits k fits rest few. (omega arith, omega arith);
  above_of = λ bits. omega arith;
  number = λ bits fits rest. (omega arith, omega arith);
  parent = λ source bits same. omega arith;
}

sizes_24 : Sizes 65536 256
sizes_24 = record {
  whole = λ bits k fits rest few. (omega arith, omega arith);
  above_of = λ bits. omega arith;
  number = λ bits fits rest. (omega arith, omega arith);
  parent = λ source bits same. omega arith;
}

sizes_32 : Sizes 256 1
sizes_32 = record {
  whole = λ bits k fits rest few. (omega arith, omega arith);
  above_of = λ bits. omega arith;
  number = λ bits fits rest. (omega arith, omega arith);
  parent = λ source bits same. omega arith;
}

-- those of networks of this length
pub sizes_at : (length shorter : ℕ) → IsLength length → shorter + 8 ≡ length → Sizes (addresses_in shorter) (addresses_in length)
sizes_at length shorter (inl is) next =
    let above : addresses_in shorter ≡ 4294967296 = ap addresses_in (omega arith) ∙ in_0 in
    let below : addresses_in length ≡ 16777216 = ap addresses_in is ∙ in_8 in
    subst (λ a. Sizes a (addresses_in length)) (sym above) (subst (Sizes 4294967296) (sym below) sizes_8)
sizes_at length shorter (inr (inl is)) next =
    let above : addresses_in shorter ≡ 16777216 = ap addresses_in (omega arith) ∙ in_8 in
    let below : addresses_in length ≡ 65536 = ap addresses_in is ∙ in_16 in
    subst (λ a. Sizes a (addresses_in length)) (sym above) (subst (Sizes 16777216) (sym below) sizes_16)
sizes_at length shorter (inr (inr (inl is))) next =
    let above : addresses_in shorter ≡ 65536 = ap addresses_in (omega arith) ∙ in_16 in
    let below : addresses_in length ≡ 256 = ap addresses_in is ∙ in_24 in
    subst (λ a. Sizes a (addresses_in length)) (sym above) (subst (Sizes 65536) (sym below) sizes_24)
sizes_at length shorter (inr (inr (inr is))) next =
    let above : addresses_in shorter ≡ 256 = ap addresses_in (omega arith) ∙ in_24 in
    let below : addresses_in length ≡ 1 = ap addresses_in is ∙ in_32 in
    subst (λ a. Sizes a (addresses_in length)) (sym above) (subst (Sizes 256) (sym below) sizes_32)

-- the numbers of a child, whose length is the one given
pub child_numbers : (length : ℕ) (p : Prefix) (k : ℕ) → IsParent length p → k < 256
    → (p.bits + k * addresses_in length < 2 ^ 32) × ((p.bits + k * addresses_in length) % addresses_in length ≡ 0)
child_numbers length p k is few = (sizes_at length p.length is.lawful is.shorter).whole p.bits k is.fits is.rest few

pub child_is_network : (length : ℕ) (p : Prefix) (k : ℕ) → IsParent length p → k < 256 → IsNetwork (child_of p k)
unfolding child_of
child_is_network length p k is few =
    let numbers = subst (λ n. (p.bits + k * addresses_in n < 2 ^ 32) × ((p.bits + k * addresses_in n) % addresses_in n ≡ 0)) (sym is.shorter) (child_numbers length p k is few) in
    record { length = subst IsLength (sym is.shorter) is.lawful; fits = numbers.0; rest = numbers.1 }

-- a network of the length
pub record IsOfLength (length : ℕ) (p : Prefix) : Type 0 where
  pub network : IsNetwork p
  pub at_length : p.length ≡ length

pub children_are : (length : ℕ) (p : Prefix) → IsParent length p → All (IsOfLength length) (children_of p)
unfolding children_of child_of
children_are length p is i d lt =
    let few : i < 256 = omega (arith, lt, length-map-range_with_len (child_of p) 0 256) in
    let at = get_or-map-range_with_len (child_of p) 0 256 i i d few (omega arith) in
    subst (IsOfLength length) (sym at) (record { network = child_is_network length p i is few; at_length = is.shorter })

-- the network that is 8 bits shorter
abbrev pub parent_of : ℕ → Prefix → Prefix
parent_of shorter p = network_of shorter p.bits

-- each network is a child of that
pub child_of_parent : (length shorter : ℕ) (p : Prefix) → IsNetwork p → p.length ≡ length → shorter + 8 ≡ length → Contains (children_of (parent_of shorter p)) p
unfolding children_of child_of network_of
child_of_parent length shorter p is at next =
    let lawful : IsLength length = subst IsLength at is.length in
    let sizes = sizes_at length shorter lawful next in
    let rest : p.bits % addresses_in length ≡ 0 = subst (λ n. p.bits % addresses_in n ≡ 0) at is.rest in
    let number = sizes.number p.bits is.fits rest in
    let k = p.bits % addresses_in shorter / addresses_in length in
    let bits : (p.bits - p.bits % addresses_in shorter) + k * addresses_in (shorter + 8) ≡ p.bits = ap (λ n. (p.bits - p.bits % addresses_in shorter) + k * addresses_in n) next ∙ number.1 in
    let long : shorter + 8 ≡ p.length = next ∙ sym at in
    let same : child_of (parent_of shorter p) k ≡ p = λ i. record { bits = bits i; length = long i } in
    (k, omega (arith, number.0, length-map-range_with_len (child_of (parent_of shorter p)) 0 256), get_or-map-range_with_len (child_of (parent_of shorter p)) 0 256 k k p number.0 (omega arith) ∙ same)

-- the network that is 8 bits shorter, where its length is one of the four
pub parent_is_network : (length shorter : ℕ) (p : Prefix) → IsNetwork p → p.length ≡ length → shorter + 8 ≡ length → IsLength shorter → IsNetwork (parent_of shorter p)
unfolding network_of
parent_is_network length shorter p is at next lawful =
    let sizes = sizes_at length shorter (subst IsLength at is.length) next in
    record { length = lawful; fits = omega (arith, is.fits); rest = sizes.above_of p.bits }

-- 32 bits that may all differ
pub parent_is_everything : (p : Prefix) → IsNetwork p → parent_of 0 p ≡ everything
unfolding network_of
parent_is_everything p is = let none : p.bits - p.bits % addresses_in 0 ≡ 0 = rw in_0 (omega (arith, is.fits)) in λ i. record { bits = none i; length = 0 }
