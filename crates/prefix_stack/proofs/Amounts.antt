-- What the packets of networks amount to.
use Rattle.std.proofs.Common.{◌≡◌, ◌∙◌, ◌<◌, ◌≤◌, ◌+◌, ◌-◌, ◌%◌, ◌^◌, ◌==◌, ◌≤ℤ◌, ℕ, pos, Bool, true, false, List, [], ◌∷◌, ◌++◌, length, take, get_or, refl, sym, ap, subst, arith}
use Rattle.std.specs.Prelude.{sum_by, if◌then◌else◌}
use Rattle.std.specs.List.{flat_map}
use Rattle.std.proofs.lemmas.Bool.{eq-eqb, eqb-true}
use Rattle.std.proofs.lemmas.Int.{ints}
use Rattle.std.proofs.lemmas.List.Sums.{sum_by-append, sum_by-cons, sum_by-le-sum_by}
use Rattle.std.proofs.lemmas.List.{append-nil, take_more}
use Rattle.std.proofs.lemmas.List.Concat.{flat_map-append}
use Rattle.packet_key.specs.declared.key.FlowKey.{FlowKey}
use Rattle.packet_key.specs.declared.key.FlowKey.TheVariants.{V4, V6}
use Rattle.packet_key.specs.Keys.{same_key}
use Rattle.packet_key.proofs.EqualKeys.{eq-same_key}
use Rattle.hash_rows.specs.Amounts.{key_amount, total_amount}
use Rattle.hash_rows.specs.declared.shape.Packet.{Packet}
use Rattle.hash_rows.specs.declared.shape.Shape.{Shape}
use Rattle.hash_rows.specs.Sequential.{sequential_table}
use Rattle.hash_rows.specs.Shapes.{IsShape}
use Rattle.count_min.proofs.NeverBelow.{never_below}
use Rattle.prefixes.specs.declared.network.Prefix.{Prefix}
use Rattle.prefixes.specs.Networks.{IsLength, addresses_in, network_of, prefix_key}
use Rattle.prefix_stack.specs.Descent.{hit_by}
use Rattle.prefix_stack.proofs.Candidates.{parent_of, sizes_at}
use Rattle.prefix_stack.specs.Levels.{is_from, level_packets, level_table, network_amount, network_packets, packet_from}

-- what a packet adds to its own key at a level
key_part : FlowKey → Packet → ℕ
key_part key packet = if same_key packet.key key then packet.amount else 0

part_least : (p : Prefix) (packet : Packet) → (if is_from p packet.key then packet.amount else 0) ≤ sum_by (λ q. if same_key q.key (prefix_key p) then q.amount else 0) (network_packets p.length packet)
unfolding network_packets network_of
part_least p packet = by_key packet.key packet.amount where
  by_key : (key : FlowKey) (amount : ℕ) → (if is_from p key then amount else 0) ≤ sum_by (λ q. if same_key q.key (prefix_key p) then q.amount else 0) (network_packets p.length (record { key = key; amount = amount }))
  by_key (V6 src dst sport dport proto) amount = omega arith
  by_key (V4 src dst sport dport proto) amount = by_test ((network_of p.length src).bits == p.bits) refl where
    by_test : (b : Bool) → ((network_of p.length src).bits == p.bits) ≡ b → (if b then amount else 0) ≤ sum_by (λ q. if same_key q.key (prefix_key p) then q.amount else 0) (packet_from p.length amount src ∷ [])
    by_test false other = omega arith
    by_test true same =
        let bits : (network_of p.length src).bits ≡ p.bits = eqb-true (network_of p.length src).bits p.bits same in
        let keys : prefix_key (network_of p.length src) ≡ prefix_key p = ap (λ n. V4 n 0 0 0 p.length) bits in
        rw (eq-same_key _ _ keys) (omega arith)

-- the packets of a network's own key are at least its packets
pub amount_least : (packets : List Packet) (p : Prefix) → network_amount packets p ≤ key_amount (level_packets p.length packets) (prefix_key p)
unfolding network_amount key_amount level_packets
amount_least [] p = omega arith
amount_least (packet ∷ packets) p =
    let part = λ (q : Packet). if same_key q.key (prefix_key p) then q.amount else 0 in
    let first = part_least p packet in
    let rest : sum_by (λ q. if is_from p q.key then q.amount else 0) packets ≤ sum_by part (flat_map (network_packets p.length) packets) = amount_least packets p in
    let left = sum_by-cons (λ q. if is_from p q.key then q.amount else 0) packet packets in
    let right = sum_by-append part (network_packets p.length packet) (flat_map (network_packets p.length) packets) in
    omega (arith, first, rest, left, right)

-- no more than all packets
part_most : (length : ℕ) (packet : Packet) → sum_by (λ q. q.amount) (network_packets length packet) ≤ packet.amount
unfolding network_packets
part_most length packet = by_key packet.key packet.amount where
  by_key : (key : FlowKey) (amount : ℕ) → sum_by (λ q. q.amount) (network_packets length (record { key = key; amount = amount })) ≤ amount
  by_key (V6 src dst sport dport proto) amount = omega arith
  by_key (V4 src dst sport dport proto) amount = omega arith

pub level_total : (length : ℕ) (packets : List Packet) → total_amount (level_packets length packets) ≤ total_amount packets
unfolding total_amount level_packets
level_total length [] = omega arith
level_total length (packet ∷ packets) =
    let first = part_most length packet in
    let rest : sum_by (λ q. q.amount) (flat_map (network_packets length) packets) ≤ sum_by (λ q. q.amount) packets = level_total length packets in
    let left = sum_by-append (λ q. q.amount) (network_packets length packet) (flat_map (network_packets length) packets) in
    let right = sum_by-cons (λ q. q.amount) packet packets in
    omega (arith, first, rest, left, right)

-- the estimate on the table of its length is never below
pub level_never_below : (shape : Shape) → IsShape shape → (packets : List Packet) → total_amount packets < 2 ^ 63 → (length : ℕ) (p : Prefix) → p.length ≡ length
    → pos (network_amount packets p) ≤ℤ (hit_by (level_table shape packets length) p).estimate
unfolding level_table sequential_table
level_never_below shape lawful packets total length p at =
    let most = level_total p.length packets in
    let least = amount_least packets p in
    let below : pos (key_amount (level_packets p.length packets) (prefix_key p)) ≤ℤ (hit_by (level_table shape packets p.length) p).estimate =
    never_below shape lawful (level_packets p.length packets) (prefix_key p) (omega (arith, most, total)) in
    subst (λ n. pos (network_amount packets p) ≤ℤ (hit_by (level_table shape packets n) p).estimate) at (omega (arith, ints, least, below))

from_parent : (length shorter : ℕ) (p : Prefix) → IsLength length → p.length ≡ length → shorter + 8 ≡ length → (key : FlowKey) (amount : ℕ)
    → (if is_from p key then amount else 0) ≤ (if is_from (parent_of shorter p) key then amount else 0)
unfolding network_of
from_parent length shorter p lawful at next (V6 src dst sport dport proto) amount = omega arith
from_parent length shorter p lawful at next (V4 src dst sport dport proto) amount = by_test ((network_of p.length src).bits == p.bits) refl where
  by_test : (b : Bool) → ((network_of p.length src).bits == p.bits) ≡ b → (if b then amount else 0) ≤ (if is_from (parent_of shorter p) (V4 src dst sport dport proto) then amount else 0)
  by_test false other = omega arith
  by_test true same =
      let bits : src - src % addresses_in p.length ≡ p.bits = eqb-true (network_of p.length src).bits p.bits same in
      let bits_at : src - src % addresses_in length ≡ p.bits = ap (λ n. src - src % addresses_in n) (sym at) ∙ bits in
      let above = (sizes_at length shorter lawful next).parent src p.bits bits_at in
      rw (eq-eqb (src - src % addresses_in shorter) (p.bits - p.bits % addresses_in shorter) above) (omega arith)

-- a network's packets are also those of the network that is 8 bits shorter
pub parent_least : (length shorter : ℕ) (packets : List Packet) (p : Prefix) → IsLength length → p.length ≡ length → shorter + 8 ≡ length → network_amount packets p ≤ network_amount packets (parent_of shorter p)
unfolding network_amount
parent_least length shorter packets p lawful at next =
    sum_by-le-sum_by (λ q. if is_from p q.key then q.amount else 0) (λ q. if is_from (parent_of shorter p) q.key then q.amount else 0) packets (λ q. from_parent length shorter p lawful at next q.key q.amount)

-- one packet more
pub packets_more : (bits : ℕ) (packets : List Packet) (k : ℕ) (d : Packet) → k < length packets
    → level_packets bits (take k packets) ++ network_packets bits (get_or packets k d) ≡ level_packets bits (take (k + 1) packets)
unfolding level_packets
packets_more bits packets k d lt =
    sym (ap (flat_map (network_packets bits)) (take_more packets k d lt) ∙ flat_map-append (network_packets bits) (take k packets) (get_or packets k d ∷ [])
    ∙ ap (λ (l : List Packet). flat_map (network_packets bits) (take k packets) ++ l) (append-nil (network_packets bits (get_or packets k d))))

pub packets_none : (bits : ℕ) → level_packets bits [] ≡ []
unfolding level_packets
packets_none bits = refl

pub packets_step : (bits : ℕ) (packets : List Packet) (k : ℕ) (d : Packet) (old new : List Packet) → k < length packets → old ≡ level_packets bits (take k packets)
    → new ≡ old ++ network_packets bits (get_or packets k d) → new ≡ level_packets bits (take (k + 1) packets)
packets_step bits packets k d old new lt before is = is ∙ ap (λ (l : List Packet). l ++ network_packets bits (get_or packets k d)) before ∙ packets_more bits packets k d lt
