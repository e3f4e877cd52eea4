-- The order of keys and of ranks.
use Rattle.std.proofs.Common.{is_eq, ◌≡◌, ℕ, ℤ, ◌<ℤ◌, Bool, true, false, ◌&&◌, ◌==◌, List, inl, inr, refl, sym, ◌∙◌, ap, subst, arith, true≢false}
use Rattle.std.proofs.lemmas.Bool.Decides.{nat_tests}
use Rattle.std.proofs.lemmas.Slice.Eq.{bytes_eq-Decides}
use Rattle.std.proofs.Common.{Contains, ◌<◌, length, map, get_or}
use Rattle.std.proofs.lemmas.List.Elements.{Contains-get_or}
use Rattle.hash_rows.specs.declared.shape.Packet.{Packet}
use Rattle.heavy_keys.proofs.Members.{contains_image}
use Rattle.std.specs.Str.{bytes_eq}
use Rattle.std.specs.declared.cmp.Ordering.{Ordering}
use Rattle.std.specs.declared.cmp.Ordering.TheVariants.{Less, Equal, Greater}
use Rattle.std.specs.Ordering.{int_cmp, ordering_then}
use Rattle.std.proofs.lemmas.Map.Lookups.{exact_signed}
use Rattle.packet_key.specs.declared.key.FlowKey.{FlowKey}
use Rattle.packet_key.specs.declared.key.FlowKey.TheVariants.{V4, V6}
use Rattle.packet_key.specs.contracts.key.FlowKeyOrd.TheImpl.Laws.{matches_eq-law}
use Rattle.push_history.specs.LiveHeavy.{same_key}
use Rattle.heavy_keys.specs.FinalHeavy.{key_cmp, IsBefore}
use Rattle.heavy_keys.specs.Ranks.{Rank, rank_order, flow_at_rank}

both : (a b : Bool) → (a && b) ≡ true → (a ≡ true) × (b ≡ true)
both true b h = (refl, h)
both false b h = absurd (true≢false (sym h))

equal : (a b : ℕ) → (a == b) ≡ true → a ≡ b
equal a b h = grind (arith, nat_tests)

-- keys that compare equal are one
pub one_key : (a b : FlowKey) → same_key a b ≡ true → a ≡ b
one_key (V4 src dst sport dport proto) (V4 src' dst' sport' dport' proto') h =
    let p = both (src == src') _ h in let q = both (dst == dst') _ p.1 in let r = both (sport == sport') _ q.1 in let s = both (dport == dport') (proto == proto') r.1 in
    λ i. V4 (equal src src' p.0 i) (equal dst dst' q.0 i) (equal sport sport' r.0 i) (equal dport dport' s.0 i) (equal proto proto' s.1 i)
one_key (V6 src dst sport dport proto) (V6 src' dst' sport' dport' proto') h =
    let p = both (bytes_eq src src') _ h in let q = both (bytes_eq dst dst') _ p.1 in let r = both (sport == sport') _ q.1 in let s = both (dport == dport') (proto == proto') r.1 in
    λ i. V6 ((bytes_eq-Decides src src').0 p.0 i) ((bytes_eq-Decides dst dst').0 q.0 i) (equal sport sport' r.0 i) (equal dport dport' s.0 i) (equal proto proto' s.1 i)
one_key (V4 src dst sport dport proto) (V6 src' dst' sport' dport' proto') h = absurd (true≢false (sym h))
one_key (V6 src dst sport dport proto) (V4 src' dst' sport' dport' proto') h = absurd (true≢false (sym h))

-- a packet whose key compares equal to a key has it
pub has_key : (packets : List Packet) (place : ℕ) (d : Packet) (k : FlowKey) → place < length packets → same_key (get_or packets place d).key k ≡ true
    → Contains (map (λ p. p.key) packets) k
has_key packets place d k inside same =
    subst (Contains (map (λ p. p.key) packets)) (one_key (get_or packets place d).key k same)
    (contains_image (λ (p : Packet). p.key) packets (get_or packets place d) (Contains-get_or packets place d inside))

pub exact_key : (a b : FlowKey) → key_cmp a b ≡ Equal → a ≡ b
exact_key a b h = one_key a b (matches_eq-law a b ∙ ap is_eq h)

pub exact_rank : (a b : Rank) → rank_order a b ≡ Equal → a ≡ b
exact_rank a b h = by (int_cmp b.0.0 a.0.0) refl h
  where
    by : (o : Ordering) → int_cmp b.0.0 a.0.0 ≡ o → ordering_then o (key_cmp a.1 b.1) ≡ Equal → a ≡ b
    by Less e g = cc
    by Equal e g = λ i. (record { 0 = sym (exact_signed b.0.0 a.0.0 e) i }, exact_key a.1 b.1 g i)
    by Greater e g = cc

below : (x y : ℤ) → int_cmp x y ≡ Less → x <ℤ y
below x y h = grind arith

pub before_rank : (a b : Rank) → rank_order a b ≡ Less → IsBefore (flow_at_rank a) (flow_at_rank b)
before_rank a b h = by (int_cmp b.0.0 a.0.0) refl h
  where
    by : (o : Ordering) → int_cmp b.0.0 a.0.0 ≡ o → ordering_then o (key_cmp a.1 b.1) ≡ Less → IsBefore (flow_at_rank a) (flow_at_rank b)
    by Less e g = inl (below b.0.0 a.0.0 e)
    by Equal e g = inr (sym (exact_signed b.0.0 a.0.0 e), g)
    by Greater e g = cc
