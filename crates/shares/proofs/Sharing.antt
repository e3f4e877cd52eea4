-- The share of a worker: what it owns, and that it rises.
use Rattle.std.proofs.Common.{◌≡◌, ◌<◌, ◌≤◌, ℕ, zero, suc, ◌+◌, ◌%◌, ◌==◌, Bool, List, [], ◌∷◌, length, if◌then◌else◌, All, refl, sym, ap, ap₂, ◌∙◌, subst, arith}
use Rattle.std.specs.Prelude.{filter, map, slice_index, slice_index_or}
use Rattle.std.specs.List.{range_with_len}
use Rattle.std.specs.List.Sorted.{IsStrictlyIncreasing}
use Rattle.std.proofs.lemmas.List.Elements.{All-filter}
use Rattle.std.proofs.lemmas.List.FromFn.{get_or-map-range_with_len, get_or-range_with_len, length-range_with_len, length-map-range_with_len}
use Rattle.std.proofs.lemmas.List.Kept.{IsStrictlyIncreasing-filter}
use Rattle.std.proofs.lemmas.List.Sums.{length-filter, count_by-le-length}
use Rattle.hash_rows.specs.declared.options.Options.{Options}
use Rattle.hash_rows.specs.declared.options.Share.{Share}
use Rattle.hash_rows.specs.declared.options.Share.TheVariants.{Turn, Key}
use Rattle.hash_rows.specs.declared.shape.Packet.{Packet}
use Rattle.push_history.specs.Share.{share_of_worker, worker_of}
use Rattle.shares.specs.Positions.{AreRising}

alike : (p q : ℕ → Bool) (a n : ℕ) → ((i : ℕ) → a ≤ i → i < a + n → p i ≡ q i) → filter p (range_with_len a n) ≡ filter q (range_with_len a n)
alike p q a zero same = refl
alike p q a (suc n) same =
    let rest = alike p q (a + 1) n (λ i from to. same i (omega (arith, from)) (omega (arith, to))) in
    ap₂ (λ b l. if b then a ∷ l else l) (same a (omega arith) (omega arith)) rest

-- what a worker owns by key is its share
pub share_by_key : (o : Options) (packets : List Packet) (w : ℕ) (owners : List ℕ) → o.share ≡ Key → owners ≡ map (worker_of Key o.workers packets) (range_with_len 0 (length packets))
    → filter (λ i. slice_index_or owners i 0 == w) (range_with_len 0 (length owners)) ≡ share_of_worker o.share o.workers packets w
unfolding share_of_worker
share_by_key o packets w owners by is =
    let f = worker_of Key o.workers packets in
    let n = length packets in
    let len : length owners ≡ n = ap length is ∙ length-map-range_with_len f 0 n in
    ap (λ k. filter (λ i. slice_index_or owners i 0 == w) (range_with_len 0 k)) len
    ∙ alike (λ i. slice_index_or owners i 0 == w) (λ i. f i == w) 0 n
    (λ i from to. ap (λ (l : List ℕ). slice_index_or l i 0 == w) is ∙ ap (λ z. z == w) (get_or-map-range_with_len f 0 n i i 0 (omega (arith, to)) (omega arith)))
    ∙ ap (λ (s : Share). filter (λ i. worker_of s o.workers packets i == w) (range_with_len 0 n)) (sym by)

-- what a worker owns in turn is its share
pub share_in_turn : (o : Options) (packets : List Packet) (w : ℕ) → o.share ≡ Turn → filter (λ i. i % o.workers == w) (range_with_len 0 (length packets)) ≡ share_of_worker o.share o.workers packets w
unfolding share_of_worker
share_in_turn o packets w by = ap (λ (s : Share). filter (λ i. worker_of s o.workers packets i == w) (range_with_len 0 (length packets))) (sym by)

owned_within : (p : ℕ → Bool) (n : ℕ) → All (λ i. i < n) (filter p (range_with_len 0 n))
owned_within p n = All-filter p (λ i. i < n) (range_with_len 0 n) (λ k d lt.
    let len = length-range_with_len 0 n in
    let at = get_or-range_with_len 0 n k d (omega (arith, lt, len)) in
    omega (arith, at, lt, len))

owned_few : (p : ℕ → Bool) (n : ℕ) → length (filter p (range_with_len 0 n)) ≤ n
owned_few p n = omega (arith, length-filter p (range_with_len 0 n), count_by-le-length p (range_with_len 0 n), length-range_with_len 0 n)

-- a share has places of the packets, no more than there are
pub share_within : (o : Options) (packets : List Packet) (w : ℕ) → All (λ i. i < length packets) (share_of_worker o.share o.workers packets w)
unfolding share_of_worker
share_within o packets w = owned_within (λ i. worker_of o.share o.workers packets i == w) (length packets)

pub share_few : (o : Options) (packets : List Packet) (w : ℕ) → length (share_of_worker o.share o.workers packets w) ≤ length packets
unfolding share_of_worker
share_few o packets w = owned_few (λ i. worker_of o.share o.workers packets i == w) (length packets)

range_rises : (n : ℕ) → IsStrictlyIncreasing (range_with_len 0 n)
range_rises n k lt =
    let len = length-range_with_len 0 n in
    let one = get_or-range_with_len 0 n k 0 (omega (arith, lt, len)) in
    let two = get_or-range_with_len 0 n (k + 1) 0 (omega (arith, lt, len)) in
    omega (arith, one, two)

-- a share is a rising list of positions of the packets
pub share_rises : (o : Options) (packets : List Packet) (w : ℕ) → AreRising (length packets) (share_of_worker o.share o.workers packets w)
unfolding share_of_worker
share_rises o packets w = record {
  rising = IsStrictlyIncreasing-filter (λ i. worker_of o.share o.workers packets i == w) (range_with_len 0 (length packets)) (range_rises (length packets));
  within = share_within o packets w;
}

-- each number of a rising list is at least its place
place_below : (xs : List ℕ) → IsStrictlyIncreasing xs → (k : ℕ) → k < length xs → k ≤ slice_index xs k
place_below xs rising zero lt = omega arith
place_below xs rising (suc k) lt =
    let before = place_below xs rising k (omega (arith, lt)) in
    let next : suc k ≡ k + 1 = omega arith in
    let more = rising k (omega (arith, lt)) in
    subst (λ n. n ≤ slice_index xs n) (sym next) (omega (arith, before, more))

-- there are no more of them than packets
pub rising_few : (n : ℕ) (xs : List ℕ) → AreRising n xs → length xs ≤ n
rising_few n [] h = omega arith
rising_few n (x ∷ xs) h =
    let all = x ∷ xs in
    let last = length xs in
    let least = place_below all h.rising last (omega arith) in
    let below = h.within last 0 (omega arith) in
    omega (arith, least, below)
