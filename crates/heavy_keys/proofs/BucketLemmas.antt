-- Candidates in lists by the top bits of their fingerprints, and how many different keys those have.
use Rattle.std.proofs.Common.{◌≡◌, ℕ, ◌<◌, ◌≤◌, ◌≢◌, ◌+◌, ◌/◌, ◌==◌, List, [], ◌∷◌, ◌++◌, length, map, filter, get_or, set, take, zero, suc, refl, sym, ◌∙◌, ap, ap₂, subst, arith, add-one, Bool, true, false, cond, ◌||◌, true≢false}
use Rattle.std.specs.Global.{Vec}
use Rattle.std.specs.List.{All, sum_by}
use Rattle.std.specs.Set.{distinct_count, unique_keys, is_member}
use Rattle.std.proofs.lemmas.List.{append-nil, get_or-set_other, get_or-set_same, length-set, take_all}
use Rattle.std.proofs.lemmas.List.Elements.{All-filter, All-head, All-push, All-tail, filter-append}
use Rattle.std.proofs.lemmas.List.Sums.{sum_by_more}
use Rattle.packet_key.specs.declared.key.FlowKey.{FlowKey}
use Rattle.hash_rows.specs.declared.shape.Packet.{Packet}
use Rattle.push_history.specs.LiveHeavy.{same_key}
use Rattle.heavy_keys.specs.Candidates.{IsCandidate, candidate_key}
use Rattle.heavy_keys.specs.Buckets.{AreBuckets, is_in_bucket, bucket_of}
use Rattle.heavy_keys.specs.Fingerprints.{fingerprint_of}
use Rattle.heavy_keys.specs.declared.candidates.Candidate.{Candidate}
use Rattle.heavy_keys.proofs.KeyOrder.{one_key}

-- one more candidate
module _ (candidates : List Candidate) (c : Candidate) (lists more : List (Vec Candidate)) (before list : Vec Candidate) where
  pub buckets_more : bucket_of c.fingerprint < 32 → before ≡ get_or lists (bucket_of c.fingerprint) before → list.items ≡ before.items ++ c ∷ [] → more ≡ set lists (bucket_of c.fingerprint) list → AreBuckets candidates lists
      → AreBuckets (candidates ++ c ∷ []) more
  buckets_more below is put placed h = record {
    count = ap length placed ∙ length-set lists (bucket_of c.fingerprint) list ∙ h.count;
    within = All-push (λ (x : Candidate). bucket_of x.fingerprint < 32) candidates c h.within below;
    each = λ bucket none inside. by bucket none inside (bucket_of c.fingerprint == bucket) refl;
  }
    where
      grown : (bucket : ℕ) → filter (is_in_bucket bucket) (candidates ++ c ∷ []) ≡ filter (is_in_bucket bucket) candidates ++ cond (bucket_of c.fingerprint == bucket) (c ∷ []) []
      grown bucket = filter-append (is_in_bucket bucket) candidates (c ∷ [])

      by : (bucket : ℕ) (none : Vec Candidate) → bucket < 32 → (t : Bool) → (bucket_of c.fingerprint == bucket) ≡ t → (get_or more bucket none).items ≡ filter (is_in_bucket bucket) (candidates ++ c ∷ [])
      by bucket none inside true e =
          let same : bucket_of c.fingerprint ≡ bucket = grind (arith, e) in
          let room : bucket_of c.fingerprint < length lists = omega (arith, below, h.count) in
          let now : get_or more bucket none ≡ list = ap (λ l. get_or l bucket none) placed ∙ ap (λ n. get_or (set lists (bucket_of c.fingerprint) list) n none) (sym same) ∙ get_or-set_same lists (bucket_of c.fingerprint) list none room in
          ap (λ (v : Vec Candidate). v.items) now ∙ put ∙ ap (λ l. l ++ c ∷ []) (ap (λ (v : Vec Candidate). v.items) is ∙ h.each (bucket_of c.fingerprint) before below ∙ ap (λ n. filter (is_in_bucket n) candidates) same)
          ∙ sym (grown bucket ∙ ap (λ t. filter (is_in_bucket bucket) candidates ++ cond t (c ∷ []) []) e)
      by bucket none inside false e =
          let other : bucket ≢ bucket_of c.fingerprint = λ same. grind (arith, e, same) in
          ap (λ (v : Vec Candidate). v.items) (ap (λ l. get_or l bucket none) placed ∙ get_or-set_other lists (bucket_of c.fingerprint) bucket list none other)
          ∙ h.each bucket none inside ∙ sym (append-nil (filter (is_in_bucket bucket) candidates)) ∙ sym (grown bucket ∙ ap (λ t. filter (is_in_bucket bucket) candidates ++ cond t (c ∷ []) []) e)

-- a key that a test keeps is found among those that it keeps just where it is found among all
found_kept : (test : FlowKey → Bool) (q : FlowKey) → test q ≡ true → (ks : List FlowKey) → is_member same_key ks q ≡ is_member same_key (filter test ks) q
found_kept test q keeps [] = refl
found_kept test q keeps (k ∷ ks) = by (test k) refl (found_kept test q keeps ks)
  where
    differs : test k ≡ false → (t : Bool) → same_key q k ≡ t → t ≡ false
    differs never true e = absurd (true≢false (sym keeps ∙ ap test (one_key q k e) ∙ never))
    differs never false e = refl

    by : (t : Bool) → test k ≡ t → is_member same_key ks q ≡ is_member same_key (filter test ks) q → is_member same_key (k ∷ ks) q ≡ is_member same_key (cond t (k ∷ filter test ks) (filter test ks)) q
    by true e h = ap (λ t. same_key q k || t) h
    by false e h = ap (λ t. t || is_member same_key ks q) (differs e (same_key q k) refl) ∙ h

-- keys of which no one passes both tests are counted by each test apart
module _ (one other : FlowKey → Bool) (apart : (k : FlowKey) → one k ≡ true → other k ≡ true → ⊥) where
  pub count_either : (ks : List FlowKey) → distinct_count same_key (filter (λ k. one k || other k) ks) ≡ distinct_count same_key (filter one ks) + distinct_count same_key (filter other ks)
  count_either [] = refl
  count_either (k ∷ ks) = by (one k) (other k) refl refl (count_either ks)
    where
      both : FlowKey → Bool
      both q = one q || other q

      all : List FlowKey
      all = filter (λ q. one q || other q) ks

      grown : (t u : Bool) → t ≡ u → (xs ys : List FlowKey) (n : ℕ) → length xs ≡ length ys + n → length (cond t xs (k ∷ xs)) ≡ length (cond u ys (k ∷ ys)) + n
      grown true true e xs ys n h = h
      grown true false e xs ys n h = absurd (true≢false e)
      grown false true e xs ys n h = absurd (true≢false (sym e))
      grown false false e xs ys n h = omega (arith, h)

      by : (t u : Bool) → one k ≡ t → other k ≡ u → distinct_count same_key all ≡ distinct_count same_key (filter one ks) + distinct_count same_key (filter other ks)
          → distinct_count same_key (cond (t || u) (k ∷ all) all) ≡ distinct_count same_key (cond t (k ∷ filter one ks) (filter one ks)) + distinct_count same_key (cond u (k ∷ filter other ks) (filter other ks))
      by true true e f h = absurd (apart k e f)
      by true false e f h =
          grown (is_member same_key all k) (is_member same_key (filter one ks) k) (sym (found_kept both k (ap (λ t. t || other k) e) ks) ∙ found_kept one k e ks)
          (unique_keys same_key all) (unique_keys same_key (filter one ks)) (distinct_count same_key (filter other ks)) h
      by false true e f h =
          let turned : distinct_count same_key all ≡ distinct_count same_key (filter other ks) + distinct_count same_key (filter one ks) = omega (arith, h) in
          let more = grown (is_member same_key all k) (is_member same_key (filter other ks) k) (sym (found_kept both k (ap (λ t. t || other k) e ∙ f) ks) ∙ found_kept other k f ks)
          (unique_keys same_key all) (unique_keys same_key (filter other ks)) (distinct_count same_key (filter one ks)) turned in
          omega (arith, more)
      by false false e f h = h

-- the list in which a key stands
abbrev key_in : ℕ → FlowKey → Bool
key_in bucket key = bucket_of (fingerprint_of key / 4294967296) == bucket

-- whether it is one of the first so many
abbrev below : ℕ → FlowKey → Bool
below zero key = false
below (suc n) key = below n key || key_in n key

below_from : (n : ℕ) (key : FlowKey) → bucket_of (fingerprint_of key / 4294967296) < n → below n key ≡ true
below_from zero key lt = absurd (omega (arith, lt))
below_from (suc n) key lt = by (below n key) (key_in n key) refl (below_from n key)
  where
    by : (t u : Bool) → key_in n key ≡ u → (bucket_of (fingerprint_of key / 4294967296) < n → t ≡ true) → (t || u) ≡ true
    by true u e h = refl
    by false true e h = refl
    by false false e h = h (grind (arith, e, lt))

from_below : (n : ℕ) (key : FlowKey) → below n key ≡ true → bucket_of (fingerprint_of key / 4294967296) < n
from_below zero key e = absurd (true≢false (sym e))
from_below (suc n) key e = by (below n key) (from_below n key) e
  where
    by : (t : Bool) → (t ≡ true → bucket_of (fingerprint_of key / 4294967296) < n) → (t || key_in n key) ≡ true → bucket_of (fingerprint_of key / 4294967296) < suc n
    by true h f = let earlier = h refl in omega (arith, earlier)
    by false h f = grind (arith, f)

apart_below : (n : ℕ) (key : FlowKey) → below n key ≡ true → key_in n key ≡ true → ⊥
apart_below n key e f =
    let earlier : bucket_of (fingerprint_of key / 4294967296) < n = from_below n key e in
    let here : bucket_of (fingerprint_of key / 4294967296) ≡ n = grind (arith, f) in
    omega (arith, earlier, here)

module _ (packets : List Packet) where
  -- how many different keys a list has
  abbrev pub number_of : List Candidate → ℕ
  number_of candidates = distinct_count same_key (map (candidate_key packets) candidates)

  key_in_is : (bucket : ℕ) (x : Candidate) → IsCandidate packets x → is_in_bucket bucket x ≡ key_in bucket (candidate_key packets x)
  key_in_is bucket x is = ap (λ n. bucket_of n == bucket) is.fingerprint

  -- the keys of those in a list are those of all keys that stand there
  keys_in : (bucket : ℕ) (xs : List Candidate) → All (IsCandidate packets) xs → map (candidate_key packets) (filter (is_in_bucket bucket) xs) ≡ filter (key_in bucket) (map (candidate_key packets) xs)
  keys_in bucket [] each = refl
  keys_in bucket (x ∷ xs) each = by (is_in_bucket bucket x) (key_in bucket (candidate_key packets x)) (key_in_is bucket x (All-head (IsCandidate packets) x xs each)) (keys_in bucket xs (All-tail (IsCandidate packets) x xs each))
    where
      by : (t u : Bool) → t ≡ u → map (candidate_key packets) (filter (is_in_bucket bucket) xs) ≡ filter (key_in bucket) (map (candidate_key packets) xs)
          → map (candidate_key packets) (cond t (x ∷ filter (is_in_bucket bucket) xs) (filter (is_in_bucket bucket) xs)) ≡ cond u (candidate_key packets x ∷ filter (key_in bucket) (map (candidate_key packets) xs)) (filter (key_in bucket) (map (candidate_key packets) xs))
      by true true e h = ap (λ l. candidate_key packets x ∷ l) h
      by true false e h = absurd (true≢false e)
      by false true e h = absurd (true≢false (sym e))
      by false false e h = h

  all_below : (n : ℕ) (xs : List Candidate) → All (IsCandidate packets) xs → All (λ (x : Candidate). bucket_of x.fingerprint < n) xs → filter (below n) (map (candidate_key packets) xs) ≡ map (candidate_key packets) xs
  all_below n [] each within = refl
  all_below n (x ∷ xs) each within =
      let is = All-head (IsCandidate packets) x xs each in
      let low = All-head (λ (y : Candidate). bucket_of y.fingerprint < n) x xs within in
      ap (λ t. cond t (candidate_key packets x ∷ filter (below n) (map (candidate_key packets) xs)) (filter (below n) (map (candidate_key packets) xs))) (below_from n (candidate_key packets x) (subst (λ s. bucket_of s < n) is.fingerprint low))
      ∙ ap (λ l. candidate_key packets x ∷ l) (all_below n xs (All-tail (IsCandidate packets) x xs each) (All-tail (λ (y : Candidate). bucket_of y.fingerprint < n) x xs within))

  none_below : (ks : List FlowKey) → filter (below 0) ks ≡ []
  none_below [] = refl
  none_below (k ∷ ks) = none_below ks

  module _ (candidates : List Candidate) (lists : List (Vec Candidate)) (h : AreBuckets candidates lists) (each : All (IsCandidate packets) candidates) where
    pub each_bucket : All (λ (list : Vec Candidate). All (IsCandidate packets) list.items) lists
    each_bucket bucket none inside = subst (All (IsCandidate packets)) (sym (h.each bucket none (omega (arith, inside, h.count)))) (All-filter (is_in_bucket bucket) (IsCandidate packets) candidates each)

    count_below : (none : Vec Candidate) (n : ℕ) → n ≤ 32 → sum_by (λ (list : Vec Candidate). number_of list.items) (take n lists) ≡ distinct_count same_key (filter (below n) (map (candidate_key packets) candidates))
    count_below none zero le = ap (distinct_count same_key) (sym (none_below (map (candidate_key packets) candidates)))
    count_below none (suc n) le =
        let room : n < length lists = omega (arith, le, h.count) in
        let here : number_of (get_or lists n none).items ≡ distinct_count same_key (filter (key_in n) (map (candidate_key packets) candidates)) =
        ap number_of (h.each n none (omega (arith, le))) ∙ ap (distinct_count same_key) (keys_in n candidates each) in
        ap (λ m. sum_by (λ (list : Vec Candidate). number_of list.items) (take m lists)) (sym (add-one n)) ∙ sum_by_more (λ (list : Vec Candidate). number_of list.items) lists n none room
        ∙ ap₂ (λ a b. a + b) (count_below none n (omega (arith, le))) here ∙ sym (count_either (below n) (key_in n) (apart_below n) (map (candidate_key packets) candidates))

    count_all : (none : Vec Candidate) → sum_by (λ (list : Vec Candidate). number_of list.items) lists ≡ number_of candidates
    count_all none = ap (sum_by (λ (list : Vec Candidate). number_of list.items)) (sym (take_all 32 lists (omega (arith, h.count)))) ∙ count_below none 32 (omega arith)
        ∙ ap (distinct_count same_key) (all_below 32 candidates each h.within)

  -- the different keys of all lists are those of all candidates
  pub count_buckets : (candidates : List Candidate) (lists : List (Vec Candidate)) → AreBuckets candidates lists → All (IsCandidate packets) candidates → sum_by (λ (list : Vec Candidate). number_of list.items) lists ≡ number_of candidates
  count_buckets candidates [] h each = absurd (omega (arith, h.count))
  count_buckets candidates (list ∷ lists) h each = count_all candidates (list ∷ lists) h each list
