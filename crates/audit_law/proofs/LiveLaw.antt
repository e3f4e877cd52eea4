-- None of the tests of the live keys and of how many were missed fails exactly where they are lawful.
use Rattle.std.proofs.Common.{◌≡◌, ◌<◌, ◌≤◌, ◌≤ℤ◌, ℕ, ℤ, zero, suc, ◌+◌, ◌==◌, ◌||◌, ◌&&◌, not, List, [], ◌∷◌, ◌++◌, length, map, get_or, take, cond, Bool, true, false, if◌then◌else◌, nat_lt, nat_le, refl, sym, ap, ◌∙◌, subst, arith, ◌⊎◌, inl, inr, true≢false}
use Rattle.std.specs.Prelude.{Contains, count_by, int_le}
use Rattle.std.specs.List.{flat_map, range_with_len, IsDistinct, AllByRecursion}
use Rattle.std.proofs.lemmas.Bool.{eqb-true, eq-eqb, leb-true, le-leb, ltb-true, lt-ltb, and_parts, and_from, or_cases, or_left, or_right, not-true, cases_lt}
use Rattle.std.proofs.lemmas.List.{get_or_default, ext_get_or, nil_from_length, length-append, append-nil}
use Rattle.std.proofs.lemmas.List.Sums.{sum_by-cons}
use Rattle.packet_key.specs.declared.key.FlowKey.{FlowKey}
use Rattle.packet_key.specs.contracts.key.FlowKeyEq.TheImpl.Laws.{laws-law}
use Rattle.hash_rows.specs.declared.options.Options.{Options}
use Rattle.hash_rows.specs.declared.options.Sketch.{Sketch}
use Rattle.hash_rows.specs.declared.options.Sketch.TheVariants.{CountMin, CountSketch, LogLog}
use Rattle.hash_rows.specs.declared.shape.Push.{Push}
use Rattle.packet_key.specs.Keys.{same_key}
use Rattle.packet_key.proofs.EqualKeys.{same_key-eq}
use Rattle.push_history.specs.Journal.{Journal, rules_in}
use Rattle.push_history.specs.LawfulJournal.{sent_by, all_of, not_live, sure_missed, possible_missed, estimate_on_all, IsLiveTable, IsGrowingTable, OnlyOf}
use Rattle.push_history.specs.LiveHeavy.{is_among, live_keys, missed_keys, live_of, missed_of, notes_of}
use Rattle.push_history.specs.Share.{zero_key}
use Rattle.push_history.proofs.Notes.{notes_none}
use Rattle.audit_law.specs.Tests.{Test}
use Rattle.audit_law.specs.LiveTests.{is_loglog, is_count_min, key_at, some_sent, is_lone, live_alone, missed_alone, is_sent_key, twice_test, place_tests, live_tests, missed_tests}
use Rattle.audit_law.proofs.Holding.{Hold, hold_head, hold_tail, hold_cons, hold_nil, hold_front, hold_back, hold_append, hold_each, hold_range, holds_each, holds_range, unless}

-- a key among keys
among_has : (keys : List FlowKey) (key : FlowKey) → is_among keys key ≡ true → Contains keys key
among_has [] key is = absurd (cc)
among_has (k ∷ ks) key is = elim (or_cases (same_key k key) (is_among ks key) is) [
  | inl here ↦ (0, omega arith, same_key-eq k key here)
  | inr later ↦ (let at = among_has ks key later in (suc at.0, omega (arith, at.1), at.2))
]

has_among : (keys : List FlowKey) (key : FlowKey) (k : ℕ) → k < length keys → get_or keys k key ≡ key → is_among keys key ≡ true
has_among [] key k lt is = absurd (omega (arith, lt))
has_among (x ∷ xs) key zero lt is = or_left (same_key x key) (is_among xs key) (subst (λ (y : FlowKey). same_key x y ≡ true) is (laws-law.refl x))
has_among (x ∷ xs) key (suc k) lt is = or_right (same_key x key) (is_among xs key) (has_among xs key k (omega (arith, lt)) is)

-- keys that differ, two by two
differs_all : (x : FlowKey) (ys : List FlowKey) → ((k : ℕ) → k < length ys → same_key x (key_at ys k) ≡ false) → AllByRecursion (λ y. same_key x y ≡ false) ys
differs_all x [] each = tt
differs_all x (y ∷ ys) each = (each 0 (omega arith), differs_all x ys (λ k lt. each (suc k) (omega (arith, lt))))

all_differ : (x : FlowKey) (ys : List FlowKey) → AllByRecursion (λ y. same_key x y ≡ false) ys → (k : ℕ) → k < length ys → same_key x (key_at ys k) ≡ false
all_differ x [] all k lt = absurd (omega (arith, lt))
all_differ x (y ∷ ys) all zero lt = all.0
all_differ x (y ∷ ys) all (suc k) lt = all_differ x ys all.1 k (omega (arith, lt))

distinct_by : (xs : List FlowKey) → ((e i : ℕ) → e < i → i < length xs → same_key (key_at xs e) (key_at xs i) ≡ false) → IsDistinct same_key xs
unfolding IsDistinct
distinct_by [] each = tt
distinct_by (x ∷ xs) each =
    (differs_all x xs (λ k lt. each 0 (suc k) (omega arith) (omega (arith, lt))), distinct_by xs (λ e i lt within. each (suc e) (suc i) (omega (arith, lt)) (omega (arith, within))))

distinct_at : (xs : List FlowKey) → IsDistinct same_key xs → (e i : ℕ) → e < i → i < length xs → same_key (key_at xs e) (key_at xs i) ≡ false
unfolding IsDistinct
distinct_at [] d e i lt within = absurd (omega (arith, within))
distinct_at (x ∷ xs) d e zero lt within = absurd (omega (arith, lt))
distinct_at (x ∷ xs) d zero (suc i) lt within = all_differ x xs d.0 i (omega (arith, within))
distinct_at (x ∷ xs) d (suc e) (suc i) lt within = distinct_at xs d.1 e i (omega (arith, lt)) (omega (arith, within))

-- what the table says of each kind of sketch
not_loglog : (s : Sketch) → s ≡ LogLog → not (is_loglog s) ≡ false
not_loglog s is = ap (λ (t : Sketch). not (is_loglog t)) is

for_count_min : (s : Sketch) (b : Bool) → (not (is_count_min s) || b) ≡ true → s ≡ CountMin → b ≡ true
for_count_min s b is same = unless (not (is_count_min s)) b is (ap (λ (t : Sketch). not (is_count_min t)) same)

count_min_only : (s : Sketch) (b : Bool) → (s ≡ CountMin → b ≡ true) → (not (is_count_min s) || b) ≡ true
count_min_only CountMin b h = h refl
count_min_only CountSketch b h = refl
count_min_only LogLog b h = refl

when : (a b : Bool) → (a ≡ true → b ≡ true) → (not a || b) ≡ true
when true b h = h refl
when false b h = refl

of_not : (a b : Bool) → (not a || b) ≡ true → a ≡ true → b ≡ true
of_not true b is holds = is
of_not false b is holds = absurd (true≢false (sym holds))

int_le_is : (a b : ℤ) → int_le a b ≡ true → a ≤ℤ b
int_le_is a b is = grind arith

is_int_le : (a b : ℤ) → a ≤ℤ b → int_le a b ≡ true
is_int_le a b le = grind arith

-- how many workers have messages, one worker after another
count_cons : (m : List Push) (ms : List (List Push)) → count_by some_sent (m ∷ ms) ≡ cond (some_sent m) 1 0 + count_by some_sent ms
count_cons m ms = sum_by-cons (λ (s : List Push). cond (some_sent s) 1 0) m ms

count_without : (m : List Push) (ms : List (List Push)) → m ≡ [] → count_by some_sent (m ∷ ms) ≡ count_by some_sent ms
count_without m ms none = omega (arith, count_cons m ms, ap {B = ℕ} (λ (s : List Push). cond (some_sent s) 1 0) none)

count_with : (m : List Push) (ms : List (List Push)) → 0 < length m → count_by some_sent (m ∷ ms) ≡ 1 + count_by some_sent ms
count_with m ms some = omega (arith, count_cons m ms, ap {B = ℕ} (λ (b : Bool). cond b 1 0) (lt-ltb 0 (length m) some))

count_most : (m : List Push) (ms : List (List Push)) → count_by some_sent (m ∷ ms) ≤ 1 + count_by some_sent ms
count_most m ms = elim (cases_lt 0 (length m)) [
  | inl some ↦ (let more = count_with m ms some in omega (arith, more))
  | inr none ↦ (let same = count_without m ms (nil_from_length m (omega (arith, none))) in omega (arith, same))
]

nothing_sent : (messages : List (List Push)) → length (all_of messages) ≡ 0 → count_by some_sent messages ≡ 0
nothing_sent [] none = refl
nothing_sent (m ∷ ms) none =
    let both = length-append m (all_of ms) in
    count_without m ms (nil_from_length m (omega (arith, both, none))) ∙ nothing_sent ms (omega (arith, both, none))

own_length : (messages : List (List Push)) (w : ℕ) → length (sent_by messages w) ≤ length (all_of messages)
own_length [] w = omega arith
own_length (m ∷ ms) zero = omega (arith, length-append m (all_of ms))
own_length (m ∷ ms) (suc w) = omega (arith, length-append m (all_of ms), own_length ms w)

at_most_one : (messages : List (List Push)) (w : ℕ) → length (all_of messages) ≡ length (sent_by messages w) → count_by some_sent messages ≤ 1
at_most_one [] w only = omega arith
at_most_one (m ∷ ms) zero only =
    let both = length-append m (all_of ms) in
    let none = nothing_sent ms (omega (arith, only, both)) in
    let most = count_most m ms in
    omega (arith, none, most)
at_most_one (m ∷ ms) (suc w) only =
    let both = length-append m (all_of ms) in
    let fewer = own_length ms w in
    let same = count_without m ms (nil_from_length m (omega (arith, both, only, fewer))) in
    let rest = at_most_one ms w (omega (arith, both, only, fewer)) in
    omega (arith, same, rest)

no_sender : (messages : List (List Push)) → count_by some_sent messages ≡ 0 → all_of messages ≡ []
no_sender [] none = refl
no_sender (m ∷ ms) none = by (cases_lt 0 (length m)) (no_sender ms)
  where
    by : (0 < length m) ⊎ (length m ≤ 0) → (count_by some_sent ms ≡ 0 → all_of ms ≡ []) → all_of (m ∷ ms) ≡ []
    by (inl some) rest = absurd (let more = count_with m ms some in omega (arith, more, none))
    by (inr nothing) rest =
        let own : m ≡ [] = nil_from_length m (omega (arith, nothing)) in
        ap (λ (t : List Push). t ++ all_of ms) own ∙ rest (sym (count_without m ms own) ∙ none)

one_sender : (messages : List (List Push)) → count_by some_sent messages ≡ 1 → (w : ℕ) × OnlyOf messages w
one_sender [] one = absurd (omega (arith, one))
one_sender (m ∷ ms) one = by (cases_lt 0 (length m)) (one_sender ms)
  where
    by : (0 < length m) ⊎ (length m ≤ 0) → (count_by some_sent ms ≡ 1 → (w : ℕ) × OnlyOf ms w) → (w : ℕ) × OnlyOf (m ∷ ms) w
    by (inl some) rest =
        let more = count_with m ms some in
        let none : all_of ms ≡ [] = no_sender ms (omega (arith, more, one)) in
        (0, ap (λ (t : List Push). m ++ t) none ∙ append-nil m)
    by (inr nothing) rest =
        let own : m ≡ [] = nil_from_length m (omega (arith, nothing)) in
        let later = rest (sym (count_without m ms own) ∙ one) in
        (suc later.0, ap (λ (t : List Push). t ++ all_of ms) own ∙ later.1)

-- the parts of a live key's tests
record IsPlaced (o : Options) (j : Journal) (messages : List (List Push)) (i : ℕ) : Type 0 where
  keyed : o.sketch ≡ LogLog → ⊥
  sent : is_sent_key messages (key_at j.live i) ≡ true
  once : (e : ℕ) → e < i → same_key (key_at j.live e) (key_at j.live i) ≡ false
  room : i < o.heavy
  reach : o.sketch ≡ CountMin → o.least ≤ℤ estimate_on_all o messages (key_at j.live i)
  alone : is_lone messages ≡ true → (i < length (live_alone o messages)) × (key_at (live_alone o messages) i ≡ key_at j.live i)

-- and of the number of missed ones
record AreMissed (o : Options) (j : Journal) (messages : List (List Push)) : Type 0 where
  none : (j.missed ≡ 0) ⊎ ((o.sketch ≡ LogLog → ⊥) × (o.heavy ≤ length j.live))
  few : j.missed ≤ length (not_live j.live (all_of messages))
  sure : o.sketch ≡ CountMin → length (sure_missed o messages j.live) ≤ j.missed
  possible : o.sketch ≡ CountMin → j.missed ≤ length (possible_missed o messages j.live)
  as_many : is_lone messages ≡ true → length j.live ≡ length (live_alone o messages)
  alone : is_lone messages ≡ true → j.missed ≡ missed_alone o messages

is_keyed : (s : Sketch) → not (is_loglog s) ≡ true → s ≡ LogLog → ⊥
is_keyed s is same = true≢false (sym is ∙ not_loglog s same)

keyed_is : (s : Sketch) → (s ≡ LogLog → ⊥) → not (is_loglog s) ≡ true
keyed_is CountMin other = refl
keyed_is CountSketch other = refl
keyed_is LogLog other = absurd (other refl)

module _ (o : Options) (j : Journal) (messages : List (List Push)) where
  abbrev key : ℕ → FlowKey
  key i = key_at j.live i

  abbrev twice : ℕ → List Test
  twice i = map (twice_test j i) (range_with_len 0 i)

  is_placed : (i : ℕ) → Hold (live_tests o j messages i) → IsPlaced o j messages i
  unfolding live_tests place_tests twice_test
  is_placed i h =
      let first = and_parts (not (is_loglog o.sketch)) (is_sent_key messages (key i)) (hold_head _ _ h) in
      let second = hold_tail _ _ h in
      let third = hold_back (twice i) (place_tests o j messages i) second in
      let fourth = hold_tail _ _ third in
      let fifth = hold_tail _ _ fourth in
      record {
        keyed = is_keyed o.sketch first.0;
        sent = first.1;
        once = λ e lt. not-true (same_key (key e) (key i))
            (holds_each (twice_test j i) 0 i (hold_front (twice i) (place_tests o j messages i) second) e (omega arith) (omega (arith, lt)));
        room = ltb-true i o.heavy (hold_head _ _ third);
        reach = λ same. int_le_is o.least (estimate_on_all o messages (key i))
            (for_count_min o.sketch (int_le o.least (estimate_on_all o messages (key i))) (hold_head _ _ fourth) same);
        alone = λ lone.
            let both = and_parts (nat_lt i (length (live_alone o messages))) (same_key (key_at (live_alone o messages) i) (key i))
            (of_not (is_lone messages) (nat_lt i (length (live_alone o messages)) && same_key (key_at (live_alone o messages) i) (key i)) (hold_head _ _ fifth) lone) in
            (ltb-true i (length (live_alone o messages)) both.0, same_key-eq (key_at (live_alone o messages) i) (key i) both.1);
      }

  placed_holds : (i : ℕ) → IsPlaced o j messages i → Hold (live_tests o j messages i)
  unfolding live_tests place_tests twice_test
  placed_holds i t =
      hold_cons _ _ (and_from (not (is_loglog o.sketch)) (is_sent_key messages (key i)) (keyed_is o.sketch t.keyed) t.sent)
      (hold_append (twice i) (place_tests o j messages i)
      (holds_range (twice_test j i) 0 i (λ e low lt. ap not (t.once e (omega (arith, lt)))))
      (hold_cons _ _ (lt-ltb i o.heavy t.room)
      (hold_cons _ _ (count_min_only o.sketch (int_le o.least (estimate_on_all o messages (key i))) (λ same. is_int_le o.least (estimate_on_all o messages (key i)) (t.reach same)))
      (hold_cons _ _ (when (is_lone messages) (nat_lt i (length (live_alone o messages)) && same_key (key_at (live_alone o messages) i) (key i))
      (λ lone. and_from (nat_lt i (length (live_alone o messages))) (same_key (key_at (live_alone o messages) i) (key i))
      (lt-ltb i (length (live_alone o messages)) (t.alone lone).0)
      (subst (λ (k : FlowKey). same_key (key_at (live_alone o messages) i) k ≡ true) (t.alone lone).1 (laws-law.refl (key_at (live_alone o messages) i)))))
      hold_nil))))

  are_missed : Hold (missed_tests o j messages) → AreMissed o j messages
  unfolding missed_tests
  are_missed h =
      let second = hold_tail _ _ h in
      let third = hold_tail _ _ second in
      let fourth = hold_tail _ _ third in
      let fifth = hold_tail _ _ fourth in
      let sixth = hold_tail _ _ fifth in
      let sure : ℕ = length (sure_missed o messages j.live) in
      let possible : ℕ = length (possible_missed o messages j.live) in
      record {
        none = elim (or_cases (j.missed == 0) (not (is_loglog o.sketch) && nat_le o.heavy (length j.live)) (hold_head _ _ h)) [
          | inl is ↦ inl (eqb-true j.missed 0 is)
          | inr is ↦ (let both = and_parts (not (is_loglog o.sketch)) (nat_le o.heavy (length j.live)) is in inr (is_keyed o.sketch both.0, leb-true o.heavy (length j.live) both.1))
        ];
        few = leb-true j.missed (length (not_live j.live (all_of messages))) (hold_head _ _ second);
        sure = λ same. leb-true sure j.missed (for_count_min o.sketch (nat_le sure j.missed) (hold_head _ _ third) same);
        possible = λ same. leb-true j.missed possible (for_count_min o.sketch (nat_le j.missed possible) (hold_head _ _ fourth) same);
        as_many = λ lone. eqb-true (length j.live) (length (live_alone o messages)) (of_not (is_lone messages) (length j.live == length (live_alone o messages)) (hold_head _ _ fifth) lone);
        alone = λ lone. eqb-true j.missed (missed_alone o messages) (of_not (is_lone messages) (j.missed == missed_alone o messages) (hold_head _ _ sixth) lone);
      }

  missed_hold : AreMissed o j messages → Hold (missed_tests o j messages)
  unfolding missed_tests
  missed_hold t =
      let sure : ℕ = length (sure_missed o messages j.live) in
      let possible : ℕ = length (possible_missed o messages j.live) in
      hold_cons _ _ (elim t.none [
        | inl is ↦ or_left (j.missed == 0) (not (is_loglog o.sketch) && nat_le o.heavy (length j.live)) (eq-eqb j.missed 0 is)
        | inr is ↦ or_right (j.missed == 0) (not (is_loglog o.sketch) && nat_le o.heavy (length j.live))
            (and_from (not (is_loglog o.sketch)) (nat_le o.heavy (length j.live)) (keyed_is o.sketch is.0) (le-leb o.heavy (length j.live) is.1))
      ])
      (hold_cons _ _ (le-leb j.missed (length (not_live j.live (all_of messages))) t.few)
      (hold_cons _ _ (count_min_only o.sketch (nat_le sure j.missed) (λ same. le-leb sure j.missed (t.sure same)))
      (hold_cons _ _ (count_min_only o.sketch (nat_le j.missed possible) (λ same. le-leb j.missed possible (t.possible same)))
      (hold_cons _ _ (when (is_lone messages) (length j.live == length (live_alone o messages)) (λ lone. eq-eqb (length j.live) (length (live_alone o messages)) (t.as_many lone)))
      (hold_cons _ _ (when (is_lone messages) (j.missed == missed_alone o messages) (λ lone. eq-eqb j.missed (missed_alone o messages) (t.alone lone))) hold_nil)))))

  abbrev all_tests : List Test
  all_tests = flat_map (live_tests o j messages) (range_with_len 0 (length j.live)) ++ missed_tests o j messages

  abbrev Alone : Type 0
  Alone = (w : ℕ) → OnlyOf messages w
      → (j.live ≡ live_keys (rules_in o) o.shape o.heavy o.least (sent_by messages w))
      × (j.missed ≡ missed_keys (rules_in o) o.shape o.heavy o.least (sent_by messages w))

  module _ (each : (i : ℕ) → i < length j.live → IsPlaced o j messages i) (missed : AreMissed o j messages) where
    none_live : (o.sketch ≡ LogLog) ⊎ (all_of messages ≡ []) → j.live ≡ []
    unfolding is_sent_key
    none_live why = by (length j.live) refl
      where
        by : (n : ℕ) → length j.live ≡ n → j.live ≡ []
        by zero is = nil_from_length j.live is
        by (suc n) is = (let first = each 0 (omega (arith, is)) in elim why [
          | inl same ↦ absurd (first.keyed same)
          | inr none ↦ absurd (true≢false (sym first.sent ∙ ap (λ (t : List Push). is_among (map (λ m. m.key) t) (key 0)) none))
        ])

    last_room : (n : ℕ) → length j.live ≡ n → length j.live ≤ o.heavy
    last_room zero is = omega (arith, is)
    last_room (suc n) is = (let last = each n (omega (arith, is)) in omega (arith, last.room, is))

    live_table : IsLiveTable o messages j.live j.missed
    unfolding is_sent_key
    live_table = record {
      distinct = distinct_by j.live (λ e i lt within. (each i within).once e lt);
      most = last_room (length j.live) refl;
      keys = λ i d lt. subst (Contains (map (λ m. m.key) (all_of messages))) (get_or_default j.live i zero_key d lt)
          (among_has (map (λ m. m.key) (all_of messages)) (key i) (each i lt).sent);
      room = λ lt. elim missed.none [ inl is ↦ is | inr full ↦ absurd (omega (arith, full.1, lt)) ];
      few = missed.few;
      none_of_loglog = λ same. (none_live (inl same), elim missed.none [ inl is ↦ is | inr full ↦ absurd (full.0 same) ]);
    }

    growing : o.sketch ≡ CountMin → IsGrowingTable o messages j.live j.missed
    growing same = record {
      reach = λ i d lt. subst (λ (k : FlowKey). o.least ≤ℤ estimate_on_all o messages k) (get_or_default j.live i zero_key d lt) ((each i lt).reach same);
      sure = missed.sure same;
      possible = missed.possible same;
    }

    alone_by : (n : ℕ) → count_by some_sent messages ≡ n → n ≤ 1
        → (j.live ≡ live_keys (rules_in o) o.shape o.heavy o.least (all_of messages)) × (j.missed ≡ missed_keys (rules_in o) o.shape o.heavy o.least (all_of messages))
    unfolding is_lone live_alone missed_alone live_keys missed_keys live_of missed_of
    alone_by zero is most =
        let none : all_of messages ≡ [] = no_sender messages is in
        let few : j.missed ≡ 0 = omega (arith, missed.few, ap (λ (t : List Push). length (not_live j.live t)) none) in (
          none_live (inr none) ∙ sym (ap (live_keys (rules_in o) o.shape o.heavy o.least) none ∙ no_live (rules_in o).keyed),
          few ∙ sym (ap (missed_keys (rules_in o) o.shape o.heavy o.least) none ∙ no_missed (rules_in o).keyed),
        )
      where
        no_live : (b : Bool) → (if b then live_of o.heavy o.least (notes_of (rules_in o) o.shape []) else []) ≡ []
        no_live true = ap (live_of o.heavy o.least) (notes_none (rules_in o) o.shape) ∙ take_none o.heavy
          where
            take_none : (n : ℕ) → take {A = FlowKey} n [] ≡ []
            take_none zero = refl
            take_none (suc n) = refl
        no_live false = refl

        no_missed : (b : Bool) → (if b then missed_of o.heavy o.least (notes_of (rules_in o) o.shape []) else 0) ≡ 0
        no_missed true = ap (missed_of o.heavy o.least) (notes_none (rules_in o) o.shape)
        no_missed false = refl
    alone_by (suc zero) is most =
        let lone : is_lone messages ≡ true = eq-eqb (count_by some_sent messages) 1 is in
        (ext_get_or zero_key j.live (live_alone o messages) (missed.as_many lone) (λ i lt. sym ((each i lt).alone lone).1), missed.alone lone)
    alone_by (suc (suc n)) is most = absurd (omega (arith, most))

    alone : Alone
    alone w only =
        let most = at_most_one messages w (ap length only) in
        let is = alone_by (count_by some_sent messages) refl most in
        (is.0 ∙ ap (live_keys (rules_in o) o.shape o.heavy o.least) only, is.1 ∙ ap (missed_keys (rules_in o) o.shape o.heavy o.least) only)

  pub record AreLive : Type 0 where
    pub live_table : IsLiveTable o messages j.live j.missed
    pub growing : o.sketch ≡ CountMin → IsGrowingTable o messages j.live j.missed
    pub alone : Alone

  pub live_lawful : Hold all_tests → AreLive
  live_lawful h =
      let lists = flat_map (live_tests o j messages) (range_with_len 0 (length j.live)) in
      let front = hold_front lists (missed_tests o j messages) h in
      let missed = are_missed (hold_back lists (missed_tests o j messages) h) in
      let each : (i : ℕ) → i < length j.live → IsPlaced o j messages i = λ i lt. is_placed i (hold_each (live_tests o j messages) 0 (length j.live) front i (omega arith) (omega (arith, lt))) in
      record { live_table = live_table each missed; growing = growing each missed; alone = alone each missed }

  pub live_tested : AreLive → Hold all_tests
  unfolding is_lone live_alone missed_alone is_sent_key
  live_tested h =
      let of_lone : is_lone messages ≡ true → (j.live ≡ live_alone o messages) × (j.missed ≡ missed_alone o messages) =
      λ (lone : is_lone messages ≡ true).
      let one = one_sender messages (eqb-true (count_by some_sent messages) 1 lone) in
      let is = h.alone one.0 one.1 in
      (is.0 ∙ sym (ap (live_keys (rules_in o) o.shape o.heavy o.least) one.1), is.1 ∙ sym (ap (missed_keys (rules_in o) o.shape o.heavy o.least) one.1)) in
      hold_append (flat_map (live_tests o j messages) (range_with_len 0 (length j.live))) (missed_tests o j messages)
      (hold_range (live_tests o j messages) 0 (length j.live)
      (λ i low high.
      let lt : i < length j.live = omega (arith, high) in
      placed_holds i (record {
        keyed = λ same. let none = (h.live_table.none_of_loglog same).0 in let many = ap length none in omega (arith, many, lt);
        sent = (let has = h.live_table.keys i zero_key lt in has_among (map (λ m. m.key) (all_of messages)) (key i) has.0 has.1 has.2);
        once = λ e before. distinct_at j.live h.live_table.distinct e i before lt;
        room = omega (arith, h.live_table.most, lt);
        reach = λ same. (h.growing same).reach i zero_key lt;
        alone = λ lone. (let is = (of_lone lone).0 in (omega (arith, lt, ap length is), sym (ap (λ (t : List FlowKey). key_at t i) is)));
      })))
      (missed_hold (record {
        none = none_by o.sketch refl;
        few = h.live_table.few;
        sure = λ same. (h.growing same).sure;
        possible = λ same. (h.growing same).possible;
        as_many = λ lone. ap length (of_lone lone).0;
        alone = λ lone. (of_lone lone).1;
      }))
    where
      full_or : (s : Sketch) → (s ≡ LogLog → j.missed ≡ 0) → (length j.live < o.heavy → j.missed ≡ 0) → (j.missed ≡ 0) ⊎ ((s ≡ LogLog → ⊥) × (o.heavy ≤ length j.live))
      full_or LogLog of_loglog room = inl (of_loglog refl)
      full_or CountMin of_loglog room = elim (cases_lt (length j.live) o.heavy) [ inl lt ↦ inl (room lt) | inr le ↦ inr ((λ same. absurd (cc)), le) ]
      full_or CountSketch of_loglog room = elim (cases_lt (length j.live) o.heavy) [ inl lt ↦ inl (room lt) | inr le ↦ inr ((λ same. absurd (cc)), le) ]

      none_by : (s : Sketch) → o.sketch ≡ s → (j.missed ≡ 0) ⊎ ((o.sketch ≡ LogLog → ⊥) × (o.heavy ≤ length j.live))
      none_by s is = full_or o.sketch (λ same. (h.live_table.none_of_loglog same).1) h.live_table.room
