-- Lawful messages are those that the refused updates determine.
use Rattle.std.proofs.Common.{◌≡◌, ◌<◌, ◌≤◌, ℕ, zero, suc, ◌+◌, ◌==◌, ◌||◌, ℤ, List, [], ◌∷◌, ◌++◌, length, map, Bool, true, false, nat_lt, if◌then◌else◌, not, refl, sym, ap, ap₂, ◌∙◌, subst, arith, ◌⊎◌, inl, inr, add-one}
use Rattle.std.specs.Prelude.{All, filter}
use Rattle.std.specs.List.Sorted.{IsStrictlyIncreasing}
use Rattle.std.proofs.lemmas.Bool.{cases_lt, eq-eqb}
use Rattle.std.proofs.lemmas.List.{map_push, length_push, get_or_push}
use Rattle.std.proofs.lemmas.List.Folds.{list_any-append}
use Rattle.std.proofs.lemmas.List.Elements.{All-push, All-filter, All-map, All-head, All-tail}
use Rattle.packet_key.specs.declared.key.FlowKey.{FlowKey}
use Rattle.std.proofs.Math.Nat.{eq-or-lt_of_le}
use Rattle.hash_rows.specs.declared.options.Full.{Full}
use Rattle.hash_rows.specs.declared.shape.Update.{Update}
use Rattle.hash_rows.specs.declared.shape.Push.{Push}
use Rattle.hash_rows.specs.Rules.{Rules}
use Rattle.push_history.specs.LagRun.{message_of}
use Rattle.push_history.specs.Updates.{update_at}
use Rattle.push_history.specs.Whole.{whole, whole_of}
use Rattle.push_history.specs.Told.{told, told_of, messages_before}
use Rattle.push_history.specs.Pushes.{is_sent, is_refused, distance_at, TellsAll, IsNamed, LawfulPushes}
use Rattle.push_history.proofs.Lists.{filter_kept, increasing_push}
use Rattle.push_history.proofs.Growing.{numbers_within, not_sent, not_refused, before_later, update_before, update_last, whole_before, whole_all, told_all, distance_last}
use Rattle.push_history.proofs.Telling.{before_quiet, before_sent}
use Rattle.given_law.specs.Given.{with_next, given_before, given_messages, MayRefuse}

filter_twice : {X : Type 0} (p : X → Bool) (xs : List X) → filter p (filter p xs) ≡ filter p xs
filter_twice p [] = refl
filter_twice p (x ∷ xs) = by_test p x xs (p x) refl (filter_twice p xs)
  where
    by_test : {X : Type 0} (p : X → Bool) (x : X) (xs : List X) (b : Bool) → p x ≡ b → filter p (filter p xs) ≡ filter p xs
        → filter p (if b then x ∷ filter p xs else filter p xs) ≡ (if b then x ∷ filter p xs else filter p xs)
    by_test p x xs true is rest = rw is (ap (λ t. x ∷ t) rest)
    by_test p x xs false is rest = rest

filter_none : {X : Type 0} (p : X → Bool) (xs : List X) → All (λ x. p x ≡ false) xs → filter p xs ≡ []
filter_none p [] none = refl
filter_none p (x ∷ xs) none =
    let fails : p x ≡ false = All-head (λ y. p y ≡ false) x xs none in
    rw fails (filter_none p xs (All-tail (λ y. p y ≡ false) x xs none))

abbrev pub push_of : ℕ → ℕ → ℕ → FlowKey → ℕ → ℤ → Push
push_of w p n k c a = record { worker = w; packet = p; update = n; key = k; cell = c; amount = a }

same_push : (x y : Push) → x.worker ≡ y.worker → x.packet ≡ y.packet → x.update ≡ y.update → x.key ≡ y.key → x.cell ≡ y.cell → x.amount ≡ y.amount → x ≡ y
same_push x y a b c d e f =
    ap (λ (v : ℕ). push_of v x.packet x.update x.key x.cell x.amount) a
    ∙ ap (λ (v : ℕ). push_of y.worker v x.update x.key x.cell x.amount) b
    ∙ ap (λ (v : ℕ). push_of y.worker y.packet v x.key x.cell x.amount) c
    ∙ ap (λ (v : FlowKey). push_of y.worker y.packet y.update v x.cell x.amount) d
    ∙ ap (λ (v : ℕ). push_of y.worker y.packet y.update y.key v x.amount) e
    ∙ ap (λ (v : ℤ). push_of y.worker y.packet y.update y.key y.cell v) f

-- what is told before an update is told by the messages before it
told_by_before : (r : Rules) (S : List Push) (n c : ℕ) → told r S n c ≡ told r (messages_before n S) n c
unfolding told
told_by_before r S n c = ap (told_of r c) (sym (filter_twice (λ m. nat_lt m.update n) S))

distance_by_before : (r : Rules) (U : List Update) (S : List Push) (n : ℕ) → distance_at r U S n ≡ distance_at r U (messages_before n S) n
unfolding distance_at
distance_by_before r U S n = ap (λ (z : ℤ). r.distance z (whole r U (n + 1) (update_at U n).cell)) (told_by_before r S n (update_at U n).cell)

-- a message is the one of its update after those before
message_is : (r : Rules) (w : ℕ) (U : List Update) (S : List Push) (x : Push) (n : ℕ) → TellsAll r U S x → IsNamed w U x → x.update ≡ n
    → x ≡ message_of r w U (messages_before n S) n
unfolding message_of
message_is r w U S x n tells named is =
    let cell : x.cell ≡ (update_at U n).cell = tells.cell ∙ ap (λ (k : ℕ). (update_at U k).cell) is in
    same_push x (record { worker = w; packet = (update_at U n).packet; update = n; key = (update_at U n).key; cell = (update_at U n).cell; amount = r.gap (told r (messages_before n S) n (update_at U n).cell) (whole r U (n + 1) (update_at U n).cell) })
    named.its_worker
    (named.packet ∙ ap (λ (k : ℕ). (update_at U k).packet) is)
    is
    (named.key ∙ ap (λ (k : ℕ). (update_at U k).key) is)
    cell
    (tells.amount
    ∙ ap (λ (k : ℕ). r.gap (told r S k x.cell) (whole r U (k + 1) x.cell)) is
    ∙ ap (λ (c : ℕ). r.gap (told r S n c) (whole r U (n + 1) c)) cell
    ∙ ap (λ (z : ℤ). r.gap z (whole r U (n + 1) (update_at U n).cell)) (told_by_before r S n (update_at U n).cell))

-- the last of a list with a property
last_has : {X : Type 0} (P : X → Type 0) (xs : List X) (x : X) → All P (xs ++ x ∷ []) → P x
last_has P xs x all = subst P (get_or_push xs x x (length xs) refl) (all (length xs) x (omega (arith, length_push xs x)))

quiet_step : (r : Rules) (w T : ℕ) (U : List Update) (F : List ℕ) (n : ℕ) (S : List Push) (b : Bool) → is_refused n F ≡ b → (b ≡ false → distance_at r U S n < T) → with_next r w T U F n S ≡ S
unfolding with_next
quiet_step r w T U F n S true is small =
    rw is (elim (nat_lt (distance_at r U S n) T) as (λ b. (if b || true then S else S ++ message_of r w U S n ∷ []) ≡ S) [ true ↦ refl | false ↦ refl ])
quiet_step r w T U F n S false is small =
    let below = small refl in
    let yes : nat_lt (distance_at r U S n) T ≡ true = grind arith in
    rw (is, yes) refl

sent_step : (r : Rules) (w T : ℕ) (U : List Update) (F : List ℕ) (n : ℕ) (S : List Push) → is_refused n F ≡ false → T ≤ distance_at r U S n
    → with_next r w T U F n S ≡ S ++ message_of r w U S n ∷ []
unfolding with_next
sent_step r w T U F n S is far =
    let no : nat_lt (distance_at r U S n) T ≡ false = grind arith in
    rw (is, no) refl

sent_by : (r : Rules) (w T L : ℕ) (full : Full) (U : List Update) (S : List Push) (F : List ℕ) → LawfulPushes r w T L full U S F
    → (n : ℕ) → n < length U → (b : Bool) → is_sent n S ≡ b → messages_before (n + 1) S ≡ with_next r w T U F n (messages_before n S)
sent_by r w T L full U S F h n lt true is =
    let x = before_sent r T U S F h.pushes n is in
    let named : IsNamed w U x.0 = last_has (IsNamed w U) (messages_before n S) x.0
    (subst (All (IsNamed w U)) x.1 (All-filter (λ m. nat_lt m.update (n + 1)) (IsNamed w U) S h.named)) in
    let free : is_refused n F ≡ false = h.pushes.apart n is in
    let far : T ≤ distance_at r U (messages_before n S) n =
    subst (λ (d : ℕ). T ≤ d) (distance_by_before r U S n) (h.pushes.reached n lt (ap (λ (b : Bool). b || is_refused n F) is)) in
    x.1
    ∙ ap (λ (m : Push). messages_before n S ++ m ∷ []) (message_is r w U S x.0 n x.2 named x.3)
    ∙ sym (sent_step r w T U F n (messages_before n S) free far)
sent_by r w T L full U S F h n lt false is =
    before_quiet S n is
    ∙ sym (quiet_step r w T U F n (messages_before n S) (is_refused n F) refl
    (λ free. subst (λ (d : ℕ). d < T) (distance_by_before r U S n) (h.pushes.below n lt (ap (λ (b : Bool). b || is_refused n F) is ∙ free))))

before_given : (r : Rules) (w T L : ℕ) (full : Full) (U : List Update) (S : List Push) (F : List ℕ) → LawfulPushes r w T L full U S F
    → (n : ℕ) → n ≤ length U → messages_before n S ≡ given_before r w T U F n
before_given r w T L full U S F h zero le = filter_none (λ m. nat_lt m.update 0) S (λ k d lt. grind arith)
before_given r w T L full U S F h (suc n) le =
    ap (λ (k : ℕ). messages_before k S) (sym (add-one n))
    ∙ sent_by r w T L full U S F h n (omega (arith, le)) (is_sent n S) refl
    ∙ ap (with_next r w T U F n) (before_given r w T L full U S F h n (omega (arith, le)))

lawful_is : (r : Rules) (w T L : ℕ) (full : Full) (U : List Update) (S : List Push) (F : List ℕ) → LawfulPushes r w T L full U S F → S ≡ given_messages r w T U F
unfolding given_messages
lawful_is r w T L full U S F h =
    sym (filter_kept (λ m. nat_lt m.update (length U)) S (λ k d lt. let below = numbers_within r U S S h.pushes.amounts k d lt in grind arith))
    ∙ before_given r w T L full U S F h (length U) (omega arith)

refused_below : (n k : ℕ) (F : List ℕ) → All (λ j. j < n) F → is_refused k F ≡ true → k < n
refused_below n k F all is = elim (cases_lt k n) [
  | inl below ↦ below
  | inr above ↦ absurd (let no : is_refused k F ≡ false = not_refused k F (λ i d lt. omega (arith, all i d lt, above)) in let bad : true ≡ false = sym is ∙ no in cc)
]

pub lawful_given : (r : Rules) (w T L : ℕ) (full : Full) (U : List Update) (S : List Push) (F : List ℕ) → LawfulPushes r w T L full U S F
    → (S ≡ given_messages r w T U F) × MayRefuse r w T L full U F
lawful_given r w T L full U S F h =
    let is = lawful_is r w T L full U S F h in (
      is,
      record {
        rising = h.pushes.refused_rising;
        within = h.pushes.refused_within;
        far = λ k refused. subst (λ (t : List Push). T ≤ distance_at r U t k) is (h.pushes.reached k (below_all k refused) (either k refused));
        full_lane = λ k refused. subst (λ (t : List Push). L ≤ length (messages_before k t)) is (h.full_lane k refused);
        waiting = h.waiting;
      },
    )
  where
    below_all : (k : ℕ) → is_refused k F ≡ true → k < length U
    below_all k refused = refused_below (length U) k F h.pushes.refused_within refused

    either : (k : ℕ) → is_refused k F ≡ true → (is_sent k S || is_refused k F) ≡ true
    either k refused = rw refused (elim (is_sent k S) as (λ b. (b || true) ≡ true) [ true ↦ refl | false ↦ refl ])

reached_bits : (sent refused low : Bool) → sent ≡ not (low || refused) → (sent || refused) ≡ true → refused ≡ false → low ≡ false
reached_bits sent refused false a b c = refl
reached_bits sent refused true a b c = absurd (let s : sent ≡ false = a in let t : (false || false) ≡ true = sym (ap₂ (λ (x y : Bool). x || y) s c) ∙ b in cc)

below_by : (sent refused low : Bool) → sent ≡ not (low || refused) → (sent || refused) ≡ false → low ≡ true
below_by sent refused true a b = refl
below_by true refused false a b = absurd (cc)
below_by false true false a b = absurd (cc)
below_by false false false a b = absurd (cc)

apart_bits : (sent refused low : Bool) → sent ≡ not (low || refused) → sent ≡ true → refused ≡ false
apart_bits sent false low a b = refl
apart_bits sent true true a b = absurd (let t : true ≡ false = sym b ∙ a in cc)
apart_bits sent true false a b = absurd (let t : true ≡ false = sym b ∙ a in cc)

sent_filtered : (k : ℕ) (S : List Push) → is_sent k S ≡ is_sent k (messages_before (k + 1) S)
sent_filtered k [] = refl
sent_filtered k (x ∷ xs) = by_test k x xs (nat_lt x.update (k + 1)) refl (sent_filtered k xs)
  where
    by_test : (k : ℕ) (x : Push) (xs : List Push) (b : Bool) → nat_lt x.update (k + 1) ≡ b → is_sent k xs ≡ is_sent k (messages_before (k + 1) xs)
        → ((x.update == k) || is_sent k xs) ≡ is_sent k (if b then x ∷ messages_before (k + 1) xs else messages_before (k + 1) xs)
    by_test k x xs true is rest = ap (λ (t : Bool). (x.update == k) || t) rest
    by_test k x xs false is rest =
        let other : (x.update == k) ≡ false = grind arith in
        rw other rest

-- the messages that are determined are lawful
module _ (r : Rules) (w T : ℕ) (U : List Update) (F : List ℕ) where
  next_by : (P : List Push → Type 0) (n : ℕ) (S : List Push) → P S → P (S ++ message_of r w U S n ∷ []) → P (with_next r w T U F n S)
  unfolding with_next
  next_by P n S stays grows = elim (nat_lt (distance_at r U S n) T || is_refused n F) as (λ b. P (if b then S else S ++ message_of r w U S n ∷ [])) [ true ↦ stays | false ↦ grows ]

  pub all_below : (n : ℕ) → All (λ m. m.update < n) (given_before r w T U F n)
  unfolding message_of
  all_below zero = λ k d lt. absurd (omega (arith, lt))
  all_below (suc n) =
      let before : All (λ m. m.update < suc n) (given_before r w T U F n) = λ k d lt. let below = all_below n k d lt in omega (arith, below) in
      next_by (All (λ m. m.update < suc n)) n (given_before r w T U F n) before
      (All-push (λ m. m.update < suc n) (given_before r w T U F n) (message_of r w U (given_before r w T U F n) n) before (omega arith))

  next_before : (n m : ℕ) (S : List Push) → m ≤ n → messages_before m (with_next r w T U F n S) ≡ messages_before m S
  unfolding message_of
  next_before n m S le = next_by (λ t. messages_before m t ≡ messages_before m S) n S refl (before_later S (message_of r w U S n) m le)

  pub before_back : (many n : ℕ) → n ≤ many → messages_before n (given_before r w T U F many) ≡ given_before r w T U F n
  before_back zero n le = let e : 0 ≡ n = omega (arith, le) in subst (λ (k : ℕ). messages_before k (given_before r w T U F 0) ≡ given_before r w T U F k) e refl
  before_back (suc many) n le = elim (eq-or-lt_of_le le) [
    | inl same ↦ subst (λ (k : ℕ). messages_before k (given_before r w T U F (suc many)) ≡ given_before r w T U F k) (sym same)
        (filter_kept (λ m. nat_lt m.update (suc many)) (given_before r w T U F (suc many)) (λ k d lt. let below = all_below (suc many) k d lt in grind arith))
    | inr lt ↦ next_before many n (given_before r w T U F many) (omega (arith, lt)) ∙ before_back many n (omega (arith, lt))
  ]

  pub distance_back : (many n : ℕ) → n ≤ many → distance_at r U (given_before r w T U F many) n ≡ distance_at r U (given_before r w T U F n) n
  distance_back many n le = distance_by_before r U (given_before r w T U F many) n ∙ ap (λ (t : List Push). distance_at r U t n) (before_back many n le)

  told_back : (many n c : ℕ) → n ≤ many → told r (given_before r w T U F many) n c ≡ told r (given_before r w T U F n) n c
  told_back many n c le = told_by_before r (given_before r w T U F many) n c ∙ ap (λ (t : List Push). told r t n c) (before_back many n le)

  sent_next : (n : ℕ) (S : List Push) → is_sent n S ≡ false → is_sent n (with_next r w T U F n S) ≡ not (nat_lt (distance_at r U S n) T || is_refused n F)
  unfolding with_next message_of
  sent_next n S none =
      elim (nat_lt (distance_at r U S n) T || is_refused n F) as (λ b. is_sent n (if b then S else S ++ message_of r w U S n ∷ []) ≡ not b) [
        | true ↦ none
        | false ↦ list_any-append (λ m. m.update == n) S (message_of r w U S n ∷ []) ∙ rw (none, eq-eqb n n refl) refl
      ]

  sent_is : (many n : ℕ) → n < many → is_sent n (given_before r w T U F many) ≡ not (nat_lt (distance_at r U (given_before r w T U F n) n) T || is_refused n F)
  sent_is many n lt =
      sent_filtered n (given_before r w T U F many)
      ∙ ap (λ (k : ℕ). is_sent n (messages_before k (given_before r w T U F many))) (add-one n)
      ∙ ap (is_sent n) (before_back many (suc n) (omega (arith, lt)))
      ∙ sent_next n (given_before r w T U F n) (not_sent n (given_before r w T U F n) (all_below n))

  each_tells : (many n : ℕ) → n ≤ many → many ≤ length U → All (TellsAll r U (given_before r w T U F many)) (given_before r w T U F n)
  unfolding message_of
  each_tells many zero le most = λ k d lt. absurd (omega (arith, lt))
  each_tells many (suc n) le most =
      let before = each_tells many n (omega (arith, le)) most in
      next_by (All (TellsAll r U (given_before r w T U F many))) n (given_before r w T U F n) before
      (All-push (TellsAll r U (given_before r w T U F many)) (given_before r w T U F n) (message_of r w U (given_before r w T U F n) n) before
      (record {
        within = omega (arith, le, most);
        cell = refl;
        amount = ap (λ (z : ℤ). r.gap z (whole r U (n + 1) (update_at U n).cell)) (sym (told_back many n (update_at U n).cell (omega (arith, le))));
      }))

  each_named : (n : ℕ) → All (IsNamed w U) (given_before r w T U F n)
  unfolding message_of
  each_named zero = λ k d lt. absurd (omega (arith, lt))
  each_named (suc n) =
      next_by (All (IsNamed w U)) n (given_before r w T U F n) (each_named n)
      (All-push (IsNamed w U) (given_before r w T U F n) (message_of r w U (given_before r w T U F n) n) (each_named n) (record { its_worker = refl; packet = refl; key = refl }))

  each_rises : (n : ℕ) → IsStrictlyIncreasing (map (λ m. m.update) (given_before r w T U F n))
  unfolding message_of
  each_rises zero = λ k lt. absurd (omega (arith, lt))
  each_rises (suc n) =
      let S : List Push = given_before r w T U F n in
      next_by (λ t. IsStrictlyIncreasing (map (λ m. m.update) t)) n S (each_rises n)
      (subst IsStrictlyIncreasing (sym (map_push (λ x. x.update) S (message_of r w U S n)))
      (increasing_push (map (λ x. x.update) S) n (each_rises n) (All-map (λ y. y < n) (λ x. x.update) S (all_below n))))

  pub given_lawful : (L : ℕ) (full : Full) → MayRefuse r w T L full U F → LawfulPushes r w T L full U (given_messages r w T U F) F
  unfolding given_messages
  given_lawful L full may = record {
    pushes = record {
      rising = each_rises (length U);
      amounts = each_tells (length U) (length U) (omega arith) (omega arith);
      refused_rising = may.rising;
      refused_within = may.within;
      reached = λ k lt is. reached_by k lt (is_refused k F) refl is;
      below = λ k lt is.
          let low : nat_lt (distance_at r U (given_before r w T U F k) k) T ≡ true = below_by (is_sent k (given_before r w T U F (length U))) (is_refused k F) (nat_lt (distance_at r U (given_before r w T U F k) k) T) (sent_is (length U) k lt) is in
          let back = distance_back (length U) k (omega (arith, lt)) in
          subst (λ (d : ℕ). d < T) (sym back) (grind arith);
      apart = λ k sent. apart_at k sent (cases_lt k (length U));
    };
    named = each_named (length U);
    full_lane = may.full_lane;
    waiting = may.waiting;
  }
    where
      reached_by : (k : ℕ) → k < length U → (b : Bool) → is_refused k F ≡ b → (is_sent k (given_before r w T U F (length U)) || is_refused k F) ≡ true → T ≤ distance_at r U (given_before r w T U F (length U)) k
      reached_by k lt true refused is = may.far k refused
      reached_by k lt false free is =
          let high : nat_lt (distance_at r U (given_before r w T U F k) k) T ≡ false = reached_bits (is_sent k (given_before r w T U F (length U))) (is_refused k F) (nat_lt (distance_at r U (given_before r w T U F k) k) T) (sent_is (length U) k lt) is free in
          let back = distance_back (length U) k (omega (arith, lt)) in
          subst (λ (d : ℕ). T ≤ d) (sym back) (grind arith)

      apart_at : (k : ℕ) → is_sent k (given_before r w T U F (length U)) ≡ true → (k < length U) ⊎ (length U ≤ k) → is_refused k F ≡ false
      apart_at k sent (inl lt) = apart_bits (is_sent k (given_before r w T U F (length U))) (is_refused k F) (nat_lt (distance_at r U (given_before r w T U F k) k) T) (sent_is (length U) k lt) sent
      apart_at k sent (inr past) =
          let none : is_sent k (given_before r w T U F (length U)) ≡ false = not_sent k (given_before r w T U F (length U)) (λ i d lt. let below = all_below (length U) i d lt in omega (arith, below, past)) in
          absurd (let bad : true ≡ false = sym sent ∙ none in cc)

-- one update more

pub distance_before : (r : Rules) (U : List Update) (u : Update) (S : List Push) (k : ℕ) → k < length U → distance_at r (U ++ u ∷ []) S k ≡ distance_at r U S k
unfolding distance_at
distance_before r U u S k lt =
    ap (λ (x : Update). r.distance (told r S k x.cell) (whole r (U ++ u ∷ []) (k + 1) x.cell)) (update_before U u k lt)
    ∙ ap (r.distance (told r S k (update_at U k).cell)) (whole_before r U u (k + 1) (update_at U k).cell (omega arith))

message_before : (r : Rules) (w : ℕ) (U : List Update) (u : Update) (S : List Push) (n : ℕ) → n < length U → message_of r w (U ++ u ∷ []) S n ≡ message_of r w U S n
unfolding message_of
message_before r w U u S n lt =
    ap (λ (x : Update). push_of w x.packet n x.key x.cell (r.gap (told r S n x.cell) (whole r (U ++ u ∷ []) (n + 1) x.cell))) (update_before U u n lt)
    ∙ ap (λ (z : ℤ). push_of w (update_at U n).packet n (update_at U n).key (update_at U n).cell (r.gap (told r S n (update_at U n).cell) z)) (whole_before r U u (n + 1) (update_at U n).cell (omega (arith, lt)))

with_next_before : (r : Rules) (w T : ℕ) (U : List Update) (u : Update) (F : List ℕ) (n : ℕ) (S : List Push) → n < length U → with_next r w T (U ++ u ∷ []) F n S ≡ with_next r w T U F n S
unfolding with_next
with_next_before r w T U u F n S lt =
    ap₂ (λ (d : ℕ) (m : Push). if nat_lt d T || is_refused n F then S else S ++ m ∷ []) (distance_before r U u S n lt) (message_before r w U u S n lt)

pub given_before_more : (r : Rules) (w T : ℕ) (U : List Update) (u : Update) (F : List ℕ) (n : ℕ) → n ≤ length U → given_before r w T (U ++ u ∷ []) F n ≡ given_before r w T U F n
given_before_more r w T U u F zero le = refl
given_before_more r w T U u F (suc n) le =
    ap (with_next r w T (U ++ u ∷ []) F n) (given_before_more r w T U u F n (omega (arith, le)))
    ∙ with_next_before r w T U u F n (given_before r w T U F n) (omega (arith, le))

pub given_push : (r : Rules) (w T : ℕ) (U : List Update) (u : Update) (F : List ℕ) (S : List Push) → S ≡ given_messages r w T U F
    → given_messages r w T (U ++ u ∷ []) F
    ≡ (if nat_lt (r.distance (told_of r u.cell S) (whole_of r u.cell (U ++ u ∷ []))) T || is_refused (length U) F then S
    else S ++ push_of w u.packet (length U) u.key u.cell (r.gap (told_of r u.cell S) (whole_of r u.cell (U ++ u ∷ []))) ∷ [])
unfolding given_messages with_next message_of
given_push r w T U u F S is =
    let long : length (U ++ u ∷ []) ≡ suc (length U) = length_push U u ∙ add-one (length U) in
    let within : All (λ m. m.update < length U) S = subst (All (λ m. m.update < length U)) (sym is) (all_below r w T U F (length U)) in
    let dist = distance_last r U u S within in
    let told_is : told r S (length U) u.cell ≡ told_of r u.cell S = told_all r S (length U) u.cell within in
    let whole_is : whole r (U ++ u ∷ []) (length U + 1) u.cell ≡ whole_of r u.cell (U ++ u ∷ []) = whole_all r (U ++ u ∷ []) (length U + 1) u.cell (omega (arith, length_push U u)) in
    let message : message_of r w (U ++ u ∷ []) S (length U) ≡ push_of w u.packet (length U) u.key u.cell (r.gap (told_of r u.cell S) (whole_of r u.cell (U ++ u ∷ []))) =
    ap (λ (x : Update). push_of w x.packet (length U) x.key x.cell (r.gap (told r S (length U) x.cell) (whole r (U ++ u ∷ []) (length U + 1) x.cell))) (update_last U u)
    ∙ ap₂ (λ (y z : ℤ). push_of w u.packet (length U) u.key u.cell (r.gap y z)) told_is whole_is in
    ap (given_before r w T (U ++ u ∷ []) F) long
    ∙ ap (with_next r w T (U ++ u ∷ []) F (length U)) (given_before_more r w T U u F (length U) (omega arith) ∙ sym is)
    ∙ ap₂ (λ (d : ℕ) (m : Push). if nat_lt d T || is_refused (length U) F then S else S ++ m ∷ []) dist message
