-- For Count-Min: what lawful messages tell of a cell, as plain numbers.
use Rattle.std.proofs.Common.{◌≡◌, ◌<◌, ◌≤◌, ◌-ℤ◌, ℕ, ℤ, zero, suc, ◌+◌, ◌-◌, ◌^◌, ◌==◌, pos, List, [], ◌∷◌, length, get_or, take, Bool, true, false, nat_lt, if◌then◌else◌, refl, sym, ap, ap₂, ◌∙◌, subst, arith}
use Rattle.std.specs.Prelude.{filter, map, fold, All, sum_by, unsigned_abs}
use Rattle.std.specs.Int.{int_wrap, w64}
use Rattle.std.proofs.lemmas.Int.{int_wrap_fits, ints}
use Rattle.std.proofs.lemmas.List.{take_more}
use Rattle.std.proofs.lemmas.List.Elements.{All-head, All-tail, All-nil, All-push, All-take}
use Rattle.std.proofs.lemmas.List.Sums.{sum_by-cons, sum_by_push, sum_by-take-le}
use Rattle.hash_rows.specs.declared.shape.Push.{Push}
use Rattle.hash_rows.specs.declared.shape.Update.{Update}
use Rattle.hash_rows.specs.Rules.{Rules, sums}
use Rattle.hash_rows.specs.Sketches.{sum_join, sum_gap, count_min_value, count_min_estimate}
use Rattle.hash_rows.proofs.SumLaws.{sum_gap_is, fits_sum}
use Rattle.hash_rows.proofs.PlainSums.{amount_sum, join_amounts}
use Rattle.push_history.specs.Share.{zero_key}
use Rattle.push_history.specs.Pushes.{ArePushes, TellsAll, is_sent}
use Rattle.push_history.specs.Told.{told_of, told, messages_before}
use Rattle.push_history.specs.Whole.{whole_of, whole}
use Rattle.push_history.proofs.Telling.{before_quiet, before_sent}

abbrev pub count_min : Rules
count_min = sums count_min_value count_min_estimate

-- a number that isn't negative
abbrev pub IsPlain : ℤ → Type 0
IsPlain a = pos (unsigned_abs a) ≡ a

-- what those that pass come to
abbrev pub sum_if : {X : Type 0} → (X → Bool) → (X → ℤ) → List X → ℕ
sum_if p v xs = sum_by (λ x. if p x then unsigned_abs (v x) else 0) xs

plain_joined : {X : Type 0} (p : X → Bool) (v : X → ℤ) (xs : List X) (s : ℕ) → All (λ x. IsPlain (v x)) xs → s + sum_if p v xs < 2 ^ 63
    → fold sum_join (pos s) (map v (filter p xs)) ≡ pos (s + sum_if p v xs)
plain_joined p v [] s plain small = ap pos (omega arith)
plain_joined {X} p v (x ∷ xs) s plain small =
    let more : sum_if p v (x ∷ xs) ≡ (if p x then unsigned_abs (v x) else 0) + sum_if p v xs = sum_by-cons (λ y. if p y then unsigned_abs (v y) else 0) x xs in
    by (p x) (All-head (λ y. IsPlain (v y)) x xs plain) (omega (arith, small, more)) (λ t less. plain_joined p v xs t (All-tail (λ y. IsPlain (v y)) x xs plain) less)
    ∙ ap (λ (n : ℕ). pos (s + n)) (sym more)
  where
    by : (b : Bool) → IsPlain (v x) → s + ((if b then unsigned_abs (v x) else 0) + sum_if p v xs) < 2 ^ 63
        → ((t : ℕ) → t + sum_if p v xs < 2 ^ 63 → fold sum_join (pos t) (map v (filter p xs)) ≡ pos (t + sum_if p v xs))
        → fold sum_join (pos s) (map v (if b then x ∷ filter p xs else filter p xs)) ≡ pos (s + ((if b then unsigned_abs (v x) else 0) + sum_if p v xs))
    by true own less rest =
        ap (λ (z : ℤ). fold sum_join (sum_join (pos s) z) (map v (filter p xs))) (sym own)
        ∙ ap (λ (z : ℤ). fold sum_join z (map v (filter p xs))) (join_amounts s (unsigned_abs (v x)) (omega (arith, less)))
        ∙ rest (s + unsigned_abs (v x)) (omega (arith, less)) ∙ ap pos (omega arith)
    by false own less rest = rest s (omega (arith, less)) ∙ ap pos (omega arith)

-- of a cell: what the messages tell, and what the updates make
abbrev pub plain_told : ℕ → List Push → ℕ
plain_told cell messages = sum_if (λ m. m.cell == cell) (λ m. m.amount) messages

abbrev pub plain_whole : ℕ → List Update → ℕ
plain_whole cell updates = sum_if (λ u. u.cell == cell) (λ u. u.value) updates

pub told_plain : (cell : ℕ) (messages : List Push) → All (λ m. IsPlain m.amount) messages → plain_told cell messages < 2 ^ 63 → told_of count_min cell messages ≡ pos (plain_told cell messages)
unfolding told_of
told_plain cell messages plain small = plain_joined (λ m. m.cell == cell) (λ m. m.amount) messages 0 plain (omega (arith, small)) ∙ ap pos (omega arith)

pub whole_plain : (cell : ℕ) (updates : List Update) → All (λ u. IsPlain u.value) updates → plain_whole cell updates < 2 ^ 63 → whole_of count_min cell updates ≡ pos (plain_whole cell updates)
unfolding whole_of
whole_plain cell updates plain small = plain_joined (λ u. u.cell == cell) (λ u. u.value) updates 0 plain (omega (arith, small)) ∙ ap pos (omega arith)

pub gap_plain : (a b : ℕ) → a ≤ b → b < 2 ^ 63 → sum_gap (pos a) (pos b) ≡ pos (b - a)
gap_plain a b le small =
    let rest : pos b -ℤ pos a ≡ pos (b - a) = omega (arith, ints) in
    sum_gap_is (pos a) (pos b) (amount_sum a (omega arith)) (amount_sum b small)
    ∙ ap (int_wrap w64) rest ∙ int_wrap_fits w64 (pos (b - a)) (fits_sum (pos (b - a)) (amount_sum (b - a) (omega arith)))

-- what was told of a cell never passes what its updates made
pub record IsTold (U : List Update) (S : List Push) (m : ℕ) : Type 0 where
  pub plain : All (λ x. IsPlain x.amount) (messages_before m S)
  pub within : (cell : ℕ) → plain_told cell (messages_before m S) ≤ plain_whole cell (take m U)

module _ (T : ℕ) (U : List Update) (S : List Push) (F : List ℕ) (h : ArePushes count_min T U S F) (values : All (λ u. IsPlain u.value) U) (small : (cell : ℕ) → plain_whole cell U < 2 ^ 63) where
  grows : (cell m : ℕ) → m < length U → plain_whole cell (take m U) ≤ plain_whole cell (take (m + 1) U)
  grows cell m lt =
      let d : Update = record { packet = 0; key = zero_key; cell = 0; value = pos 0 } in
      let more : plain_whole cell (take (m + 1) U) ≡ plain_whole cell (take m U) + (if (get_or U m d).cell == cell then unsigned_abs (get_or U m d).value else 0) =
      ap (plain_whole cell) (take_more U m d lt) ∙ sum_by_push (λ u. if u.cell == cell then unsigned_abs u.value else 0) (take m U) (get_or U m d) in
      omega (arith, more)

  below_all : (cell m : ℕ) → plain_whole cell (take m U) < 2 ^ 63
  below_all cell m = (let le = sum_by-take-le (λ u. if u.cell == cell then unsigned_abs u.value else 0) U m in let all = small cell in omega (arith, le, all))

  one_told : (m : ℕ) → m < length U → IsTold U S m → (x : Push) → TellsAll count_min U S x → x.update ≡ m
      → x.amount ≡ pos (plain_whole x.cell (take (m + 1) U) - plain_told x.cell (messages_before m S))
  unfolding told whole
  one_told m lt was x tells n =
      let c : ℕ = x.cell in
      let below = was.within c in
      let told_is : told_of count_min c (messages_before m S) ≡ pos (plain_told c (messages_before m S)) = told_plain c (messages_before m S) was.plain (let all = below_all c m in omega (arith, below, all)) in
      let whole_is : whole_of count_min c (take (m + 1) U) ≡ pos (plain_whole c (take (m + 1) U)) =
      whole_plain c (take (m + 1) U) (All-take (λ u. IsPlain u.value) (m + 1) U values) (below_all c (m + 1)) in
      tells.amount ∙ ap (λ (k : ℕ). sum_gap (told count_min S k c) (whole count_min U (k + 1) c)) n
      ∙ ap₂ sum_gap told_is whole_is
      ∙ gap_plain (plain_told c (messages_before m S)) (plain_whole c (take (m + 1) U)) (let g = grows c m lt in omega (arith, below, g)) (below_all c (m + 1))

  more_told : (m cell : ℕ) → m < length U → IsTold U S m → (x : Push) → x.amount ≡ pos (plain_whole x.cell (take (m + 1) U) - plain_told x.cell (messages_before m S))
      → (b : Bool) → (x.cell == cell) ≡ b → plain_told cell (messages_before m S) + (if b then unsigned_abs x.amount else 0) ≤ plain_whole cell (take (m + 1) U)
  more_told m cell lt was x amount true same =
      let e : x.cell ≡ cell = grind arith in
      let is : unsigned_abs x.amount ≡ plain_whole cell (take (m + 1) U) - plain_told cell (messages_before m S) =
      ap unsigned_abs amount ∙ ap (λ (c : ℕ). plain_whole c (take (m + 1) U) - plain_told c (messages_before m S)) e in
      let g = grows cell m lt in
      let below = was.within cell in
      omega (arith, is, g, below)
  more_told m cell lt was x amount false other = (let g = grows cell m lt in let below = was.within cell in omega (arith, g, below))

  told_more : (m : ℕ) → m < length U → IsTold U S m → (b : Bool) → is_sent m S ≡ b → IsTold U S (m + 1)
  told_more m lt was true sent =
      let one = before_sent count_min T U S F h m sent in
      let x : Push = one.0 in
      let amount = one_told m lt was x one.2 one.3 in
      record {
        plain = subst (λ (t : List Push). All (λ y. IsPlain y.amount) t) (sym one.1)
            (All-push (λ y. IsPlain y.amount) (messages_before m S) x was.plain (ap (λ (z : ℤ). pos (unsigned_abs z)) amount ∙ sym amount));
        within = λ cell. subst (λ (t : List Push). plain_told cell t ≤ plain_whole cell (take (m + 1) U)) (sym one.1)
            (let pushed = sum_by_push (λ y. if y.cell == cell then unsigned_abs y.amount else 0) (messages_before m S) x in
            let most = more_told m cell lt was x amount (x.cell == cell) refl in omega (arith, pushed, most));
      }
  told_more m lt was false none = record {
    plain = subst (λ (t : List Push). All (λ y. IsPlain y.amount) t) (sym (before_quiet S m none)) was.plain;
    within = λ cell. subst (λ (t : List Push). plain_told cell t ≤ plain_whole cell (take (m + 1) U)) (sym (before_quiet S m none))
        (let g = grows cell m lt in let below = was.within cell in omega (arith, g, below));
  }

no_before : (S : List Push) → messages_before 0 S ≡ []
no_before [] = refl
no_before (x ∷ xs) = let no : nat_lt x.update 0 ≡ false = grind arith in rw no (no_before xs)

pub are_told : (T : ℕ) (U : List Update) (S : List Push) (F : List ℕ) → ArePushes count_min T U S F → All (λ u. IsPlain u.value) U → ((cell : ℕ) → plain_whole cell U < 2 ^ 63)
    → (m : ℕ) → m ≤ length U → IsTold U S m
are_told T U S F h values small zero le = record {
  plain = subst (λ (t : List Push). All (λ x. IsPlain x.amount) t) (sym (no_before S)) (All-nil (λ x. IsPlain x.amount));
  within = λ cell. subst (λ (t : List Push). plain_told cell t ≤ plain_whole cell (take 0 U)) (sym (no_before S)) (omega arith);
}
are_told T U S F h values small (suc m) le =
    let next : suc m ≡ m + 1 = omega arith in
    subst (λ (n : ℕ). IsTold U S n) (sym next)
    (told_more T U S F h values small m (omega (arith, le)) (are_told T U S F h values small m (omega (arith, le))) (is_sent m S) refl)
