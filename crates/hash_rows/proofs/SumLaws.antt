-- The laws of the kinds that join by sums modulo 2 ^ 64.
use Rattle.std.proofs.Common.{◌≡◌, ◌<◌, ◌≤◌, ◌^◌, ℕ, ℤ, pos, negsuc, ◌+ℤ◌, ◌-ℤ◌, ◌≤ℤ◌, Bool, true, false, Some, nat_le, if◌then◌else◌, List, refl, sym, ap, subst, ◌∙◌, arith}
use Rattle.std.specs.Int.{int_wrap, int_wrapping_neg, w64}
use Rattle.std.specs.Prelude.{FitsSigned, unsigned_abs, neg_ℤ, nat_lt}
use Rattle.std.proofs.lemmas.Int.{wrapping_add_is, wrapping_neg_is, wrapping_sub_is, int_wrap-add_left, int_wrap-add_right, int_wrap_fits, SFits-int_wrap, ints}
use Rattle.packet_key.specs.declared.key.FlowKey.{FlowKey}
use Rattle.hash_rows.specs.declared.shape.Shape.{Shape}
use Rattle.hash_rows.specs.declared.shape.Packet.{Packet}
use Rattle.hash_rows.specs.Hash.{row_hash_of}
use Rattle.hash_rows.specs.Rules.{AreLaws, sums}
use Rattle.hash_rows.specs.Sketches.{is_sum, sum_join, sum_gap, small_gap, signed_in_row, count_min_value, count_min_estimate, count_sketch_value, count_sketch_estimate}

-- a number of 64 bits, as the library says it
pub fits_sum : (a : ℤ) → is_sum a ≡ true → FitsSigned w64 a
fits_sum (pos n) h = record { sfits = grind arith }
fits_sum (negsuc n) h = record { sfits = grind arith }

pub sum_fits : (a : ℤ) → FitsSigned w64 a → is_sum a ≡ true
sum_fits (pos n) h = grind (arith, h.sfits)
sum_fits (negsuc n) h = grind (arith, h.sfits)

-- join and gap are a sum and a difference, wrapped
pub sum_join_is : (a b : ℤ) → is_sum a ≡ true → is_sum b ≡ true → sum_join a b ≡ int_wrap w64 (a +ℤ b)
sum_join_is a b p q = wrapping_add_is w64 a b (fits_sum a p) (fits_sum b q)

pub sum_gap_is : (told whole : ℤ) → is_sum told ≡ true → is_sum whole ≡ true → sum_gap told whole ≡ int_wrap w64 (whole -ℤ told)
sum_gap_is told whole p q = wrapping_sub_is w64 whole told (fits_sum whole q) (fits_sum told p)

pub join_sum : (a b : ℤ) → is_sum a ≡ true → is_sum b ≡ true → is_sum (sum_join a b) ≡ true
join_sum a b p q = ap is_sum (sum_join_is a b p q) ∙ sum_fits _ (SFits-int_wrap w64 (a +ℤ b))

pub gap_sum : (told whole : ℤ) → is_sum told ≡ true → is_sum whole ≡ true → is_sum (sum_gap told whole) ≡ true
gap_sum told whole p q = ap is_sum (sum_gap_is told whole p q) ∙ sum_fits _ (SFits-int_wrap w64 (whole -ℤ told))

join_zero : (a : ℤ) → is_sum a ≡ true → sum_join (pos 0) a ≡ a
join_zero a p =
    let same : pos 0 +ℤ a ≡ a = omega (arith, ints) in
    sum_join_is (pos 0) a refl p ∙ ap (int_wrap w64) same ∙ int_wrap_fits w64 a (fits_sum a p)

join_comm : (a b : ℤ) → is_sum a ≡ true → is_sum b ≡ true → sum_join a b ≡ sum_join b a
join_comm a b p q =
    let same : a +ℤ b ≡ b +ℤ a = omega (arith, ints) in
    sum_join_is a b p q ∙ ap (int_wrap w64) same ∙ sym (sum_join_is b a q p)

join_assoc : (a b c : ℤ) → is_sum a ≡ true → is_sum b ≡ true → is_sum c ≡ true → sum_join (sum_join a b) c ≡ sum_join a (sum_join b c)
join_assoc a b c p q r =
    let same : (a +ℤ b) +ℤ c ≡ a +ℤ (b +ℤ c) = omega (arith, ints) in
    sum_join_is (sum_join a b) c (join_sum a b p q) r
    ∙ ap (λ x. int_wrap w64 (x +ℤ c)) (sum_join_is a b p q)
    ∙ int_wrap-add_left w64 (a +ℤ b) c
    ∙ ap (int_wrap w64) same
    ∙ sym (int_wrap-add_right w64 a (b +ℤ c))
    ∙ ap (λ x. int_wrap w64 (a +ℤ x)) (sym (sum_join_is b c q r))
    ∙ sym (sum_join_is a (sum_join b c) p (join_sum b c q r))

join_gap : (told whole : ℤ) → is_sum told ≡ true → is_sum whole ≡ true → sum_join told (sum_gap told whole) ≡ whole
join_gap told whole p q =
    let same : told +ℤ (whole -ℤ told) ≡ whole = omega (arith, ints) in
    sum_join_is told (sum_gap told whole) p (gap_sum told whole p q)
    ∙ ap (λ x. int_wrap w64 (told +ℤ x)) (sum_gap_is told whole p q)
    ∙ int_wrap-add_right w64 told (whole -ℤ told)
    ∙ ap (int_wrap w64) same
    ∙ int_wrap_fits w64 whole (fits_sum whole q)

pub gap_self : (a : ℤ) → is_sum a ≡ true → sum_gap a a ≡ pos 0
gap_self a p =
    let same : a -ℤ a ≡ pos 0 = omega (arith, ints) in
    sum_gap_is a a p p ∙ ap (int_wrap w64) same ∙ int_wrap_fits w64 (pos 0) (fits_sum (pos 0) refl)

-- a small gap is from -127 to 127
pub small_within : (gap : ℤ) → nat_le (unsigned_abs gap) 127 ≡ true → (negsuc 126 ≤ℤ gap) × (gap ≤ℤ pos 127)
small_within (pos n) h = let low : n ≤ 127 = grind arith in (omega (arith, ints), omega (arith, ints))
small_within (negsuc n) h = let low : n ≤ 126 = grind arith in (omega (arith, ints), omega (arith, ints))

-- a gap that has a byte is small, and is that byte
pub small_gap_is : (gap b : ℤ) → small_gap gap ≡ Some b → (nat_le (unsigned_abs gap) 127 ≡ true) × (gap ≡ b)
small_gap_is gap b h = by_test (nat_le (unsigned_abs gap) 127) refl where
  by_test : (test : Bool) → nat_le (unsigned_abs gap) 127 ≡ test → (nat_le (unsigned_abs gap) 127 ≡ true) × (gap ≡ b)
  by_test true fits = (fits, cc)
  by_test false fits = cc

small_fits : (gap b : ℤ) → small_gap gap ≡ Some b → (negsuc 126 ≤ℤ b) × (b ≤ℤ pos 127)
small_fits gap b h =
    let is = small_gap_is gap b h in
    subst (λ x. (negsuc 126 ≤ℤ x) × (x ≤ℤ pos 127)) is.1 (small_within gap is.0)

-- an amount is a value, and so is its negative
amount_sum : (n : ℕ) → n < 2 ^ 32 → is_sum (pos n) ≡ true
amount_sum n small = grind arith

signed_sum : (key : FlowKey) (row n : ℕ) → n < 2 ^ 32 → is_sum (signed_in_row key row (pos n)) ≡ true
signed_sum key row n small = by_test (nat_lt (row_hash_of key row) (2 ^ 63)) where
  by_test : (test : Bool) → is_sum (if test then pos n else int_wrapping_neg w64 (pos n)) ≡ true
  by_test true = amount_sum n small
  by_test false = ap is_sum (wrapping_neg_is w64 (pos n) (fits_sum (pos n) (amount_sum n small))) ∙ sum_fits _ (SFits-int_wrap w64 (neg_ℤ (pos n)))

pub sums_lawful : (value : Shape → Packet → ℕ → ℤ) (estimate : Shape → List ℤ → FlowKey → ℤ)
    → ((shape : Shape) (packet : Packet) (row : ℕ) → packet.amount < 2 ^ 32 → is_sum (value shape packet row) ≡ true)
    → AreLaws (sums value estimate)
sums_lawful value estimate values = record {
  zero_value = refl;
  join_value = join_sum;
  gap_value = gap_sum;
  packet_value = values;
  join_zero = join_zero;
  join_comm = join_comm;
  join_assoc = join_assoc;
  join_gap = λ told whole p q behind. join_gap told whole p q;
  gap_self = gap_self;
  distance_self = λ a p. ap unsigned_abs (gap_self a p);
  behind_zero = λ a p. refl;
  behind_self = λ a p. refl;
  behind_join = λ told whole a p q r behind. refl;
  small_zero = refl;
  small_within = λ told whole b p q behind h. small_fits (sum_gap told whole) b h;
}

pub count_min_lawful : AreLaws (sums count_min_value count_min_estimate)
count_min_lawful = sums_lawful count_min_value count_min_estimate (λ shape packet row small. amount_sum packet.amount small)

pub count_sketch_lawful : AreLaws (sums count_sketch_value count_sketch_estimate)
count_sketch_lawful = sums_lawful count_sketch_value count_sketch_estimate (λ shape packet row small. signed_sum packet.key row packet.amount small)
