-- The laws of LogLog: the greater of two ranks.
use Rattle.std.proofs.Common.{◌≡◌, ◌<◌, ◌≤◌, ◌^◌, ◌+◌, ◌*◌, ℕ, ℤ, pos, negsuc, ◌-ℤ◌, ◌≤ℤ◌, Bool, true, false, Some, None, if◌then◌else◌, refl, sym, ap, subst, arith}
use Rattle.std.specs.Prelude.{unsigned_abs, nat_le, int_le, nat_lt, ◌-◌, ◌/◌, ◌%◌}
use Rattle.hash_rows.specs.declared.shape.Shape.{Shape}
use Rattle.hash_rows.specs.declared.shape.Packet.{Packet}
use Rattle.std.proofs.lemmas.Int.{ints}
use Rattle.hash_rows.specs.Rules.{AreLaws, ranks}
use Rattle.hash_rows.specs.Sketches.{is_rank, rank_join, rank_gap, rank_distance, rank_small, rank_of, loglog_value}

-- 0 to 32
rank_most : (n : ℕ) → is_rank (pos n) ≡ true → n ≤ 32
rank_most n h = grind arith

rank_from : (n : ℕ) → n ≤ 32 → is_rank (pos n) ≡ true
rank_from n h = grind arith

join_rank : (a b : ℤ) → is_rank a ≡ true → is_rank b ≡ true → is_rank (rank_join a b) ≡ true
join_rank (pos a) (pos b) p q = grind arith
join_rank (negsuc a) b p q = cc
join_rank (pos a) (negsuc b) p q = cc

gap_rank : (a b : ℤ) → is_rank a ≡ true → is_rank b ≡ true → is_rank (rank_gap a b) ≡ true
gap_rank (pos a) (pos b) p q = grind arith
gap_rank (negsuc a) b p q = cc
gap_rank (pos a) (negsuc b) p q = cc

join_zero : (a : ℤ) → is_rank a ≡ true → rank_join (pos 0) a ≡ a
join_zero (pos a) p = grind arith
join_zero (negsuc a) p = cc

join_comm : (a b : ℤ) → is_rank a ≡ true → is_rank b ≡ true → rank_join a b ≡ rank_join b a
join_comm (pos a) (pos b) p q = grind arith
join_comm (negsuc a) b p q = cc
join_comm (pos a) (negsuc b) p q = cc

join_assoc : (a b c : ℤ) → is_rank a ≡ true → is_rank b ≡ true → is_rank c ≡ true → rank_join (rank_join a b) c ≡ rank_join a (rank_join b c)
join_assoc (pos a) (pos b) (pos c) p q r = grind arith
join_assoc (negsuc a) b c p q r = cc
join_assoc (pos a) (negsuc b) c p q r = cc
join_assoc (pos a) (pos b) (negsuc c) p q r = cc

join_gap : (told whole : ℤ) → is_rank told ≡ true → is_rank whole ≡ true → int_le told whole ≡ true → rank_join told (rank_gap told whole) ≡ whole
join_gap (pos a) (pos b) p q behind = grind arith
join_gap (negsuc a) b p q behind = cc
join_gap (pos a) (negsuc b) p q behind = cc

gap_self : (a : ℤ) → is_rank a ≡ true → rank_gap a a ≡ pos 0
gap_self (pos a) p = grind arith
gap_self (negsuc a) p = cc

distance_self : (a : ℤ) → is_rank a ≡ true → rank_distance a a ≡ 0
distance_self (pos a) p = grind arith
distance_self (negsuc a) p = cc

behind_zero : (a : ℤ) → is_rank a ≡ true → int_le (pos 0) a ≡ true
behind_zero (pos a) p = grind arith
behind_zero (negsuc a) p = cc

behind_self : (a : ℤ) → is_rank a ≡ true → int_le a a ≡ true
behind_self (pos a) p = grind arith
behind_self (negsuc a) p = cc

behind_join : (told whole a : ℤ) → is_rank told ≡ true → is_rank whole ≡ true → is_rank a ≡ true
    → int_le told whole ≡ true → int_le told (rank_join whole a) ≡ true
behind_join (pos t) (pos w) (pos a) p q r behind = grind arith
behind_join (negsuc t) w a p q r behind = cc
behind_join (pos t) (negsuc w) a p q r behind = cc
behind_join (pos t) (pos w) (negsuc a) p q r behind = cc

-- how far two ranks are apart
pub rank_distance_is : (told whole : ℕ) → told ≤ whole → rank_distance (pos told) (pos whole) ≡ whole - told
rank_distance_is told whole behind = by_test (nat_lt told whole) refl where
  by_test : (test : Bool) → nat_lt told whole ≡ test → (if test then unsigned_abs (pos whole -ℤ pos told) else 0) ≡ whole - told
  by_test true less =
      let apart : pos whole -ℤ pos told ≡ pos (whole - told) = omega (arith, ints) in
      ap unsigned_abs apart
  by_test false not_less = grind arith

-- what the byte of two ranks says of them
byte_of : (told far : ℕ) (b : ℤ) → (if nat_le far 2 then Some (pos (told + 33 * far)) else None) ≡ Some b
    → (far ≤ 2) × (b ≡ pos (told + 33 * far))
byte_of told far b h = by_test (nat_le far 2) refl where
  by_test : (test : Bool) → nat_le far 2 ≡ test → (far ≤ 2) × (b ≡ pos (told + 33 * far))
  by_test true near = (grind arith, cc)
  by_test false past = cc

pub rank_small_is : (told whole : ℕ) (b : ℤ) → told ≤ whole → rank_small (pos told) (pos whole) ≡ Some b
    → (whole - told ≤ 2) × (b ≡ pos (told + 33 * (whole - told)))
rank_small_is told whole b behind h =
    let P : ℕ → Type 0 = λ far. (if nat_le far 2 then Some (pos (told + 33 * far)) else None) ≡ Some b in
    byte_of told (whole - told) b (subst P (rank_distance_is told whole behind) h)

-- two numbers up to 32 are ranks, the lesser behind the other
pub ranks_are : (told whole : ℕ) → whole ≤ 32 → told ≤ whole
    → (is_rank (pos told) ≡ true) × (is_rank (pos whole) ≡ true) × (int_le (pos told) (pos whole) ≡ true)
ranks_are told whole most behind = (rank_from told (omega arith), rank_from whole most, grind arith)

-- the byte gives both ranks back
pub ranks_back : (told whole : ℕ) (b : ℤ) → told ≤ 32 → told ≤ whole → rank_small (pos told) (pos whole) ≡ Some b
    → (unsigned_abs b % 33 ≡ told) × (unsigned_abs b % 33 + unsigned_abs b / 33 ≡ whole)
ranks_back told whole b most behind h =
    let byte = rank_small_is told whole b behind h in
    let far : whole - told ≤ 2 = byte.0 in
    let size : unsigned_abs b ≡ told + 33 * (whole - told) = ap unsigned_abs byte.1 in
    (omega arith, omega arith)

small_within : (told whole b : ℤ) → is_rank told ≡ true → is_rank whole ≡ true → int_le told whole ≡ true
    → rank_small told whole ≡ Some b → (negsuc 126 ≤ℤ b) × (b ≤ℤ pos 127)
small_within (pos told) (pos whole) b p q behind h =
    let low : told ≤ 32 = rank_most told p in
    let order : told ≤ whole = grind arith in
    let byte = rank_small_is told whole b order h in
    subst (λ x. (negsuc 126 ≤ℤ x) × (x ≤ℤ pos 127)) (sym byte.1) (omega (arith, ints), omega (arith, ints))
small_within (negsuc told) whole b p q behind h = cc
small_within (pos told) (negsuc whole) b p q behind h = cc

value_rank : (shape : Shape) (packet : Packet) (row : ℕ) → packet.amount < 2 ^ 32 → is_rank (loglog_value shape packet row) ≡ true
unfolding rank_of
value_rank shape packet row small = grind arith

pub ranks_lawful : AreLaws ranks
ranks_lawful = record {
  zero_value = refl;
  join_value = join_rank;
  gap_value = gap_rank;
  packet_value = value_rank;
  join_zero = join_zero;
  join_comm = join_comm;
  join_assoc = join_assoc;
  join_gap = join_gap;
  gap_self = gap_self;
  distance_self = distance_self;
  behind_zero = behind_zero;
  behind_self = behind_self;
  behind_join = behind_join;
  small_zero = refl;
  small_within = small_within;
}
