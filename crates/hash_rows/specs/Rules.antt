-- The functions of a kind of sketch, those of each sketch, and the laws that the layers above rest on.
use Rattle.std.specs.Prelude.{◌≡◌, ◌≤ℤ◌, ℕ, ℤ, pos, negsuc, Bool, true, false, List, All, Option, Some}
use Rattle.packet_key.specs.declared.key.FlowKey.{FlowKey}
use Rattle.hash_rows.specs.declared.shape.Shape.{Shape}
use Rattle.hash_rows.specs.declared.shape.Packet.{Packet}
use Rattle.hash_rows.specs.declared.options.Sketch.{Sketch}
use Rattle.hash_rows.specs.declared.options.Sketch.TheVariants.{CountMin, CountSketch, LogLog}
use Rattle.hash_rows.specs.Sketches.{is_sum, sum_join, sum_gap, sum_distance, sum_small, count_min_value, count_min_estimate, count_sketch_value, count_sketch_estimate, is_rank, rank_join, rank_gap, rank_distance, rank_small, loglog_value, loglog_estimate}
use Rattle.std.specs.Prelude.{int_le, ◌<◌, ◌^◌}

-- whether estimates depend on the key; the join; what joins `told` to `whole`; the values; whether `told` is behind
-- `whole`; how far; what a packet adds in a row; what cells say of a key; a pair in one byte
pub record Rules : Type 0 where
  pub keyed : Bool
  pub join : ℤ → ℤ → ℤ
  pub gap : ℤ → ℤ → ℤ
  pub is_value : ℤ → Bool
  pub is_behind : ℤ → ℤ → Bool
  pub distance : ℤ → ℤ → ℕ
  pub value : Shape → Packet → ℕ → ℤ
  pub estimate : Shape → List ℤ → FlowKey → ℤ
  pub small : ℤ → ℤ → Option ℤ

-- sums modulo 2 ^ 64
abbrev pub sums : (Shape → Packet → ℕ → ℤ) → (Shape → List ℤ → FlowKey → ℤ) → Rules
sums value estimate = record {
  keyed = true;
  join = sum_join;
  gap = sum_gap;
  is_value = is_sum;
  is_behind = λ told whole. true;
  distance = sum_distance;
  value = value;
  estimate = estimate;
  small = sum_small;
}

-- the greater of two ranks
abbrev pub ranks : Rules
ranks = record {
  keyed = false;
  join = rank_join;
  gap = rank_gap;
  is_value = is_rank;
  is_behind = int_le;
  distance = rank_distance;
  value = loglog_value;
  estimate = loglog_estimate;
  small = rank_small;
}

-- the functions of a sketch
abbrev pub rules_of : Sketch → Rules
rules_of CountMin = sums count_min_value count_min_estimate
rules_of CountSketch = sums count_sketch_value count_sketch_estimate
rules_of LogLog = ranks

-- each is a value of the kind
abbrev pub AreValues : Rules → List ℤ → Type 0
AreValues r xs = All (λ x. r.is_value x ≡ true) xs

-- the laws, over the kind's values
pub record AreLaws (r : Rules) : Type 0 where
  pub zero_value : r.is_value (pos 0) ≡ true
  pub join_value : (a b : ℤ) → r.is_value a ≡ true → r.is_value b ≡ true → r.is_value (r.join a b) ≡ true
  pub gap_value : (a b : ℤ) → r.is_value a ≡ true → r.is_value b ≡ true → r.is_value (r.gap a b) ≡ true
  pub packet_value : (shape : Shape) (packet : Packet) (row : ℕ) → packet.amount < 2 ^ 32 → r.is_value (r.value shape packet row) ≡ true
  pub join_zero : (a : ℤ) → r.is_value a ≡ true → r.join (pos 0) a ≡ a
  pub join_comm : (a b : ℤ) → r.is_value a ≡ true → r.is_value b ≡ true → r.join a b ≡ r.join b a
  pub join_assoc : (a b c : ℤ) → r.is_value a ≡ true → r.is_value b ≡ true → r.is_value c ≡ true
      → r.join (r.join a b) c ≡ r.join a (r.join b c)
  pub join_gap : (told whole : ℤ) → r.is_value told ≡ true → r.is_value whole ≡ true → r.is_behind told whole ≡ true
      → r.join told (r.gap told whole) ≡ whole
  pub gap_self : (a : ℤ) → r.is_value a ≡ true → r.gap a a ≡ pos 0
  pub distance_self : (a : ℤ) → r.is_value a ≡ true → r.distance a a ≡ 0
  pub behind_zero : (a : ℤ) → r.is_value a ≡ true → r.is_behind (pos 0) a ≡ true
  pub behind_self : (a : ℤ) → r.is_value a ≡ true → r.is_behind a a ≡ true
  pub behind_join : (told whole a : ℤ) → r.is_value told ≡ true → r.is_value whole ≡ true → r.is_value a ≡ true
      → r.is_behind told whole ≡ true → r.is_behind told (r.join whole a) ≡ true
  pub small_zero : r.small (pos 0) (pos 0) ≡ Some (pos 0)
  pub small_within : (told whole b : ℤ) → r.is_value told ≡ true → r.is_value whole ≡ true → r.is_behind told whole ≡ true
      → r.small told whole ≡ Some b → (negsuc 126 ≤ℤ b) × (b ≤ℤ pos 127)
