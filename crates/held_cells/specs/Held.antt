-- One byte a cell, and beside them the held values that don't fit.
use Rattle.std.specs.Prelude.{◌≡◌, ◌<◌, ◌≤◌, ◌+◌, ℕ, ℤ, negsuc, true, false, List, length, map, min, nat_eq, get_or, if◌then◌else◌, Option, Some, None, refl}
use Rattle.std.specs.List.{range_with_len, IsDistinct, list_any}
use Rattle.std.specs.Ordering.{int_eq}
use Rattle.std.specs.Option.{unwrap_or}
use Rattle.std.specs.Map.{keys_of, lookup}
use Rattle.std.specs.Coded.{Coded, code_by, coded×, coded_ℕ, coded_list, coded_option}

-- what is held of each cell; the cell whose value is open; how many changes are left
pub record HeldView (Held : Type 0) : Type 0 where
  pub held : List Held
  pub due : Option ℕ
  pub left : ℕ

-- how it is stored
abbrev pub held_code : {Held : Type 0} → Coded Held → Coded (HeldView Held)
held_code {Held} code =
    code_by (List Held × (Option ℕ × ℕ)) (coded× (coded_list code) (coded× (coded_option coded_ℕ) coded_ℕ))
    (λ s. (s.held, (s.due, s.left))) (λ p. record { held = p.0; due = p.1.0; left = p.1.1 }) (λ _. refl)

-- the byte of a cell whose held value has no small form
abbrev pub mark : ℤ
mark = negsuc 127

-- the byte that tells a small form
abbrev pub byte_of : Option ℤ → ℤ
byte_of None = mark
byte_of (Some small) = small

-- small forms of held values, and the way back; the value of a cell of which nothing was counted
pub record Forms (Held : Type 0) : Type 0 where
  pub small : Held → Option ℤ
  pub from_small : ℤ → Held
  pub fresh : Held

-- a byte for each cell; the values beside them, and for how many more there is room; the cell whose value is open,
-- with its value; how many changes are left
pub record Parts (Held : Type 0) : Type 0 where
  pub bytes : List ℤ
  pub side : List (ℕ × Held)
  pub spare : ℕ
  pub due : Option (ℕ × Held)
  pub left : ℕ

-- what byte and side table tell of a cell
abbrev pub kept_at : {Held : Type 0} → Forms Held → List ℤ → List (ℕ × Held) → ℕ → Held
kept_at f bytes side cell = if int_eq (get_or bytes cell mark) mark then unwrap_or (lookup (nat_eq cell) side) f.fresh else f.from_small
    (get_or bytes cell mark)

-- an open value comes before them
abbrev pub shown_at : {Held : Type 0} → Option (ℕ × Held) → ℕ → Held → Held
shown_at None cell kept = kept
shown_at (Some due) cell kept = if nat_eq cell due.0 then due.1 else kept

-- what is held of a cell
abbrev pub held_at : {Held : Type 0} → Forms Held → Parts Held → ℕ → Held
held_at f p cell = shown_at p.due cell (kept_at f p.bytes p.side cell)

-- what is held of each cell
abbrev pub held_of : {Held : Type 0} → Forms Held → Parts Held → List Held
held_of f p = map (held_at f p) (range_with_len 0 (length p.bytes))

-- the value stands for two values, and the byte tells its small form
pub record IsByteOf {Held : Type 0} (stands : Held → ℤ → ℤ → Type 0) (f : Forms Held) (held : Held) (byte : ℤ) : Type 0 where
  pub told : ℤ
  pub whole : ℤ
  pub stood : stands held told whole
  pub tells : byte ≡ byte_of (f.small held)

-- each byte tells the small form of what is held; the open value is a cell's, and a change is left for it; the side
-- table is one of cells, and has room for all that may come
pub record AreHeldParts {Held : Type 0} (stands : Held → ℤ → ℤ → Type 0) (f : Forms Held) (p : Parts Held) : Type 0 where
  pub values : (cell : ℕ) → cell < length p.bytes → IsByteOf stands f (held_at f p cell) (get_or p.bytes cell mark)
  pub pending : (cell : ℕ) (held : Held) → p.due ≡ Some (cell, held) → (cell < length p.bytes) × (0 < p.left)
  pub cells : (cell : ℕ) → list_any (nat_eq cell) (keys_of p.side) ≡ true → cell < length p.bytes
  pub distinct : IsDistinct nat_eq (keys_of p.side)
  pub room : min (length p.bytes) (length p.side + p.left) ≤ p.spare + length p.side

-- the side table has this value of the cell, where it has no small form, and those that it had of the others; no two
-- entries are of one cell, there is at most one more, and its room is used
pub record IsHeldBeside {Held : Type 0} (small : Option ℤ) (old : List (ℕ × Held)) (spare : ℕ) (cell : ℕ) (held : Held) (new : List (ℕ
    × Held)) (left : ℕ) : Type 0 where
  pub own : small ≡ None → lookup (nat_eq cell) new ≡ Some held
  pub others : (k : ℕ) → nat_eq cell k ≡ false → lookup (nat_eq k) new ≡ lookup (nat_eq k) old
  pub distinct : IsDistinct nat_eq (keys_of new)
  pub more : length new ≤ length old + 1
  pub room : spare + length old ≤ left + length new
