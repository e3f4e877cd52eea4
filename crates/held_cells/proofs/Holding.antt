-- How cells go on being held.
use Rattle.std.proofs.Common.{◌≡◌, ◌≢◌, ◌<◌, ◌≤◌, ◌+◌, ◌==◌, ℕ, zero, suc, ℤ, pos, negsuc, Bool, true, false, List, [], ◌∷◌, length, get_or, map, take, count_by, is_none, ◌≤ℤ◌, Option, Some, None, option_map, replicate, nat_eq, is_some, refl, sym, ap, ◌∙◌, subst, arith, ◌||◌}
use Rattle.std.proofs.lemmas.Bool.Decides.{nat_tests}
use Rattle.std.specs.Prelude.{slice_get, slice_set, min}
use Rattle.std.specs.List.{range_with_len, IsDistinct, list_any, AllByRecursion}
use Rattle.std.specs.Ordering.{int_eq}
use Rattle.std.specs.Map.{keys_of, lookup}
use Rattle.std.proofs.lemmas.List.{get_or-set_same, get_or-set_other, length-set, length-map, length-replicate, get_or-replicate}
use Rattle.std.proofs.lemmas.List.Sums.{count_by_more_no, count_by_more_yes}
use Rattle.std.proofs.lemmas.List.FromFn.{length-map-range_with_len, get_or-map-range_with_len, fill_by_all}
use Rattle.std.proofs.lemmas.Option.{slice_get-get_or}
use Rattle.std.proofs.lemmas.Map.Made.{is_some-lookup}
use Rattle.std.proofs.lemmas.Map.Steps.{length-le_from_distinct_below}
use Rattle.hash_rows.specs.Rules.{Rules, AreLaws}
use Rattle.push_history.proofs.Lists.{set_made}
use Rattle.held_cells.specs.Held.{AreHeldParts, Forms, IsByteOf, IsHeldBeside, Parts, byte_of, held_at, held_of, kept_at, mark, shown_at}

-- how small forms and held values go together
pub record AreForms {H : Type 0} (stands : H → ℤ → ℤ → Type 0) (f : Forms H) : Type 0 where
  pub back : (h : H) (told whole b : ℤ) → stands h told whole → f.small h ≡ Some b → f.from_small b ≡ h
  pub above : (h : H) (told whole b : ℤ) → stands h told whole → f.small h ≡ Some b → int_eq b mark ≡ false

-- a small form is no mark
not_mark : (b : ℤ) → negsuc 126 ≤ℤ b → int_eq b mark ≡ false
not_mark b above = by (int_eq b mark) refl
  where
    by : (t : Bool) → int_eq b mark ≡ t → int_eq b mark ≡ false
    by true is = absurd (let e : b ≡ negsuc 127 = grind (arith, is) in let low : negsuc 126 ≤ℤ negsuc 127 = subst (λ z. negsuc 126 ≤ℤ z) e above in grind (arith, low))
    by false is = is

-- small forms of a kind
pub forms_hold : {H : Type 0} (stands : H → ℤ → ℤ → Type 0) (r : Rules) → AreLaws r
    → ((h : H) (told whole : ℤ) → stands h told whole → (r.is_value told ≡ true) × (r.is_value whole ≡ true) × (r.is_behind told whole ≡ true))
    → (f : Forms H) → ((h : H) (told whole : ℤ) → stands h told whole → f.small h ≡ r.small told whole)
    → ((h : H) (told whole b : ℤ) → stands h told whole → f.small h ≡ Some b → f.from_small b ≡ h) → AreForms stands f
forms_hold stands r laws values f small_is back = record {
  back = back;
  above = λ h told whole b stood is.
      let are = values h told whole stood in
      not_mark b (laws.small_within told whole b are.0 are.1 are.2 (sym (small_is h told whole stood) ∙ is)).0;
}

-- as many as there are cells
pub held_len : {H : Type 0} (f : Forms H) (p : Parts H) → length (held_of f p) ≡ length p.bytes
held_len f p = length-map-range_with_len (held_at f p) 0 (length p.bytes)

-- what is held of a cell
pub held_get : {H : Type 0} (f : Forms H) (p : Parts H) (cell : ℕ) → cell < length p.bytes → slice_get (held_of f p) cell ≡ Some (held_at f p cell)
held_get f p cell lt =
    slice_get-get_or (held_of f p) cell (held_at f p cell) (omega (arith, lt, held_len f p))
    ∙ ap Some (get_or-map-range_with_len (held_at f p) 0 (length p.bytes) cell cell (held_at f p cell) lt (omega arith))

-- another cell than the open one
pub shown_other : {H : Type 0} (due cell : ℕ) (held kept : H) → nat_eq cell due ≡ false → shown_at (Some (due, held)) cell kept ≡ kept
shown_other due cell held kept other = rw other refl

pub shown_own : {H : Type 0} (cell : ℕ) (held kept : H) → shown_at (Some (cell, held)) cell kept ≡ held
shown_own cell held kept = let same : nat_eq cell cell ≡ true = grind (arith, nat_tests) in rw same refl

pub shown_same : {H : Type 0} (due cell : ℕ) (held kept : H) → due ≡ cell → shown_at (Some (due, held)) cell kept ≡ held
shown_same due cell held kept same = let yes : nat_eq cell due ≡ true = grind (arith, nat_tests, same) in rw yes refl

apart : (a b : ℕ) → (a == b) ≡ false → (b ≢ a) × (nat_eq b a ≡ false)
apart a b other = (grind (arith, nat_tests), grind (arith, nat_tests))

-- what byte and side table tell of another cell stays
kept_other : {H : Type 0} (f : Forms H) (bytes : List ℤ) (old new : List (ℕ × H)) (cell k : ℕ) (byte : ℤ) → (cell == k) ≡ false
    → lookup (nat_eq k) new ≡ lookup (nat_eq k) old → kept_at f (slice_set bytes cell byte) new k ≡ kept_at f bytes old k
kept_other f bytes old new cell k byte other stays = rw (get_or-set_other bytes cell k byte mark (apart cell k other).0, stays) refl

-- and what they tell of the cell is the value that was put
kept_own : {H : Type 0} (stands : H → ℤ → ℤ → Type 0) (f : Forms H) → AreForms stands f → (bytes : List ℤ) (new : List (ℕ × H)) (cell : ℕ) (held : H) (told whole : ℤ) → stands held told whole
    → cell < length bytes → (small : Option ℤ) → f.small held ≡ small → (small ≡ None → lookup (nat_eq cell) new ≡ Some held)
    → kept_at f (slice_set bytes cell (byte_of small)) new cell ≡ held
kept_own stands f forms bytes new cell held told whole stood lt None is own =
    let byte : get_or (slice_set bytes cell mark) cell mark ≡ mark = get_or-set_same bytes cell mark mark lt in
    rw (byte, own refl) refl
kept_own stands f forms bytes new cell held told whole stood lt (Some b) is own =
    let byte : get_or (slice_set bytes cell b) cell mark ≡ b = get_or-set_same bytes cell b mark lt in
    let wide : int_eq b mark ≡ false = forms.above held told whole b stood is in
    rw (byte, wide) (forms.back held told whole b stood is)

-- a list of held values in which that of one cell is put
held_put : {H : Type 0} (f : Forms H) (p q : Parts H) (cell : ℕ) (held : H) → length q.bytes ≡ length p.bytes → cell < length p.bytes
    → held_at f q cell ≡ held → ((k : ℕ) → (cell == k) ≡ false → held_at f q k ≡ held_at f p k) → held_of f q ≡ slice_set (held_of f p) cell held
held_put f p q cell held len lt own others =
    ap (λ n. map (held_at f q) (range_with_len 0 n)) len
    ∙ sym (set_made (held_at f p) (held_at f q) (held_of f p) (length p.bytes) cell held held refl lt own others)

-- the bytes tell what is held, once that of one cell is put
values_put : {H : Type 0} (stands : H → ℤ → ℤ → Type 0) (f : Forms H) (p q : Parts H) (cell : ℕ) (held : H) (told whole : ℤ) → stands held told whole → AreHeldParts stands f p
    → q.bytes ≡ slice_set p.bytes cell (byte_of (f.small held)) → cell < length p.bytes
    → held_at f q cell ≡ held → ((k : ℕ) → (cell == k) ≡ false → held_at f q k ≡ held_at f p k)
    → (k : ℕ) → k < length q.bytes → IsByteOf stands f (held_at f q k) (get_or q.bytes k mark)
values_put {H} stands f p q cell held told whole stood parts bytes lt own others k within = by (cell == k) refl
  where
    by : (b : Bool) → (cell == k) ≡ b → IsByteOf stands f (held_at f q k) (get_or q.bytes k mark)
    by true same =
        let e : cell ≡ k = grind (arith, nat_tests) in
        let byte : get_or q.bytes cell mark ≡ byte_of (f.small held) = ap (λ l. get_or l cell mark) bytes ∙ get_or-set_same p.bytes cell (byte_of (f.small held)) mark lt in
        subst (λ n. IsByteOf stands f (held_at f q n) (get_or q.bytes n mark)) e
        (subst (λ h. IsByteOf stands f h (get_or q.bytes cell mark)) (sym own) (record { told = told; whole = whole; stood = stood; tells = byte }))
    by false other =
        let long : length q.bytes ≡ length p.bytes = ap length bytes ∙ length-set p.bytes cell (byte_of (f.small held)) in
        let byte : get_or q.bytes k mark ≡ get_or p.bytes k mark = ap (λ l. get_or l k mark) bytes ∙ get_or-set_other p.bytes cell k (byte_of (f.small held)) mark (apart cell k other).0 in
        subst (λ b. IsByteOf stands f (held_at f q k) b) (sym byte)
        (subst (λ h. IsByteOf stands f h (get_or p.bytes k mark)) (sym (others k other)) (parts.values k (omega (arith, within, long))))

-- a value that is put and left open
module _ {H : Type 0} (stands : H → ℤ → ℤ → Type 0) (f : Forms H) (p : Parts H) (idle : p.due ≡ None) (cell : ℕ) (held : H) where
  abbrev pub opened : List ℤ → Parts H
  opened bytes = record { bytes = bytes; side = p.side; spare = p.spare; due = Some (cell, held); left = p.left }

  opened_own : (bytes : List ℤ) → held_at f (opened bytes) cell ≡ held
  opened_own bytes = shown_own cell held (kept_at f bytes p.side cell)

  opened_other : (bytes : List ℤ) (byte : ℤ) → bytes ≡ slice_set p.bytes cell byte → (k : ℕ) → (cell == k) ≡ false → held_at f (opened bytes) k ≡ held_at f p k
  opened_other bytes byte is k other =
      shown_other cell k held (kept_at f bytes p.side k) (apart cell k other).1
      ∙ ap (λ l. kept_at f l p.side k) is ∙ kept_other f p.bytes p.side p.side cell k byte other refl
      ∙ ap (λ d. shown_at d k (kept_at f p.bytes p.side k)) (sym idle)

  pub opened_held : (bytes : List ℤ) (byte : ℤ) → bytes ≡ slice_set p.bytes cell byte → cell < length p.bytes → held_of f (opened bytes) ≡ slice_set (held_of f p) cell held
  opened_held bytes byte is lt = held_put f p (opened bytes) cell held (ap length is ∙ length-set p.bytes cell byte) lt (opened_own bytes) (opened_other bytes byte is)

  pub opened_parts : AreHeldParts stands f p → (told whole : ℤ) → stands held told whole → (bytes : List ℤ) → bytes ≡ slice_set p.bytes cell (byte_of (f.small held))
      → cell < length p.bytes → 0 < p.left → AreHeldParts stands f (opened bytes)
  opened_parts parts told whole stood bytes is lt some =
      let long : length bytes ≡ length p.bytes = ap length is ∙ length-set p.bytes cell (byte_of (f.small held)) in
      record {
        values = values_put stands f p (opened bytes) cell held told whole stood parts is lt (opened_own bytes) (opened_other bytes (byte_of (f.small held)) is);
        pending = λ c h e. (let same = some_cell (cell, held) (c, h) e in omega (arith, lt, long, same), some);
        cells = λ k among. omega (arith, parts.cells k among, long);
        distinct = parts.distinct;
        room = subst (λ n. min n (length p.side + p.left) ≤ p.spare + length p.side) (sym long) parts.room;
      }
    where
      some_cell : (a b : ℕ × H) → Some a ≡ Some b → a.0 ≡ b.0
      some_cell a b e = cc

-- no key is this one
none_among : (cell : ℕ) (keys : List ℕ) → list_any (nat_eq cell) keys ≡ false → AllByRecursion (λ k. nat_eq cell k ≡ false) keys
none_among cell [] none = tt
none_among cell (k ∷ keys) none = by (nat_eq cell k) refl (λ later. none_among cell keys later)
  where
    by : (b : Bool) → nat_eq cell k ≡ b → (list_any (nat_eq cell) keys ≡ false → AllByRecursion (λ j. nat_eq cell j ≡ false) keys) → AllByRecursion (λ j. nat_eq cell j ≡ false) (k ∷ keys)
    by true is rest = absurd (let h : (true || list_any (nat_eq cell) keys) ≡ false = sym (ap (λ b. b || list_any (nat_eq cell) keys) is) ∙ none in cc)
    by false is rest = (is, rest (sym (ap (λ b. b || list_any (nat_eq cell) keys) is) ∙ none))

-- where a cell has no entry, there are fewer entries than cells
one_fewer : {H : Type 0} (side : List (ℕ × H)) (cell cells : ℕ) → IsDistinct nat_eq (keys_of side) → ((k : ℕ) → list_any (nat_eq k) (keys_of side) ≡ true → k < cells) → cell < cells
    → lookup (nat_eq cell) side ≡ None → length side < cells
unfolding IsDistinct
one_fewer side cell cells distinct below lt absent =
    let none : list_any (nat_eq cell) (keys_of side) ≡ false = sym (is_some-lookup (nat_eq cell) side) ∙ ap is_some absent in
    let fewer : length (cell ∷ keys_of side) ≤ cells = length-le_from_distinct_below (cell ∷ keys_of side) cells (none_among cell (keys_of side) none, distinct) (λ q among. by q (nat_eq q cell) refl among) in
    omega (arith, fewer, length-map side (λ e. e.0))
  where
    by : (q : ℕ) (b : Bool) → nat_eq q cell ≡ b → list_any (nat_eq q) (cell ∷ keys_of side) ≡ true → q < cells
    by q true is among = let e : q ≡ cell = grind (arith, nat_tests) in omega (arith, e, lt)
    by q false is among = below q (sym (ap (λ b. b || list_any (nat_eq q) (keys_of side)) is) ∙ among)

-- a value is held of a cell, and no value is open then; none was of another cell
module _ {H : Type 0} (stands : H → ℤ → ℤ → Type 0) (f : Forms H) (forms : AreForms stands f) (p : Parts H) (cell : ℕ) (parts : AreHeldParts stands f p)
    (within : cell < length p.bytes) (some : 0 < p.left) (shown : (k : ℕ) → (cell == k) ≡ false → held_at f p k ≡ kept_at f p.bytes p.side k)
    (held : H) (told whole : ℤ) (stood : stands held told whole) where
  abbrev pub settled : List ℤ → List (ℕ × H) → ℕ → ℕ → Parts H
  settled bytes side spare left = record { bytes = bytes; side = side; spare = spare; due = None; left = left }

  module _ (bytes : List ℤ) (side : List (ℕ × H)) (spare left : ℕ) (is : bytes ≡ slice_set p.bytes cell (byte_of (f.small held)))
      (beside : IsHeldBeside (f.small held) p.side p.spare cell held side spare) where
    settled_own : held_at f (settled bytes side spare left) cell ≡ held
    settled_own = ap (λ l. kept_at f l side cell) is ∙ kept_own stands f forms p.bytes side cell held told whole stood within (f.small held) refl beside.own

    settled_other : (k : ℕ) → (cell == k) ≡ false → held_at f (settled bytes side spare left) k ≡ held_at f p k
    settled_other k other =
        ap (λ l. kept_at f l side k) is ∙ kept_other f p.bytes p.side side cell k (byte_of (f.small held)) other (beside.others k other) ∙ sym (shown k other)

    long : length bytes ≡ length p.bytes
    long = ap length is ∙ length-set p.bytes cell (byte_of (f.small held))

    pub settled_held : held_of f (settled bytes side spare left) ≡ slice_set (held_of f p) cell held
    settled_held = held_put f p (settled bytes side spare left) cell held long within settled_own settled_other

    cells_stay : (k : ℕ) → list_any (nat_eq k) (keys_of side) ≡ true → k < length bytes
    cells_stay k among = by (cell == k) refl
      where
        by : (b : Bool) → (cell == k) ≡ b → k < length bytes
        by true same = let e : cell ≡ k = grind (arith, nat_tests) in omega (arith, e, within, long)
        by false other =
            let was : list_any (nat_eq k) (keys_of p.side) ≡ true =
            sym (is_some-lookup (nat_eq k) p.side) ∙ ap is_some (sym (beside.others k other)) ∙ is_some-lookup (nat_eq k) side ∙ among in
            omega (arith, parts.cells k was, long)

    pub settled_parts : left + 1 ≡ p.left → AreHeldParts stands f (settled bytes side spare left)
    settled_parts one_less = record {
      values = values_put stands f p (settled bytes side spare left) cell held told whole stood parts is within settled_own settled_other;
      pending = λ c h e. absurd (cc);
      cells = cells_stay;
      distinct = beside.distinct;
      room = omega (arith, parts.room, long, one_less, beside.more, beside.room);
    }

  -- where the side table has no entry of the cell it has room for one
  pub room_for : lookup (nat_eq cell) p.side ≡ None → 0 < p.spare
  room_for absent =
      let fewer = one_fewer p.side cell (length p.bytes) parts.distinct parts.cells within absent in
      omega (arith, parts.room, fewer, some)

-- the open value is of no other cell
pub shown_apart : {H : Type 0} (f : Forms H) (p : Parts H) (cell : ℕ) (last : H) → p.due ≡ Some (cell, last) → (k : ℕ) → (cell == k) ≡ false
    → held_at f p k ≡ kept_at f p.bytes p.side k
shown_apart f p cell last due k other =
    ap (λ d. shown_at d k (kept_at f p.bytes p.side k)) due ∙ shown_other cell k last (kept_at f p.bytes p.side k) (apart cell k other).1

-- where no value is open, what is held is what byte and side table tell
pub shown_idle : {H : Type 0} (f : Forms H) (p : Parts H) → p.due ≡ None → (k : ℕ) → held_at f p k ≡ kept_at f p.bytes p.side k
shown_idle f p idle k = ap (λ d. shown_at d k (kept_at f p.bytes p.side k)) idle

-- cells of which nothing was counted
pub fresh_held : {H : Type 0} (f : Forms H) → f.from_small (pos 0) ≡ f.fresh → (side : List (ℕ × H)) (spare left cells : ℕ) (bytes : List ℤ) → bytes ≡ replicate cells (pos 0)
    → held_of f (record { bytes = bytes; side = side; spare = spare; due = None; left = left }) ≡ replicate cells f.fresh
fresh_held {H} f back side spare left cells bytes is =
    let long : length bytes ≡ cells = ap length is ∙ length-replicate cells (pos 0) in
    let q : Parts H = record { bytes = bytes; side = side; spare = spare; due = None; left = left } in
    sym (fill_by_all (held_at f q) (replicate cells f.fresh) (length bytes) f.fresh (length-replicate cells f.fresh ∙ sym long) (λ k lt.
    let byte : get_or bytes k mark ≡ pos 0 = ap (λ l. get_or l k mark) is ∙ get_or-replicate cells k (pos 0) mark (omega (arith, lt, long)) in
    get_or-replicate cells k f.fresh f.fresh (omega (arith, lt, long)) ∙ sym (rw byte back)))

-- where no cell is due, no value is open
pub idle_of : {H : Type 0} (due : Option (ℕ × H)) → option_map (λ d. d.0) due ≡ None → due ≡ None
idle_of None is = refl
idle_of (Some d) is = absurd (cc)

-- the cell that is named is the open one
pub due_is : {H : Type 0} (due : Option (ℕ × H)) (open_cell : ℕ) (held : H) (cell : ℕ) → due ≡ Some (open_cell, held) → option_map (λ o. o.0) due ≡ Some cell → open_cell ≡ cell
due_is due open_cell held cell is named = one (sym (ap (option_map (λ o. o.0)) is) ∙ named)
  where
    one : {a b : ℕ} → Some a ≡ Some b → a ≡ b
    one e = cc

-- the open cell is one of them, and shows the open value
pub due_told : {H : Type 0} (stands : H → ℤ → ℤ → Type 0) (f : Forms H) (p : Parts H) → AreHeldParts stands f p → (d : ℕ × H) → p.due ≡ Some d
    → (cell : ℕ) → option_map (λ o. o.0) p.due ≡ Some cell → (cell < length (held_of f p)) × (slice_get (held_of f p) cell ≡ Some d.1)
due_told {H} stands f p parts d is cell named =
    let lt = (parts.pending d.0 d.1 is).0 in
    let own : slice_get (held_of f p) d.0 ≡ Some d.1 = held_get f p d.0 lt ∙ ap Some (ap (λ o. shown_at o d.0 (kept_at f p.bytes p.side d.0)) is ∙ shown_own d.0 d.1 (kept_at f p.bytes p.side d.0)) in
    let same = due_is p.due d.0 d.1 cell is named in
    (omega (arith, lt, held_len f p, same), subst (λ k. slice_get (held_of f p) k ≡ Some d.1) same own)

map_twice : {X Y Z : Type 0} (g : Y → Z) (h : X → Y) (xs : List X) → map g (map h xs) ≡ map (λ x. g (h x)) xs
map_twice g h [] = refl
map_twice g h (x ∷ xs) = ap (λ t. g (h x) ∷ t) (map_twice g h xs)

-- the bytes, from what is held
pub bytes_told : {H : Type 0} (stands : H → ℤ → ℤ → Type 0) (f : Forms H) (p : Parts H) → AreHeldParts stands f p → p.bytes ≡ map (λ h. byte_of (f.small h)) (held_of f p)
bytes_told stands f p parts =
    fill_by_all (λ k. byte_of (f.small (held_at f p k))) p.bytes (length p.bytes) mark refl (λ k lt. (parts.values k lt).tells)
    ∙ sym (map_twice (λ h. byte_of (f.small h)) (held_at f p) (range_with_len 0 (length p.bytes)))

-- whether a byte is the mark
marks_wide : (small : Option ℤ) → ((b : ℤ) → small ≡ Some b → int_eq b mark ≡ false) → int_eq (byte_of small) mark ≡ is_none small
marks_wide None above = refl
marks_wide (Some b) above = above b refl

wide_at : {H : Type 0} (stands : H → ℤ → ℤ → Type 0) (f : Forms H) → AreForms stands f → (p : Parts H) → AreHeldParts stands f p → (cell : ℕ) → cell < length p.bytes
    → is_none (f.small (get_or (held_of f p) cell f.fresh)) ≡ int_eq (get_or p.bytes cell mark) mark
wide_at stands f forms p parts cell lt =
    let at = parts.values cell lt in
    ap (λ h. is_none (f.small h)) (get_or-map-range_with_len (held_at f p) 0 (length p.bytes) cell cell f.fresh lt (omega arith))
    ∙ sym (marks_wide (f.small (held_at f p cell)) (λ b is. forms.above (held_at f p cell) at.told at.whole b at.stood is))
    ∙ ap (λ b. int_eq b mark) (sym at.tells)

-- how many have no small form, one cell more
pub one_wider : {H : Type 0} (stands : H → ℤ → ℤ → Type 0) (f : Forms H) → AreForms stands f → (p : Parts H) → AreHeldParts stands f p → (cell : ℕ) → cell < length p.bytes
    → int_eq (get_or p.bytes cell mark) mark ≡ true
    → count_by (λ h. is_none (f.small h)) (take (cell + 1) (held_of f p)) ≡ count_by (λ h. is_none (f.small h)) (take cell (held_of f p)) + 1
one_wider stands f forms p parts cell lt marked =
    count_by_more_yes (λ h. is_none (f.small h)) (held_of f p) cell f.fresh (omega (arith, lt, held_len f p)) (wide_at stands f forms p parts cell lt ∙ marked)

pub none_wider : {H : Type 0} (stands : H → ℤ → ℤ → Type 0) (f : Forms H) → AreForms stands f → (p : Parts H) → AreHeldParts stands f p → (cell : ℕ) → cell < length p.bytes
    → int_eq (get_or p.bytes cell mark) mark ≡ false
    → count_by (λ h. is_none (f.small h)) (take (cell + 1) (held_of f p)) ≡ count_by (λ h. is_none (f.small h)) (take cell (held_of f p))
none_wider stands f forms p parts cell lt small =
    count_by_more_no (λ h. is_none (f.small h)) (held_of f p) cell f.fresh (omega (arith, lt, held_len f p)) (wide_at stands f forms p parts cell lt ∙ small)

-- an item is put where it stands
pub set_back : {X : Type 0} (xs : List X) (i : ℕ) (x : X) → slice_get xs i ≡ Some x → slice_set xs i x ≡ xs
set_back [] i x is = refl
set_back (z ∷ zs) zero x is = ap (λ t. t ∷ zs) (sym (some_same z x is))
  where
    some_same : {Y : Type 0} (a b : Y) → Some a ≡ Some b → a ≡ b
    some_same a b e = cc
set_back (z ∷ zs) (suc i) x is = ap (λ t. z ∷ t) (set_back zs i x is)

-- the open value stands for two values
pub due_stands : {H : Type 0} (stands : H → ℤ → ℤ → Type 0) (f : Forms H) (p : Parts H) → AreHeldParts stands f p → (d : ℕ × H) → p.due ≡ Some d
    → (told : ℤ) × (whole : ℤ) × stands d.1 told whole
due_stands stands f p parts d is =
    let at = parts.values d.0 (parts.pending d.0 d.1 is).0 in
    let own : held_at f p d.0 ≡ d.1 = ap (λ o. shown_at o d.0 (kept_at f p.bytes p.side d.0)) is ∙ shown_own d.0 d.1 (kept_at f p.bytes p.side d.0) in
    (at.told, at.whole, subst (λ h. stands h at.told at.whole) own at.stood)

-- the byte of the open cell tells the open value
pub due_byte : {H : Type 0} (stands : H → ℤ → ℤ → Type 0) (f : Forms H) (p : Parts H) → AreHeldParts stands f p → (cell : ℕ) (held : H) → p.due ≡ Some (cell, held)
    → p.bytes ≡ slice_set p.bytes cell (byte_of (f.small held))
due_byte stands f p parts cell held is =
    let lt = (parts.pending cell held is).0 in
    let own : held_at f p cell ≡ held = ap (λ o. shown_at o cell (kept_at f p.bytes p.side cell)) is ∙ shown_own cell held (kept_at f p.bytes p.side cell) in
    let tells : get_or p.bytes cell mark ≡ byte_of (f.small held) = (parts.values cell lt).tells ∙ ap (λ h. byte_of (f.small h)) own in
    sym (set_back p.bytes cell (byte_of (f.small held)) (slice_get-get_or p.bytes cell mark lt ∙ ap Some tells))
