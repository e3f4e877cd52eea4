-- The bracket round an answer, over all workers.
use Rattle.std.proofs.Common.{◌≡◌, ◌<◌, ◌≤◌, ◌≤ℤ◌, ◌+ℤ◌, ℕ, ℤ, zero, suc, ◌+◌, ◌-◌, ◌*◌, ◌^◌, ◌==◌, pos, negsuc, List, [], length, get_or, take, Bool, true, false, if◌then◌else◌, nat_lt, refl, sym, ap, ◌∙◌, subst, arith, inl, inr}
use Rattle.std.specs.Prelude.{map, fold, All, sum_by, unsigned_abs, slice_index_or}
use Rattle.std.specs.Int.{int_min}
use Rattle.std.specs.List.{flat_map, range_with_len}
use Rattle.std.proofs.lemmas.Bool.{cases_lt}
use Rattle.std.proofs.lemmas.Int.{ints, clamps}
use Rattle.std.proofs.lemmas.List.{get_or_past, take_all}
use Rattle.std.proofs.lemmas.List.Elements.{All-nil, All-append}
use Rattle.std.proofs.lemmas.List.FromFn.{get_or-map-range_with_len, get_or-range_with_len, length-map-range_with_len, length-range_with_len}
use Rattle.std.proofs.lemmas.List.Sums.{sum_by-cons, sum_by-take-le}
use Rattle.packet_key.specs.declared.key.FlowKey.{FlowKey}
use Rattle.hash_rows.specs.declared.shape.Push.{Push}
use Rattle.hash_rows.specs.declared.shape.Shape.{Shape}
use Rattle.hash_rows.specs.declared.shape.Update.{Update}
use Rattle.hash_rows.specs.Sequential.{joined_of}
use Rattle.hash_rows.specs.Shapes.{cell_of, size_of}
use Rattle.hash_rows.specs.Sketches.{is_sum, least_of, count_min_estimate, key_cells}
use Rattle.hash_rows.specs.Tables.{value_at}
use Rattle.hash_rows.proofs.PlainSums.{amount_sum}
use Rattle.push_history.specs.Front.{IsFront}
use Rattle.push_history.specs.LawfulJournal.{sent_by}
use Rattle.push_history.specs.Pushes.{ArePushes}
use Rattle.push_history.specs.Shown.{first_messages, shown_of, shown_cells}
use Rattle.push_history.specs.Told.{told_of}
use Rattle.push_history.specs.Updates.{HoldValues}
use Rattle.push_history.proofs.Notes.{map_range_same}
use Rattle.bracket.specs.Bracket.{AreAmounts, amount_in, updates_of_worker, matching, matching_whole, true_of, true_cells, NoneRefused}
use Rattle.bracket.proofs.Bracket.{joined_plain, sum_flat, front_messages, firsts_are, least_more, front_below, front_plain, front_short, whole_front}
use Rattle.fold_law.proofs.Sums.{count_min, IsPlain, plain_told, plain_whole, told_plain}
use Rattle.fold_law.proofs.Totals.{member_le, sum_range_le, sum_places}

-- a number that isn't negative is plain
plain_from : (z : ℤ) → pos 0 ≤ℤ z → IsPlain z
plain_from (pos n) le = refl
plain_from (negsuc n) le = absurd (omega (arith, ints, le))

sum_more : (f : ℕ → ℕ) (k first n : ℕ) → sum_by (λ w. f w + k) (range_with_len first n) ≡ sum_by f (range_with_len first n) + n * k
sum_more f k first zero = omega arith
sum_more f k first (suc n) =
    let a = sum_by-cons (λ w. f w + k) first (range_with_len (first + 1) n) in
    let b = sum_by-cons f first (range_with_len (first + 1) n) in
    let rest = sum_more f k (first + 1) n in
    let next : suc n ≡ n + 1 = omega arith in
    let times : suc n * k ≡ n * k + k = ap (λ (m : ℕ). m * k) next ∙ omega arith in
    omega (arith, a, b, rest, times)

-- the least of numbers, each at most another
fold_range_le : (f g : ℕ → ℤ) (x y : ℤ) (first n : ℕ) → x ≤ℤ y → ((w : ℕ) → first ≤ w → w < first + n → f w ≤ℤ g w) → fold int_min x (map f (range_with_len first n)) ≤ℤ fold int_min y (map g (range_with_len first n))
fold_range_le f g x y first zero le each = le
fold_range_le f g x y first (suc n) le each =
    fold_range_le f g (int_min x (f first)) (int_min y (g first)) (first + 1) n (let here = each first (omega arith) (omega arith) in omega (arith, ints, clamps, le, here)) (λ w from to. each w (omega (arith, from)) (omega (arith, to)))

least_range_le : (f g : ℕ → ℤ) (n : ℕ) → ((w : ℕ) → w < n → f w ≤ℤ g w) → least_of (map f (range_with_len 0 n)) ≤ℤ least_of (map g (range_with_len 0 n))
least_range_le f g zero each = omega (arith, ints)
least_range_le f g (suc n) each = fold_range_le f g (f 0) (g 0) (0 + 1) n (each 0 (omega arith)) (λ w from to. each w (omega (arith, to)))

least_range_more : (f : ℕ → ℤ) (k n : ℕ) → least_of (map (λ w. f w +ℤ pos k) (range_with_len 0 n)) ≤ℤ (least_of (map f (range_with_len 0 n)) +ℤ pos k)
least_range_more f k zero = omega (arith, ints)
least_range_more f k (suc n) = let same = least_more f k (f 0) (range_with_len (0 + 1) n) in omega (arith, ints, same)

-- a table of plain numbers at a place
at_place : (f : ℕ → ℕ) (size p : ℕ) → value_at (map (λ cell. pos (f cell)) (range_with_len 0 size)) p ≡ pos (if nat_lt p size then f p else 0)
at_place f size p = elim (cases_lt p size) [
  | inl within ↦ (let yes : nat_lt p size ≡ true = grind arith in get_or-map-range_with_len (λ cell. pos (f cell)) 0 size p p (pos 0) within (omega arith) ∙ rw yes refl)
  | inr past ↦ (let no : nat_lt p size ≡ false = grind arith in get_or_past (map (λ cell. pos (f cell)) (range_with_len 0 size)) p (pos 0) (omega (arith, past, length-map-range_with_len (λ cell. pos (f cell)) 0 size)) ∙ rw no refl)
]

-- plain updates that make less than 2 ^ 63 of each cell
pub record ArePlain (updates : List (List Update)) : Type 0 where
  pub plains : (w : ℕ) → w < length updates → All (λ u. IsPlain u.value) (updates_of_worker updates w)
  pub total : (cell : ℕ) → sum_by (λ w. plain_whole cell (updates_of_worker updates w)) (range_with_len 0 (length updates)) < 2 ^ 63

pub are_plain : (updates : List (List Update)) → AreAmounts updates → ArePlain updates
are_plain updates amounts = record {
  plains = λ w lt k d inside. plain_from _ (amounts.values w lt k d inside);
  total = λ cell.
      let all : sum_by (amount_in cell) updates ≡ sum_by (λ w. plain_whole cell (updates_of_worker updates w)) (range_with_len 0 (length updates)) =
      ap (sum_by (amount_in cell)) (sym (take_all (length updates) updates (omega arith))) ∙ sum_places (amount_in cell) updates [] (length updates) (omega arith) in
      omega (arith, all, amounts.total cell);
}

module _ (T : ℕ) (updates : List (List Update)) (messages : List (List Push)) (refused : List (List ℕ)) (front : List ℕ)
    (same : length messages ≡ length updates) (is_front : IsFront messages front)
    (each : (w : ℕ) → w < length updates → ArePushes count_min T (updates_of_worker updates w) (sent_by messages w) (slice_index_or refused w []))
    (plain : ArePlain updates) where
  small : (w : ℕ) → w < length updates → (cell : ℕ) → plain_whole cell (updates_of_worker updates w) < 2 ^ 63
  small w lt cell =
      let f : ℕ → ℕ = λ v. plain_whole cell (updates_of_worker updates v) in
      let at : get_or (range_with_len 0 (length updates)) w 0 ≡ w = get_or-range_with_len 0 (length updates) w 0 lt ∙ omega arith in
      let most = member_le f (range_with_len 0 (length updates)) w 0 (omega (arith, lt, length-range_with_len 0 (length updates))) in
      omega (arith, most, ap f at, plain.total cell)

  holds : (w : ℕ) → w < length updates → HoldValues count_min (updates_of_worker updates w)
  holds w lt = λ k d inside.
      let u : Update = get_or (updates_of_worker updates w) k d in
      let own : (if u.cell == u.cell then unsigned_abs u.value else 0) ≡ unsigned_abs u.value = (let yes : (u.cell == u.cell) ≡ true = grind arith in rw yes refl) in
      let most = member_le (λ v. if v.cell == u.cell then unsigned_abs v.value else 0) (updates_of_worker updates w) k d inside in
      subst (λ (z : ℤ). is_sum z ≡ true) (plain.plains w lt k d inside) (amount_sum (unsigned_abs u.value) (omega (arith, own, most, small w lt u.cell)))

  within : (w : ℕ) → w < length updates → slice_index_or front w 0 ≤ length (sent_by messages w)
  within w lt = is_front.within w (omega (arith, lt, same))

  abbrev told_by : ℕ → ℕ → ℕ
  told_by cell w = plain_told cell (front_messages messages front w)

  abbrev made_by : ℕ → ℕ → ℕ
  made_by cell w = plain_whole cell (take (matching messages front w) (updates_of_worker updates w))

  below : (cell w : ℕ) → w < length updates → told_by cell w ≤ made_by cell w
  below cell w lt = front_below T (updates_of_worker updates w) (sent_by messages w) (slice_index_or refused w []) (each w lt) (plain.plains w lt) (small w lt) (slice_index_or front w 0) (within w lt) cell

  abbrev told_total : ℕ → ℕ
  told_total cell = sum_by (told_by cell) (range_with_len 0 (length updates))

  abbrev made_total : ℕ → ℕ
  made_total cell = sum_by (made_by cell) (range_with_len 0 (length updates))

  total_below : (cell : ℕ) → told_total cell ≤ made_total cell
  total_below cell = sum_range_le (told_by cell) (made_by cell) 0 (length updates) (λ w from to. below cell w (omega (arith, to)))

  made_small : (cell : ℕ) → made_total cell < 2 ^ 63
  made_small cell =
      let most = sum_range_le (made_by cell) (λ w. plain_whole cell (updates_of_worker updates w)) 0 (length updates)
      (λ w from to. sum_by-take-le (λ u. if u.cell == cell then unsigned_abs u.value else 0) (updates_of_worker updates w) (matching messages front w)) in
      omega (arith, most, plain.total cell)

  true_is : (cell : ℕ) → true_of count_min updates messages front cell ≡ pos (made_total cell)
  unfolding true_of matching_whole
  true_is cell =
      ap (joined_of count_min) (map_range_same (matching_whole count_min updates messages front cell) (λ w. pos (made_by cell w)) 0 (length updates)
      (λ w from to. let lt : w < length updates = omega (arith, to) in
      whole_front T (updates_of_worker updates w) (sent_by messages w) (slice_index_or refused w []) (each w lt) (plain.plains w lt) (small w lt) (slice_index_or front w 0) (within w lt) cell))
      ∙ joined_plain (made_by cell) (range_with_len 0 (length updates)) 0 (let s = made_small cell in omega (arith, s)) ∙ ap pos (omega arith)

  firsts_plain : (first n : ℕ) → first + n ≤ length updates → All (λ m. IsPlain m.amount) (flat_map (front_messages messages front) (range_with_len first n))
  firsts_plain first zero le = All-nil (λ m. IsPlain m.amount)
  firsts_plain first (suc n) le =
      let lt : first < length updates = omega (arith, le) in
      All-append (λ m. IsPlain m.amount) (front_messages messages front first) (flat_map (front_messages messages front) (range_with_len (first + 1) n))
      (front_plain T (updates_of_worker updates first) (sent_by messages first) (slice_index_or refused first []) (each first lt) (plain.plains first lt) (small first lt) (slice_index_or front first 0) (within first lt))
      (firsts_plain (first + 1) n (omega (arith, le)))

  shown_is : (cell : ℕ) → shown_of count_min messages front cell ≡ pos (told_total cell)
  unfolding shown_of
  shown_is cell =
      let F : List Push = flat_map (front_messages messages front) (range_with_len 0 (length updates)) in
      let parts : first_messages messages front ≡ F = firsts_are messages front is_front.workers ∙ ap (λ (n : ℕ). flat_map (front_messages messages front) (range_with_len 0 n)) same in
      let sums : plain_told cell F ≡ told_total cell = sum_flat (λ m. if m.cell == cell then unsigned_abs m.amount else 0) (front_messages messages front) (range_with_len 0 (length updates)) in
      ap (told_of count_min cell) parts
      ∙ told_plain cell F (firsts_plain 0 (length updates) (omega arith)) (let s = made_small cell in let b = total_below cell in omega (arith, sums, s, b))
      ∙ ap pos sums

  shown_at : (shape : Shape) (p : ℕ) → value_at (shown_cells count_min shape messages front) p ≡ pos (if nat_lt p (size_of shape) then told_total p else 0)
  unfolding shown_cells
  shown_at shape p = ap (λ t. value_at t p) (map_range_same (shown_of count_min messages front) (λ cell. pos (told_total cell)) 0 (size_of shape) (λ cell from to. shown_is cell)) ∙ at_place told_total (size_of shape) p

  true_at : (shape : Shape) (p : ℕ) → value_at (true_cells count_min shape updates messages front) p ≡ pos (if nat_lt p (size_of shape) then made_total p else 0)
  unfolding true_cells
  true_at shape p = ap (λ t. value_at t p) (map_range_same (true_of count_min updates messages front) (λ cell. pos (made_total cell)) 0 (size_of shape) (λ cell from to. true_is cell)) ∙ at_place made_total (size_of shape) p

  -- an answer is at most the true estimate
  pub answer_below : (shape : Shape) (key : FlowKey)
      → count_min_estimate shape (shown_cells count_min shape messages front) key ≤ℤ count_min_estimate shape (true_cells count_min shape updates messages front) key
  unfolding count_min_estimate key_cells
  answer_below shape key =
      least_range_le (λ row. value_at (shown_cells count_min shape messages front) (cell_of shape key row)) (λ row. value_at (true_cells count_min shape updates messages front) (cell_of shape key row)) shape.rows
      (λ row lt. let p : ℕ = cell_of shape key row in
      subst (λ (z : ℤ). z ≤ℤ value_at (true_cells count_min shape updates messages front) p) (sym (shown_at shape p))
      (subst (λ (z : ℤ). pos (if nat_lt p (size_of shape) then told_total p else 0) ≤ℤ z) (sym (true_at shape p)) (by p (nat_lt p (size_of shape)))))
    where
      by : (p : ℕ) (b : Bool) → pos (if b then told_total p else 0) ≤ℤ pos (if b then made_total p else 0)
      by p true = let le = total_below p in omega (arith, ints, le)
      by p false = omega (arith, ints)

  made_short : 1 ≤ T → (cell : ℕ) → NoneRefused updates messages refused front cell → made_total cell ≤ told_total cell + length updates * (T - 1)
  made_short some cell none =
      let each_short = sum_range_le (made_by cell) (λ w. told_by cell w + (T - 1)) 0 (length updates)
      (λ w from to. let lt : w < length updates = omega (arith, to) in
      front_short T (updates_of_worker updates w) (sent_by messages w) (slice_index_or refused w []) (each w lt) (plain.plains w lt) (small w lt) (slice_index_or front w 0) (within w lt) some (holds w lt) cell (none w)) in
      let sums = sum_more (told_by cell) (T - 1) 0 (length updates) in
      omega (arith, each_short, sums)

  -- and falls short of it by no more than the thresholds leave
  pub answer_short : (shape : Shape) (key : FlowKey) → 1 ≤ T → ((row : ℕ) → row < shape.rows → NoneRefused updates messages refused front (cell_of shape key row))
      → count_min_estimate shape (true_cells count_min shape updates messages front) key ≤ℤ (count_min_estimate shape (shown_cells count_min shape messages front) key +ℤ pos (length updates * (T - 1)))
  unfolding count_min_estimate key_cells
  answer_short shape key some none =
      let k : ℕ = length updates * (T - 1) in
      let shown : ℕ → ℤ = λ row. value_at (shown_cells count_min shape messages front) (cell_of shape key row) in
      let whole : ℕ → ℤ = λ row. value_at (true_cells count_min shape updates messages front) (cell_of shape key row) in
      let less : least_of (map whole (range_with_len 0 shape.rows)) ≤ℤ least_of (map (λ row. shown row +ℤ pos k) (range_with_len 0 shape.rows)) =
      least_range_le whole (λ row. shown row +ℤ pos k) shape.rows
      (λ row lt. let p : ℕ = cell_of shape key row in
      subst (λ (z : ℤ). z ≤ℤ (shown row +ℤ pos k)) (sym (true_at shape p))
      (subst (λ (z : ℤ). pos (if nat_lt p (size_of shape) then made_total p else 0) ≤ℤ (z +ℤ pos k)) (sym (shown_at shape p)) (by p k (made_short some p (none row lt)) (nat_lt p (size_of shape))))) in
      let more = least_range_more shown k shape.rows in
      omega (arith, ints, less, more)
    where
      by : (p k : ℕ) → made_total p ≤ told_total p + k → (b : Bool) → pos (if b then made_total p else 0) ≤ℤ (pos (if b then told_total p else 0) +ℤ pos k)
      by p k le true = omega (arith, ints, le)
      by p k le false = omega (arith, ints)
