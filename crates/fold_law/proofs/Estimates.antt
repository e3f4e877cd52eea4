-- Estimates of Count-Min only grow as messages come.
use Rattle.std.proofs.Common.{◌≡◌, ◌<◌, ◌≤◌, ◌≤ℤ◌, ℕ, ℤ, ◌+◌, ◌^◌, ◌==◌, pos, List, [], ◌∷◌, ◌++◌, length, get_or, take, Bool, true, not, if◌then◌else◌, refl, sym, ap, ◌∙◌, subst, arith, inl, inr}
use Rattle.std.specs.Prelude.{filter, map, fold, All, unsigned_abs}
use Rattle.std.specs.Int.{int_min}
use Rattle.std.specs.List.{range_with_len}
use Rattle.std.proofs.lemmas.Int.{ints, clamps}
use Rattle.std.proofs.lemmas.Bool.{cases_lt}
use Rattle.std.proofs.lemmas.List.{get_or_past, take_more}
use Rattle.std.proofs.lemmas.List.Elements.{All-filter, All-take}
use Rattle.std.proofs.lemmas.List.Filters.{sum_by-filter_both}
use Rattle.std.proofs.lemmas.List.FromFn.{get_or-map-range_with_len, length-map-range_with_len}
use Rattle.std.proofs.lemmas.List.Sums.{sum_by-take-le}
use Rattle.packet_key.specs.declared.key.FlowKey.{FlowKey}
use Rattle.hash_rows.specs.declared.shape.Push.{Push}
use Rattle.hash_rows.specs.declared.shape.Shape.{Shape}
use Rattle.hash_rows.specs.Shapes.{cell_of, size_of}
use Rattle.hash_rows.specs.Sketches.{is_sum, least_of, count_min_estimate, key_cells, rows_of}
use Rattle.hash_rows.specs.Tables.{value_at}
use Rattle.hash_rows.proofs.SumLaws.{count_min_lawful}
use Rattle.hash_rows.proofs.PlainSums.{amount_sum}
use Rattle.push_history.specs.Share.{zero_key}
use Rattle.push_history.specs.Front.{message_at, messages_of}
use Rattle.push_history.specs.LawfulJournal.{all_of}
use Rattle.push_history.specs.Shown.{told_cells}
use Rattle.push_history.specs.Told.{told_of}
use Rattle.push_history.proofs.Folded.{told_by_workers}
use Rattle.push_history.proofs.Lists.{filter_push_yes}
use Rattle.push_history.proofs.Notes.{note_by}
use Rattle.fold_law.specs.Folds.{IsFoldOf}
use Rattle.fold_law.proofs.Live.{all_by_worker}
use Rattle.fold_law.proofs.Sums.{count_min, IsPlain, plain_told, told_plain}
use Rattle.fold_law.proofs.Totals.{member_le}

-- the least of greater numbers is greater
fold_min_le : (f g : ℕ → ℤ) (x y : ℤ) (ws : List ℕ) → x ≤ℤ y → ((w : ℕ) → f w ≤ℤ g w) → fold int_min x (map f ws) ≤ℤ fold int_min y (map g ws)
fold_min_le f g x y [] le each = le
fold_min_le f g x y (w ∷ ws) le each = fold_min_le f g (int_min x (f w)) (int_min y (g w)) ws (omega (arith, ints, clamps, le, each w)) each

least_le : (f g : ℕ → ℤ) (ws : List ℕ) → ((w : ℕ) → f w ≤ℤ g w) → least_of (map f ws) ≤ℤ least_of (map g ws)
least_le f g [] each = omega (arith, ints)
least_le f g (w ∷ ws) each = fold_min_le f g (f w) (g w) ws (each w) each

-- a cell that is none holds nothing, in any table
cell_le : (shape : Shape) (X Y : List Push) → ((cell : ℕ) → told_of count_min cell X ≤ℤ told_of count_min cell Y) → (p : ℕ) → value_at (told_cells count_min shape X) p ≤ℤ value_at (told_cells count_min shape Y) p
unfolding told_cells
cell_le shape X Y each p = elim (cases_lt p (size_of shape)) [
  | inl within ↦ (let x : value_at (map (λ cell. told_of count_min cell X) (range_with_len 0 (size_of shape))) p ≡ told_of count_min p X = get_or-map-range_with_len (λ cell. told_of count_min cell X) 0 (size_of shape) p p (pos 0) within (omega arith) in
      let y : value_at (map (λ cell. told_of count_min cell Y) (range_with_len 0 (size_of shape))) p ≡ told_of count_min p Y = get_or-map-range_with_len (λ cell. told_of count_min cell Y) 0 (size_of shape) p p (pos 0) within (omega arith) in
      subst (λ (z : ℤ). z ≤ℤ value_at (map (λ cell. told_of count_min cell Y) (range_with_len 0 (size_of shape))) p) (sym x) (subst (λ (z : ℤ). told_of count_min p X ≤ℤ z) (sym y) (each p)))
  | inr past ↦ (let x : value_at (map (λ cell. told_of count_min cell X) (range_with_len 0 (size_of shape))) p ≡ pos 0 = get_or_past (map (λ cell. told_of count_min cell X) (range_with_len 0 (size_of shape))) p (pos 0) (omega (arith, past, length-map-range_with_len (λ cell. told_of count_min cell X) 0 (size_of shape))) in
      let y : value_at (map (λ cell. told_of count_min cell Y) (range_with_len 0 (size_of shape))) p ≡ pos 0 = get_or_past (map (λ cell. told_of count_min cell Y) (range_with_len 0 (size_of shape))) p (pos 0) (omega (arith, past, length-map-range_with_len (λ cell. told_of count_min cell Y) 0 (size_of shape))) in
      subst (λ (z : ℤ). z ≤ℤ value_at (map (λ cell. told_of count_min cell Y) (range_with_len 0 (size_of shape))) p) (sym x) (subst (λ (z : ℤ). pos 0 ≤ℤ z) (sym y) (omega (arith, ints))))
]

estimate_le : (shape : Shape) (X Y : List Push) (key : FlowKey) → ((cell : ℕ) → told_of count_min cell X ≤ℤ told_of count_min cell Y)
    → count_min_estimate shape (told_cells count_min shape X) key ≤ℤ count_min_estimate shape (told_cells count_min shape Y) key
unfolding count_min_estimate key_cells
estimate_le shape X Y key each =
    least_le (λ row. value_at (told_cells count_min shape X) (cell_of shape key row)) (λ row. value_at (told_cells count_min shape Y) (cell_of shape key row)) (rows_of shape)
    (λ row. cell_le shape X Y each (cell_of shape key row))

module _ (messages : List (List Push)) (H : List Push) (fold : IsFoldOf messages H) (plain : All (λ m. IsPlain m.amount) H) (small : (cell : ℕ) → plain_told cell H < 2 ^ 63) where
  amount_of : ℕ → Push → ℕ
  amount_of cell m = if m.cell == cell then unsigned_abs m.amount else 0

  -- the front of a fold
  front_small : (cell k : ℕ) → plain_told cell (take k H) < 2 ^ 63
  front_small cell k = (let le = sum_by-take-le (λ m. if m.cell == cell then unsigned_abs m.amount else 0) H k in let all = small cell in omega (arith, le, all))

  front_is : (cell k : ℕ) → told_of count_min cell (take k H) ≡ pos (plain_told cell (take k H))
  front_is cell k = told_plain cell (take k H) (All-take (λ m. IsPlain m.amount) k H plain) (front_small cell k)

  kept_less : (p : Push → Bool) (cell k : ℕ) → plain_told cell (filter p (take k H)) ≤ plain_told cell (take k H)
  kept_less p cell k = (let both = sum_by-filter_both p (λ m. not (p m)) (λ m. refl) (λ m. if m.cell == cell then unsigned_abs m.amount else 0) (take k H) in omega (arith, both))

  kept_is : (p : Push → Bool) (cell k : ℕ) → told_of count_min cell (filter p (take k H)) ≡ pos (plain_told cell (filter p (take k H)))
  kept_is p cell k = told_plain cell (filter p (take k H)) (All-filter p (λ m. IsPlain m.amount) (take k H) (All-take (λ m. IsPlain m.amount) k H plain)) (let less = kept_less p cell k in let all = front_small cell k in omega (arith, less, all))

  next_front : (i : ℕ) → i < length H → take i H ++ message_at H i ∷ [] ≡ take (i + 1) H
  next_front i lt = sym (take_more H i (record { worker = 0; packet = 0; update = 0; key = zero_key; cell = 0; amount = pos 0 }) lt)

  -- a message's own worker alone tells no more
  pub own_below : (shape : Shape) (i : ℕ) → i < length H
      → (note_by count_min shape (messages_of (message_at H i).worker (take i H)) (message_at H i)).estimate ≤ℤ (note_by count_min shape (take i H) (message_at H i)).estimate
  own_below shape i lt =
      let m : Push = message_at H i in
      let w : ℕ = m.worker in
      let same : (m.worker == w) ≡ true = grind arith in
      let own : messages_of w (take i H) ++ m ∷ [] ≡ messages_of w (take (i + 1) H) = sym (filter_push_yes (λ x. x.worker == w) (take i H) m same) ∙ ap (messages_of w) (next_front i lt) in
      estimate_le shape (messages_of w (take i H) ++ m ∷ []) (take i H ++ m ∷ []) m.key
      (λ cell.
      let x : told_of count_min cell (messages_of w (take i H) ++ m ∷ []) ≡ pos (plain_told cell (messages_of w (take (i + 1) H))) = ap (told_of count_min cell) own ∙ kept_is (λ x. x.worker == w) cell (i + 1) in
      let y : told_of count_min cell (take i H ++ m ∷ []) ≡ pos (plain_told cell (take (i + 1) H)) = ap (told_of count_min cell) (next_front i lt) ∙ front_is cell (i + 1) in
      let less = kept_less (λ x. x.worker == w) cell (i + 1) in
      subst (λ (z : ℤ). z ≤ℤ told_of count_min cell (take i H ++ m ∷ [])) (sym x) (subst (λ (z : ℤ). pos (plain_told cell (messages_of w (take (i + 1) H))) ≤ℤ z) (sym y) (omega (arith, ints, less))))

  amounts_are : All (λ m. is_sum m.amount ≡ true) H
  amounts_are = λ k d lt.
      let m : Push = get_or H k d in
      let le = member_le (λ x. if x.cell == m.cell then unsigned_abs x.amount else 0) H k d lt in
      let yes : (m.cell == m.cell) ≡ true = grind arith in
      let own : (if m.cell == m.cell then unsigned_abs m.amount else 0) ≡ unsigned_abs m.amount = rw yes refl in
      let all = small m.cell in
      subst (λ (z : ℤ). is_sum z ≡ true) (plain k d lt) (amount_sum (unsigned_abs m.amount) (omega (arith, le, own, all)))

  all_is : (cell : ℕ) → told_of count_min cell (all_of messages) ≡ pos (plain_told cell H)
  all_is cell =
      ap (told_of count_min cell) (all_by_worker (λ sent. sent) messages H fold)
      ∙ told_by_workers count_min count_min_lawful (length messages) H fold.of_workers amounts_are cell
      ∙ told_plain cell H plain (small cell)

  -- and all messages tell no less
  pub all_above : (shape : Shape) (i : ℕ) → i < length H
      → (note_by count_min shape (take i H) (message_at H i)).estimate ≤ℤ count_min_estimate shape (told_cells count_min shape (all_of messages)) (message_at H i).key
  all_above shape i lt =
      let m : Push = message_at H i in
      estimate_le shape (take i H ++ m ∷ []) (all_of messages) m.key
      (λ cell.
      let x : told_of count_min cell (take i H ++ m ∷ []) ≡ pos (plain_told cell (take (i + 1) H)) = ap (told_of count_min cell) (next_front i lt) ∙ front_is cell (i + 1) in
      let less = sum_by-take-le (λ m. if m.cell == cell then unsigned_abs m.amount else 0) H (i + 1) in
      subst (λ (z : ℤ). z ≤ℤ told_of count_min cell (all_of messages)) (sym x) (subst (λ (z : ℤ). pos (plain_told cell (take (i + 1) H)) ≤ℤ z) (sym (all_is cell)) (omega (arith, ints, less))))
