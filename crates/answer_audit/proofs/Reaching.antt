-- More messages of one worker, in a table of the first messages of each.
use Rattle.std.proofs.Common.{◌≡◌, ◌<◌, ◌≤◌, ◌==◌, ℕ, pos, suc, ◌+◌, ◌-◌, List, [], ◌∷◌, ◌++◌, length, get_or, set, take, drop, replicate, filter, Bool, true, false, refl, sym, ap, ap₂, ◌∙◌, subst, arith, inl, inr}
use Rattle.std.specs.Prelude.{All, Some, slice_get}
use Rattle.std.proofs.lemmas.Bool.{eqb-true, eqb-false, eq-eqb, ne_eqb, cases_lt}
use Rattle.std.proofs.Math.Nat.{eq-or-lt_of_le}
use Rattle.std.proofs.lemmas.List.{append-nil, drop-take, ext_get_or, get_or-replicate, get_or-set_same, get_or-set_other, get_or_past, length-replicate, length-take, take-append-drop, take-take}
use Rattle.std.proofs.lemmas.List.Elements.{All-append, All-drop, All-nil, All-take, filter-append}
use Rattle.hash_rows.specs.declared.shape.Push.{Push}
use Rattle.hash_rows.specs.declared.shape.Shape.{Shape}
use Rattle.hash_rows.specs.Rules.{Rules, AreLaws}
use Rattle.hash_rows.specs.Shapes.{size_of}
use Rattle.hash_rows.specs.Tables.{TableView}
use Rattle.push_history.specs.Front.{front_of, messages_of}
use Rattle.push_history.specs.LawfulJournal.{sent_by}
use Rattle.push_history.specs.Shown.{shown_cells, shown_of, told_cells}
use Rattle.push_history.specs.Told.{told_of}
use Rattle.push_history.proofs.Folded.{fold_shown}
use Rattle.push_history.proofs.Lists.{filter_kept}
use Rattle.push_history.proofs.MoreMessages.{cells_none, front_at, front_len}
use Rattle.push_history.proofs.Notes.{map_range_same}
use Rattle.std.proofs.lemmas.Option.{get_or_from_slice_get, slice_get_within}
use Rattle.told_table.specs.Tables.{FitsIn, IsTableOf}
use Rattle.answer_audit.specs.Reached.{HasReached, IsMessageFor, IsWithinSent}

none_before : (workers w : ℕ) → let none : ℕ = 0 in get_or (replicate workers none) w none ≡ none
none_before workers w = elim (cases_lt w workers) [
  | inl lt ↦ get_or-replicate {A = ℕ} workers w 0 0 lt
  | inr past ↦ get_or_past {X = ℕ} (replicate workers 0) w 0 (omega (arith, past, length-replicate {A = ℕ} workers 0))
]

pub zero_front : (front : List ℕ) (workers w : ℕ) → front ≡ replicate workers 0 → get_or front w 0 ≡ 0
zero_front front workers w is = ap (λ (t : List ℕ). get_or t w 0) is ∙ none_before workers w

pub reached_none : (r : Rules) (messages : List (List Push)) (front : List ℕ) (table : TableView) (workers : ℕ) → front ≡ replicate workers 0
    → table.cells ≡ replicate (size_of table.shape) (pos 0) → HasReached r messages front table
reached_none r messages front table workers is zeros = record {
  folded = [];
  of_workers = All-nil (λ m. m.worker < length messages);
  values = All-nil (λ m. r.is_value m.amount ≡ true);
  firsts = λ w lt. sym (ap (λ (n : ℕ). take n (sent_by messages w)) (zero_front front workers w is));
  told = zeros ∙ cells_none r table.shape;
}

filter_none : {X : Type 0} (p : X → Bool) (xs : List X) → All (λ x. p x ≡ false) xs → filter p xs ≡ []
filter_none p [] none = refl
filter_none p (x ∷ xs) none =
    let fails : p x ≡ false = none 0 x (omega arith) in
    rw fails (filter_none p xs (λ k d lt. none (suc k) d (omega (arith, lt))))

take_parts : {A : Type 0} (xs : List A) (a k : ℕ) → take a xs ++ take k (drop a xs) ≡ take (a + k) xs
take_parts xs a k =
    ap₂ (λ s t. s ++ t) (sym (take-take a (a + k) xs (omega arith))) (sym (drop-take a k xs)) ∙ take-append-drop a (take (a + k) xs)

module _ (r : Rules) (messages : List (List Push)) (front : List ℕ) (old new : TableView) (w n : ℕ) (some : List Push) (inside : w < length messages) (len : length front ≡ length messages)
    (rises : get_or front w 0 ≤ n) (fit : All (IsMessageFor r old.shape w) some) (is : some ≡ take (n - get_or front w 0) (drop (get_or front w 0) (sent_by messages w)))
    (tells : (before : List Push) → IsTableOf r old before → IsTableOf r new (before ++ some)) (h : HasReached r messages front old) where
  own : messages_of w some ≡ some
  own = filter_kept (λ m. m.worker == w) some (λ k d lt. eq-eqb (get_or some k d).worker w (fit k d lt).0)

  others : (v : ℕ) → (v == w) ≡ false → messages_of v some ≡ []
  others v apart = filter_none (λ m. m.worker == v) some
      (λ k d lt. ne_eqb (get_or some k d).worker v (λ same. eqb-false v w apart (sym same ∙ (fit k d lt).0)))

  more_of : (v : ℕ) → v < length messages → (b : Bool) → (v == w) ≡ b → messages_of v (h.folded ++ some) ≡ take (get_or (set front w n) v 0) (sent_by messages v)
  more_of v lt true same =
      let at : v ≡ w = eqb-true v w same in
      let here : messages_of w (h.folded ++ some) ≡ take (get_or (set front w n) w 0) (sent_by messages w) =
      filter-append (λ m. m.worker == w) h.folded some
      ∙ ap₂ (λ s t. s ++ t) (h.firsts w inside) (own ∙ is)
      ∙ take_parts (sent_by messages w) (get_or front w 0) (n - get_or front w 0)
      ∙ ap (λ (k : ℕ). take k (sent_by messages w)) (let sum : get_or front w 0 + (n - get_or front w 0) ≡ n = omega (arith, rises) in sum)
      ∙ ap (λ (k : ℕ). take k (sent_by messages w)) (sym (get_or-set_same front w n 0 (omega (arith, inside, len)))) in
      subst (λ (x : ℕ). messages_of x (h.folded ++ some) ≡ take (get_or (set front w n) x 0) (sent_by messages x)) (sym at) here
  more_of v lt false apart =
      filter-append (λ m. m.worker == v) h.folded some
      ∙ ap₂ (λ s t. s ++ t) (h.firsts v lt) (others v apart)
      ∙ append-nil (take (get_or front v 0) (sent_by messages v))
      ∙ ap (λ (k : ℕ). take k (sent_by messages v)) (sym (get_or-set_other front w v n 0 (eqb-false v w apart)))

  pub reached_more : HasReached r messages (set front w n) new
  reached_more = record {
    folded = h.folded ++ some;
    of_workers = All-append (λ m. m.worker < length messages) h.folded some h.of_workers (λ k d lt. omega (arith, inside, (fit k d lt).0));
    values = All-append (λ m. r.is_value m.amount ≡ true) h.folded some h.values (λ k d lt. (fit k d lt).2);
    firsts = λ v lt. more_of v lt (v == w) refl;
    told = tells h.folded h.told;
  }

pub fits_of : (r : Rules) (shape : Shape) (w : ℕ) (some : List Push) → All (IsMessageFor r shape w) some → All (FitsIn r shape) some
fits_of r shape w some fit = λ k d lt. ((fit k d lt).1, (fit k d lt).2)

pub part_fits : (r : Rules) (shape : Shape) (w a k : ℕ) (sent : List Push) → All (IsMessageFor r shape w) sent → All (IsMessageFor r shape w) (take k (drop a sent))
part_fits r shape w a k sent fit = All-take (IsMessageFor r shape w) k (drop a sent) (All-drop (IsMessageFor r shape w) a sent fit)

length_take_within : {A : Type 0} (xs : List A) (n : ℕ) → n ≤ length xs → length (take n xs) ≡ n
length_take_within xs n le = omega (arith, le, length-take n xs)

-- the table is that of the messages up to the front
pub reached_shown : (r : Rules) → AreLaws r → (messages : List (List Push)) (front : List ℕ) (table : TableView) → length front ≡ length messages → IsWithinSent messages front
    → HasReached r messages front table → table.cells ≡ shown_cells r table.shape messages front
unfolding shown_cells told_cells
reached_shown r laws messages front table len within h =
    let workers : ℕ = length messages in
    let long : (w : ℕ) → w < workers → length (messages_of w h.folded) ≡ get_or front w 0 =
    (λ w lt. ap length (h.firsts w lt) ∙ length_take_within (sent_by messages w) (get_or front w 0) (within w lt)) in
    let fronts : front_of workers h.folded ≡ front =
    ext_get_or 0 (front_of workers h.folded) front (front_len workers h.folded ∙ sym len)
    (λ w lt. let below : w < workers = omega (arith, lt, front_len workers h.folded) in front_at workers h.folded w below ∙ long w below) in
    let firsts : (w : ℕ) (sent : List Push) → slice_get messages w ≡ Some sent → messages_of w h.folded ≡ take (length (messages_of w h.folded)) sent =
    (λ w sent is.
    let below : w < workers = slice_get_within messages w sent is in
    h.firsts w below
    ∙ ap₂ (λ (n : ℕ) (t : List Push). take n t) (sym (long w below)) (get_or_from_slice_get messages w sent [] is)) in
    h.told
    ∙ map_range_same (λ cell. told_of r cell h.folded) (shown_of r messages front) 0 (size_of table.shape)
    (λ cell _ _. sym (fold_shown r laws workers messages h.folded refl h.of_workers h.values firsts cell) ∙ ap (λ (t : List ℕ). shown_of r messages t cell) fronts)

-- the front, worker by worker

pub there_more : (old new front : List ℕ) (w : ℕ) → new ≡ set old w (get_or front w 0) → w < length old → ((k : ℕ) → k < w → get_or old k 0 ≡ get_or front k 0)
    → (k : ℕ) → k < w + 1 → get_or new k 0 ≡ get_or front k 0
there_more old new front w is inside before k lt = elim (eq-or-lt_of_le (let le : k ≤ w = omega (arith, lt) in le)) [
  | inl same ↦ subst (λ (i : ℕ). get_or new i 0 ≡ get_or front i 0) (sym same)
      (ap (λ (t : List ℕ). get_or t w 0) is ∙ get_or-set_same old w (get_or front w 0) 0 inside)
  | inr early ↦
      ap (λ (t : List ℕ). get_or t k 0) is
      ∙ get_or-set_other old w k (get_or front w 0) 0 (λ same. let bad : k ≡ w = same in absurd (omega (arith, bad, early)))
      ∙ before k early
]

pub rest_more : (old new first : List ℕ) (w n : ℕ) → new ≡ set old w n → ((k : ℕ) → w ≤ k → get_or old k 0 ≡ get_or first k 0)
    → (k : ℕ) → w + 1 ≤ k → get_or new k 0 ≡ get_or first k 0
rest_more old new first w n is before k le =
    ap (λ (t : List ℕ). get_or t k 0) is
    ∙ get_or-set_other old w k n 0 (λ same. let bad : k ≡ w = same in absurd (omega (arith, bad, le)))
    ∙ before k (omega (arith, le))

pub front_whole : (reached front : List ℕ) (n : ℕ) → length reached ≡ length front → length front ≤ n → ((k : ℕ) → k < n → get_or reached k 0 ≡ get_or front k 0) → reached ≡ front
front_whole reached front n len le there = ext_get_or 0 reached front len (λ k lt. there k (omega (arith, lt, len, le)))
