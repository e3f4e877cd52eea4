-- The live keys of a fold, and the messages of each worker.
use Rattle.std.proofs.Common.{◌≡◌, ◌<◌, ◌≤◌, ℕ, ℤ, zero, suc, ◌+◌, pos, List, [], ◌∷◌, ◌++◌, length, get_or, take, Bool, true, false, not, ◌&&◌, ◌||◌, if◌then◌else◌, refl, sym, ap, ap₂, ◌∙◌, arith}
use Rattle.std.specs.Prelude.{filter, map, fold, int_le}
use Rattle.std.specs.List.{flat_map, range_with_len, IsDistinct, AllByRecursion}
use Rattle.std.proofs.lemmas.List.{length-take, take_all, take_more}
use Rattle.packet_key.specs.declared.key.FlowKey.{FlowKey}
use Rattle.hash_rows.specs.declared.shape.Flow.{Flow}
use Rattle.hash_rows.specs.declared.shape.Push.{Push}
use Rattle.hash_rows.specs.declared.shape.Shape.{Shape}
use Rattle.packet_key.specs.Keys.{same_key}
use Rattle.hash_rows.specs.Rules.{Rules}
use Rattle.push_history.specs.Share.{zero_key}
use Rattle.push_history.specs.Front.{message_at, messages_of}
use Rattle.push_history.specs.LawfulJournal.{all_of, sent_by}
use Rattle.push_history.specs.LiveHeavy.{is_among, with_key, distinct_keys, qualifying, live_of, missed_of, notes_of}
use Rattle.push_history.proofs.Notes.{note_by, notes_push, notes_none}
use Rattle.push_history.proofs.Sharing.{by_places}
use Rattle.push_history.proofs.LiveLists.{none_missing_live}
use Rattle.fold_law.specs.Folds.{IsFoldOf}
use Rattle.fold_law.proofs.Steps.{count, count_append, count_one, steps, count_by_worker}

-- a new key differs from all before it
distinct_last : (xs : List FlowKey) (k : FlowKey) → IsDistinct same_key xs → is_among xs k ≡ false → IsDistinct same_key (xs ++ k ∷ [])
unfolding IsDistinct
distinct_last [] k d new = (tt, tt)
distinct_last (x ∷ xs) k d new =
    let parts = or_false (same_key x k) (is_among xs k) new in
    (each xs d.0 parts.0, distinct_last xs k d.1 parts.1)
  where
    or_false : (a b : Bool) → (a || b) ≡ false → (a ≡ false) × (b ≡ false)
    or_false true b is = absurd (cc)
    or_false false b is = (refl, is)

    each : (ys : List FlowKey) → AllByRecursion (λ y. same_key x y ≡ false) ys → same_key x k ≡ false → AllByRecursion (λ y. same_key x y ≡ false) (ys ++ k ∷ [])
    each [] all own = (own, tt)
    each (y ∷ ys) all own = (all.0, each ys all.1 own)

distinct_with : (xs : List FlowKey) (k : FlowKey) → IsDistinct same_key xs → (b : Bool) → is_among xs k ≡ b → IsDistinct same_key (if b then xs else xs ++ k ∷ [])
distinct_with xs k d true there = d
distinct_with xs k d false new = distinct_last xs k d new

distinct_from : (qs xs : List FlowKey) → IsDistinct same_key xs → IsDistinct same_key (fold with_key xs qs)
distinct_from [] xs d = d
distinct_from (q ∷ qs) xs d = distinct_from qs (with_key xs q) (distinct_with xs q d (is_among xs q) refl)

distinct_take : (n : ℕ) (xs : List FlowKey) → IsDistinct same_key xs → IsDistinct same_key (take n xs)
unfolding IsDistinct
distinct_take zero xs d = tt
distinct_take (suc n) [] d = tt
distinct_take (suc n) (x ∷ xs) d = (front n xs d.0, distinct_take n xs d.1)
  where
    front : (n : ℕ) (ys : List FlowKey) → AllByRecursion (λ y. same_key x y ≡ false) ys → AllByRecursion (λ y. same_key x y ≡ false) (take n ys)
    front zero ys all = tt
    front (suc n) [] all = tt
    front (suc n) (y ∷ ys) all = (all.0, front n ys all.1)

-- the live keys differ
pub live_distinct : (limit : ℕ) (least : ℤ) (notes : List Flow) → IsDistinct same_key (live_of limit least notes)
unfolding live_of IsDistinct
live_distinct limit least notes = distinct_take limit (distinct_keys (qualifying least notes)) (distinct_from (qualifying least notes) [] tt)

-- and are at most as many as have room
pub live_most : (limit : ℕ) (least : ℤ) (notes : List Flow) → length (live_of limit least notes) ≤ limit
unfolding live_of
live_most limit least notes = omega (arith, length-take limit (distinct_keys (qualifying least notes)))

-- where there is room left, none is missed
pub live_room : (limit : ℕ) (least : ℤ) (notes : List Flow) → length (live_of limit least notes) < limit → missed_of limit least notes ≡ 0
unfolding live_of missed_of
live_room limit least notes room =
    ap length (none_missing_live limit (qualifying least notes) (omega (arith, room, length-take limit (distinct_keys (qualifying least notes)))))

-- what holds of each qualifying key holds of each live one
kept_with : (P : FlowKey → Type 0) (xs : List FlowKey) (k : FlowKey) → AllByRecursion P xs → P k → (b : Bool) → AllByRecursion P (if b then xs else xs ++ k ∷ [])
kept_with P xs k all own true = all
kept_with P [] k all own false = (own, tt)
kept_with P (x ∷ xs) k all own false = (all.0, kept_with P xs k all.1 own false)

kept_from : (P : FlowKey → Type 0) (qs xs : List FlowKey) → AllByRecursion P xs → AllByRecursion P qs → AllByRecursion P (fold with_key xs qs)
kept_from P [] xs all more = all
kept_from P (q ∷ qs) xs all more = kept_from P qs (with_key xs q) (kept_with P xs q all more.0 (is_among xs q)) more.1

front_all : (P : FlowKey → Type 0) (n : ℕ) (xs : List FlowKey) → AllByRecursion P xs → AllByRecursion P (take n xs)
front_all P zero xs all = tt
front_all P (suc n) [] all = tt
front_all P (suc n) (x ∷ xs) all = (all.0, front_all P n xs all.1)

qualifying_all : (P : FlowKey → Type 0) (least : ℤ) (notes : List Flow) → ((k : ℕ) (d : Flow) → k < length notes → int_le least (get_or notes k d).estimate ≡ true → P (get_or notes k d).key)
    → AllByRecursion P (qualifying least notes)
qualifying_all P least [] each = tt
qualifying_all P least (x ∷ xs) each = by (int_le least x.estimate) refl (qualifying_all P least xs (λ k d lt is. each (suc k) d (omega (arith, lt)) is))
  where
    by : (b : Bool) → int_le least x.estimate ≡ b → AllByRecursion P (qualifying least xs)
        → AllByRecursion P (map (λ note. note.key) (if b then x ∷ filter (λ note. int_le least note.estimate) xs else filter (λ note. int_le least note.estimate) xs))
    by true is rest = (each 0 x (omega arith) is, rest)
    by false is rest = rest

pub live_all : (P : FlowKey → Type 0) (limit : ℕ) (least : ℤ) (notes : List Flow) → ((k : ℕ) (d : Flow) → k < length notes → int_le least (get_or notes k d).estimate ≡ true → P (get_or notes k d).key)
    → AllByRecursion P (live_of limit least notes)
unfolding live_of
live_all P limit least notes each = front_all P limit (distinct_keys (qualifying least notes)) (kept_from P (qualifying least notes) [] tt (qualifying_all P least notes each))

-- how many of the notes qualify and aren't live
pub missed_count : (live : List FlowKey) (least : ℤ) (notes : List Flow)
    → length (filter (λ key. not (is_among live key)) (qualifying least notes)) ≡ count (λ note. int_le least note.estimate && not (is_among live note.key)) notes
missed_count live least [] = refl
missed_count live least (x ∷ xs) = by (int_le least x.estimate) (missed_count live least xs)
  where
    by : (a : Bool) → length (filter (λ key. not (is_among live key)) (qualifying least xs)) ≡ count (λ note. int_le least note.estimate && not (is_among live note.key)) xs
        → length (filter (λ key. not (is_among live key)) (map (λ note. note.key) (if a then x ∷ filter (λ note. int_le least note.estimate) xs else filter (λ note. int_le least note.estimate) xs)))
        ≡ length (if a && not (is_among live x.key) then x ∷ filter (λ note. int_le least note.estimate && not (is_among live note.key)) xs else filter (λ note. int_le least note.estimate && not (is_among live note.key)) xs)
    by false rest = rest
    by true rest =
        elim (not (is_among live x.key)) as (λ c. length (if c then x.key ∷ filter (λ key. not (is_among live key)) (qualifying least xs) else filter (λ key. not (is_among live key)) (qualifying least xs))
        ≡ length (if c then x ∷ filter (λ note. int_le least note.estimate && not (is_among live note.key)) xs else filter (λ note. int_le least note.estimate && not (is_among live note.key)) xs))
        [ true ↦ ap suc rest | false ↦ rest ]

-- the messages of all workers, worker by worker
pub all_by_worker : {X : Type 0} (f : List Push → List X) (messages : List (List Push)) (folded : List Push) → IsFoldOf messages folded
    → flat_map f messages ≡ flat_map (λ w. f (messages_of w folded)) (range_with_len 0 (length messages))
all_by_worker f messages folded h =
    ap (flat_map f) (sym (take_all (length messages) messages (omega arith)))
    ∙ by_places f messages [] (length messages) (omega arith)
    ∙ flat_range_same (λ w. f (sent_by messages w)) (λ w. f (messages_of w folded)) 0 (length messages) (λ w from to. ap f (sym (h.in_order w (omega (arith, to)))))
  where
    flat_range_same : {X : Type 0} (f g : ℕ → List X) (first n : ℕ) → ((w : ℕ) → first ≤ w → w < first + n → f w ≡ g w) → flat_map f (range_with_len first n) ≡ flat_map g (range_with_len first n)
    flat_range_same f g first zero same = refl
    flat_range_same f g first (suc n) same =
        ap₂ (λ x t. x ++ t) (same first (omega arith) (omega arith)) (flat_range_same f g (first + 1) n (λ w from to. same w (omega (arith, from)) (omega (arith, to))))

module _ (messages : List (List Push)) (folded : List Push) (h : IsFoldOf messages folded) where
  -- counting the messages of all workers is counting those of the fold
  pub count_all : (p : Push → Bool) → count p (all_of messages) ≡ steps (λ T m. p m) folded (length folded)
  count_all p =
      ap (count p) (all_by_worker (λ sent. sent) messages folded h)
      ∙ ap (λ (t : List Push). count p (flat_map (λ w. messages_of w t) (range_with_len 0 (length messages)))) (sym (take_all (length folded) folded (omega arith)))
      ∙ count_by_worker (λ t. t) (λ T m. m) refl (λ T m. refl) p (length messages) folded h.of_workers (length folded) (omega arith)

  -- so it is with the notes of each worker's own messages
  pub count_own : (r : Rules) (shape : Shape) (p : Flow → Bool)
      → count p (flat_map (notes_of r shape) messages) ≡ steps (λ T m. p (note_by r shape (messages_of m.worker T) m)) folded (length folded)
  count_own r shape p =
      ap (count p) (all_by_worker (notes_of r shape) messages folded h)
      ∙ ap (λ (t : List Push). count p (flat_map (λ w. notes_of r shape (messages_of w t)) (range_with_len 0 (length messages)))) (sym (take_all (length folded) folded (omega arith)))
      ∙ count_by_worker (notes_of r shape) (note_by r shape) (notes_none r shape) (notes_push r shape) p (length messages) folded h.of_workers (length folded) (omega arith)

-- the notes of a fold
pub count_notes : (r : Rules) (shape : Shape) (p : Flow → Bool) (folded : List Push) (k : ℕ) → k ≤ length folded
    → count p (notes_of r shape (take k folded)) ≡ steps (λ T m. p (note_by r shape T m)) folded k
count_notes r shape p folded zero le = ap (count p) (notes_none r shape)
count_notes r shape p folded (suc k) le =
    let next : suc k ≡ k + 1 = omega arith in
    let m : Push = message_at folded k in
    let T : List Push = take k folded in
    let more : take (suc k) folded ≡ T ++ m ∷ [] = ap (λ (n : ℕ). take n folded) next ∙ take_more folded k (record { worker = 0; packet = 0; update = 0; key = zero_key; cell = 0; amount = pos 0 }) (omega (arith, le)) in
    ap (λ t. count p (notes_of r shape t)) more ∙ ap (count p) (notes_push r shape T m)
    ∙ count_append p (notes_of r shape T) (note_by r shape T m ∷ [])
    ∙ (let before = count_notes r shape p folded k (omega (arith, le)) in let here = count_one p (note_by r shape T m) in omega (arith, before, here))
