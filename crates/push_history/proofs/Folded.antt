-- What is folded of all workers, and what their messages up to its front tell.
use Rattle.std.proofs.Common.{◌≡◌, ◌<◌, ℕ, zero, suc, ◌+◌, ◌==◌, ℤ, List, [], ◌∷◌, ◌++◌, length, get_or, take, Some, true, false, if◌then◌else◌, refl, sym, ap, ◌∙◌, subst, arith}
use Rattle.std.specs.Prelude.{filter, map, All, slice_get}
use Rattle.std.specs.List.{flat_map, range_with_len}
use Rattle.std.proofs.lemmas.List.{map-append}
use Rattle.std.proofs.lemmas.List.Elements.{All-append, All-nil, All-cons, All-filter, All-map, filter-append}
use Rattle.hash_rows.specs.declared.shape.Push.{Push}
use Rattle.hash_rows.specs.Rules.{Rules, AreLaws, AreValues}
use Rattle.hash_rows.specs.Sequential.{joined_of}
use Rattle.push_history.specs.Front.{messages_of, front_of}
use Rattle.push_history.specs.Shown.{first_messages, shown_of}
use Rattle.push_history.specs.Told.{amounts_for, told_of}
use Rattle.push_history.proofs.Joins.{joined_value}
use Rattle.push_history.proofs.Parts.{joined_parts, joined_append, joined_cons}

-- what a message gives a cell
abbrev amount_at : ℕ → Push → List ℤ
amount_at cell m = if m.cell == cell then m.amount ∷ [] else []

amounts_are : (cell : ℕ) (xs : List Push) → amounts_for cell xs ≡ flat_map (amount_at cell) xs
amounts_are cell [] = refl
amounts_are cell (x ∷ xs) =
    elim (x.cell == cell) as (λ b. map (λ m. m.amount) (if b then x ∷ filter (λ m. m.cell == cell) xs else filter (λ m. m.cell == cell) xs) ≡ (if b then x.amount ∷ [] else []) ++ flat_map (amount_at cell) xs)
    [ true ↦ ap (λ t. x.amount ∷ t) (amounts_are cell xs) | false ↦ amounts_are cell xs ]

amount_values : (r : Rules) (cell : ℕ) (x : Push) → r.is_value x.amount ≡ true → AreValues r (amount_at cell x)
amount_values r cell x is =
    elim (x.cell == cell) as (λ b. AreValues r (if b then x.amount ∷ [] else []))
    [ true ↦ All-cons (λ y. r.is_value y ≡ true) x.amount [] is (All-nil (λ y. r.is_value y ≡ true)) | false ↦ All-nil (λ y. r.is_value y ≡ true) ]

many_values : (r : Rules) (cell : ℕ) (xs : List Push) → All (λ m. r.is_value m.amount ≡ true) xs → AreValues r (amounts_for cell xs)
many_values r cell xs all =
    All-map (λ y. r.is_value y ≡ true) (λ m. m.amount) (filter (λ m. m.cell == cell) xs) (All-filter (λ m. m.cell == cell) (λ m. r.is_value m.amount ≡ true) xs all)

flat_values : (r : Rules) (f : ℕ → List ℤ) → ((w : ℕ) → AreValues r (f w)) → (ws : List ℕ) → AreValues r (flat_map f ws)
flat_values r f are [] = All-nil (λ y. r.is_value y ≡ true)
flat_values r f are (w ∷ ws) = All-append (λ y. r.is_value y ≡ true) (f w) (flat_map f ws) (are w) (flat_values r f are ws)

map_values : (r : Rules) → AreLaws r → (f : ℕ → List ℤ) → ((w : ℕ) → AreValues r (f w)) → (ws : List ℕ) → AreValues r (map (λ w. joined_of r (f w)) ws)
map_values r laws f are [] = All-nil (λ y. r.is_value y ≡ true)
map_values r laws f are (w ∷ ws) = All-cons (λ y. r.is_value y ≡ true) (joined_of r (f w)) (map (λ w. joined_of r (f w)) ws) (joined_value r laws (f w) (are w)) (map_values r laws f are ws)

-- the join of all is the join of the joins
joined_flat : (r : Rules) → AreLaws r → (f : ℕ → List ℤ) → ((w : ℕ) → AreValues r (f w)) → (ws : List ℕ) → joined_of r (flat_map f ws) ≡ joined_of r (map (λ w. joined_of r (f w)) ws)
joined_flat r laws f are [] = refl
joined_flat r laws f are (w ∷ ws) =
    joined_append r laws (f w) (flat_map f ws) (are w) (flat_values r f are ws)
    ∙ ap (r.join (joined_of r (f w))) (joined_flat r laws f are ws)
    ∙ sym (joined_cons r laws (joined_of r (f w)) (map (λ v. joined_of r (f v)) ws) (joined_value r laws (f w) (are w)) (map_values r laws f are ws))

amounts_flat : (cell : ℕ) (f : ℕ → List Push) (ws : List ℕ) → amounts_for cell (flat_map f ws) ≡ flat_map (λ w. amounts_for cell (f w)) ws
amounts_flat cell f [] = refl
amounts_flat cell f (w ∷ ws) =
    ap (map (λ m. m.amount)) (filter-append (λ m. m.cell == cell) (f w) (flat_map f ws))
    ∙ map-append (λ m. m.amount) (filter (λ m. m.cell == cell) (f w)) (filter (λ m. m.cell == cell) (flat_map f ws))
    ∙ ap (λ t. amounts_for cell (f w) ++ t) (amounts_flat cell f ws)

-- the first messages of each worker are those that were folded
firsts_folded : (messages : List (List Push)) (folded : List Push) (first n : ℕ) → length messages ≡ n
    → ((i : ℕ) (sent : List Push) → slice_get messages i ≡ Some sent → messages_of (first + i) folded ≡ take (length (messages_of (first + i) folded)) sent)
    → first_messages messages (map (λ w. length (messages_of w folded)) (range_with_len first n)) ≡ flat_map (λ w. messages_of w folded) (range_with_len first n)
firsts_folded [] folded first zero same each = refl
firsts_folded [] folded first (suc n) same each = absurd (omega (arith, same))
firsts_folded (s ∷ ms) folded first zero same each = absurd (omega (arith, same))
firsts_folded (s ∷ ms) folded first (suc n) same each =
    let here : first + 0 ≡ first = omega arith in
    let own : messages_of first folded ≡ take (length (messages_of first folded)) s =
    subst (λ (w : ℕ). messages_of w folded ≡ take (length (messages_of w folded)) s) here (each 0 s refl) in
    ap (λ t. t ++ first_messages ms (map (λ w. length (messages_of w folded)) (range_with_len (first + 1) n))) (sym own)
    ∙ ap (λ t. messages_of first folded ++ t) (firsts_folded ms folded (first + 1) n (omega (arith, same))
    (λ i sent is. let there : first + 1 + i ≡ first + suc i = omega arith in
    subst (λ (w : ℕ). messages_of w folded ≡ take (length (messages_of w folded)) sent) (sym there) (each (suc i) sent is)))

-- what the messages of all workers tell is what all messages tell
pub told_by_workers : (r : Rules) → AreLaws r → (workers : ℕ) (folded : List Push) → All (λ m. m.worker < workers) folded → All (λ m. r.is_value m.amount ≡ true) folded
    → (cell : ℕ) → told_of r cell (flat_map (λ w. messages_of w folded) (range_with_len 0 workers)) ≡ told_of r cell folded
unfolding told_of
told_by_workers r laws workers folded within are cell =
    let parts : ℕ → List ℤ = λ w. amounts_for cell (messages_of w folded) in
    let part_values : (w : ℕ) → AreValues r (parts w) = λ w. many_values r cell (messages_of w folded) (All-filter (λ m. m.worker == w) (λ m. r.is_value m.amount ≡ true) folded are) in
    ap (joined_of r) (amounts_flat cell (λ w. messages_of w folded) (range_with_len 0 workers))
    ∙ joined_flat r laws parts part_values (range_with_len 0 workers)
    ∙ (λ j. joined_of r (map (λ w. joined_of r (amounts_are cell (messages_of w folded) j)) (range_with_len 0 workers)))
    ∙ joined_parts r laws (amount_at cell) (λ m. m.worker) workers folded (λ k d lt. amount_values r cell (get_or folded k d) (are k d lt)) within
    ∙ ap (joined_of r) (sym (amounts_are cell folded))

pub fold_shown : (r : Rules) → AreLaws r → (workers : ℕ) (messages : List (List Push)) (folded : List Push) → length messages ≡ workers → All (λ m. m.worker < workers) folded
    → All (λ m. r.is_value m.amount ≡ true) folded
    → ((w : ℕ) (sent : List Push) → slice_get messages w ≡ Some sent → messages_of w folded ≡ take (length (messages_of w folded)) sent)
    → (cell : ℕ) → shown_of r messages (front_of workers folded) cell ≡ told_of r cell folded
unfolding shown_of front_of
fold_shown r laws workers messages folded same within are each cell =
    ap (told_of r cell) (firsts_folded messages folded 0 workers same
    (λ i sent is. let there : 0 + i ≡ i = omega arith in subst (λ (w : ℕ). messages_of w folded ≡ take (length (messages_of w folded)) sent) (sym there) (each i sent is)))
    ∙ told_by_workers r laws workers folded within are cell
