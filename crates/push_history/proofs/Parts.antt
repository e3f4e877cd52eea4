-- A join over all of a list is the join of the joins over its parts.
use Rattle.std.proofs.Common.{◌≡◌, ◌≢◌, ◌<◌, ◌≤◌, ℕ, zero, suc, ◌+◌, ◌==◌, ℤ, pos, List, [], ◌∷◌, ◌++◌, Bool, true, false, if◌then◌else◌, refl, sym, ap, ◌∙◌, arith}
use Rattle.std.specs.Prelude.{filter, map, fold, All}
use Rattle.std.specs.List.{flat_map, range_with_len}
use Rattle.std.proofs.lemmas.List.Sums.{fold-append}
use Rattle.std.proofs.lemmas.List.Elements.{All-head, All-tail, All-append, All-nil, All-cons}
use Rattle.hash_rows.specs.Rules.{Rules, AreLaws, AreValues}
use Rattle.hash_rows.specs.Sequential.{joined_of}
use Rattle.push_history.proofs.Joins.{joined_value}

-- joining from a value on
fold_from : (r : Rules) → AreLaws r → (xs : List ℤ) (a : ℤ) → r.is_value a ≡ true → AreValues r xs → fold r.join a xs ≡ r.join a (joined_of r xs)
fold_from r laws [] a is all = sym (laws.join_comm a (pos 0) is laws.zero_value ∙ laws.join_zero a is)
fold_from r laws (x ∷ xs) a is all =
    let x_is : r.is_value x ≡ true = All-head (λ y. r.is_value y ≡ true) x xs all in
    let rest : AreValues r xs = All-tail (λ y. r.is_value y ≡ true) x xs all in
    let rest_is : r.is_value (joined_of r xs) ≡ true = joined_value r laws xs rest in
    fold_from r laws xs (r.join a x) (laws.join_value a x is x_is) rest
    ∙ laws.join_assoc a x (joined_of r xs) is x_is rest_is
    ∙ ap (r.join a) (sym (fold_from r laws xs x x_is rest) ∙ ap (λ (z : ℤ). fold r.join z xs) (sym (laws.join_zero x x_is)))

pub joined_cons : (r : Rules) → AreLaws r → (x : ℤ) (xs : List ℤ) → r.is_value x ≡ true → AreValues r xs → joined_of r (x ∷ xs) ≡ r.join x (joined_of r xs)
joined_cons r laws x xs is all = ap (λ (z : ℤ). fold r.join z xs) (laws.join_zero x is) ∙ fold_from r laws xs x is all

pub joined_append : (r : Rules) → AreLaws r → (xs ys : List ℤ) → AreValues r xs → AreValues r ys → joined_of r (xs ++ ys) ≡ r.join (joined_of r xs) (joined_of r ys)
joined_append r laws xs ys first second = fold-append r.join (pos 0) xs ys ∙ fold_from r laws ys (joined_of r xs) (joined_value r laws xs first) second

values_map : (r : Rules) (h : ℕ → ℤ) → ((w : ℕ) → r.is_value (h w) ≡ true) → (ws : List ℕ) → AreValues r (map h ws)
values_map r h are [] = All-nil (λ y. r.is_value y ≡ true)
values_map r h are (w ∷ ws) = All-cons (λ y. r.is_value y ≡ true) (h w) (map h ws) (are w) (values_map r h are ws)

-- what worker w has, with a joined into what worker c has
abbrev pub with_part : Rules → ℕ → ℤ → (ℕ → ℤ) → ℕ → ℤ
with_part r c a h w = if c == w then r.join a (h w) else h w

with_part_value : (r : Rules) → AreLaws r → (c : ℕ) (a : ℤ) (h : ℕ → ℤ) → r.is_value a ≡ true → ((w : ℕ) → r.is_value (h w) ≡ true) → (w : ℕ) → r.is_value (with_part r c a h w) ≡ true
with_part_value r laws c a h is are w =
    elim (c == w) as (λ b. r.is_value (if b then r.join a (h w) else h w) ≡ true) [ true ↦ laws.join_value a (h w) is (are w) | false ↦ are w ]

none_has : (r : Rules) (c : ℕ) (a : ℤ) (h : ℕ → ℤ) (first n : ℕ) → c < first → map (with_part r c a h) (range_with_len first n) ≡ map h (range_with_len first n)
none_has r c a h first zero lt = refl
none_has r c a h first (suc n) lt =
    let no : (c == first) ≡ false = grind arith in
    rw no (ap (λ t. h first ∷ t) (none_has r c a h (first + 1) n (omega (arith, lt))))

one_has_by : (r : Rules) → AreLaws r → (c : ℕ) (a : ℤ) (h : ℕ → ℤ) → r.is_value a ≡ true → ((w : ℕ) → r.is_value (h w) ≡ true) → (first n : ℕ) → first ≤ c
    → (first + 1 ≤ c → joined_of r (map (with_part r c a h) (range_with_len (first + 1) n)) ≡ r.join a (joined_of r (map h (range_with_len (first + 1) n))))
    → (b : Bool) → (c == first) ≡ b
    → joined_of r (map (with_part r c a h) (range_with_len first (suc n))) ≡ r.join a (joined_of r (map h (range_with_len first (suc n))))
one_has_by r laws c a h is are first n le later true same =
    let rest : List ℕ = range_with_len (first + 1) n in
    let rest_values : AreValues r (map h rest) = values_map r h are rest in
    let rest_is : r.is_value (joined_of r (map h rest)) ≡ true = joined_value r laws (map h rest) rest_values in
    rw same
    (ap (λ t. joined_of r (r.join a (h first) ∷ t)) (none_has r c a h (first + 1) n (let e : c ≡ first = grind arith in omega (arith, e)))
    ∙ joined_cons r laws (r.join a (h first)) (map h rest) (laws.join_value a (h first) is (are first)) rest_values
    ∙ laws.join_assoc a (h first) (joined_of r (map h rest)) is (are first) rest_is
    ∙ ap (r.join a) (sym (joined_cons r laws (h first) (map h rest) (are first) rest_values)))
one_has_by r laws c a h is are first n le later false other =
    let rest : List ℕ = range_with_len (first + 1) n in
    let rest_values : AreValues r (map h rest) = values_map r h are rest in
    let rest_is : r.is_value (joined_of r (map h rest)) ≡ true = joined_value r laws (map h rest) rest_values in
    let part_values : AreValues r (map (with_part r c a h) rest) = values_map r (with_part r c a h) (with_part_value r laws c a h is are) rest in
    let after : first + 1 ≤ c = (let ne : c ≢ first = (λ e. let yes : (c == first) ≡ true = grind arith in let no : true ≡ false = sym yes ∙ other in absurd (cc)) in omega (arith, le, ne)) in
    rw other
    (joined_cons r laws (h first) (map (with_part r c a h) rest) (are first) part_values
    ∙ ap (r.join (h first)) (later after)
    ∙ sym (laws.join_assoc (h first) a (joined_of r (map h rest)) (are first) is rest_is)
    ∙ ap (λ (z : ℤ). r.join z (joined_of r (map h rest))) (laws.join_comm (h first) a (are first) is)
    ∙ laws.join_assoc a (h first) (joined_of r (map h rest)) is (are first) rest_is
    ∙ ap (r.join a) (sym (joined_cons r laws (h first) (map h rest) (are first) rest_values)))

-- what one part has more, the join of all has more
one_has : (r : Rules) → AreLaws r → (c : ℕ) (a : ℤ) (h : ℕ → ℤ) → r.is_value a ≡ true → ((w : ℕ) → r.is_value (h w) ≡ true) → (first n : ℕ) → first ≤ c → c < first + n
    → joined_of r (map (with_part r c a h) (range_with_len first n)) ≡ r.join a (joined_of r (map h (range_with_len first n)))
one_has r laws c a h is are first zero le lt = absurd (omega (arith, le, lt))
one_has r laws c a h is are first (suc n) le lt =
    one_has_by r laws c a h is are first n le (λ after. one_has r laws c a h is are (first + 1) n after (omega (arith, lt))) (c == first) refl

zeros : (r : Rules) → AreLaws r → (ws : List ℕ) → joined_of r (map (λ w. pos 0) ws) ≡ pos 0
zeros r laws [] = refl
zeros r laws (w ∷ ws) = ap (λ (z : ℤ). fold r.join z (map (λ w. pos 0) ws)) (laws.join_zero (pos 0) laws.zero_value) ∙ zeros r laws ws

-- the values of those in class w
abbrev pub part_of : {X : Type 0} → (X → List ℤ) → (X → ℕ) → List X → ℕ → List ℤ
part_of values class xs w = flat_map values (filter (λ x. class x == w) xs)

part_values : {X : Type 0} (r : Rules) (values : X → List ℤ) (class : X → ℕ) (xs : List X) → All (λ x. AreValues r (values x)) xs → (w : ℕ) → AreValues r (part_of values class xs w)
part_values r values class [] are w = All-nil (λ y. r.is_value y ≡ true)
part_values r values class (x ∷ xs) are w =
    let rest = part_values r values class xs (All-tail (λ y. AreValues r (values y)) x xs are) w in
    elim (class x == w) as (λ b. AreValues r (flat_map values (if b then x ∷ filter (λ y. class y == w) xs else filter (λ y. class y == w) xs))) [
      | true ↦ All-append (λ y. r.is_value y ≡ true) (values x) (part_of values class xs w) (All-head (λ y. AreValues r (values y)) x xs are) rest
      | false ↦ rest
    ]

part_more : {X : Type 0} (r : Rules) → AreLaws r → (values : X → List ℤ) (class : X → ℕ) (x : X) (xs : List X) → All (λ x. AreValues r (values x)) (x ∷ xs) → (w : ℕ)
    → joined_of r (part_of values class (x ∷ xs) w) ≡ with_part r (class x) (joined_of r (values x)) (λ v. joined_of r (part_of values class xs v)) w
part_more r laws values class x xs are w =
    elim (class x == w) as (λ b. joined_of r (flat_map values (if b then x ∷ filter (λ y. class y == w) xs else filter (λ y. class y == w) xs))
    ≡ (if b then r.join (joined_of r (values x)) (joined_of r (part_of values class xs w)) else joined_of r (part_of values class xs w))) [
      | true ↦ joined_append r laws (values x) (part_of values class xs w) (All-head (λ y. AreValues r (values y)) x xs are)
          (part_values r values class xs (All-tail (λ y. AreValues r (values y)) x xs are) w)
      | false ↦ refl
    ]

all_values : {X : Type 0} (r : Rules) (values : X → List ℤ) (xs : List X) → All (λ x. AreValues r (values x)) xs → AreValues r (flat_map values xs)
all_values r values [] are = All-nil (λ y. r.is_value y ≡ true)
all_values r values (x ∷ xs) are =
    All-append (λ y. r.is_value y ≡ true) (values x) (flat_map values xs) (All-head (λ y. AreValues r (values y)) x xs are)
    (all_values r values xs (All-tail (λ y. AreValues r (values y)) x xs are))

-- the join of the joins over the classes is the join over all
pub joined_parts : {X : Type 0} (r : Rules) → AreLaws r → (values : X → List ℤ) (class : X → ℕ) (classes : ℕ) (xs : List X)
    → All (λ x. AreValues r (values x)) xs → All (λ x. class x < classes) xs
    → joined_of r (map (λ w. joined_of r (part_of values class xs w)) (range_with_len 0 classes)) ≡ joined_of r (flat_map values xs)
joined_parts r laws values class classes [] are all = zeros r laws (range_with_len 0 classes)
joined_parts {X} r laws values class classes (x ∷ xs) are all =
    let own : class x < classes = All-head (λ y. class y < classes) x xs all in
    let rest : All (λ y. class y < classes) xs = All-tail (λ y. class y < classes) x xs all in
    let own_values : AreValues r (values x) = All-head (λ y. AreValues r (values y)) x xs are in
    let rest_values : All (λ y. AreValues r (values y)) xs = All-tail (λ y. AreValues r (values y)) x xs are in
    let h : ℕ → ℤ = λ w. joined_of r (part_of values class xs w) in
    let are_parts : (w : ℕ) → r.is_value (h w) ≡ true = λ w. joined_value r laws (part_of values class xs w) (part_values r values class xs rest_values w) in
    let x_is : r.is_value (joined_of r (values x)) ≡ true = joined_value r laws (values x) own_values in
    (λ i. joined_of r (map (λ w. part_more r laws values class x xs are w i) (range_with_len 0 classes)))
    ∙ one_has r laws (class x) (joined_of r (values x)) h x_is are_parts 0 classes (omega arith) (omega (arith, own))
    ∙ ap (r.join (joined_of r (values x))) (joined_parts r laws values class classes xs rest_values rest)
    ∙ sym (joined_append r laws (values x) (flat_map values xs) own_values (all_values r values xs rest_values))
