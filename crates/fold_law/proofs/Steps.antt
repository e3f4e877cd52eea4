-- Counting messages as they are folded, and worker by worker.
use Rattle.std.proofs.Common.{◌≡◌, ◌≢◌, ◌<◌, ◌≤◌, ℕ, zero, suc, ◌+◌, ◌==◌, pos, List, [], ◌∷◌, ◌++◌, length, take, Bool, true, false, if◌then◌else◌, refl, sym, ap, ◌∙◌, arith, length-append}
use Rattle.std.specs.Prelude.{filter, All}
use Rattle.std.specs.List.{flat_map, range_with_len}
use Rattle.std.proofs.lemmas.List.{take_more}
use Rattle.std.proofs.lemmas.List.Elements.{filter-append}
use Rattle.hash_rows.specs.declared.shape.Push.{Push}
use Rattle.push_history.specs.Share.{zero_key}
use Rattle.push_history.specs.Front.{message_at, messages_of}
use Rattle.push_history.proofs.Lists.{filter_push_no, filter_push_yes}

-- how many pass
abbrev pub count : {X : Type 0} → (X → Bool) → List X → ℕ
count p xs = length (filter p xs)

abbrev pub one_if : Bool → ℕ
one_if b = if b then 1 else 0

pub count_append : {X : Type 0} (p : X → Bool) (xs ys : List X) → count p (xs ++ ys) ≡ count p xs + count p ys
count_append p xs ys = ap length (filter-append p xs ys) ∙ length-append (filter p xs) (filter p ys)

pub count_one : {X : Type 0} (p : X → Bool) (x : X) → count p (x ∷ []) ≡ one_if (p x)
count_one p x = elim (p x) as (λ b. length (if b then x ∷ [] else []) ≡ one_if b) [ true ↦ refl | false ↦ refl ]

-- one list of many, with an item more
abbrev pub with_item : {X : Type 0} → ℕ → X → (ℕ → List X) → ℕ → List X
with_item v x g w = if v == w then g w ++ x ∷ [] else g w

item_none : {X : Type 0} (v : ℕ) (x : X) (g : ℕ → List X) (first n : ℕ) → v < first → flat_map (with_item v x g) (range_with_len first n) ≡ flat_map g (range_with_len first n)
item_none v x g first zero lt = refl
item_none v x g first (suc n) lt =
    let no : (v == first) ≡ false = grind arith in
    rw no (ap (λ t. g first ++ t) (item_none v x g (first + 1) n (omega (arith, lt))))

item_by : {X : Type 0} (p : X → Bool) (v : ℕ) (x : X) (g : ℕ → List X) (first n : ℕ) → first ≤ v
    → (first + 1 ≤ v → count p (flat_map (with_item v x g) (range_with_len (first + 1) n)) ≡ count p (flat_map g (range_with_len (first + 1) n)) + one_if (p x))
    → (b : Bool) → (v == first) ≡ b → count p (flat_map (with_item v x g) (range_with_len first (suc n))) ≡ count p (flat_map g (range_with_len first (suc n))) + one_if (p x)
item_by p v x g first n le later true same =
    let rest = flat_map g (range_with_len (first + 1) n) in
    let others = item_none v x g (first + 1) n (let e : v ≡ first = grind arith in omega (arith, e)) in
    let one : count p ((g first ++ x ∷ []) ++ rest) ≡ count p (g first ++ rest) + one_if (p x) =
    (let a = count_append p (g first ++ x ∷ []) rest in let b = count_append p (g first) (x ∷ []) in let c = count_one p x in let d = count_append p (g first) rest in omega (arith, a, b, c, d)) in
    rw same (ap (λ t. count p ((g first ++ x ∷ []) ++ t)) others ∙ one)
item_by p v x g first n le later false other =
    let ne : v ≢ first = (λ e. let yes : (v == first) ≡ true = grind arith in let no : true ≡ false = sym yes ∙ other in absurd (cc)) in
    let rest = later (omega (arith, le, ne)) in
    let a = count_append p (g first) (flat_map (with_item v x g) (range_with_len (first + 1) n)) in
    let b = count_append p (g first) (flat_map g (range_with_len (first + 1) n)) in
    rw other (omega (arith, a, b, rest))

count_item : {X : Type 0} (p : X → Bool) (v : ℕ) (x : X) (g : ℕ → List X) (first n : ℕ) → first ≤ v → v < first + n
    → count p (flat_map (with_item v x g) (range_with_len first n)) ≡ count p (flat_map g (range_with_len first n)) + one_if (p x)
count_item p v x g first zero le lt = absurd (omega (arith, le, lt))
count_item p v x g first (suc n) le lt = item_by p v x g first n le (λ after. count_item p v x g (first + 1) n after (omega (arith, lt))) (v == first) refl

-- how many of the first k messages pass a test on those before and itself
abbrev pub steps : (List Push → Push → Bool) → List Push → ℕ → ℕ
steps q H zero = 0
steps q H (suc k) = steps q H k + one_if (q (take k H) (message_at H k))

one_if_le : (a b : Bool) → (a ≡ true → b ≡ true) → one_if a ≤ one_if b
one_if_le true b implies = let e : b ≡ true = implies refl in rw e (omega arith)
one_if_le false b implies = omega arith

-- a test that another implies
pub steps_le : (q p : List Push → Push → Bool) (H : List Push) (k : ℕ) → k ≤ length H
    → ((i : ℕ) → i < length H → q (take i H) (message_at H i) ≡ true → p (take i H) (message_at H i) ≡ true) → steps q H k ≤ steps p H k
steps_le q p H zero le implies = omega arith
steps_le q p H (suc k) le implies =
    let before = steps_le q p H k (omega (arith, le)) implies in
    let here = one_if_le (q (take k H) (message_at H k)) (p (take k H) (message_at H k)) (implies k (omega (arith, le))) in
    omega (arith, before, here)

flat_none : {X : Type 0} (ws : List ℕ) → flat_map {X = ℕ} {A = X} (λ w. []) ws ≡ []
flat_none [] = refl
flat_none (w ∷ ws) = flat_none ws

-- what one message more makes of each worker's items
item_more : {X : Type 0} (items : List Push → List X) (item : List Push → Push → X) → ((T : List Push) (m : Push) → items (T ++ m ∷ []) ≡ items T ++ item T m ∷ [])
    → (T : List Push) (m : Push) (w : ℕ) → items (messages_of w (T ++ m ∷ [])) ≡ with_item m.worker (item (messages_of m.worker T) m) (λ v. items (messages_of v T)) w
item_more {X} items item push T m w = by (m.worker == w) refl
  where
    by : (b : Bool) → (m.worker == w) ≡ b → items (messages_of w (T ++ m ∷ [])) ≡ (if b then items (messages_of w T) ++ item (messages_of m.worker T) m ∷ [] else items (messages_of w T))
    by true same =
        let e : w ≡ m.worker = grind arith in
        ap items (filter_push_yes (λ x. x.worker == w) T m same) ∙ push (messages_of w T) m
        ∙ ap (λ (v : ℕ). items (messages_of w T) ++ item (messages_of v T) m ∷ []) e
    by false other = ap items (filter_push_no (λ x. x.worker == w) T m other)

-- the items of all workers are those that the messages make as they come
pub count_by_worker : {X : Type 0} (items : List Push → List X) (item : List Push → Push → X) → items [] ≡ [] → ((T : List Push) (m : Push) → items (T ++ m ∷ []) ≡ items T ++ item T m ∷ [])
    → (p : X → Bool) (workers : ℕ) (H : List Push) → All (λ m. m.worker < workers) H → (k : ℕ) → k ≤ length H
    → count p (flat_map (λ w. items (messages_of w (take k H))) (range_with_len 0 workers)) ≡ steps (λ T m. p (item (messages_of m.worker T) m)) H k
count_by_worker items item none push p workers H within zero le =
    (λ i. count p (flat_map (λ w. none i) (range_with_len 0 workers))) ∙ ap (count p) (flat_none (range_with_len 0 workers))
count_by_worker {X} items item none push p workers H within (suc k) le =
    let next : suc k ≡ k + 1 = omega arith in
    let m : Push = message_at H k in
    let T : List Push = take k H in
    let more : take (suc k) H ≡ T ++ m ∷ [] = ap (λ (n : ℕ). take n H) next ∙ take_more H k (record { worker = 0; packet = 0; update = 0; key = zero_key; cell = 0; amount = pos 0 }) (omega (arith, le)) in
    let its : m.worker < workers = within k (record { worker = 0; packet = 0; update = 0; key = zero_key; cell = 0; amount = pos 0 }) (omega (arith, le)) in
    ap (λ (t : List Push). count p (flat_map (λ w. items (messages_of w t)) (range_with_len 0 workers))) more
    ∙ (λ i. count p (flat_map (λ w. item_more items item push T m w i) (range_with_len 0 workers)))
    ∙ count_item p m.worker (item (messages_of m.worker T) m) (λ v. items (messages_of v T)) 0 workers (omega arith) (omega (arith, its))
    ∙ ap (λ (n : ℕ). n + one_if (p (item (messages_of m.worker T) m))) (count_by_worker items item none push p workers H within k (omega (arith, le)))
