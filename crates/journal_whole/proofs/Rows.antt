-- Lists of bits, and the last of them.
use Rattle.std.proofs.Common.{◌≡◌, ◌∙◌, ℕ, zero, suc, ◌+◌, ◌-◌, ◌≤◌, Bool, true, false, List, [], ◌∷◌, ◌++◌, refl, sym, ap, ap₂, subst, arith, get_or, take, drop, length, map, length-append, length-take, if◌then◌else◌}
use Rattle.std.specs.Prelude.{All, replicate}
use Rattle.std.specs.List.{range_with_len}
use Rattle.std.proofs.lemmas.List.{map-append, append-nil, take-append-drop, length-replicate, length-drop}
use Rattle.std.proofs.Math.ListN.{get_or-append}
use Rattle.std.proofs.lemmas.List.Elements.{All-cons, All-append, All-replicate}
use Rattle.std.proofs.Math.Seq.{drop-append_seam}
use Rattle.hash_rows.specs.Marks.{marked, marked_from}
use Rattle.journal_read.specs.Drafts.{in_last}
use Rattle.journal_whole.specs.Drafted.{IsClearFrom}

-- the last item of a list is told
pub last_same : {X : Type 0} (front other : List X) (x y : X) → front ++ x ∷ [] ≡ other ++ y ∷ [] → x ≡ y
last_same [] [] x y e = ap (λ l. get_or l 0 x) e
last_same [] (c ∷ cs) x y e = absurd (omega (arith, ap length e, length-append cs (y ∷ [])))
last_same (b ∷ bs) [] x y e = absurd (omega (arith, ap length e, length-append bs (x ∷ [])))
last_same (b ∷ bs) (c ∷ cs) x y e = last_same bs cs x y (ap (drop 1) e)

pub in_last_end : (xs : List (List ℕ)) (x ns : List ℕ) → in_last (xs ++ x ∷ []) ns ≡ xs ++ (x ++ ns) ∷ []
in_last_end [] x ns = refl
in_last_end (y ∷ []) x ns = refl
in_last_end (y ∷ z ∷ zs) x ns = ap (λ (l : List (List ℕ)). y ∷ l) (in_last_end (z ∷ zs) x ns)

all_tail : {X : Type 0} (P : X → Type 0) (x : X) (xs : List X) → All P (x ∷ xs) → All P xs
all_tail P x xs all = λ k d lt. all (suc k) d (omega (arith, lt))

all_head : {X : Type 0} (P : X → Type 0) (x : X) (xs : List X) → All P (x ∷ xs) → P x
all_head P x xs all = all 0 x (omega arith)

marked_append : (xs ys : List Bool) (place : ℕ) → marked_from place (xs ++ ys) ≡ marked_from place xs ++ marked_from (place + length xs) ys
marked_append [] ys place = ap (λ (p : ℕ). marked_from p ys) (omega arith)
marked_append (true ∷ xs) ys place =
    ap (λ (l : List ℕ). place ∷ l) (marked_append xs ys (place + 1) ∙ ap (λ (p : ℕ). marked_from (place + 1) xs ++ marked_from p ys) (omega arith))
marked_append (false ∷ xs) ys place =
    marked_append xs ys (place + 1) ∙ ap (λ (p : ℕ). marked_from (place + 1) xs ++ marked_from p ys) (omega arith)

marked_clear : (xs : List Bool) (place : ℕ) → All (λ bit. bit ≡ false) xs → marked_from place xs ≡ []
marked_clear [] place clear = refl
marked_clear (x ∷ xs) place clear =
    ap (λ (b : Bool). if b then place ∷ marked_from (place + 1) xs else marked_from (place + 1) xs) (all_head (λ bit. bit ≡ false) x xs clear)
    ∙ marked_clear xs (place + 1) (all_tail (λ bit. bit ≡ false) x xs clear)

marked_full : (n place : ℕ) → marked_from place (replicate n true) ≡ range_with_len place n
marked_full zero place = refl
marked_full (suc n) place = ap (λ (l : List ℕ). place ∷ l) (marked_full n (place + 1))

clear_later : (bits : List Bool) (low high : ℕ) → low ≤ high → All (λ bit. bit ≡ false) (drop low bits) → All (λ bit. bit ≡ false) (drop high bits)
clear_later [] low high le clear = clear_nil high
  where
    clear_nil : (n : ℕ) → All (λ bit. bit ≡ false) (drop n [])
    clear_nil n = λ k d lt. absurd (omega (arith, lt, length_nil n))
      where
        length_nil : (n : ℕ) → length (drop {A = Bool} n []) ≡ 0
        length_nil zero = refl
        length_nil (suc n) = refl
clear_later (b ∷ bs) zero zero le clear = clear
clear_later (b ∷ bs) zero (suc high) le clear = clear_later bs 0 high (omega arith) (all_tail (λ bit. bit ≡ false) b bs clear)
clear_later (b ∷ bs) (suc low) zero le clear = absurd (omega (arith, le))
clear_later (b ∷ bs) (suc low) (suc high) le clear = clear_later bs low high (omega (arith, le)) clear

-- the bits with those of a run set
abbrev pub run_set : List Bool → ℕ → ℕ → List Bool
run_set bits start end = take start bits ++ replicate (end - start) true ++ drop end bits

-- they are the same, clear from the start on, and then those of the run
pub marked_run : (bits : List Bool) (start end : ℕ) → start ≤ end → end ≤ length bits → All (λ bit. bit ≡ false) (drop start bits)
    → marked_from 0 (run_set bits start end) ≡ marked_from 0 bits ++ range_with_len start (end - start)
marked_run bits start end le within clear =
    marked_append (take start bits ++ replicate (end - start) true) (drop end bits) 0
    ∙ ap (λ (l : List ℕ). marked_from 0 (take start bits ++ replicate (end - start) true) ++ l)
    (marked_clear (drop end bits) (0 + length (take start bits ++ replicate (end - start) true)) (clear_later bits start end le clear))
    ∙ append-nil (marked_from 0 (take start bits ++ replicate (end - start) true))
    ∙ marked_append (take start bits) (replicate (end - start) true) 0
    ∙ ap₂ (λ (xs ys : List ℕ). xs ++ ys) (sym whole) (ap (λ (p : ℕ). marked_from p (replicate (end - start) true)) front ∙ marked_full (end - start) start)
  where
    front : 0 + length (take start bits) ≡ start
    front = omega (arith, length-take start bits, le, within)

    whole : marked_from 0 bits ≡ marked_from 0 (take start bits)
    whole =
        ap (marked_from 0) (sym (take-append-drop start bits))
        ∙ marked_append (take start bits) (drop start bits) 0
        ∙ ap (λ (l : List ℕ). marked_from 0 (take start bits) ++ l) (marked_clear (drop start bits) (0 + length (take start bits)) clear)
        ∙ append-nil (marked_from 0 (take start bits))

pub length_run : (bits : List Bool) (start end : ℕ) → start ≤ end → end ≤ length bits → length (run_set bits start end) ≡ length bits
length_run bits start end le within =
    omega (
      arith,
      le,
      within,
      length-append (take start bits ++ replicate (end - start) true) (drop end bits),
      length-append (take start bits) (replicate (end - start) true),
      length-take start bits,
      length-drop end bits,
      length-replicate (end - start) true,
    )

-- behind the run they are as before
drop_run : (bits : List Bool) (start end : ℕ) → start ≤ end → end ≤ length bits → drop end (run_set bits start end) ≡ drop end bits
drop_run bits start end le within =
    ap (λ (n : ℕ). drop n ((take start bits ++ replicate (end - start) true) ++ drop end bits)) (sym front)
    ∙ drop-append_seam (take start bits ++ replicate (end - start) true) (drop end bits)
  where
    front : length (take start bits ++ replicate (end - start) true) ≡ end
    front = omega (arith, length-append (take start bits) (replicate (end - start) true), le, within, length-take start bits, length-replicate (end - start) true)

-- clear from a later place on
pub clear_on : (rows : List (List Bool)) (low high : ℕ) → low ≤ high → IsClearFrom low rows → IsClearFrom high rows
clear_on rows low high le clear = λ front last is. clear_later last low high le (clear front last is)

-- a run in the last list
pub run_clear : (front : List (List Bool)) (last : List Bool) (start end : ℕ) → start ≤ end → end ≤ length last → All (λ bit. bit ≡ false) (drop start last)
    → IsClearFrom end (front ++ run_set last start end ∷ [])
run_clear front last start end le within clear = λ others other is.
    let same : run_set last start end ≡ other = last_same front others (run_set last start end) other is in
    subst (λ (l : List Bool). All (λ bit. bit ≡ false) (drop end l)) same
    (subst (λ (l : List Bool). All (λ bit. bit ≡ false) l) (sym (drop_run last start end le within)) (clear_later last start end le clear))

pub run_marked : (front : List (List Bool)) (last : List Bool) (start end : ℕ) → start ≤ end → end ≤ length last → All (λ bit. bit ≡ false) (drop start last)
    → map marked (front ++ run_set last start end ∷ []) ≡ in_last (map marked (front ++ last ∷ [])) (range_with_len start (end - start))
run_marked front last start end le within clear =
    map-append marked front (run_set last start end ∷ [])
    ∙ ap (λ (l : List ℕ). map marked front ++ l ∷ []) (marked_run last start end le within clear)
    ∙ sym (in_last_end (map marked front) (marked last) (range_with_len start (end - start)))
    ∙ ap (λ (l : List (List ℕ)). in_last l (range_with_len start (end - start))) (sym (map-append marked front (last ∷ [])))

-- a list of clear bits behind the others
pub clear_marked : (n : ℕ) → marked (replicate n false) ≡ []
clear_marked n = marked_clear (replicate n false) 0 (All-replicate (λ bit. bit ≡ false) n false refl)

pub new_clear : (front rows : List (List Bool)) (bits : List Bool) (n : ℕ) → rows ≡ front ++ bits ∷ [] → bits ≡ replicate n false → IsClearFrom 0 rows
new_clear front rows bits n put is = λ others other same.
    subst (λ (l : List Bool). All (λ bit. bit ≡ false) l) (sym is ∙ last_same front others bits other (sym put ∙ same))
    (All-replicate (λ bit. bit ≡ false) n false refl)

-- one more item
pub all_more : {X : Type 0} (P : X → Type 0) (xs : List X) (x : X) → All P xs → P x → All P (xs ++ x ∷ [])
all_more P xs x all one = All-append P xs (x ∷ []) all (All-cons P x [] one (λ k d lt. absurd (omega (arith, lt))))

-- those before the last one
pub all_front : {X : Type 0} (P : X → Type 0) (xs : List X) (x : X) → All P (xs ++ x ∷ []) → All P xs
all_front P xs x all = λ k d lt. subst P (get_or-append xs (x ∷ []) d k lt) (all k d (omega (arith, lt, length-append xs (x ∷ []))))

pub all_last : {X : Type 0} (P : X → Type 0) (xs : List X) (x : X) → All P (xs ++ x ∷ []) → P x
all_last P [] x all = all 0 x (omega arith)
all_last P (y ∷ ys) x all = all_last P ys x (all_tail P y (ys ++ x ∷ []) all)

pub new_marked : (bits : List Bool) (n : ℕ) → bits ≡ replicate n false → marked bits ≡ []
new_marked bits n is = ap marked is ∙ clear_marked n
