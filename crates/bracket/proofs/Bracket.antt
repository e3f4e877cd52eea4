-- For Count-Min an answer is at most the true estimate, and short of it by no more than what the thresholds leave.
use Rattle.std.proofs.Common.{◌≡◌, ◌<◌, ◌≤◌, ◌+ℤ◌, ℕ, ℤ, zero, suc, ◌+◌, ◌-◌, ◌^◌, ◌==◌, pos, List, [], ◌∷◌, ◌++◌, length, get_or, take, true, false, if◌then◌else◌, refl, sym, ap, ap₂, ◌∙◌, subst, arith, inl, inr}
use Rattle.std.specs.Prelude.{map, fold, All, sum_by, unsigned_abs, slice_index_or}
use Rattle.std.specs.Int.{int_min}
use Rattle.std.specs.List.{flat_map, range_with_len, zip}
use Rattle.std.proofs.lemmas.Bool.{cases_lt}
use Rattle.std.proofs.lemmas.Int.{ints, clamps}
use Rattle.std.proofs.lemmas.List.{take_all}
use Rattle.std.proofs.lemmas.List.Elements.{All-take}
use Rattle.std.proofs.lemmas.List.Sums.{sum_by-cons, sum_by-append, sum_by-take-le}
use Rattle.hash_rows.specs.declared.shape.Push.{Push}
use Rattle.hash_rows.specs.declared.shape.Update.{Update}
use Rattle.hash_rows.specs.Rules.{Rules}
use Rattle.hash_rows.specs.Sketches.{sum_join, sum_gap}
use Rattle.hash_rows.proofs.PlainSums.{join_amounts}
use Rattle.hash_rows.proofs.SumLaws.{count_min_lawful}
use Rattle.push_history.specs.Share.{zero_key}
use Rattle.push_history.specs.Front.{upto_of}
use Rattle.push_history.specs.LawfulJournal.{sent_by}
use Rattle.push_history.specs.Pushes.{ArePushes, TellsAll, is_refused}
use Rattle.push_history.specs.Residue.{residue_size}
use Rattle.push_history.specs.Shown.{first_messages}
use Rattle.push_history.specs.Told.{told, messages_before}
use Rattle.push_history.specs.Updates.{HoldValues, IsLastOf}
use Rattle.push_history.specs.Whole.{whole}
use Rattle.push_history.proofs.Sharing.{by_places}
use Rattle.push_history.proofs.Telling.{large_refused, messages_first, told_first}
use Rattle.fold_law.proofs.Sums.{count_min, IsPlain, IsTold, are_told, gap_plain, plain_told, plain_whole, told_plain, whole_plain}

-- the join of plain numbers
pub joined_plain : (f : ℕ → ℕ) (ws : List ℕ) (s : ℕ) → s + sum_by f ws < 2 ^ 63 → fold sum_join (pos s) (map (λ w. pos (f w)) ws) ≡ pos (s + sum_by f ws)
joined_plain f [] s small = ap pos (omega arith)
joined_plain f (w ∷ ws) s small =
    let more = sum_by-cons f w ws in
    ap (λ (z : ℤ). fold sum_join z (map (λ w. pos (f w)) ws)) (join_amounts s (f w) (omega (arith, small, more)))
    ∙ joined_plain f ws (s + f w) (omega (arith, small, more)) ∙ ap pos (omega (arith, more))

zip_at : {X Y : Type 0} (xs : List X) (ys : List Y) (i : ℕ) (d : X) (e : Y) → length ys ≡ length xs → i < length xs → get_or (zip xs ys) i (d, e) ≡ (get_or xs i d, get_or ys i e)
zip_at [] ys i d e same lt = absurd (omega (arith, lt))
zip_at (x ∷ xs) [] i d e same lt = absurd (omega (arith, same))
zip_at (x ∷ xs) (y ∷ ys) zero d e same lt = refl
zip_at (x ∷ xs) (y ∷ ys) (suc i) d e same lt = zip_at xs ys i d e (omega (arith, same)) (omega (arith, lt))

zip_length : {X Y : Type 0} (xs : List X) (ys : List Y) → length ys ≡ length xs → length (zip xs ys) ≡ length xs
zip_length [] ys same = refl
zip_length (x ∷ xs) [] same = absurd (omega (arith, same))
zip_length (x ∷ xs) (y ∷ ys) same = (let rest = zip_length xs ys (omega (arith, same)) in omega (arith, rest))

pub sum_flat : {X : Type 0} (f : X → ℕ) (g : ℕ → List X) (ws : List ℕ) → sum_by f (flat_map g ws) ≡ sum_by (λ w. sum_by f (g w)) ws
sum_flat f g [] = refl
sum_flat f g (w ∷ ws) =
    let a = sum_by-append f (g w) (flat_map g ws) in
    let b = sum_by-cons (λ w. sum_by f (g w)) w ws in
    let rest = sum_flat f g ws in
    omega (arith, a, b, rest)

-- the messages of worker w up to the front
abbrev pub front_messages : List (List Push) → List ℕ → ℕ → List Push
front_messages messages front w = take (slice_index_or front w 0) (sent_by messages w)

-- the first messages of all workers, worker by worker
pub firsts_are : (messages : List (List Push)) (front : List ℕ) → length front ≡ length messages
    → first_messages messages front ≡ flat_map (front_messages messages front) (range_with_len 0 (length messages))
firsts_are messages front same =
    let f : List Push × ℕ → List Push = λ p. take p.1 p.0 in
    let long = zip_length messages front same in
    ap (flat_map f) (sym (take_all (length messages) (zip messages front) (omega (arith, long))))
    ∙ by_places f (zip messages front) ([], 0) (length messages) (omega (arith, long))
    ∙ flat_same (λ i. f (get_or (zip messages front) i ([], 0))) (λ w. take (slice_index_or front w 0) (sent_by messages w)) 0 (length messages)
    (λ w from to. ap f (zip_at messages front w [] 0 same (omega (arith, to))))
  where
    flat_same : (f g : ℕ → List Push) (first n : ℕ) → ((w : ℕ) → first ≤ w → w < first + n → f w ≡ g w) → flat_map f (range_with_len first n) ≡ flat_map g (range_with_len first n)
    flat_same f g first zero same = refl
    flat_same f g first (suc n) same = ap₂ (λ x t. x ++ t) (same first (omega arith) (omega arith)) (flat_same f g (first + 1) n (λ w from to. same w (omega (arith, from)) (omega (arith, to))))

-- the least of numbers with k more
pub least_more : (f : ℕ → ℤ) (k : ℕ) (x : ℤ) (ws : List ℕ) → fold int_min (x +ℤ pos k) (map (λ w. f w +ℤ pos k) ws) ≡ fold int_min x (map f ws) +ℤ pos k
least_more f k x [] = refl
least_more f k x (w ∷ ws) =
    let here : int_min (x +ℤ pos k) (f w +ℤ pos k) ≡ int_min x (f w) +ℤ pos k = omega (arith, ints, clamps) in
    ap (λ (z : ℤ). fold int_min z (map (λ w. f w +ℤ pos k) ws)) here ∙ least_more f k (int_min x (f w)) ws

-- the updates that match a front are among those that were counted
pub upto_within : (r : Rules) (U : List Update) (S : List Push) → All (TellsAll r U S) S → (j : ℕ) → j ≤ length S → upto_of S j ≤ length U
unfolding upto_of
upto_within r U S tell zero le = omega arith
upto_within r U S tell (suc i) le =
    let no : (suc i == 0) ≡ false = grind arith in
    let back : suc i - 1 ≡ i = omega arith in
    let tells = tell i (record { worker = 0; packet = 0; update = 0; key = zero_key; cell = 0; amount = pos 0 }) (omega (arith, le)) in
    rw (no, back) (omega (arith, tells.within))

-- what a worker's messages up to a front tell, and what its matching updates make
module _ (T : ℕ) (U : List Update) (S : List Push) (F : List ℕ) (h : ArePushes count_min T U S F) (values : All (λ u. IsPlain u.value) U) (small : (cell : ℕ) → plain_whole cell U < 2 ^ 63)
    (j : ℕ) (le : j ≤ length S) where
  matching_within : upto_of S j ≤ length U
  matching_within = upto_within count_min U S h.amounts j le

  told_at_front : IsTold U S (upto_of S j)
  told_at_front = are_told T U S F h values small (upto_of S j) matching_within

  before_front : messages_before (upto_of S j) S ≡ take j S
  before_front = messages_first S h.rising j le

  pub front_below : (cell : ℕ) → plain_told cell (take j S) ≤ plain_whole cell (take (upto_of S j) U)
  front_below cell = subst (λ (t : List Push). plain_told cell t ≤ plain_whole cell (take (upto_of S j) U)) before_front (told_at_front.within cell)

  pub front_plain : All (λ m. IsPlain m.amount) (take j S)
  front_plain = subst (λ (t : List Push). All (λ m. IsPlain m.amount) t) before_front told_at_front.plain

  whole_small : (cell : ℕ) → plain_whole cell (take (upto_of S j) U) < 2 ^ 63
  whole_small cell = (let less = sum_by-take-le (λ u. if u.cell == cell then unsigned_abs u.value else 0) U (upto_of S j) in let all = small cell in omega (arith, less, all))

  pub whole_front : (cell : ℕ) → whole count_min U (upto_of S j) cell ≡ pos (plain_whole cell (take (upto_of S j) U))
  unfolding whole
  whole_front cell = whole_plain cell (take (upto_of S j) U) (All-take (λ u. IsPlain u.value) (upto_of S j) U values) (whole_small cell)

  size_is : (cell : ℕ) → residue_size count_min U S (upto_of S j) cell ≡ plain_whole cell (take (upto_of S j) U) - plain_told cell (take j S)
  unfolding residue_size
  size_is cell =
      let below = front_below cell in
      let told_is : told count_min S (upto_of S j) cell ≡ pos (plain_told cell (take j S)) =
      told_first count_min S h.rising j le cell ∙ told_plain cell (take j S) front_plain (let all = whole_small cell in omega (arith, below, all)) in
      ap₂ (λ (a b : ℤ). unsigned_abs (sum_gap a b)) told_is (whole_front cell)
      ∙ ap unsigned_abs (gap_plain (plain_told cell (take j S)) (plain_whole cell (take (upto_of S j) U)) below (whole_small cell))

  -- where the last matching update wasn't refused, less than the threshold is left
  pub front_short : 1 ≤ T → HoldValues count_min U → (cell : ℕ) → ((k : ℕ) → IsLastOf U (upto_of S j) cell k → is_refused k F ≡ false)
      → plain_whole cell (take (upto_of S j) U) ≤ plain_told cell (take j S) + (T - 1)
  front_short some holds cell none = elim (cases_lt (residue_size count_min U S (upto_of S j) cell) T) [
    | inl less ↦ (let is = size_is cell in omega (arith, less, is, some))
    | inr far ↦ absurd (let last = large_refused count_min count_min_lawful T U S F holds h some (upto_of S j) cell matching_within far in
        let no : true ≡ false = sym last.2 ∙ none last.0 last.1 in cc)
  ]
