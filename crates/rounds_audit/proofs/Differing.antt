-- Pieces of texts, and where they differ.
use Rattle.std.proofs.Common.{◌≡◌, ◌≢◌, ◌∙◌, ◌<◌, ◌≤◌, ◌+◌, ◌-◌, ◌==◌, ℕ, zero, suc, List, [], ◌∷◌, ◌++◌, append-nil, Bool, true, false, if◌then◌else◌, nat_lt, refl, sym, ap, ap₂, subst, arith, drop, take, get_or, length, max, min, slice_get, Option, Some, None, inl, inr, eq-or-lt_of_le}
use Rattle.std.specs.Prelude.{All, slice_range}
use Rattle.std.specs.List.{slice_split, join_with_byte}
use Rattle.std.proofs.lemmas.List.{drop_all, drop_more, drop-take, get_or-drop, get_or-take, get_or_default, length-drop, length-take-le, take_all, take-append-drop}
use Rattle.std.proofs.lemmas.List.Folds.{drop_split}
use Rattle.std.proofs.lemmas.List.Splits.{join_with_byte-slice_split, length-slice_split, slice_split_at, slice_split_none}
use Rattle.rounds_audit.specs.Pieces.{pieces_from}
use Rattle.rounds_audit.specs.Differences.{IsFirstDifference, IsFirstOther, lines_of, told_word, words_of}

-- where the text has not ended, and where it has
pub here : (separator : ℕ) (text : List ℕ) (start : ℕ) → start ≤ length text → pieces_from separator text start ≡ slice_split (λ b. b == separator) (drop start text)
here separator text start within =
    let no_end : nat_lt (length text) start ≡ false = grind (arith, within) in
    ap (λ (b : Bool). if b then [] else slice_split (λ b. b == separator) (drop start text)) no_end

pub behind : (separator : ℕ) (text : List ℕ) (start : ℕ) → length text < start → pieces_from separator text start ≡ []
behind separator text start past =
    let end : nat_lt (length text) start ≡ true = grind (arith, past) in
    ap (λ (b : Bool). if b then [] else slice_split (λ b. b == separator) (drop start text)) end

-- the separator doesn't stand in the range
none_in : (separator : ℕ) (text : List ℕ) (start end : ℕ) → start ≤ end → end ≤ length text → ((k : ℕ) → start ≤ k → k < end → get_or text k 0 ≢ separator)
    → All (λ b. (b == separator) ≡ false) (slice_range text start end)
none_in separator text start end low high none = λ k d lt.
    let long = length-take-le (end - start) (drop start text) (omega (arith, low, high, length-drop start text)) in
    let inside : k < end - start = omega (arith, lt, long) in
    let at : get_or (slice_range text start end) k d ≡ get_or text (start + k) 0 =
    get_or-take (end - start) (drop start text) k d inside ∙ get_or-drop start text k d ∙ get_or_default text (start + k) d 0 (omega (arith, inside, high)) in
    let other = none (start + k) (omega arith) (omega (arith, inside)) in
    ap (λ (b : ℕ). b == separator) at ∙ not_same (get_or text (start + k) 0) separator other
  where
    not_same : (a b : ℕ) → a ≢ b → (a == b) ≡ false
    not_same a b other = grind (arith, other)

-- the first piece from a place on
pub cut_piece : (separator : ℕ) (text : List ℕ) (start end : ℕ) → start ≤ end → end ≤ length text → ((k : ℕ) → start ≤ k → k < end → get_or text k 0 ≢ separator)
    → (end < length text → get_or text end 0 ≡ separator) → pieces_from separator text start ≡ slice_range text start end ∷ pieces_from separator text (end + 1)
cut_piece separator text start end low high none found = here separator text start (omega (arith, low, high)) ∙ ap (slice_split (λ b. b == separator)) (drop_split text start end low) ∙ elim (eq-or-lt_of_le high) [
  | inl last ↦
      ap (λ (rest : List ℕ). slice_split (λ b. b == separator) (slice_range text start end ++ rest)) (drop_all end text (omega (arith, last)))
      ∙ ap (slice_split (λ b. b == separator)) (append-nil (slice_range text start end))
      ∙ slice_split_none (λ b. b == separator) (slice_range text start end) (none_in separator text start end low high none)
      ∙ ap (λ (rest : List (List ℕ)). slice_range text start end ∷ rest) (sym (behind separator text (end + 1) (omega (arith, last))))
  | inr more ↦
      let its : (get_or text end 0 == separator) ≡ true = same (get_or text end 0) separator (found more) in
      ap (λ (rest : List ℕ). slice_split (λ b. b == separator) (slice_range text start end ++ rest)) (drop_more text end 0 more)
      ∙ slice_split_at (λ b. b == separator) (slice_range text start end) (get_or text end 0) (drop (end + 1) text) (none_in separator text start end low high none) its
      ∙ ap (λ (rest : List (List ℕ)). slice_range text start end ∷ rest) (sym (here separator text (end + 1) (omega (arith, more))))
]
  where
    same : (a b : ℕ) → a ≡ b → (a == b) ≡ true
    same a b is = grind (arith, is)

-- texts with the same pieces are the same
pub same_pieces : (separator : ℕ) (xs ys : List ℕ) → slice_split (λ b. b == separator) xs ≡ slice_split (λ b. b == separator) ys → xs ≡ ys
same_pieces separator xs ys is = sym (join_with_byte-slice_split separator xs) ∙ ap (join_with_byte separator) is ∙ join_with_byte-slice_split separator ys

-- an item of a list is the first of what is left
pub dropped : {X : Type 0} (xs : List X) (n : ℕ) → slice_get xs n ≡ slice_get (drop n xs) 0
dropped [] zero = refl
dropped [] (suc n) = refl
dropped (x ∷ xs) zero = refl
dropped (x ∷ xs) (suc n) = dropped xs n

-- one item more at the front of both
one_more : {X : Type 0} (xs ys us vs : List X) (n : ℕ) (a b : X) → a ≡ b → take n xs ≡ take n ys → drop n xs ≡ a ∷ us → drop n ys ≡ b ∷ vs
    → (take (suc n) xs ≡ take (suc n) ys) × (drop (suc n) xs ≡ us) × (drop (suc n) ys ≡ vs)
one_more xs ys us vs zero a b same front left right =
    (ap (take 1) left ∙ ap (λ z. z ∷ []) same ∙ sym (ap (take 1) right), ap (drop 1) left, ap (drop 1) right)
one_more [] ys us vs (suc n) a b same front left right = absurd (let long = ap length left in omega (arith, long))
one_more (x ∷ xs) [] us vs (suc n) a b same front left right = absurd (let long = ap length right in omega (arith, long))
one_more (x ∷ xs) (y ∷ ys) us vs (suc n) a b same front left right =
    let heads : x ≡ y = cc front in
    let tails : take n xs ≡ take n ys = cc front in
    let rest = one_more xs ys us vs n a b same tails left right in
    (ap₂ (λ z zs. z ∷ zs) heads rest.0, rest.1, rest.2)

-- the words of the line that begins at a place, in the text up to its end
pub line_words : (text : List ℕ) (start end : ℕ) (rest : List (List ℕ)) → start ≤ end → end ≤ length text → pieces_from 10 text start ≡ slice_range text start end ∷ rest
    → pieces_from 32 (take end text) start ≡ words_of (slice_get (pieces_from 10 text start) 0)
line_words text start end rest low high piece =
    let parts : start + (end - start) ≡ end = omega (arith, low) in
    here 32 (take end text) start (let long = length-take-le end text high in omega (arith, low, long))
    ∙ ap (λ (n : ℕ). slice_split (λ b. b == 32) (drop start (take n text))) (sym parts)
    ∙ ap (slice_split (λ b. b == 32)) (drop-take start (end - start) text)
    ∙ ap (λ (pieces : List (List ℕ)). words_of (slice_get pieces 0)) (sym piece)

-- at most so many items
pub take_most : (k n : ℕ) (xs : List ℕ) → k ≡ min (length xs) n → take k xs ≡ take n xs
take_most k n xs is = test (nat_lt n (length xs)) refl
  where
    test : (b : Bool) → nat_lt n (length xs) ≡ b → take k xs ≡ take n xs
    test true more = let less : n < length xs = grind (arith, more) in ap (λ (m : ℕ). take m xs) (omega (arith, is, less))
    test false few = let most : length xs ≤ n = grind (arith, few) in take_all k xs (omega (arith, is, most)) ∙ sym (take_all n xs most)

-- both texts go on behind a piece that is the same
pub pieces_step : (separator : ℕ) (kept lawful : List ℕ) (first start number end other : ℕ) → take number (pieces_from separator kept first) ≡ take number (pieces_from separator lawful first)
    → drop number (pieces_from separator kept first) ≡ pieces_from separator kept start → drop number (pieces_from separator lawful first) ≡ pieces_from separator lawful start
    → start ≤ end → end ≤ length kept → start ≤ other → other ≤ length lawful
    → pieces_from separator kept start ≡ slice_range kept start end ∷ pieces_from separator kept (end + 1)
    → pieces_from separator lawful start ≡ slice_range lawful start other ∷ pieces_from separator lawful (other + 1)
    → slice_range kept start end ≡ slice_range lawful start other
    → (take (number + 1) (pieces_from separator kept first) ≡ take (number + 1) (pieces_from separator lawful first))
    × (drop (number + 1) (pieces_from separator kept first) ≡ pieces_from separator kept (end + 1))
    × (drop (number + 1) (pieces_from separator lawful first) ≡ pieces_from separator lawful (end + 1))
pieces_step separator kept lawful first start number end other front left right low₁ high₁ low₂ high₂ piece₁ piece₂ same =
    let long₁ = length-take-le (end - start) (drop start kept) (omega (arith, low₁, high₁, length-drop start kept)) in
    let long₂ = length-take-le (other - start) (drop start lawful) (omega (arith, low₂, high₂, length-drop start lawful)) in
    let ends : other ≡ end = omega (arith, low₁, low₂, long₁, long₂, ap length same) in
    let step = one_more (pieces_from separator kept first) (pieces_from separator lawful first) (pieces_from separator kept (end + 1)) (pieces_from separator lawful (other + 1)) number
    (slice_range kept start end) (slice_range lawful start other) same front (left ∙ piece₁) (right ∙ piece₂) in
    let next : suc number ≡ number + 1 = omega arith in (
      subst (λ (n : ℕ). take n (pieces_from separator kept first) ≡ take n (pieces_from separator lawful first)) next step.0,
      subst (λ (n : ℕ). drop n (pieces_from separator kept first) ≡ pieces_from separator kept (end + 1)) next step.1,
      subst (λ (n : ℕ). drop n (pieces_from separator lawful first) ≡ pieces_from separator lawful (other + 1)) next step.2 ∙ ap (λ (n : ℕ). pieces_from separator lawful (n + 1)) ends,
    )

-- they part at a piece that both have, or that one of them has
pub parts_here : (xs ys us vs : List (List ℕ)) (n : ℕ) (a b : List ℕ) → a ≢ b → take n xs ≡ take n ys → drop n xs ≡ a ∷ us → drop n ys ≡ b ∷ vs → IsFirstOther xs ys n
parts_here xs ys us vs n a b other front left right = record {
  before = front;
  other = λ is.
      let both : Some a ≡ Some b = sym (dropped xs n ∙ ap (λ (l : List (List ℕ)). slice_get l 0) left) ∙ is ∙ dropped ys n ∙ ap (λ (l : List (List ℕ)). slice_get l 0) right in
      other (cc both);
}

some_piece : (separator : ℕ) (text : List ℕ) (start : ℕ) → start ≤ length text → 0 < length (pieces_from separator text start)
some_piece separator text start within =
    let count = ap length (here separator text start within) ∙ length-slice_split (λ b. b == separator) (drop start text) in
    omega (arith, count)

there : (ps : List (List ℕ)) → 0 < length ps → slice_get ps 0 ≡ None → ⊥
there [] some is = omega (arith, some)
there (p ∷ ps) some is = let no_item : Some p ≡ None = is in absurd (cc no_item)

ends_kept : (separator : ℕ) (kept lawful : List ℕ) (first start number : ℕ) → take number (pieces_from separator kept first) ≡ take number (pieces_from separator lawful first)
    → drop number (pieces_from separator kept first) ≡ pieces_from separator kept start → drop number (pieces_from separator lawful first) ≡ pieces_from separator lawful start
    → length kept < start → start ≤ length lawful → IsFirstOther (pieces_from separator kept first) (pieces_from separator lawful first) number
ends_kept separator kept lawful first start number front left right past within = record {
  before = front;
  other = λ is. there (pieces_from separator lawful start) (some_piece separator lawful start within)
      (ap (λ (l : List (List ℕ)). slice_get l 0) (sym right) ∙ sym (dropped (pieces_from separator lawful first) number) ∙ sym is
      ∙ dropped (pieces_from separator kept first) number ∙ ap (λ (l : List (List ℕ)). slice_get l 0) (left ∙ behind separator kept start past));
}

ends_lawful : (separator : ℕ) (kept lawful : List ℕ) (first start number : ℕ) → take number (pieces_from separator kept first) ≡ take number (pieces_from separator lawful first)
    → drop number (pieces_from separator kept first) ≡ pieces_from separator kept start → drop number (pieces_from separator lawful first) ≡ pieces_from separator lawful start
    → start ≤ length kept → length lawful < start → IsFirstOther (pieces_from separator kept first) (pieces_from separator lawful first) number
ends_lawful separator kept lawful first start number front left right within past =
    let other = ends_kept separator lawful kept first start number (sym front) right left past within in
    record { before = front; other = λ is. other.other (sym is) }

pub ends_one : (separator : ℕ) (kept lawful : List ℕ) (first start number : ℕ) → take number (pieces_from separator kept first) ≡ take number (pieces_from separator lawful first)
    → drop number (pieces_from separator kept first) ≡ pieces_from separator kept start → drop number (pieces_from separator lawful first) ≡ pieces_from separator lawful start
    → min (length kept) (length lawful) < start → start ≤ max (length kept) (length lawful) → IsFirstOther (pieces_from separator kept first) (pieces_from separator lawful first) number
ends_one separator kept lawful first start number front left right past within = test (nat_lt (length kept) start) refl
  where
    test : (b : Bool) → nat_lt (length kept) start ≡ b → IsFirstOther (pieces_from separator kept first) (pieces_from separator lawful first) number
    test true is = let less : length kept < start = grind (arith, is) in ends_kept separator kept lawful first start number front left right less (omega (arith, less, within))
    test false is = let most : start ≤ length kept = grind (arith, is) in ends_lawful separator kept lawful first start number front left right most (omega (arith, most, past))

pub ends_both : (separator : ℕ) (kept lawful : List ℕ) (first start number : ℕ) → take number (pieces_from separator kept first) ≡ take number (pieces_from separator lawful first)
    → drop number (pieces_from separator kept first) ≡ pieces_from separator kept start → drop number (pieces_from separator lawful first) ≡ pieces_from separator lawful start
    → max (length kept) (length lawful) < start → pieces_from separator kept first ≡ pieces_from separator lawful first
ends_both separator kept lawful first start number front left right past =
    sym (take-append-drop number (pieces_from separator kept first))
    ∙ ap₂ (λ (x y : List (List ℕ)). x ++ y) front (left ∙ behind separator kept start (omega (arith, past)) ∙ sym (behind separator lawful start (omega (arith, past))) ∙ sym right)
    ∙ take-append-drop number (pieces_from separator lawful first)

-- lines with the same words are the same
same_line : (a b : Option (List ℕ)) → words_of a ≡ words_of b → a ≡ b
same_line None None is = refl
same_line None (Some line) is = let count = ap length is ∙ length-slice_split (λ b. b == 32) line in absurd (omega (arith, count))
same_line (Some line) None is = let count = ap length (sym is) ∙ length-slice_split (λ b. b == 32) line in absurd (omega (arith, count))
same_line (Some line) (Some other) is = ap Some (same_pieces 32 line other is)

-- the lines of a text, and the words of one of them, by where they begin
module _ (text line : List ℕ) (row start : ℕ) (rest : drop row (pieces_from 10 text 0) ≡ pieces_from 10 text start) where
  row_at : slice_get (pieces_from 10 text 0) row ≡ slice_get (pieces_from 10 text start) 0
  row_at = dropped (pieces_from 10 text 0) row ∙ ap (λ (l : List (List ℕ)). slice_get l 0) rest

  row_words : pieces_from 32 line start ≡ words_of (slice_get (pieces_from 10 text start) 0) → words_of (slice_get (lines_of text) row) ≡ pieces_from 32 line start
  row_words words = ap (λ (l : List (List ℕ)). words_of (slice_get l row)) (sym (here 10 text 0 (omega arith))) ∙ ap words_of row_at ∙ sym words

  word_at : (place begin : ℕ) → pieces_from 32 line start ≡ words_of (slice_get (pieces_from 10 text start) 0) → drop place (pieces_from 32 line start) ≡ pieces_from 32 line begin
      → told_word (slice_get (pieces_from 32 line begin) 0) ≡ told_word (slice_get (words_of (slice_get (lines_of text) row)) place)
  word_at place begin words its =
      ap (λ (l : List (List ℕ)). told_word (slice_get l 0)) (sym its) ∙ ap told_word (sym (dropped (pieces_from 32 line start) place))
      ∙ ap (λ (l : List (List ℕ)). told_word (slice_get l place)) (sym (row_words words))

-- all lines are the same
pub same_lines : (kept lawful : List ℕ) → pieces_from 10 kept 0 ≡ pieces_from 10 lawful 0 → kept ≡ lawful
same_lines kept lawful is = same_pieces 10 kept lawful (sym (here 10 kept 0 (omega arith)) ∙ is ∙ here 10 lawful 0 (omega arith))

-- in a line that isn't the same in both there is a word that isn't
module _ (kept lawful kept_line lawful_line : List ℕ) (row start : ℕ) (lines : IsFirstOther (pieces_from 10 kept 0) (pieces_from 10 lawful 0) row)
    (kept_rest : drop row (pieces_from 10 kept 0) ≡ pieces_from 10 kept start) (lawful_rest : drop row (pieces_from 10 lawful 0) ≡ pieces_from 10 lawful start)
    (kept_words : pieces_from 32 kept_line start ≡ words_of (slice_get (pieces_from 10 kept start) 0))
    (lawful_words : pieces_from 32 lawful_line start ≡ words_of (slice_get (pieces_from 10 lawful start) 0)) where
  pub some_word : pieces_from 32 kept_line start ≡ pieces_from 32 lawful_line start → kept ≡ lawful
  some_word is =
      let same = same_line (slice_get (pieces_from 10 kept start) 0) (slice_get (pieces_from 10 lawful start) 0) (sym kept_words ∙ is ∙ lawful_words) in
      absurd (lines.other (row_at kept kept_line row start kept_rest ∙ same ∙ sym (row_at lawful lawful_line row start lawful_rest)))

  pub difference : (line place begin : ℕ) (x y : List ℕ) → line ≡ row + 1 → IsFirstOther (pieces_from 32 kept_line start) (pieces_from 32 lawful_line start) place
      → drop place (pieces_from 32 kept_line start) ≡ pieces_from 32 kept_line begin → drop place (pieces_from 32 lawful_line start) ≡ pieces_from 32 lawful_line begin
      → x ≡ told_word (slice_get (pieces_from 32 kept_line begin) 0) → y ≡ told_word (slice_get (pieces_from 32 lawful_line begin) 0) → IsFirstDifference kept lawful line x y
  difference line place begin x y number words kept_at lawful_at kept_is lawful_is = record {
    row = row;
    line_is = number;
    lines = subst (λ (l : List (List ℕ)). IsFirstOther l (lines_of lawful) row) (here 10 kept 0 (omega arith))
        (subst (λ (l : List (List ℕ)). IsFirstOther (pieces_from 10 kept 0) l row) (here 10 lawful 0 (omega arith)) lines);
    place = place;
    words = subst (λ (l : List (List ℕ)). IsFirstOther l (words_of (slice_get (lines_of lawful) row)) place) (sym (row_words kept kept_line row start kept_rest kept_words))
        (subst (λ (l : List (List ℕ)). IsFirstOther (pieces_from 32 kept_line start) l place) (sym (row_words lawful lawful_line row start lawful_rest lawful_words)) words);
    kept_is = kept_is ∙ word_at kept kept_line row start kept_rest place begin kept_words kept_at;
    lawful_is = lawful_is ∙ word_at lawful lawful_line row start lawful_rest place begin lawful_words lawful_at;
  }
