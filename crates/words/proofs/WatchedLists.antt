-- Lists of texts, cut at their commas.
use Rattle.std.proofs.Common.{◌≡◌, ◌∙◌, ◌+◌, ◌<◌, ◌≤◌, ◌≢◌, ℕ, refl, sym, ap, ap₂, arith, false, List, [], ◌∷◌, ◌++◌, map, length, take, get_or}
use Rattle.std.specs.Prelude.{◌==◌, All, AllPairs, Option, Some, None}
use Rattle.std.specs.List.{Contains, join_with_byte, slice_split}
use Rattle.std.proofs.lemmas.List.{get_or-map, get_or-take, length-map, length-take, map-append, take-map, take_all, take_more}
use Rattle.std.proofs.lemmas.List.Elements.{All-head, All-tail, All-take}
use Rattle.std.proofs.lemmas.List.Splits.{join_with_byte-slice_split, length-slice_split, slice_split_at, slice_split_none}
use Rattle.packet_key.specs.Alphabet.{Lacks}
use Rattle.words.specs.Grammar.{Text}
use Rattle.words.specs.Values.{Joins, ReadsList}

-- the pieces of a list between its commas
abbrev pub pieces : Text → List Text
pieces list = slice_split (λ b. b == 44) list

-- values that have different texts without a comma
module _ {X : Type 0} (HasText : X → Type 0) (text_for : X → Text) (lacks_comma : (x : X) → HasText x → Lacks 44 (text_for x))
    (one_text : (x y : X) → HasText x → HasText y → text_for x ≡ text_for y → x ≡ y) where
  without_comma : (x : X) → HasText x → All (λ b. (b == 44) ≡ false) (text_for x)
  without_comma x has i d within = not_equal _ 44 (lacks_comma x has i d within)
    where
      not_equal : (x k : ℕ) → x ≢ k → (x == k) ≡ false
      not_equal x k e = grind arith

  -- the texts of some values are the pieces of their list
  split_texts : (xs : List X) → All HasText xs → 1 ≤ length xs → pieces (join_with_byte 44 (map text_for xs)) ≡ map text_for xs
  split_texts [] have some = absurd (omega arith)
  split_texts (x ∷ []) have some = slice_split_none _ (text_for x) (without_comma x (All-head HasText x [] have))
  split_texts (x ∷ y ∷ ys) have some =
      slice_split_at _ (text_for x) 44 (join_with_byte 44 (map text_for (y ∷ ys))) (without_comma x (All-head HasText x (y ∷ ys) have)) refl
      ∙ ap (λ (ts : List Text). text_for x ∷ ts) (split_texts (y ∷ ys) (All-tail HasText x (y ∷ ys) have) (some_values y ys))
    where
      some_values : (y : X) (ys : List X) → 1 ≤ length (y ∷ ys)
      some_values y ys = omega arith

  texts_of_list : (list : Text) (xs : List X) → Joins HasText text_for list xs → pieces list ≡ map text_for xs
  texts_of_list list xs j = ap pieces j.joined ∙ split_texts xs j.have_texts j.some

  -- different values have different texts
  same_values : (xs ys : List X) → All HasText xs → All HasText ys → map text_for xs ≡ map text_for ys → xs ≡ ys
  same_values [] [] a b e = refl
  same_values [] (y ∷ ys) a b e = cc
  same_values (x ∷ xs) [] a b e = cc
  same_values (x ∷ xs) (y ∷ ys) a b e =
      let first : text_for x ≡ text_for y = cc in
      let rest : map text_for xs ≡ map text_for ys = cc in
      ap₂ (λ (v : X) (vs : List X). v ∷ vs) (one_text x y (All-head HasText x xs a) (All-head HasText y ys b) first)
      (same_values xs ys (All-tail HasText x xs a) (All-tail HasText y ys b) rest)

  -- a list is that of at most one list of values
  pub same_list : (text : Option Text) (xs ys : List X) → ReadsList HasText text_for text xs → ReadsList HasText text_for text ys → xs ≡ ys
  same_list None xs ys a b = a ∙ sym b
  same_list (Some list) xs ys a b = same_values xs ys a.have_texts b.have_texts (sym (texts_of_list list xs a) ∙ texts_of_list list ys b)

  -- the values that stand before a place of the list
  values_before : (list : Text) (xs items : List X) (n : ℕ) → Joins HasText text_for list xs → All HasText items → map text_for items ≡ take n (pieces list) → items ≡ take n xs
  values_before list xs items n j have e =
      same_values items (take n xs) have (All-take HasText n xs j.have_texts)
      (e ∙ ap (take n) (texts_of_list list xs j) ∙ take-map text_for n xs)

  -- each piece of the list is the text of one of its values
  piece_is_text : (list : Text) (xs : List X) (n : ℕ) (t : Text) (d : X) → Joins HasText text_for list xs → n < length (pieces list) → t ≡ get_or (pieces list) n t
      → (n < length xs) × HasText (get_or xs n d) × (t ≡ text_for (get_or xs n d))
  piece_is_text list xs n t d j lt e =
      let texts = texts_of_list list xs j in
      let within : n < length xs = omega (arith, ap length texts, length-map xs text_for) in
      (within, j.have_texts n d within, e ∙ ap (λ (ts : List Text). get_or ts n t) texts ∙ get_or-map text_for xs n d t within)

  length_of_list : (list : Text) (xs : List X) → Joins HasText text_for list xs → length (pieces list) ≡ length xs
  length_of_list list xs j = ap length (texts_of_list list xs j) ∙ length-map xs text_for

  -- a value that stands before a place of the list isn't at that place
  contains_before : (xs items : List X) (n : ℕ) (x : X) → AllPairs (λ a b. a ≢ b) xs → n < length xs → items ≡ take n xs → x ≡ get_or xs n x → Contains items x → ⊥
  contains_before xs items n x differ within front is has =
      let before : has.0 < n = omega (arith, has.1, ap length front, length-take n xs) in
      let there = sym (get_or-take n xs has.0 x before) ∙ ap (λ (ys : List X). get_or ys has.0 x) (sym front) ∙ has.2 ∙ is in
      differ has.0 n x before within there

  -- ---- lists of the grammar

  -- no list has a piece that is the text of no value
  pub no_text : (list t : Text) (n : ℕ) → (n < length (pieces list)) × (t ≡ get_or (pieces list) n t) → ((x : X) → HasText x → t ≢ text_for x)
      → (xs : List X) → Joins HasText text_for list xs → ⊥
  no_text list t n at none [] j = absurd (omega (arith, j.some))
  no_text list t n at none (x ∷ xs) j =
      let piece = piece_is_text list (x ∷ xs) n t x j at.0 at.1 in
      none (get_or (x ∷ xs) n x) piece.1 piece.2

  -- none has more than 16 pieces
  pub too_many : (list : Text) (n : ℕ) → n < length (pieces list) → 16 ≤ n → (xs : List X) → Joins HasText text_for list xs → ⊥
  too_many list n within many xs j = omega (arith, length_of_list list xs j, j.most)

  -- none has the text of a value twice
  pub doubled : (list t : Text) (items : List X) (n : ℕ) (x : X) → (n < length (pieces list)) × (t ≡ get_or (pieces list) n t)
      → map text_for items ≡ take n (pieces list) → All HasText items → HasText x → t ≡ text_for x → Contains items x
      → (xs : List X) → Joins HasText text_for list xs → ⊥
  doubled list t items n x at texts have is text has xs j =
      let piece = piece_is_text list xs n t x j at.0 at.1 in
      contains_before xs items n x j.differ piece.0 (values_before list xs items n j have texts)
      (one_text x (get_or xs n x) is piece.1 (sym text ∙ piece.2)) has

  -- ---- the list that is read

  pub one_more : (list t : Text) (items : List X) (n m : ℕ) (x : X) → m ≡ n + 1 → (n < length (pieces list)) × (t ≡ get_or (pieces list) n t)
      → map text_for items ≡ take n (pieces list) → t ≡ text_for x → map text_for (items ++ x ∷ []) ≡ take m (pieces list)
  one_more list t items n m x more at texts text =
      map-append text_for items (x ∷ [])
      ∙ ap₂ (λ (ts : List Text) (u : Text). ts ++ u ∷ []) texts (sym text ∙ at.1)
      ∙ sym (take_more (pieces list) n t at.0)
      ∙ ap (λ (k : ℕ). take k (pieces list)) (sym more)

  pub finished : (list : Text) (items : List X) (n : ℕ) → n ≡ length (pieces list) → map text_for items ≡ take n (pieces list)
      → All HasText items → AllPairs (λ a b. a ≢ b) items → length items ≤ 16 → Joins HasText text_for list items
  finished list items n end texts have differ most =
      let whole : map text_for items ≡ pieces list = texts ∙ take_all n (pieces list) (omega arith) in
      record {
        joined = sym (ap (join_with_byte 44) whole ∙ join_with_byte-slice_split 44 list);
        some = omega (arith, ap length whole, length-map items text_for, length-slice_split (λ b. b == 44) list);
        most = most;
        have_texts = have;
        differ = differ;
      }
