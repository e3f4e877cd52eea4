-- Answers stand by reader, then by number.
use Rattle.std.proofs.Common.{◌≡◌, ◌∙◌, ℕ, zero, suc, ◌+◌, ◌*◌, ◌/◌, ◌%◌, ◌<◌, List, [], ◌∷◌, ◌++◌, refl, sym, ap, ap₂, arith, length, length-append, map}
use Rattle.std.specs.List.{flat_map, range_with_len}
use Rattle.std.proofs.lemmas.Grind.{flat_map-append}
use Rattle.std.proofs.lemmas.List.{append-nil, map-append}
use Rattle.std.proofs.lemmas.List.FromFn.{fill_by_all, get_or-map-range_with_len, length-map-range_with_len, map-range_with_len_more}
use Rattle.std.proofs.lemmas.Nat.{div-mul-add}
use Rattle.std.proofs.Math.Nat.{add-mul-mod_self_right, mod-eq_of_lt}
use Rattle.push_history.specs.Answers.{AnswerParts}
use Rattle.push_history.specs.LawfulJournal.{places_by}
use Rattle.push_history.proofs.PlaceLists.{range_split}
use Rattle.journal_whole.specs.Drafted.{AreInOrder}

-- the reader and the number of the answer at a place
abbrev place_at : ℕ → ℕ → ℕ × ℕ
place_at asks place = (place / asks, place % asks)

-- those of one reader
of_reader : (q asks : ℕ) → map (place_at asks) (range_with_len (q * asks) asks) ≡ map (λ n. (q, n)) (range_with_len 0 asks)
of_reader q asks = fill_by_all (λ n. (q, n)) (map (place_at asks) (range_with_len (q * asks) asks)) asks (0, 0)
    (length-map-range_with_len (place_at asks) (q * asks) asks)
    (λ k lt. get_or-map-range_with_len (place_at asks) (q * asks) asks k (q * asks + k) (0, 0) lt refl ∙ ap₂ (λ (x y : ℕ). (x, y)) (div-mul-add q asks k lt) (rest k lt))
  where
    turned : (k : ℕ) → q * asks + k ≡ k + q * asks
    turned k = omega arith

    rest : (k : ℕ) → k < asks → (q * asks + k) % asks ≡ k
    rest k lt = ap (λ (n : ℕ). n % asks) (turned k) ∙ add-mul-mod_self_right k q asks ∙ mod-eq_of_lt lt

pub all_places : (readers asks : ℕ) → map (place_at asks) (range_with_len 0 (readers * asks)) ≡ places_by readers asks
all_places zero asks = let none : zero * asks ≡ 0 = omega arith in ap (λ (n : ℕ). map (place_at asks) (range_with_len 0 n)) none
all_places (suc q) asks =
    ap (λ (n : ℕ). map (place_at asks) (range_with_len 0 n)) more
    ∙ ap (map (place_at asks)) (sym (range_split 0 (q * asks) asks))
    ∙ map-append (place_at asks) (range_with_len 0 (q * asks)) (range_with_len (0 + q * asks) asks)
    ∙ ap₂ (λ (xs ys : List (ℕ × ℕ)). xs ++ ys) (all_places q asks) (ap (λ (n : ℕ). map (place_at asks) (range_with_len n asks)) here ∙ of_reader q asks ∙ sym (append-nil (reader q)))
    ∙ sym (flat_map-append reader (range_with_len 0 q) (q ∷ []))
    ∙ ap (flat_map reader) (last ∙ range_split 0 q 1 ∙ ap (range_with_len 0) next)
  where
    reader : ℕ → List (ℕ × ℕ)
    reader r = map (λ n. (r, n)) (range_with_len 0 asks)

    more : suc q * asks ≡ q * asks + asks
    more = omega arith

    here : 0 + q * asks ≡ q * asks
    here = omega arith

    next : q + 1 ≡ suc q
    next = omega arith

    last : range_with_len 0 q ++ q ∷ [] ≡ range_with_len 0 q ++ range_with_len (0 + q) 1
    last = let same : q ≡ 0 + q = omega arith in ap (λ (n : ℕ). range_with_len 0 q ++ n ∷ []) same

-- one answer more
pub order_more : (asks : ℕ) (answers : List AnswerParts) (a : AnswerParts) → AreInOrder asks answers → a.reader ≡ length answers / asks → a.number ≡ length answers % asks
    → AreInOrder asks (answers ++ a ∷ [])
order_more asks answers a order reader number =
    map-append (λ (x : AnswerParts). (x.reader, x.number)) answers (a ∷ [])
    ∙ ap₂ (λ (xs : List (ℕ × ℕ)) (p : ℕ × ℕ). xs ++ p ∷ []) order (ap₂ (λ (x y : ℕ). (x, y)) reader number)
    ∙ sym (map-range_with_len_more (place_at asks) 0 (length answers) (length answers) start)
    ∙ ap (λ (n : ℕ). map (place_at asks) (range_with_len 0 n)) (sym (length-append answers (a ∷ [])))
  where
    start : 0 + length answers ≡ length answers
    start = omega arith
