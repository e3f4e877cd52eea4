-- The answers of one reader after another.
use Rattle.std.proofs.Common.{◌≡◌, ◌<◌, ◌≤◌, ℕ, ◌+◌, ◌*◌, List, [], ◌∷◌, ◌++◌, length, length-append, slice_get, Some, sym, ap, ◌∙◌, subst, arith, inl, inr}
use Rattle.std.proofs.Math.Nat.{mul-le-mul_right}
use Rattle.std.proofs.lemmas.Nat.{mul-le}
use Rattle.std.proofs.lemmas.Bool.{cases_lt}
use Rattle.std.proofs.lemmas.Option.{slice_get_within, get_or_from_slice_get}
use Rattle.hash_rows.specs.declared.answer.Answer.{Answer}
use Rattle.octo_engine.specs.Answers.{AreLooksByReader, IsLookFor, IsLike}
use Rattle.octo_engine.proofs.Looking.{at_end}

pub like_none : (reader : ℕ) (looks old : List Answer) → IsLike reader 0 looks old old
like_none reader looks old = record { len = omega arith; before = λ k a lt is. is; each = λ k a look lt is looked. absurd (omega (arith, lt)) }

pub like_more : (reader n : ℕ) (looks old new more : List Answer) (a look : Answer) → IsLike reader n looks old new → more ≡ new ++ a ∷ [] → slice_get looks n ≡ Some look → IsLookFor reader n look a
    → IsLike reader (n + 1) looks old more
like_more reader n looks old new more a look like is looked answer =
    let len = like.len in
    let long = ap length is ∙ length-append new (a ∷ []) in
    let before : (k : ℕ) (b : Answer) → k < length old → slice_get more k ≡ Some b → slice_get old k ≡ Some b = λ k b lt at.
    elim (at_end new a k b (ap (λ (l : List Answer). slice_get l k) (sym is) ∙ at)) [
      | inl early ↦ like.before k b lt early
      | inr last ↦ let place = last.0 in absurd (omega (arith, place, len, lt))
    ] in
    let each : (k : ℕ) (b other : Answer) → k < n + 1 → slice_get more (length old + k) ≡ Some b → slice_get looks k ≡ Some other → IsLookFor reader k other b = λ k b other lt at seen.
    elim (at_end new a (length old + k) b (ap (λ (l : List Answer). slice_get l (length old + k)) (sym is) ∙ at)) [
      | inl early ↦
          let below = slice_get_within new (length old + k) b early in
          like.each k b other (omega (arith, below, len)) early seen
      | inr last ↦
          let place = last.0 in
          let same : n ≡ k = omega (arith, place, len) in
          let seen_there : slice_get looks n ≡ Some other = ap (λ j. slice_get looks j) same ∙ seen in
          let one : look ≡ other = sym (get_or_from_slice_get looks n look look looked) ∙ get_or_from_slice_get looks n other look seen_there in
          subst (λ (z : Answer). IsLookFor reader k other z) (sym last.1) (subst (λ (z : Answer). IsLookFor reader k z a) one (subst (λ j. IsLookFor reader j look a) same answer))
    ] in
    record { len = omega (arith, len, long); before = before; each = each }

pub answers_none : (asks : ℕ) (looks answers : List Answer) → answers ≡ [] → AreLooksByReader 0 asks looks answers
answers_none asks looks answers none = record { len = ap length none ∙ omega arith; each = λ q k a look lt below is seen. absurd (omega (arith, lt)) }

row_end : (q n asks : ℕ) → q < n → q * asks + asks ≤ n * asks
row_end q n asks lt =
    let times : (q + 1) * asks ≤ n * asks = mul-le-mul_right asks (omega (arith, lt)) in
    let one : (q + 1) * asks ≡ q * asks + asks = grind arith in
    omega (arith, times, one)

pub row_room : (q n asks len room : ℕ) → q < n → len ≡ q * asks → room ≡ n * asks → len + asks ≤ room
row_room q n asks len room lt at is = let most = row_end q n asks lt in omega (arith, most, at, is)

pub few_answers : (readers asks : ℕ) → readers ≤ 4 → asks ≤ 1024 → readers * asks ≤ 4096
few_answers readers asks a b = let most : readers * asks ≤ 4 * 1024 = mul-le readers asks 4 1024 a b in omega (arith, most)

pub answers_more : (q asks : ℕ) (looks old new : List Answer) → AreLooksByReader q asks looks old → IsLike q asks looks old new → AreLooksByReader (q + 1) asks looks new
answers_more q asks looks old new are like =
    let len = are.len in
    let more = like.len in
    let one : (q + 1) * asks ≡ q * asks + asks = grind arith in
    let each : (p k : ℕ) (a look : Answer) → p < q + 1 → k < asks → slice_get new (p * asks + k) ≡ Some a → slice_get looks k ≡ Some look → IsLookFor p k look a = λ p k a look lt below is seen.
    elim (cases_lt p q) [
      | inl early ↦
          let end = row_end p q asks early in
          are.each p k a look early below (like.before (p * asks + k) a (omega (arith, end, below, len)) is) seen
      | inr late ↦
          let same : p ≡ q = omega (arith, late, lt) in
          let place : p * asks + k ≡ length old + k = ap (λ j. j * asks + k) same ∙ omega (arith, len) in
          subst (λ j. IsLookFor j k look a) (sym same) (like.each k a look below (ap (λ j. slice_get new j) (sym place) ∙ is) seen)
    ] in
    record { len = omega (arith, len, more, one); each = each }
