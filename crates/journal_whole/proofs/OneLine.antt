-- Lines of one kind that begin one text say the same.
use Rattle.std.proofs.Common.{◌≡◌, ◌∙◌, ℕ, ◌^◌, ◌<◌, List, ◌∷◌, ◌++◌, refl, sym, ap, drop, length, append_assoc, codes}
use Rattle.std.specs.Prelude.{All}
use Rattle.std.specs.Fmt.{decimal}
use Rattle.std.specs.List.{flat_map}
use Rattle.std.proofs.lemmas.List.{append_cancel_left}
use lib.Signed.{mag}
use Rattle.packet_key.specs.declared.key.FlowKey.{FlowKey}
use Rattle.packet_key.specs.KeyText.{IsKey, text_of}
use Rattle.packet_key.proofs.Bytes.{Lacks-text_of}
use Rattle.packet_key.proofs.OneText.{one_key}
use Rattle.push_history.specs.Answers.{AnswerParts}
use Rattle.octo_text.specs.Lines.{count_line, key_line}
use Rattle.octo_text.specs.JournalText.{worker_line, run_line, answer_line, spaced, spaced_signed}
use Rattle.journal_read.proofs.Grouped.{same_parts}
use Rattle.journal_whole.proofs.Cuts.{number_cut, numbers_cut, estimates_cut, feed_cut}

-- behind the number of a worker
abbrev behind_worker : ℕ → ℕ → List ℕ → List ℕ
behind_worker p r x = codes " pushes " ++ (decimal p ++ (codes " refused " ++ (decimal r ++ (codes "\n" ++ x))))

worker_parts : (w p r : ℕ) (x : List ℕ) → worker_line w p r ++ x ≡ codes "worker " ++ (decimal w ++ behind_worker p r x)
unfolding worker_line
worker_parts w p r x = simp append_assoc refl

pub worker_cut : (w p r q s : ℕ) (x y : List ℕ) → p < 2 ^ 64 → r < 2 ^ 64 → q < 2 ^ 64 → s < 2 ^ 64
    → worker_line w p r ++ x ≡ worker_line w q s ++ y → (p ≡ q) × (r ≡ s) × (x ≡ y)
worker_cut w p r q s x y fit₁ fit₂ fit₃ fit₄ is =
    let whole = ap (drop 7) (sym (worker_parts w p r x) ∙ is ∙ worker_parts w q s y) in
    let tails = append_cancel_left (decimal w) (behind_worker p r x) (behind_worker q s y) whole in
    let pushes = number_cut p q (codes " refused " ++ (decimal r ++ (codes "\n" ++ x))) (codes " refused " ++ (decimal s ++ (codes "\n" ++ y))) fit₁ fit₃ refl refl (ap (drop 8) tails) in
    let refused = number_cut r s (codes "\n" ++ x) (codes "\n" ++ y) fit₂ fit₄ refl refl (ap (drop 9) pushes.1) in
    (pushes.0, refused.0, ap (drop 1) refused.1)

abbrev behind_run : ℕ → ℕ → List ℕ → List ℕ
behind_run a b x = codes " " ++ (decimal a ++ (codes "-" ++ (decimal b ++ (codes "\n" ++ x))))

run_parts : (w a b : ℕ) (x : List ℕ) → run_line w (a, b) ++ x ≡ codes "refused " ++ (decimal w ++ behind_run a b x)
unfolding run_line
run_parts w a b x = simp append_assoc refl

pub run_cut : (w a b k l : ℕ) (x y : List ℕ) → a < 2 ^ 64 → b < 2 ^ 64 → k < 2 ^ 64 → l < 2 ^ 64
    → run_line w (a, b) ++ x ≡ run_line w (k, l) ++ y → (a ≡ k) × (b ≡ l) × (x ≡ y)
run_cut w a b k l x y fit₁ fit₂ fit₃ fit₄ is =
    let whole = ap (drop 8) (sym (run_parts w a b x) ∙ is ∙ run_parts w k l y) in
    let tails = append_cancel_left (decimal w) (behind_run a b x) (behind_run k l y) whole in
    let first = number_cut a k (codes "-" ++ (decimal b ++ (codes "\n" ++ x))) (codes "-" ++ (decimal l ++ (codes "\n" ++ y))) fit₁ fit₃ refl refl (ap (drop 1) tails) in
    let last = number_cut b l (codes "\n" ++ x) (codes "\n" ++ y) fit₂ fit₄ refl refl (ap (drop 1) first.1) in
    (first.0, last.0, ap (drop 1) last.1)

missed_parts : (n : ℕ) (x : List ℕ) → count_line (codes "missed") n ++ x ≡ codes "missed " ++ (decimal n ++ (codes "\n" ++ x))
unfolding count_line
missed_parts n x = simp append_assoc refl

pub missed_cut : (n m : ℕ) (x y : List ℕ) → n < 2 ^ 64 → m < 2 ^ 64
    → count_line (codes "missed") n ++ x ≡ count_line (codes "missed") m ++ y → (n ≡ m) × (x ≡ y)
missed_cut n m x y fit₁ fit₂ is =
    let number = number_cut n m (codes "\n" ++ x) (codes "\n" ++ y) fit₁ fit₂ refl refl (ap (drop 7) (sym (missed_parts n x) ∙ is ∙ missed_parts m y)) in
    (number.0, ap (drop 1) number.1)

key_parts : (name : List ℕ) (k : FlowKey) (x : List ℕ) → key_line name k ++ x ≡ name ++ (codes " " ++ (text_of k ++ (10 ∷ x)))
unfolding key_line
key_parts name k x = simp append_assoc refl

pub key_cut : (name : List ℕ) (k l : FlowKey) (x y : List ℕ) → IsKey k → IsKey l → key_line name k ++ x ≡ key_line name l ++ y → (k ≡ l) × (x ≡ y)
key_cut name k l x y key₁ key₂ is =
    let tails = append_cancel_left name (codes " " ++ (text_of k ++ (10 ∷ x))) (codes " " ++ (text_of l ++ (10 ∷ y)))
    (sym (key_parts name k x) ∙ is ∙ key_parts name l y) in
    let texts = feed_cut (text_of k) (text_of l) x y (Lacks-text_of 10 refl k key₁) (Lacks-text_of 10 refl l key₂) (ap (drop 1) tails) in
    (one_key k l key₁ key₂ texts.0, texts.1)

-- behind the numbers of an answer
abbrev behind_number : AnswerParts → List ℕ → List ℕ
behind_number a x =
    codes " folded " ++ (decimal a.folded ++ (codes " front" ++ (flat_map spaced a.front ++ (codes " shown" ++ (flat_map spaced_signed a.shown ++ (codes "\n" ++ x))))))

answer_parts : (a : AnswerParts) (x : List ℕ)
    → answer_line a ++ x ≡ codes "answer " ++ (decimal a.reader ++ (codes " " ++ (decimal a.number ++ behind_number a x)))
unfolding answer_line
answer_parts a x = simp append_assoc refl

-- the reader and the number are the same, and the lists as long
pub record AreAsked (a b : AnswerParts) : Type 0 where
  pub reader : a.reader ≡ b.reader
  pub number : a.number ≡ b.number
  pub front : length a.front ≡ length b.front
  pub shown : length a.shown ≡ length b.shown

-- its numbers are in the ranges of their types
pub record Fits (a : AnswerParts) : Type 0 where
  pub folded : a.folded < 2 ^ 64
  pub front : All (λ n. n < 2 ^ 64) a.front
  pub shown : All (λ x. mag x < 2 ^ 63) a.shown

pub answer_cut : (a b : AnswerParts) (x y : List ℕ) → AreAsked a b → Fits a → Fits b → answer_line a ++ x ≡ answer_line b ++ y → (a ≡ b) × (x ≡ y)
answer_cut a b x y asked fits₁ fits₂ is =
    let whole : decimal a.reader ++ (codes " " ++ (decimal a.number ++ behind_number a x)) ≡ decimal a.reader ++ (codes " " ++ (decimal a.number ++ behind_number b y)) =
    ap (drop 7) (sym (answer_parts a x) ∙ is ∙ answer_parts b y)
    ∙ ap (λ (n : ℕ). decimal n ++ (codes " " ++ (decimal b.number ++ behind_number b y))) (sym asked.reader)
    ∙ ap (λ (n : ℕ). decimal a.reader ++ (codes " " ++ (decimal n ++ behind_number b y))) (sym asked.number) in
    let numbered = append_cancel_left (decimal a.reader) (codes " " ++ (decimal a.number ++ behind_number a x)) (codes " " ++ (decimal a.number ++ behind_number b y)) whole in
    let tails = append_cancel_left (decimal a.number) (behind_number a x) (behind_number b y) (ap (drop 1) numbered) in
    let folded = number_cut a.folded b.folded
    (codes " front" ++ (flat_map spaced a.front ++ (codes " shown" ++ (flat_map spaced_signed a.shown ++ (codes "\n" ++ x)))))
    (codes " front" ++ (flat_map spaced b.front ++ (codes " shown" ++ (flat_map spaced_signed b.shown ++ (codes "\n" ++ y)))))
    fits₁.folded fits₂.folded refl refl (ap (drop 8) tails) in
    let front = numbers_cut a.front b.front
    (codes " shown" ++ (flat_map spaced_signed a.shown ++ (codes "\n" ++ x)))
    (codes " shown" ++ (flat_map spaced_signed b.shown ++ (codes "\n" ++ y)))
    asked.front fits₁.front fits₂.front refl refl (ap (drop 6) folded.1) in
    let shown = estimates_cut a.shown b.shown (codes "\n" ++ x) (codes "\n" ++ y) asked.shown fits₁.shown fits₂.shown refl refl (ap (drop 6) front.1) in
    (same_parts a.reader a.number a.folded a.front a.shown b asked.reader asked.number folded.0 front.0 shown.0, ap (drop 1) shown.1)
