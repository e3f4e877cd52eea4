-- Lines that begin one text, and may both come next, are one.
use Rattle.std.proofs.Common.{◌≡◌, ◌∙◌, ℕ, ◌+◌, ◌*◌, List, ◌++◌, refl, sym, ap, length, get_or, arith, codes}
use Rattle.std.proofs.lemmas.List.{append_cancel_left}
use Rattle.push_history.specs.Answers.{AnswerParts}
use Rattle.hash_rows.specs.declared.options.Options.{Options}
use Rattle.octo_text.specs.Lines.{words_line, count_line, key_line}
use Rattle.octo_text.specs.JournalText.{worker_line, run_line, answer_line, options_line}
use Rattle.journal_read.specs.Drafts.{Draft, MayFollow, IsAnswerInTurn}
use Rattle.journal_read.specs.Entries.{Entry, line_of, Head, Terms, Watched, Worker, Run, Answered, Live, Missed, End}
use Rattle.journal_whole.proofs.OneLine.{worker_cut, run_cut, missed_cut, key_cut, answer_cut, AreAsked, Fits}
use Rattle.journal_whole.proofs.OneTerms.{options_cut}

-- the first two bytes of each line, as one number
abbrev mark : Entry → ℕ
mark Head = 28515
mark (Terms _) = 28528
mark (Watched _) = 30561
mark (Worker _ _ _) = 30575
mark (Run _ _ _) = 29285
mark (Answered _) = 24942
mark (Live _) = 27753
mark (Missed _) = 28009
mark End = 25966

abbrev first_two : List ℕ → ℕ
first_two text = get_or text 0 0 * 256 + get_or text 1 0

marked_so : (e : Entry) (x : List ℕ) → first_two (line_of e ++ x) ≡ mark e
unfolding words_line count_line key_line worker_line run_line answer_line options_line
marked_so Head x = refl
marked_so (Terms o) x = refl
marked_so (Watched k) x = refl
marked_so (Worker w p r) x = refl
marked_so (Run w a b) x = refl
marked_so (Answered a) x = refl
marked_so (Live k) x = refl
marked_so (Missed n) x = refl
marked_so End x = refl

same_mark : (e f : Entry) (x y : List ℕ) → line_of e ++ x ≡ line_of f ++ y → mark e ≡ mark f
same_mark e f x y is = sym (marked_so e x) ∙ ap first_two is ∙ marked_so f y

-- the answers at one place
asked_at : (o : Options) (place : ℕ) (a b : AnswerParts) → IsAnswerInTurn o place a → IsAnswerInTurn o place b → AreAsked a b
asked_at o place a b at₁ at₂ = record {
  reader = at₁.reader ∙ sym at₂.reader;
  number = at₁.number ∙ sym at₂.number;
  front = at₁.front_len ∙ sym at₂.front_len;
  shown = at₁.shown_len ∙ sym at₂.shown_len;
}

fits_at : (o : Options) (place : ℕ) (a : AnswerParts) → IsAnswerInTurn o place a → Fits a
fits_at o place a at = record {
  folded = at.folded;
  front = λ k d lt. let small = at.front k d lt in omega (arith, small);
  shown = at.shown;
}

-- they are one, and so is what stands behind them
abbrev pub Same : Entry → Entry → List ℕ → List ℕ → Type 0
Same e f x y = (e ≡ f) × (x ≡ y)

pub one_line : (d : Draft) (e f : Entry) (x y : List ℕ) → MayFollow d e → MayFollow d f → line_of e ++ x ≡ line_of f ++ y → Same e f x y
one_line d Head Head x y may₁ may₂ is = (refl, append_cancel_left (line_of Head) x y is)
one_line d Head (Terms o₂) x y may₁ may₂ is = absurd (omega (arith, same_mark Head (Terms o₂) x y is))
one_line d Head (Watched k₂) x y may₁ may₂ is = absurd (omega (arith, same_mark Head (Watched k₂) x y is))
one_line d Head (Worker w₂ p₂ r₂) x y may₁ may₂ is = absurd (omega (arith, same_mark Head (Worker w₂ p₂ r₂) x y is))
one_line d Head (Run w₂ a₂ b₂) x y may₁ may₂ is = absurd (omega (arith, same_mark Head (Run w₂ a₂ b₂) x y is))
one_line d Head (Answered a₂) x y may₁ may₂ is = absurd (omega (arith, same_mark Head (Answered a₂) x y is))
one_line d Head (Live k₂) x y may₁ may₂ is = absurd (omega (arith, same_mark Head (Live k₂) x y is))
one_line d Head (Missed n₂) x y may₁ may₂ is = absurd (omega (arith, same_mark Head (Missed n₂) x y is))
one_line d Head End x y may₁ may₂ is = absurd (omega (arith, same_mark Head End x y is))
one_line d (Terms o) Head x y may₁ may₂ is = absurd (omega (arith, same_mark (Terms o) Head x y is))
one_line d (Terms o) (Terms o₂) x y may₁ may₂ is =
    let cut = options_cut o o₂ x y may₁.1 may₂.1 may₁.2 may₂.2 is in
    (ap Terms cut.0, cut.1)
one_line d (Terms o) (Watched k₂) x y may₁ may₂ is = absurd (omega (arith, same_mark (Terms o) (Watched k₂) x y is))
one_line d (Terms o) (Worker w₂ p₂ r₂) x y may₁ may₂ is = absurd (omega (arith, same_mark (Terms o) (Worker w₂ p₂ r₂) x y is))
one_line d (Terms o) (Run w₂ a₂ b₂) x y may₁ may₂ is = absurd (omega (arith, same_mark (Terms o) (Run w₂ a₂ b₂) x y is))
one_line d (Terms o) (Answered a₂) x y may₁ may₂ is = absurd (omega (arith, same_mark (Terms o) (Answered a₂) x y is))
one_line d (Terms o) (Live k₂) x y may₁ may₂ is = absurd (omega (arith, same_mark (Terms o) (Live k₂) x y is))
one_line d (Terms o) (Missed n₂) x y may₁ may₂ is = absurd (omega (arith, same_mark (Terms o) (Missed n₂) x y is))
one_line d (Terms o) End x y may₁ may₂ is = absurd (omega (arith, same_mark (Terms o) End x y is))
one_line d (Watched k) Head x y may₁ may₂ is = absurd (omega (arith, same_mark (Watched k) Head x y is))
one_line d (Watched k) (Terms o₂) x y may₁ may₂ is = absurd (omega (arith, same_mark (Watched k) (Terms o₂) x y is))
one_line d (Watched k) (Watched k₂) x y may₁ may₂ is =
    let cut = key_cut (codes "watched") k k₂ x y may₁.2 may₂.2 is in
    (ap Watched cut.0, cut.1)
one_line d (Watched k) (Worker w₂ p₂ r₂) x y may₁ may₂ is = absurd (omega (arith, same_mark (Watched k) (Worker w₂ p₂ r₂) x y is))
one_line d (Watched k) (Run w₂ a₂ b₂) x y may₁ may₂ is = absurd (omega (arith, same_mark (Watched k) (Run w₂ a₂ b₂) x y is))
one_line d (Watched k) (Answered a₂) x y may₁ may₂ is = absurd (omega (arith, same_mark (Watched k) (Answered a₂) x y is))
one_line d (Watched k) (Live k₂) x y may₁ may₂ is = absurd (omega (arith, same_mark (Watched k) (Live k₂) x y is))
one_line d (Watched k) (Missed n₂) x y may₁ may₂ is = absurd (omega (arith, same_mark (Watched k) (Missed n₂) x y is))
one_line d (Watched k) End x y may₁ may₂ is = absurd (omega (arith, same_mark (Watched k) End x y is))
one_line d (Worker w p r) Head x y may₁ may₂ is = absurd (omega (arith, same_mark (Worker w p r) Head x y is))
one_line d (Worker w p r) (Terms o₂) x y may₁ may₂ is = absurd (omega (arith, same_mark (Worker w p r) (Terms o₂) x y is))
one_line d (Worker w p r) (Watched k₂) x y may₁ may₂ is = absurd (omega (arith, same_mark (Worker w p r) (Watched k₂) x y is))
one_line d (Worker w p r) (Worker w₂ p₂ r₂) x y may₁ may₂ is =
    let next : w₂ ≡ w = may₂.2 ∙ sym may₁.2 in
    let cut = worker_cut w p r p₂ r₂ x y (omega (arith, may₁.4)) (omega (arith, may₁.5)) (omega (arith, may₂.4)) (omega (arith, may₂.5))
    (is ∙ ap (λ (v : ℕ). worker_line v p₂ r₂ ++ y) next) in
    (cc (next, cut.0, cut.1), cut.2)
one_line d (Worker w p r) (Run w₂ a₂ b₂) x y may₁ may₂ is = absurd (omega (arith, same_mark (Worker w p r) (Run w₂ a₂ b₂) x y is))
one_line d (Worker w p r) (Answered a₂) x y may₁ may₂ is = absurd (omega (arith, same_mark (Worker w p r) (Answered a₂) x y is))
one_line d (Worker w p r) (Live k₂) x y may₁ may₂ is = absurd (omega (arith, same_mark (Worker w p r) (Live k₂) x y is))
one_line d (Worker w p r) (Missed n₂) x y may₁ may₂ is = absurd (omega (arith, same_mark (Worker w p r) (Missed n₂) x y is))
one_line d (Worker w p r) End x y may₁ may₂ is = absurd (omega (arith, same_mark (Worker w p r) End x y is))
one_line d (Run w a b) Head x y may₁ may₂ is = absurd (omega (arith, same_mark (Run w a b) Head x y is))
one_line d (Run w a b) (Terms o₂) x y may₁ may₂ is = absurd (omega (arith, same_mark (Run w a b) (Terms o₂) x y is))
one_line d (Run w a b) (Watched k₂) x y may₁ may₂ is = absurd (omega (arith, same_mark (Run w a b) (Watched k₂) x y is))
one_line d (Run w a b) (Worker w₂ p₂ r₂) x y may₁ may₂ is = absurd (omega (arith, same_mark (Run w a b) (Worker w₂ p₂ r₂) x y is))
one_line d (Run w a b) (Run w₂ a₂ b₂) x y may₁ may₂ is =
    let next : w₂ ≡ w = omega (arith, may₁.1, may₂.1) in
    let cut = run_cut w a b a₂ b₂ x y (omega (arith, may₁.3, may₁.4)) (omega (arith, may₁.4)) (omega (arith, may₂.3, may₂.4)) (omega (arith, may₂.4))
    (is ∙ ap (λ (v : ℕ). run_line v (a₂, b₂) ++ y) next) in
    (cc (next, cut.0, cut.1), cut.2)
one_line d (Run w a b) (Answered a₂) x y may₁ may₂ is = absurd (omega (arith, same_mark (Run w a b) (Answered a₂) x y is))
one_line d (Run w a b) (Live k₂) x y may₁ may₂ is = absurd (omega (arith, same_mark (Run w a b) (Live k₂) x y is))
one_line d (Run w a b) (Missed n₂) x y may₁ may₂ is = absurd (omega (arith, same_mark (Run w a b) (Missed n₂) x y is))
one_line d (Run w a b) End x y may₁ may₂ is = absurd (omega (arith, same_mark (Run w a b) End x y is))
one_line d (Answered a) Head x y may₁ may₂ is = absurd (omega (arith, same_mark (Answered a) Head x y is))
one_line d (Answered a) (Terms o₂) x y may₁ may₂ is = absurd (omega (arith, same_mark (Answered a) (Terms o₂) x y is))
one_line d (Answered a) (Watched k₂) x y may₁ may₂ is = absurd (omega (arith, same_mark (Answered a) (Watched k₂) x y is))
one_line d (Answered a) (Worker w₂ p₂ r₂) x y may₁ may₂ is = absurd (omega (arith, same_mark (Answered a) (Worker w₂ p₂ r₂) x y is))
one_line d (Answered a) (Run w₂ a₂ b₂) x y may₁ may₂ is = absurd (omega (arith, same_mark (Answered a) (Run w₂ a₂ b₂) x y is))
one_line d (Answered a) (Answered a₂) x y may₁ may₂ is =
    let o = d.told.options in
    let place = length d.told.answers in
    let cut = answer_cut a a₂ x y (asked_at o place a a₂ may₁.2 may₂.2) (fits_at o place a may₁.2) (fits_at o place a₂ may₂.2) is in
    (ap Answered cut.0, cut.1)
one_line d (Answered a) (Live k₂) x y may₁ may₂ is = absurd (omega (arith, same_mark (Answered a) (Live k₂) x y is))
one_line d (Answered a) (Missed n₂) x y may₁ may₂ is = absurd (omega (arith, same_mark (Answered a) (Missed n₂) x y is))
one_line d (Answered a) End x y may₁ may₂ is = absurd (omega (arith, same_mark (Answered a) End x y is))
one_line d (Live k) Head x y may₁ may₂ is = absurd (omega (arith, same_mark (Live k) Head x y is))
one_line d (Live k) (Terms o₂) x y may₁ may₂ is = absurd (omega (arith, same_mark (Live k) (Terms o₂) x y is))
one_line d (Live k) (Watched k₂) x y may₁ may₂ is = absurd (omega (arith, same_mark (Live k) (Watched k₂) x y is))
one_line d (Live k) (Worker w₂ p₂ r₂) x y may₁ may₂ is = absurd (omega (arith, same_mark (Live k) (Worker w₂ p₂ r₂) x y is))
one_line d (Live k) (Run w₂ a₂ b₂) x y may₁ may₂ is = absurd (omega (arith, same_mark (Live k) (Run w₂ a₂ b₂) x y is))
one_line d (Live k) (Answered a₂) x y may₁ may₂ is = absurd (omega (arith, same_mark (Live k) (Answered a₂) x y is))
one_line d (Live k) (Live k₂) x y may₁ may₂ is =
    let cut = key_cut (codes "live") k k₂ x y may₁.2 may₂.2 is in
    (ap Live cut.0, cut.1)
one_line d (Live k) (Missed n₂) x y may₁ may₂ is = absurd (omega (arith, same_mark (Live k) (Missed n₂) x y is))
one_line d (Live k) End x y may₁ may₂ is = absurd (omega (arith, same_mark (Live k) End x y is))
one_line d (Missed n) Head x y may₁ may₂ is = absurd (omega (arith, same_mark (Missed n) Head x y is))
one_line d (Missed n) (Terms o₂) x y may₁ may₂ is = absurd (omega (arith, same_mark (Missed n) (Terms o₂) x y is))
one_line d (Missed n) (Watched k₂) x y may₁ may₂ is = absurd (omega (arith, same_mark (Missed n) (Watched k₂) x y is))
one_line d (Missed n) (Worker w₂ p₂ r₂) x y may₁ may₂ is = absurd (omega (arith, same_mark (Missed n) (Worker w₂ p₂ r₂) x y is))
one_line d (Missed n) (Run w₂ a₂ b₂) x y may₁ may₂ is = absurd (omega (arith, same_mark (Missed n) (Run w₂ a₂ b₂) x y is))
one_line d (Missed n) (Answered a₂) x y may₁ may₂ is = absurd (omega (arith, same_mark (Missed n) (Answered a₂) x y is))
one_line d (Missed n) (Live k₂) x y may₁ may₂ is = absurd (omega (arith, same_mark (Missed n) (Live k₂) x y is))
one_line d (Missed n) (Missed n₂) x y may₁ may₂ is =
    let cut = missed_cut n n₂ x y may₁.2 may₂.2 is in
    (ap Missed cut.0, cut.1)
one_line d (Missed n) End x y may₁ may₂ is = absurd (omega (arith, same_mark (Missed n) End x y is))
one_line d End Head x y may₁ may₂ is = absurd (omega (arith, same_mark End Head x y is))
one_line d End (Terms o₂) x y may₁ may₂ is = absurd (omega (arith, same_mark End (Terms o₂) x y is))
one_line d End (Watched k₂) x y may₁ may₂ is = absurd (omega (arith, same_mark End (Watched k₂) x y is))
one_line d End (Worker w₂ p₂ r₂) x y may₁ may₂ is = absurd (omega (arith, same_mark End (Worker w₂ p₂ r₂) x y is))
one_line d End (Run w₂ a₂ b₂) x y may₁ may₂ is = absurd (omega (arith, same_mark End (Run w₂ a₂ b₂) x y is))
one_line d End (Answered a₂) x y may₁ may₂ is = absurd (omega (arith, same_mark End (Answered a₂) x y is))
one_line d End (Live k₂) x y may₁ may₂ is = absurd (omega (arith, same_mark End (Live k₂) x y is))
one_line d End (Missed n₂) x y may₁ may₂ is = absurd (omega (arith, same_mark End (Missed n₂) x y is))
one_line d End End x y may₁ may₂ is = (refl, append_cancel_left (line_of End) x y is)
