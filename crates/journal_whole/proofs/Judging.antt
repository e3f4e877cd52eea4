-- Which entries may not come next, by what is still to come.
use Rattle.std.proofs.Common.{◌≡◌, ◌∙◌, ℕ, ◌*◌, ◌<◌, ◌≤◌, List, sym, ap, arith, length, inl, inr}
use Rattle.push_history.specs.Answers.{AnswerParts}
use Rattle.journal_read.specs.Drafts.{Draft, Stage, MayFollow, Nothing, Titled, Listing, Counted, Ended}
use Rattle.journal_read.specs.Entries.{Entry, line_of, Head, Terms, Watched, Worker, Run, Answered, Live, Missed, End}
use Rattle.journal_whole.specs.Drafted.{IsProper}
use Rattle.journal_whole.specs.Taken.{IsNoTerms}

-- the stages, in order
abbrev pub rank : Stage → ℕ
rank Nothing = 0
rank Titled = 1
rank Listing = 2
rank Counted = 3
rank Ended = 4

-- a draft is at one stage
pub not_both : (s a b : Stage) → s ≡ a → s ≡ b → rank a < rank b → ⊥
not_both s a b x y lt = omega (arith, lt, ap rank (sym x ∙ y))

-- the options are read
pub not_early : (d : Draft) (s : Stage) → IsProper d → d.stage ≡ s → rank s < 2 → ⊥
not_early d s proper at early = elim proper.staged [
  | inl a ↦ not_both d.stage s Listing at a early
  | inr b ↦ elim b.2 [ inl x ↦ not_both d.stage s Counted at x (omega (arith, early)) | inr y ↦ not_both d.stage s Ended at y (omega (arith, early)) ]
]

-- only an answer may come
pub answer_alone : (d : Draft) (line : List ℕ) → d.stage ≡ Listing → d.due ≡ 0 → 1 ≤ d.told.options.workers → length d.told.pushes ≡ d.told.options.workers
    → length d.told.answers < d.told.options.readers * d.told.options.asks
    → ((a : AnswerParts) → MayFollow d (Answered a) → line ≡ line_of (Answered a) → ⊥) → (e : Entry) → MayFollow d e → line ≡ line_of e → ⊥
answer_alone d line at none some all more other Head may same = not_both d.stage Nothing Listing may at (omega arith)
answer_alone d line at none some all more other (Terms o) may same = not_both d.stage Titled Listing may.0 at (omega arith)
answer_alone d line at none some all more other (Watched k) may same = omega (arith, some, all, ap length may.1)
answer_alone d line at none some all more other (Worker w p r) may same = omega (arith, all, may.2, may.3)
answer_alone d line at none some all more other (Run w a b) may same = omega (arith, none, may.3, may.5)
answer_alone d line at none some all more other (Answered a) may same = other a may same
answer_alone d line at none some all more other (Live k) may same = omega (arith, more, may.1)
answer_alone d line at none some all more other (Missed n) may same = omega (arith, more, may.1)
answer_alone d line at none some all more other End may same = not_both d.stage Listing Counted at may (omega arith)

-- only the first line may come
pub head_alone : (d : Draft) (line : List ℕ) → d.stage ≡ Nothing → (line ≡ line_of Head → ⊥) → (e : Entry) → MayFollow d e → line ≡ line_of e → ⊥
head_alone d line at other Head may same = other same
head_alone d line at other (Terms o) may same = not_both d.stage Nothing Titled at may.0 (omega arith)
head_alone d line at other (Watched k) may same = not_both d.stage Nothing Listing at may.0 (omega arith)
head_alone d line at other (Worker w p r) may same = not_both d.stage Nothing Listing at may.0 (omega arith)
head_alone d line at other (Run w a b) may same = not_both d.stage Nothing Listing at may.0 (omega arith)
head_alone d line at other (Answered a) may same = not_both d.stage Nothing Listing at may.0.listing (omega arith)
head_alone d line at other (Live k) may same = not_both d.stage Nothing Listing at may.0.listing (omega arith)
head_alone d line at other (Missed n) may same = not_both d.stage Nothing Listing at may.0.listing (omega arith)
head_alone d line at other End may same = not_both d.stage Nothing Counted at may (omega arith)

-- only the options may come
pub terms_alone : (d : Draft) (line : List ℕ) → d.stage ≡ Titled → IsNoTerms line → (e : Entry) → MayFollow d e → line ≡ line_of e → ⊥
terms_alone d line at other Head may same = not_both d.stage Nothing Titled may at (omega arith)
terms_alone d line at other (Terms o) may same = other o may.1 may.2 same
terms_alone d line at other (Watched k) may same = not_both d.stage Titled Listing at may.0 (omega arith)
terms_alone d line at other (Worker w p r) may same = not_both d.stage Titled Listing at may.0 (omega arith)
terms_alone d line at other (Run w a b) may same = not_both d.stage Titled Listing at may.0 (omega arith)
terms_alone d line at other (Answered a) may same = not_both d.stage Titled Listing at may.0.listing (omega arith)
terms_alone d line at other (Live k) may same = not_both d.stage Titled Listing at may.0.listing (omega arith)
terms_alone d line at other (Missed n) may same = not_both d.stage Titled Listing at may.0.listing (omega arith)
terms_alone d line at other End may same = not_both d.stage Titled Counted at may (omega arith)
