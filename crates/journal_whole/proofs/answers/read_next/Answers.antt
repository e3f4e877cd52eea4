use Rattle.std.proofs.Common.{ℕ, List, Bool, ◌≤◌, ◌<◌, sym, subst}
use Rattle.std.specs.Prelude.{All, MatchBool}
use lib.Signed.{mag}
use Rattle.journal_whole.proofs.Entered.{answer_at, answer_of, front_small, next_still}
use Rattle.journal_whole.proofs.answers.read_next.Goals as goal

abbrev AreSmall : List ℕ → Type 0
AreSmall front = All (λ n. n ≤ 134217728) front

abbrev AreOrNot : List ℕ → Bool → Type 0
AreOrNot front small = MatchBool small (AreSmall front) (AreSmall front → ⊥)

pub returns-then-read-clause-yes : goal.returns-then-read-clause-yes
returns-then-read-clause-yes c = λ small o place next.
    answer_at o place c.read_answer-read.new.answer (next_still o place c.args.answer.now c.read_answer-read.new.answer c.read_answer-read.ensures.asked next)
    c.count_fits.ensures
    (subst AreSmall c.as_slice-then-read.ensures (subst (AreOrNot c.as_slice-then-read.result.now) small c.are_small.ensures))
    (subst (All (λ x. mag x < 9223372036854775808)) c.as_slice.ensures c.estimates_fit.ensures)

pub returns-then-read-clause-no : goal.returns-then-read-clause-no
returns-then-read-clause-no c = λ large o place next a at is.
    let same = c.read_answer-read.ensures.once c.if-read.true a (answer_of o place c.args.answer.now a next at) is in
    subst (AreOrNot c.as_slice-then-read.result.now) large c.are_small.ensures
    (subst AreSmall (sym c.as_slice-then-read.ensures) (front_small c.read_answer-read.new.answer a same at.front))
