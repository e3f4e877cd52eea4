use Rattle.std.proofs.Common.{rules, arith, ◌≡◌, ◌<◌, ◌∙◌, ℕ, length, true, false, sym, ap}
use Rattle.std.specs.Prelude.{is_some, replicate}
use Rattle.std.proofs.lemmas.List.{length-replicate}
use Rattle.octo_text.specs.Content.{content_of}
use Rattle.told_table.specs.Tables.{lists_of}
use Rattle.audit_law.specs.AnswerTests.{answer_tests}
use Rattle.audit_law.proofs.Failing.{failing_early, hold_more, none_failing_of}
use Rattle.answer_audit.proofs.Beginning.{begins_at, line_at, of_none, stands_more}
use Rattle.answer_audit.proofs.Judging.{front_is, judged_at, number_is}
use Rattle.answer_audit.proofs.Ordered.{risen_of}
use Rattle.answer_audit.proofs.answers.answers_failure.Goals as goal

pub loop-place-init : goal.loop-place-init
loop-place-init g c =
    let front = c.in_ok-reached.ensures.front in
    let len = ap length front ∙ length-replicate {A = ℕ} c.args.journal.now.options.workers 0 in
    record {
      shape = c.in_ok-reached.ensures.shape;
      len = len;
      stands = front ∙ ap (λ (k : ℕ). replicate k 0) (sym len);
      reached = c.in_ok-reached.ensures.none (lists_of c.args.messages.now);
      none = (λ k lt. absurd (omega (arith, lt)));
    }

pub answer_failure-failure-requires-clause-line : goal.answer_failure-failure-requires-clause-line
answer_failure-failure-requires-clause-line g c κs within = line_at (content_of c.args.journal.now) c.args.line c.loop-place.place c.requires.line

pub answer_failure-failure-requires-clause-begins : goal.answer_failure-failure-requires-clause-begins
answer_failure-failure-requires-clause-begins g c κs within =
    let place = c.loop-place.place in
    begins_at (content_of c.args.journal.now) place c.get.result.now.number c.args.journal.now.options.workers c.loop-place.reached.front.items c.begin.new.reached.front.items
    (number_is c.args.journal.now place c.get.result.now c.get.ensures) c.in_ok-begin.ensures.front c.loop-place.invariant.stands

pub answer_failure-failure-requires-clause-risen : goal.answer_failure-failure-requires-clause-risen
answer_failure-failure-requires-clause-risen g c κs within =
    let j = c.args.journal.now in
    let lt : c.loop-place.place < length j.lists.answers.items = search rules in
    risen_of j.options j (lists_of c.args.messages.now) c.loop-place.place c.requires.answers (omega (arith, lt)) c.loop-place.invariant.none

pub returns-then-is_some : goal.returns-then-is_some
returns-then-is_some g c =
    let j = c.args.journal.now in
    let place = c.loop-place.place in
    let lt : place < length j.lists.answers.items = search rules in
    let some : is_some c.answer_failure-failure.result ≡ true = search rules in
    failing_early (answer_tests j.options (content_of j) (lists_of c.args.messages.now)) (length j.lists.answers.items) place c.answer_failure-failure.result lt
    c.loop-place.invariant.none c.answer_failure-failure.ensures.failure some

pub loop-place-preserved : goal.loop-place-preserved
loop-place-preserved g c =
    let j = c.args.journal.now in
    let place = c.loop-place.place in
    let failure = c.answer_failure-failure in
    let none : is_some failure.result ≡ false = search rules in
    let shape : c.begin.new.reached.table.shape ≡ j.options.shape = c.in_ok-begin.ensures.shape c.loop-place.invariant.shape in
    let front = of_none failure.result failure.ensures.front none in
    record {
      shape = of_none failure.result failure.ensures.shape none ∙ shape;
      len = ap length front ∙ ap length (front_is j place c.get.result.now c.get.ensures)
          ∙ (judged_at j.options j.lists.answers.items place c.get.result.now c.requires.answers c.get.ensures).fits.front;
      stands = stands_more (content_of j) place failure.new.reached.front.items front;
      reached = of_none failure.result failure.ensures.reaches none;
      none = hold_more (answer_tests j.options (content_of j) (lists_of c.args.messages.now)) place failure.result c.loop-place.invariant.none failure.ensures.failure none;
    }

pub returns : goal.returns
returns g c =
    let j = c.args.journal.now in
    let all = c.loop-place.invariant.none in
    let end : c.loop-place.place ≡ length j.lists.answers.items = grind arith in
    sym (none_failing_of (answer_tests j.options (content_of j) (lists_of c.args.messages.now)) (length j.lists.answers.items) (λ k lt. all k (omega (arith, lt, end))))
