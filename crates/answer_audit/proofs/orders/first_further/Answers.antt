use Rattle.std.proofs.Common.{rules, ◌≡◌, ◌<◌, ◌+◌, ◌-◌, ◌/◌, ◌∙◌, ℕ, List, ap, sym, arith}
use Rattle.octo_text.specs.Content.{content_of}
use Rattle.audit_law.specs.AnswerTests.{answer_at, is_no_further}
use Rattle.answer_audit.proofs.Judging.{front_is}
use Rattle.answer_audit.proofs.orders.first_further.Goals as goal

pub loop-low-preserved-then-is_no_further : goal.loop-low-preserved-then-is_no_further
loop-low-preserved-then-is_no_further c =
    let inv = c.loop-low.invariant in
    let j = c.args.journal.now in
    let f = c.args.front.now in
    let middle = c.loop-low.low + (c.loop-low.high - c.loop-low.low) / 2 in
    let lt : c.loop-low.low < c.loop-low.high = search rules in
    let at : middle + 1 - 1 ≡ middle = omega arith in
    record {
      start = omega (arith, inv.start);
      order = omega (arith, lt);
      end = inv.end;
      before = λ _.
          ap (λ (n : ℕ). is_no_further (answer_at (content_of j) n).front f) at
          ∙ ap (λ (t : List ℕ). is_no_further t f) (front_is j middle c.get.result.now c.get.ensures ∙ sym c.as_slice-other.ensures)
          ∙ sym c.is_no_further.ensures
          ∙ c.if-is_no_further.true;
    }
