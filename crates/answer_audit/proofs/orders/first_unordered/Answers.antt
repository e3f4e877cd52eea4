use Rattle.std.proofs.Common.{rules, arith, ◌≡◌, ◌<◌, true, false, sym}
use Rattle.octo_text.specs.Content.{content_of}
use Rattle.audit_law.specs.AnswerTests.{answer_at, order_test}
use Rattle.audit_law.proofs.Failing.{all_pass}
use Rattle.answer_audit.proofs.Placed.{order_fails, order_more}
use Rattle.answer_audit.proofs.orders.first_unordered.Goals as goal

pub returns-then-not-are_ordered : goal.returns-then-not-are_ordered
returns-then-not-are_ordered c =
    let e = c.loop-earlier.earlier in
    let lt : e < c.args.place = search rules in
    let fails : c.are_ordered.result ≡ false = search rules in
    order_fails c.args.line c.args.front.now c.args.journal.now c.args.place e c.get.result.now c.as_slice-other.result.now c.are_ordered.result c.unordered.result
    c.get.ensures c.as_slice-other.ensures lt c.loop-earlier.invariant c.are_ordered.ensures fails c.unordered.ensures

pub loop-earlier-preserved : goal.loop-earlier-preserved
loop-earlier-preserved c =
    let holds : c.are_ordered.result ≡ true = search rules in
    order_more c.args.line c.args.front.now c.args.journal.now c.loop-earlier.earlier c.get.result.now c.as_slice-other.result.now c.are_ordered.result
    c.get.ensures c.as_slice-other.ensures c.loop-earlier.invariant c.are_ordered.ensures holds

pub returns : goal.returns
returns c =
    let all = c.loop-earlier.invariant in
    let end : c.loop-earlier.earlier ≡ c.args.place = grind arith in
    sym (all_pass (λ e. order_test c.args.line c.args.front.now (answer_at (content_of c.args.journal.now) e).front) c.args.place (λ k lt. all k (omega (arith, lt, end))))
