use Rattle.std.proofs.Common.{rules, arith, ◌≡◌, ◌<◌, ◌∙◌, true, false, length, get_or, sym, ap, refl, List}
use Rattle.std.specs.Prelude.{nat_lt}
use Rattle.hash_rows.specs.declared.shape.Push.{Push}
use Rattle.told_table.specs.Tables.{lists_of}
use Rattle.audit_law.specs.AnswerTests.{within_test}
use Rattle.audit_law.proofs.Failing.{all_pass, pass_more}
use Rattle.answer_audit.proofs.Placed.{is_within, sent_is, within_fails}
use Rattle.answer_audit.proofs.fronts.within_failure.Goals as goal

pub returns-then-sent-front : goal.returns-then-sent-front
returns-then-sent-front c =
    let w = c.loop-worker.worker in
    let lt : w < length c.args.messages.now = search rules in
    let here : c.len-sent.result ≡ length (get_or c.args.messages.now w c.index-messages-worker.result).items = search rules in
    let is = here ∙ ap (λ (l : List Push). length l) (sym (sent_is c.args.messages.now w c.index-messages-worker.result lt)) in
    let less : nat_lt c.len-sent.result (get_or c.args.front.now w 0) ≡ true = search rules in
    within_fails c.args.line c.args.messages.now c.args.front.now w c.len-sent.result (get_or c.args.front.now w 0) lt c.loop-worker.invariant is refl less

pub loop-worker-preserved : goal.loop-worker-preserved
loop-worker-preserved c =
    let w = c.loop-worker.worker in
    let lt : w < length c.args.messages.now = search rules in
    let here : c.len-sent.result ≡ length (get_or c.args.messages.now w c.index-messages-worker.result).items = search rules in
    let is = here ∙ ap (λ (l : List Push). length l) (sym (sent_is c.args.messages.now w c.index-messages-worker.result lt)) in
    let less : nat_lt c.len-sent.result (get_or c.args.front.now w 0) ≡ false = search rules in
    pass_more (within_test c.args.line (lists_of c.args.messages.now) c.args.front.now) w c.loop-worker.invariant
    (is_within c.args.line c.args.messages.now c.args.front.now w c.len-sent.result (get_or c.args.front.now w 0) is refl less)

pub returns : goal.returns
returns c =
    let all = c.loop-worker.invariant in
    let end : c.loop-worker.worker ≡ length c.args.messages.now = grind arith in
    sym (all_pass (within_test c.args.line (lists_of c.args.messages.now) c.args.front.now) (length c.args.messages.now) (λ k lt. all k (omega (arith, lt, end))))
