use Rattle.std.proofs.Common.{rules, ◌≡◌, ◌%◌, arith, length}
use Rattle.std.proofs.lemmas.Bool.{eqb-true}
use Rattle.answer_audit.proofs.Ordered.{answers_len, numbered_more}
use Rattle.answer_audit.proofs.orders.are_numbered.Goals as goal

pub returns-then-asks-eq0 : goal.returns-then-asks-eq0
returns-then-asks-eq0 c = λ is e lt.
    let none : c.len.result ≡ 0 = eqb-true c.len.result 0 is in
    absurd (omega (arith, lt, answers_len c.args.journal.now, c.len.ensures, none))

pub loop-place-preserved : goal.loop-place-preserved
loop-place-preserved c =
    let asks = c.args.journal.now.options.asks in
    let place = c.loop-place.place in
    let is : c.get.result.now.number ≡ place % asks = search rules in
    numbered_more c.args.journal.now asks place c.get.result.now c.get.ensures is c.loop-place.invariant

pub returns : goal.returns
returns c = λ _ e lt.
    let end : c.loop-place.place ≡ length c.args.journal.now.lists.answers.items = grind arith in
    c.loop-place.invariant e (omega (arith, lt, answers_len c.args.journal.now, end))
