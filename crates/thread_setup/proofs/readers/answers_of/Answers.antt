use Rattle.std.proofs.Common.{rules, ◌≡◌, ◌∙◌, ◌+◌, ◌-◌, arith, subst}
use Rattle.thread_setup.specs.Answers.{AreLists}
use Rattle.thread_setup.proofs.Beginnings.{lists_more, lists_none}
use Rattle.thread_setup.proofs.readers.answers_of.Goals as goal

pub loop-count-init : goal.loop-count-init
loop-count-init c = (lists_none c.args.options.now _ c.in_ok-lists.ensures.empty, c.in_ok-lists.ensures.room)

pub loop-count-preserved : goal.loop-count-preserved
loop-count-preserved c =
    let o = c.args.options.now in
    let h = c.loop-count.invariant in
    let at : c.loop-count.count + (o.readers - 1 - c.loop-count.count) + 1 ≡ o.readers = omega (arith, c.loop-count-test.true) in (
      lists_more o c.loop-count.count _ c.loop-count.lists.items c.push.new.self.items _ h.0 c.push.ensures.items at c.in_ok-answers_of_reader.ensures,
      c.push.ensures.room ∙ h.1,
    )

pub returns : goal.returns
returns c =
    let o = c.args.options.now in
    let all : c.loop-count.count ≡ o.readers = search rules in
    subst (λ n. AreLists o n c.loop-count.lists.items) all c.loop-count.invariant.0
