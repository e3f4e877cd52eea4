use Rattle.std.proofs.Common.{◌++◌, ◌∷◌, [], length, ◌∙◌, sym, ap, arith, append_assoc, length-append}
use Rattle.std.proofs.lemmas.Iterator.Adapters.{YieldsList-from_vec}
use Rattle.std.proofs.lemmas.Iterator.Consumers.{YieldsList-end, YieldsList-turn}
use Rattle.thread_ends.proofs.Gathered.{as_it_is}
use Rattle.thread_ends.proofs.answering.move_answers.Goals as goal

pub push-requires : goal.push-requires
push-requires c =
    let h = c.loop-answer.invariant in
    let turn = YieldsList-turn (YieldsList-from_vec c.args.from.items (cc) (cc)) c.loop-answer.yielded c.loop-answer.answer-iterator c.loop-answer.yielded_by c.next.result c.next.new.self c.in-Some.answer c.in-Some.is c.next.ensures.steps in
    omega (arith, turn.0, c.requires.room, h.1, ap length h.0, length-append c.args.into.now.items c.loop-answer.yielded)

pub loop-answer-preserved : goal.loop-answer-preserved
loop-answer-preserved c =
    let h = c.loop-answer.invariant in (
      c.push.ensures.items ∙ ap (λ l. l ++ c.in-Some.answer ∷ []) h.0 ∙ append_assoc c.args.into.now.items c.loop-answer.yielded (c.in-Some.answer ∷ []),
      c.push.ensures.room ∙ h.1,
    )

pub returns-clause-items : goal.returns-clause-items
returns-clause-items c =
    let end = YieldsList-end (YieldsList-from_vec c.args.from.items (cc) (cc)) c.loop-answer.yielded c.loop-answer.answer-iterator c.loop-answer.yielded_by c.next.result c.next.new.self c.in-None.is c.next.ensures.steps in
    c.loop-answer.invariant.0 ∙ ap (λ l. c.args.into.now.items ++ l) (sym (as_it_is c.loop-answer.yielded) ∙ end.0)
