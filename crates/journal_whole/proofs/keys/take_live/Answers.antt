use Rattle.std.proofs.Common.{arith}
use Rattle.journal_whole.proofs.Entered.{with_live}
use Rattle.journal_whole.proofs.keys.take_live.Goals as goal

pub returns-in-Some-clause-yes : goal.returns-in-Some-clause-yes
returns-in-Some-clause-yes c = λ _.
    with_live c.args.reading.now c.push.new.self c.in-Some.key c.args.line.now c.requires.answered c.in-Some.ensures.key
    (omega (arith, c.if-len-ge-MOST_LIVE.false, c.len.ensures)) c.push.ensures.items c.in-Some.ensures.text
