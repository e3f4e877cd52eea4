use Rattle.std.proofs.Common.{rules, arith}
use Rattle.journal_whole.proofs.Keyed.{no_items}
use Rattle.journal_whole.proofs.Entered.{with_keys}
use Rattle.journal_whole.proofs.keys.take_watched.Goals as goal

pub returns-in-Some-clause-yes : goal.returns-in-Some-clause-yes
returns-in-Some-clause-yes c = λ _. with_keys c.args.reading.now c.push.new.self c.in-Some.key c.args.line.now c.requires.listing
    (no_items c.args.reading.now.journal.lists.pushes.items (omega (arith, c.len.ensures, c.if-len-gt0.false))) c.in-Some.ensures.some.0 (search rules) (search rules) (search rules) c.push.ensures.items c.push.ensures.room c.in-Some.ensures.line
