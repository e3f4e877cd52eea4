use Rattle.journal_whole.proofs.Keyed.{among_is_none}
use Rattle.journal_whole.proofs.keys.watched_in.Goals as goal

pub returns-then-is_among-clause-line : goal.returns-then-is_among-clause-line
returns-then-is_among-clause-line c = λ k key new is. among_is_none c.args.line.now c.args.watched.now c.in_ok-key.key k c.one_text.ensures c.in_ok-key.ensures.key key c.in_ok-key.ensures.text is c.if-is_among.ensures new
