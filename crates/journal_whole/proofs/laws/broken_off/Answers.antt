use Rattle.journal_whole.proofs.BrokenOff.{no_ended, no_journal, no_line_held}
use Rattle.journal_whole.proofs.laws.broken_off.Goals as goal

pub returns-clause-journal : goal.returns-clause-journal
returns-clause-journal c = no_journal

pub returns-clause-ended : goal.returns-clause-ended
returns-clause-ended c = no_ended

pub returns-clause-line : goal.returns-clause-line
returns-clause-line c = no_line_held
