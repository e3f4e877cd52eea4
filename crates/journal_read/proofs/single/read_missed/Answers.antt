use Rattle.std.proofs.Common.{◌∙◌, sym, ap, codes}
use Rattle.octo_text.specs.Lines.{count_line}
use Rattle.journal_read.proofs.single.read_missed.Goals as goal

pub returns-else-is_missed : goal.returns-else-is_missed
returns-else-is_missed c = λ n fits same.
    c.is_missed.ensures.no c.if-is_missed.false (same ∙ sym (ap (count_line (codes "missed")) (c.missed_in-missed.ensures n fits same)))
