use Rattle.std.proofs.Common.{◌∙◌, sym, true≢false}
use Rattle.journal_whole.proofs.Entered.{with_end}
use Rattle.journal_whole.proofs.single.take_end.Goals as goal

pub returns-then-end-clause-judges : goal.returns-then-end-clause-judges
returns-then-end-clause-judges c = record {
  yes = λ _. with_end c.args.reading.now c.args.line.now c.requires.tallied (c.is_end-end.ensures.yes c.if-end.true);
  no = λ never. absurd (true≢false (sym c.if-end.true ∙ never));
}
