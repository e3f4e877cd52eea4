use Rattle.std.proofs.Common.{◌∙◌, ap, length}
use Rattle.prefix_report.proofs.Answering.{short_lines}
use Rattle.prefix_report.proofs.Tables.{four_found, four_tables}
use Rattle.prefix_report.proofs.report.report_of.Goals as goal

pub watched-requires-clause-four : goal.watched-requires-clause-four
watched-requires-clause-four c =
    ap length (c.as_slice.ensures ∙ c.requires.tables) ∙ four_tables c.args.options.now.shape c.args.packets.now

pub returns-clause-complete : goal.returns-clause-complete
returns-clause-complete c = record {
  four = c.requires.answers.len;
  more = four_found _ _ _ _ _ (ap length c.requires.tables ∙ four_tables c.args.options.now.shape c.args.packets.now) c.requires.found;
  answers = short_lines c.args.packets.now c.args.options.now c.args.watch.now _ c.requires.most c.requires.answers;
  watch = c.in_ok-estimates.ensures.networks;
  hits = c.requires.networks;
}
