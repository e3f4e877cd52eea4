use Rattle.std.proofs.Common.{◌∙◌, refl}
use Rattle.epoch_report.proofs.Whole.{used_of_whole}
use Rattle.epoch_report.proofs.report.report_of.Goals as goal

pub returns : goal.returns
returns c = record {
  shape = refl;
  amount = refl;
  records_are = refl;
  keyed = refl;
  skipped_are = refl;
  cut_is = refl;
  epochs_are = c.requires.epochs.are_epochs;
  total = c.total_of.ensures;
  used = c.in_ok-used_of.ensures ∙ used_of_whole c.args.options.now.shape c.args.packets.now c.args.epochs.whole c.requires.epochs.whole_is;
}
