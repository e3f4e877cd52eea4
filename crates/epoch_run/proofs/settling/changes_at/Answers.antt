use Rattle.epoch_run.proofs.Tables.{before_within, epoch_within}
use Rattle.epoch_run.proofs.settling.changes_at.Goals as goal

pub greatest_changes-requires-clause-old : goal.greatest_changes-requires-clause-old
greatest_changes-requires-clause-old c =
    before_within c.args.options.now.shape c.args.size c.args.packets.now c.args.number c.args.old.now c.requires.shape.rows c.requires.size c.requires.amounts c.requires.old

pub greatest_changes-requires-clause-new : goal.greatest_changes-requires-clause-new
greatest_changes-requires-clause-new c =
    epoch_within c.args.options.now.shape c.args.size c.args.packets.now c.args.number c.args.new.now c.requires.shape.rows c.requires.size c.requires.amounts c.requires.new
