use Rattle.std.proofs.Common.{◌≡◌, ◌∙◌, ap, arith, map, length, subst}
use Rattle.hash_rows.specs.declared.shape.Shape.{Shape}
use Rattle.hash_rows.specs.Sketches.{rows_of}
use Rattle.hash_rows.specs.Tables.{used_in}
use Rattle.epoch_run.specs.Epochs.{AreEpochs, epoch_count, sketch_table}
use Rattle.epoch_run.proofs.Gathering.{before_next, epochs_more, no_epochs, shape_is, sketch_is}
use Rattle.epoch_run.proofs.Joined.{whole_joined}
use Rattle.epoch_run.proofs.Tables.{begins, epoch_few}
use Rattle.epoch_threads.proofs.run.epochs_threads.Goals as goal

pub loop-number-init : goal.loop-number-init
unfolding epoch_count
loop-number-init g c = record {
  epochs = no_epochs c.args.size c.args.change c.args.options.now c.args.packets.now c.in_ok-epochs.epochs.items c.in_ok-epochs.ensures.empty;
  room = c.in_ok-epochs.ensures.room ∙ c.div_ceil-count.ensures;
  old = sketch_is c.args.options.now.shape _ _ c.in_ok-old.ensures;
}

pub table_of-requires-clause-few : goal.table_of-requires-clause-few
table_of-requires-clause-few g c κs within =
    omega (arith, ap length c.packets_of.ensures, epoch_few c.args.size c.args.packets.now c.loop-number.number, c.requires.run.packets)

pub settle-requires-clause-number : goal.settle-requires-clause-number
unfolding epoch_count
settle-requires-clause-number g c =
    begins c.args.size c.args.packets.now c.loop-number.number (omega (arith, c.requires.run.some_packets)) (omega (arith, c.loop-number-test.true, c.div_ceil-count.ensures))

pub settle-requires-clause-new : goal.settle-requires-clause-new
settle-requires-clause-new g c =
    c.in_ok-new.ensures ∙ ap (sketch_table c.args.options.now.shape) c.packets_of.ensures

pub settle-requires-clause-used : goal.settle-requires-clause-used
settle-requires-clause-used g c =
    c.in_ok-used.ensures ∙ ap (λ (s : Shape). map (used_in c.in_ok-new.new) (rows_of s)) (shape_is c.args.options.now.shape _ _ c.in_ok-new.ensures)

pub push-requires : goal.push-requires
unfolding epoch_count
push-requires g c =
    omega (arith, c.loop-number.invariant.epochs.len, c.loop-number.invariant.room, c.loop-number-test.true, c.div_ceil-count.ensures)

pub loop-number-preserved : goal.loop-number-preserved
loop-number-preserved g c = record {
  epochs = epochs_more c.args.size c.args.change c.args.options.now c.args.packets.now c.loop-number.number c.loop-number.epochs.items c.push.new.self.items c.in_ok-epoch.epoch c.loop-number.invariant.epochs c.push.ensures.items c.in_ok-epoch.ensures;
  room = c.push.ensures.room ∙ c.loop-number.invariant.room;
  old = before_next c.args.options.now.shape c.args.size c.args.packets.now c.loop-number.number c.in_ok-new.new
      (c.in_ok-new.ensures ∙ ap (sketch_table c.args.options.now.shape) c.packets_of.ensures);
}

pub returns : goal.returns
unfolding epoch_count
returns g c =
    let whole = sketch_is c.args.options.now.shape _ _ c.in_ok-whole.ensures in
    let all : c.loop-number.number ≡ epoch_count c.args.size c.args.packets.now = omega (arith, c.loop-number-test.false, c.loop-number.auto.number-end, c.div_ceil-count.ensures) in
    record {
      are_epochs = subst (λ n. AreEpochs c.args.size c.args.change c.args.options.now c.args.packets.now n c.loop-number.epochs.items) all c.loop-number.invariant.epochs;
      whole_is = whole;
      joined = whole_joined c.args.size c.args.options.now.shape c.args.packets.now c.in_ok-whole.whole (omega (arith, c.requires.run.some_packets)) c.amounts_fit.ensures whole;
    }
