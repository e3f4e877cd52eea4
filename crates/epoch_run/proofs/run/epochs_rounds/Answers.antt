use Rattle.std.proofs.Common.{◌≡◌, ◌∙◌, [], ap, arith, map, sym, subst}
use Rattle.hash_rows.specs.declared.shape.Shape.{Shape}
use Rattle.hash_rows.specs.Sketches.{rows_of}
use Rattle.hash_rows.specs.Tables.{used_in}
use Rattle.epoch_run.specs.Epochs.{AreEpochs, epoch_count, epoch_packets, sketch_table}
use Rattle.epoch_run.proofs.Gathering.{before_next, epochs_more, filled, no_epochs, own_shape, shape_is, sketch_is}
use Rattle.epoch_run.proofs.Joined.{whole_joined}
use Rattle.epoch_run.proofs.Tables.{begins}
use Rattle.epoch_run.proofs.run.epochs_rounds.Goals as goal

pub loop-number-init : goal.loop-number-init
unfolding epoch_count
loop-number-init g c = record {
  epochs = no_epochs c.args.size c.args.change c.args.options.now c.args.packets.now c.in_ok-epochs.epochs.items c.in_ok-epochs.ensures.empty;
  room = c.in_ok-epochs.ensures.room ∙ c.div_ceil-count.ensures;
  new = sketch_is c.args.options.now.shape _ _ c.in_ok-new.ensures;
  old = sketch_is c.args.options.now.shape _ _ c.in_ok-old.ensures;
}

pub fill-requires : goal.fill-requires
fill-requires g c = record { empty = own_shape c.args.options.now.shape [] c.loop-number.new c.loop-number.invariant.new }

pub settle-requires-clause-number : goal.settle-requires-clause-number
unfolding epoch_count
settle-requires-clause-number g c =
    begins c.args.size c.args.packets.now c.loop-number.number (omega (arith, c.requires.run.some_packets)) (omega (arith, c.loop-number-test.true, c.div_ceil-count.ensures))

pub settle-requires-clause-new : goal.settle-requires-clause-new
settle-requires-clause-new g c =
    filled c.args.options.now.shape c.loop-number.new c.fill.new.table c.packets_of.result.now _ c.loop-number.invariant.new c.in_ok-used.ensures.table c.packets_of.ensures

pub settle-requires-clause-used : goal.settle-requires-clause-used
settle-requires-clause-used g c =
    let own = filled c.args.options.now.shape c.loop-number.new c.fill.new.table c.packets_of.result.now (epoch_packets c.args.size c.args.packets.now c.loop-number.number) c.loop-number.invariant.new c.in_ok-used.ensures.table c.packets_of.ensures in
    c.in_ok-used.ensures.used ∙ ap (λ (s : Shape). map (used_in c.fill.new.table) (rows_of s)) (shape_is c.args.options.now.shape _ c.fill.new.table own)

pub packets_before-requires-clause-number : goal.packets_before-requires-clause-number
unfolding epoch_count
packets_before-requires-clause-number g c =
    begins c.args.size c.args.packets.now c.loop-number.number (omega (arith, c.requires.run.some_packets)) (omega (arith, c.loop-number-test.true, c.div_ceil-count.ensures))

pub clear-requires : goal.clear-requires
clear-requires g c =
    own_shape c.args.options.now.shape _ c.loop-number.old c.loop-number.invariant.old ∙ ap (sketch_table c.loop-number.old.shape) (sym c.packets_before.ensures)

pub push-requires : goal.push-requires
unfolding epoch_count
push-requires g c =
    omega (arith, c.loop-number.invariant.epochs.len, c.loop-number.invariant.room, c.loop-number-test.true, c.div_ceil-count.ensures)

pub loop-number-preserved : goal.loop-number-preserved
loop-number-preserved g c =
    let own = filled c.args.options.now.shape c.loop-number.new c.fill.new.table c.packets_of.result.now (epoch_packets c.args.size c.args.packets.now c.loop-number.number) c.loop-number.invariant.new c.in_ok-used.ensures.table c.packets_of.ensures in
    record {
      epochs = epochs_more c.args.size c.args.change c.args.options.now c.args.packets.now c.loop-number.number c.loop-number.epochs.items c.push.new.self.items c.in_ok-epoch.epoch c.loop-number.invariant.epochs c.push.ensures.items c.in_ok-epoch.ensures;
      room = c.push.ensures.room ∙ c.loop-number.invariant.room;
      new = c.swap.ensures.y_after ∙ c.clear.ensures ∙ ap (λ (s : Shape). sketch_table s []) (shape_is c.args.options.now.shape _ c.loop-number.old c.loop-number.invariant.old);
      old = c.swap.ensures.x_after ∙ before_next c.args.options.now.shape c.args.size c.args.packets.now c.loop-number.number c.fill.new.table own;
    }

pub returns : goal.returns
unfolding epoch_count
returns g c =
    let whole = sketch_is c.args.options.now.shape _ _ c.in_ok-whole.ensures in
    let all : c.loop-number.number ≡ epoch_count c.args.size c.args.packets.now = omega (arith, c.loop-number-test.false, c.loop-number.auto.number-end, c.div_ceil-count.ensures) in
    record {
      are_epochs = subst (λ n. AreEpochs c.args.size c.args.change c.args.options.now c.args.packets.now n c.loop-number.epochs.items) all c.loop-number.invariant.epochs;
      whole_is = whole;
      joined = whole_joined c.args.size c.args.options.now.shape c.args.packets.now c.in_ok-whole.whole (omega (arith, c.requires.run.some_packets)) c.amounts_fit.ensures whole;
    }
