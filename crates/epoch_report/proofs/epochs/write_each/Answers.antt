use Rattle.std.proofs.Common.{arith, ◌≡◌, ℕ, ◌<◌, ◌∙◌, List, length, get_or, Ok, Err, ap, sym, subst, zero-add}
use Rattle.std.specs.List.{enumerate_from}
use Rattle.std.proofs.lemmas.List.FromFn.{length-enumerate_from, get_or-enumerate_from}
use Rattle.flow_base.specs.Writing.{Writes}
use Rattle.flow_base.specs.declared.flow.Failed.{Failed}
use Rattle.flow_base.proofs.WritingLemmas.{writes_none, writes_item, writes_item_stop, writes_items}
use Rattle.epoch_run.specs.declared.epoch.Epoch.{Epoch}
use Rattle.epoch_report.specs.EpochsText.{epoch_lines}
use Rattle.epoch_report.proofs.epochs.write_each.Goals as goal

epoch_is : (epochs : List Epoch) (number : ℕ) (epoch : Epoch) → number < length epochs → epoch ≡ get_or epochs number epoch
    → (number, epoch) ≡ get_or (enumerate_from 0 epochs) number (0, epoch)
epoch_is epochs number epoch within is =
    ap (λ (e : Epoch). (number, e)) is
    ∙ sym (get_or-enumerate_from 0 epochs number (0, epoch) within ∙ ap (λ (n : ℕ). (n, get_or epochs number epoch)) (zero-add number))

within : (epochs : List Epoch) (number : ℕ) → number < length epochs → number < length (enumerate_from 0 epochs)
within epochs number lt = omega (arith, length-enumerate_from 0 epochs)

pub loop-number-init : goal.loop-number-init
loop-number-init g c = (writes_none _ tt, omega arith)

pub returns-in_err-write_epoch-clause-writes : goal.returns-in_err-write_epoch-clause-writes
returns-in_err-write_epoch-clause-writes g c =
    let epochs = c.args.epochs.now in
    let number = c.loop-number.number in
    let epoch = c.index-epochs-number.result in
    writes_item_stop epoch_lines (enumerate_from 0 epochs) number (0, epoch) c.from_residual.result (within epochs number c.loop-number-test.true) c.from_residual.ensures.0 c.loop-number.invariant.0
    (subst (λ (x : ℕ × Epoch). Writes {T = Unit {0}} {E = Failed} (g.T.Sink.holds c.loop-number.out) (g.T.Sink.holds c.write_epoch.new.out) (epoch_lines x) (Err c.in_err-write_epoch.field-0.0))
    (epoch_is epochs number epoch c.loop-number-test.true c.index-epochs-number.is) c.in_err-write_epoch.ensures.writes)

pub loop-number-preserved : goal.loop-number-preserved
loop-number-preserved g c =
    let epochs = c.args.epochs.now in
    let number = c.loop-number.number in
    let epoch = c.index-epochs-number.result in (
      writes_item epoch_lines (enumerate_from 0 epochs) number (0, epoch) tt (within epochs number c.loop-number-test.true) c.loop-number.invariant.0
          (subst (λ (x : ℕ × Epoch). Writes {T = Unit {0}} {E = Failed} (g.T.Sink.holds c.loop-number.out) (g.T.Sink.holds c.write_epoch.new.out) (epoch_lines x) (Ok c.in_ok-write_epoch.field-0))
          (epoch_is epochs number epoch c.loop-number-test.true c.index-epochs-number.is) c.in_ok-write_epoch.ensures.writes),
      omega (arith, c.in_ok-write_epoch.ensures.cause.later),
    )

pub returns-clause-writes : goal.returns-clause-writes
returns-clause-writes g c =
    writes_items epoch_lines (enumerate_from 0 c.args.epochs.now) c.loop-number.number (omega (arith, c.loop-number-test.false, length-enumerate_from 0 c.args.epochs.now)) (omega (arith, length-enumerate_from 0 c.args.epochs.now)) c.loop-number.invariant.0
