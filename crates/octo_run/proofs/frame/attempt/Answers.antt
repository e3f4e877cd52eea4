use Rattle.std.proofs.Common.{ap, sym, subst}
use Rattle.std.specs.Prelude.{Result, Err}
use Rattle.flow_base.specs.Flow.{Given}
use Rattle.capture_load.specs.declared.capture.Capture.{Capture}
use Rattle.capture_load.specs.declared.capture.LoadStop.{LoadStop}
use Rattle.octo_run.specs.Ends.{HasReason, side}
use Rattle.octo_run.specs.Refusals.{OfCapture}
use Rattle.octo_run.proofs.Reasons.{accepted_capture, stop_reason, unrefused_capture}
use Rattle.octo_run.proofs.frame.attempt.Goals as goal

pub returns-in-Err-clause-reason : goal.returns-in-Err-clause-reason
returns-in-Err-clause-reason g c =
    let f : LoadStop → Result Capture LoadStop = λ s. Err s in
    let by = c.in-Err.ensures in
    subst (HasReason OfCapture (Given (g.S.Source.left c.args.source.now) (g.S.Source.left c.load_capture.new.source)) (g.W.Task.is_text c.args.task.now)
    (side (g.S.Source.left c.args.source.now) (g.S.Source.faults c.args.source.now)) (side (g.S.Source.left c.load_capture.new.source) (g.S.Source.faults c.load_capture.new.source))
    (side (g.T.Sink.holds c.args.out.now) (g.T.Sink.faults c.args.out.now)) (side (g.T.Sink.holds c.args.out.now) (g.T.Sink.faults c.args.out.now))) (sym c.fault_of.ensures)
    (stop_reason OfCapture (Given (g.S.Source.left c.args.source.now) (g.S.Source.left c.load_capture.new.source)) (g.W.Task.is_text c.args.task.now)
    (side (g.S.Source.left c.args.source.now) (g.S.Source.faults c.args.source.now)) (side (g.S.Source.left c.load_capture.new.source) (g.S.Source.faults c.load_capture.new.source))
    (side (g.T.Sink.holds c.args.out.now) (g.T.Sink.faults c.args.out.now)) (side (g.T.Sink.holds c.args.out.now) (g.T.Sink.faults c.args.out.now)) c.in-Err.stop (λ is. by.read (ap f is))
    (λ is given rest told left. unrefused_capture given rest (λ frames bad. by.unrefused (ap f is) frames bad given rest told left))
    (λ bad is given rest told left. by.bad bad (ap f is) given rest told left)
    (λ bad is given rest told left. by.ng bad (ap f is) given rest told left))

pub returns-in-Err-write-clause-reason : goal.returns-in-Err-write-clause-reason
returns-in-Err-write-clause-reason g c = (
  c.in-Err-write.ensures.cause.failed,
  (λ given rest told left.
      let loaded = c.in-Ok.ensures.whole given rest told left in
      (loaded.0, _, c.in-Ok-results.ensures.tells given (rw c.amount.ensures at loaded.1), c.in-Err-write.ensures.writes.err)),
  (λ given rest told left.
      ((c.in-Ok.ensures.whole given rest told left).0, accepted_capture given rest (λ bad. c.in-Ok.ensures.fine bad given rest told left))),
)

pub returns-clause-accepted : goal.returns-clause-accepted
returns-clause-accepted g c = λ given rest told left.
    ((c.in-Ok.ensures.whole given rest told left).0, accepted_capture given rest (λ bad. c.in-Ok.ensures.fine bad given rest told left))

pub returns-clause-done : goal.returns-clause-done
returns-clause-done g c = λ given rest told left.
    let loaded = c.in-Ok.ensures.whole given rest told left in
    (loaded.0, _, c.in-Ok-results.ensures.tells given (rw c.amount.ensures at loaded.1), c.in-Ok-write.ensures.writes.ok)
