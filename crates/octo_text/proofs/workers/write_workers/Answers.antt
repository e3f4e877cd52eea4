use Rattle.std.proofs.Common.{arith, ℕ, List, Ok, Err, subst}
use Rattle.flow_base.specs.Writing.{Writes}
use Rattle.flow_base.specs.declared.flow.Failed.{Failed}
use Rattle.flow_base.proofs.WritingLemmas.{writes_none, writes_item, writes_item_stop, writes_items}
use Rattle.octo_text.specs.JournalText.{worker_lines}
use Rattle.octo_text.proofs.WorkerLemmas.{workers_of, no_worker, length-workers, worker_at}
use Rattle.octo_text.proofs.workers.write_workers.Goals as goal

pub loop-worker-init : goal.loop-worker-init
loop-worker-init g c = (writes_none _ tt, omega arith)

pub returns-in_err-write_worker-clause-writes : goal.returns-in_err-write_worker-clause-writes
returns-in_err-write_worker-clause-writes g c =
    let pushes = c.args.pushes.now in
    let refused = c.args.refused.now in
    let w = c.loop-worker.worker in
    writes_item_stop worker_lines (workers_of pushes refused) w no_worker c.from_residual.result
    (omega (arith, c.loop-worker-test.true, length-workers pushes refused c.requires)) c.from_residual.ensures.0 c.loop-worker.invariant.0
    (subst (λ (x : ℕ × (ℕ × List ℕ)). Writes {T = Unit {0}} {E = Failed} (g.T.Sink.holds c.loop-worker.out) (g.T.Sink.holds c.write_worker.new.out) (worker_lines x) (Err c.in_err-write_worker.field-0.0))
    (worker_at pushes refused w c.index-refused-worker.result c.requires c.loop-worker-test.true c.index-refused-worker.is) c.in_err-write_worker.ensures.writes)

pub loop-worker-preserved : goal.loop-worker-preserved
loop-worker-preserved g c =
    let pushes = c.args.pushes.now in
    let refused = c.args.refused.now in
    let w = c.loop-worker.worker in (
      writes_item worker_lines (workers_of pushes refused) w no_worker tt
          (omega (arith, c.loop-worker-test.true, length-workers pushes refused c.requires)) c.loop-worker.invariant.0
          (subst (λ (x : ℕ × (ℕ × List ℕ)). Writes {T = Unit {0}} {E = Failed} (g.T.Sink.holds c.loop-worker.out) (g.T.Sink.holds c.write_worker.new.out) (worker_lines x) (Ok c.in_ok-write_worker.field-0))
          (worker_at pushes refused w c.index-refused-worker.result c.requires c.loop-worker-test.true c.index-refused-worker.is) c.in_ok-write_worker.ensures.writes),
      omega (arith, c.in_ok-write_worker.ensures.cause.later),
    )

pub returns-clause-writes : goal.returns-clause-writes
returns-clause-writes g c =
    let pushes = c.args.pushes.now in
    let refused = c.args.refused.now in
    writes_items worker_lines (workers_of pushes refused) c.loop-worker.worker
    (omega (arith, c.loop-worker-test.false, length-workers pushes refused c.requires)) (omega (arith, length-workers pushes refused c.requires)) c.loop-worker.invariant.0
