use Rattle.std.proofs.Common.{◌≤◌, take, map, Ok}
use Rattle.std.specs.List.{flat_map, enumerate_from, zip}
use Rattle.flow_base.specs.Writing.{Writes}
use Rattle.flow_base.specs.declared.flow.Failed.{Failed}
use Rattle.hash_rows.specs.Marks.{marked}
use Rattle.octo_text.specs.JournalText.{worker_lines}
use Rattle.octo_text.proofs.workers.write_workers.Given as goal

abbrev pub invariant-loop-worker : goal.invariant-loop-worker
invariant-loop-worker g l =
    Writes {T = Unit {0}} {E = Failed} (g.T.Sink.holds l.initial.out) (g.T.Sink.holds l.out) (flat_map worker_lines (take l.worker (enumerate_from 0 (zip l.pushes (map marked l.refused))))) (Ok tt)
    × (g.T.Sink.faults l.initial.out ≤ g.T.Sink.faults l.out)
