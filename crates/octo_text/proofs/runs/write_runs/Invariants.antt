use Rattle.std.proofs.Common.{◌-◌, ◌≡◌, ◌<◌, ◌≤◌, ◌++◌, ℕ, List, true, false, length, get_or, Ok}
use Rattle.std.specs.List.{flat_map}
use Rattle.flow_base.specs.Writing.{Writes}
use Rattle.flow_base.specs.declared.flow.Failed.{Failed}
use Rattle.hash_rows.specs.Marks.{marked}
use Rattle.octo_text.specs.JournalText.{run_line}
use Rattle.octo_text.specs.Runs.{runs_of}
use Rattle.octo_text.proofs.RunLemmas.{marked_behind}
use Rattle.octo_text.proofs.runs.write_runs.Given as goal

-- some runs are written, and the others begin at the set bit `start`
abbrev pub invariant-loop-start : goal.invariant-loop-start
invariant-loop-start g l =
    (done : List (ℕ × ℕ))
    × (runs_of (marked l.bits) ≡ done ++ runs_of (marked_behind l.start l.bits))
    × Writes {T = Unit {0}} {E = Failed} (g.T.Sink.holds l.initial.out) (g.T.Sink.holds l.out) (flat_map (run_line l.worker) done) (Ok tt)
    × (l.len ≡ length l.bits)
    × (l.start ≤ length l.bits)
    × (l.start < length l.bits → get_or l.bits l.start false ≡ true)
    × (g.T.Sink.faults l.initial.out ≤ g.T.Sink.faults l.out)

abbrev pub decreases-loop-start : goal.decreases-loop-start
decreases-loop-start g l = l.len - l.start
