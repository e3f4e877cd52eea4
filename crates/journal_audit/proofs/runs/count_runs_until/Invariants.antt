use Rattle.std.proofs.Common.{◌-◌, ◌+◌, ◌≡◌, ◌<◌, ◌≤◌, true, false, length, get_or}
use Rattle.std.specs.Prelude.{count_by, nat_le}
use Rattle.hash_rows.specs.Marks.{marked}
use Rattle.octo_text.specs.Runs.{runs_of}
use Rattle.octo_text.proofs.RunLemmas.{marked_behind}
use Rattle.journal_audit.proofs.runs.count_runs_until.Given as goal

-- some runs are counted, and the others begin at the set bit `start`
abbrev pub invariant-loop-start : goal.invariant-loop-start
invariant-loop-start l = record {
  count : l.count + count_by (λ run. nat_le run.0 l.last) (runs_of (marked_behind l.start l.bits)) ≡ count_by (λ run. nat_le run.0 l.last) (runs_of (marked l.bits));
  few : l.count ≤ l.start;
  len : l.len ≡ length l.bits;
  within : l.start ≤ length l.bits;
  set : l.start < length l.bits → get_or l.bits l.start false ≡ true;
}

abbrev pub decreases-loop-start : goal.decreases-loop-start
decreases-loop-start l = l.len - l.start
