use Rattle.std.proofs.Common.{◌≡◌, ◌≤◌, ◌+◌, ◌*◌, map, take}
use Rattle.std.specs.Prelude.{sum}
use Rattle.hash_rows.specs.Marks.{marked}
use Rattle.audit_law.specs.LineNumbers.{lines_of_worker}
use Rattle.journal_audit.proofs.lines.line_behind.Given as goal

abbrev pub invariant-loop-bits : goal.invariant-loop-bits
invariant-loop-bits l = record {
  line : l.line ≡ 3 + l.watched + sum (map lines_of_worker (map marked (take l.bits-index l.refused)));
  most : l.line ≤ 19 + 134217729 * l.bits-index;
}
