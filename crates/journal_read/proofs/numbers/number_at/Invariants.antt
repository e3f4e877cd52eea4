use Rattle.std.proofs.Common.{length, ◌-◌, ◌≡◌, drop, ◌≤◌}
use Rattle.journal_read.specs.Numbers.{number_at, number_from}
use Rattle.journal_read.proofs.numbers.number_at.Given as goal

abbrev pub invariant-loop-at : goal.invariant-loop-at
invariant-loop-at l = (l.at ≤ length l.text) × (number_from l.number (drop l.at l.text) ≡ number_at l.text)

abbrev pub decreases-loop-at : goal.decreases-loop-at
decreases-loop-at l = length l.text - l.at
