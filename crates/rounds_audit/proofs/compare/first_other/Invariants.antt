use Rattle.std.proofs.Common.{◌≡◌, ◌≤◌, ◌+◌, ◌-◌, drop, length, take}
use Rattle.rounds_audit.specs.Pieces.{pieces_from}
use Rattle.rounds_audit.proofs.compare.first_other.Given as goal

abbrev pub invariant-pieces : goal.invariant-pieces
invariant-pieces l =
    (take l.number (pieces_from l.separator l.kept l.first) ≡ take l.number (pieces_from l.separator l.lawful l.first))
    × (drop l.number (pieces_from l.separator l.kept l.first) ≡ pieces_from l.separator l.kept l.start)
    × (drop l.number (pieces_from l.separator l.lawful l.first) ≡ pieces_from l.separator l.lawful l.start)
    × (l.first + l.number ≤ l.start) × (l.start ≤ 4000000001)

abbrev pub decreases-pieces : goal.decreases-pieces
decreases-pieces l = length l.kept + 1 - l.start
