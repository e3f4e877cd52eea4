use Rattle.std.proofs.Common.{◌≡◌, ◌≤◌, ◌-◌}
use Rattle.flow_base.specs.LinesRead.{left_of}
use Rattle.journal_whole.specs.Drafted.{draft_of, HasRooms, IsProper}
use Rattle.journal_whole.proofs.Weights.{Went, weight}
use Rattle.journal_whole.proofs.lists.read_lists.Given as goal

abbrev pub invariant-lines : goal.invariant-lines
invariant-lines g l =
    (l.source.source.ghost_name ≡ l.fn.source.source.ghost_name)
    × HasRooms l.reading
    × IsProper (draft_of l.reading)
    × Went (draft_of l.fn.reading) (draft_of l.reading) (left_of g.S.Source.left l.fn.source) (left_of g.S.Source.left l.source) l.line
    × (g.S.Source.faults l.fn.source.source.now ≤ g.S.Source.faults l.source.source.now)

abbrev pub decreases-lines : goal.decreases-lines
decreases-lines g l = 268435456 - weight (draft_of l.reading)
