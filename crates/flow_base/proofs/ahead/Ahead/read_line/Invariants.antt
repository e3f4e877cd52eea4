use Rattle.std.proofs.Common.{◌-◌, ◌≡◌, ◌≤◌, length, take}
use Rattle.flow_base.specs.Flow.{behind}
use Rattle.flow_base.specs.LinesRead.{left_of, HasNoFeed}
use Rattle.flow_base.proofs.ahead.Ahead.read_line.Given as goal

abbrev pub invariant-loop-len : goal.invariant-loop-len
invariant-loop-len g l =
    (l.self.source.ghost_name ≡ l.fn.self.source.ghost_name)
    × (l.len ≤ 1024)
    × (left_of g.S.Source.left l.fn.self ≡ behind (take l.len l.into) (left_of g.S.Source.left l.self))
    × HasNoFeed (take l.len l.into)
    × (length l.into ≡ 1024)
    × (g.S.Source.faults l.fn.self.source.now ≤ g.S.Source.faults l.self.source.now)

abbrev pub decreases-loop-len : goal.decreases-loop-len
decreases-loop-len g l = 1024 - l.len
