use Rattle.std.proofs.Common.{◌-◌, ◌≡◌, ◌≤◌, length, take, min}
use Rattle.flow_base.specs.LinesRead.{HasNoFeed}
use Rattle.flow_base.proofs.lines.cut_line.Given as goal

abbrev pub invariant-loop-at : goal.invariant-loop-at
invariant-loop-at l = (l.at ≤ l.most) × (l.most ≡ min l.room (length l.window)) × HasNoFeed (take l.at l.window)

abbrev pub decreases-loop-at : goal.decreases-loop-at
decreases-loop-at l = l.most - l.at
