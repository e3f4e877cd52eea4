use Rattle.std.proofs.Common.{◌≡◌, take}
use Rattle.listed.proofs.Listed.copied.Given as goal

abbrev pub invariant-loop-item : goal.invariant-loop-item
invariant-loop-item g l = (l.list.room ≡ l.self.room) × (l.list.items ≡ take l.item-index l.self.items)
