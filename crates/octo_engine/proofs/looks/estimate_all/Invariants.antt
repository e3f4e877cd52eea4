use Rattle.std.proofs.Common.{◌≡◌, length, take}
use Rattle.live_state.specs.Copies.{estimates_in}
use Rattle.octo_engine.proofs.looks.estimate_all.Given as goal

abbrev pub invariant-loop-key : goal.invariant-loop-key
invariant-loop-key g l = (l.cells.items ≡ estimates_in g.K.Kind.rules l.state (take l.key-index l.keys.items)) × (l.cells.room ≡ length l.keys.items)
