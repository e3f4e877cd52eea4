use Rattle.std.proofs.Common.{ℕ, List, ◌++◌, map}
use Rattle.std.specs.List.{range_with_len}
use Rattle.prefixes.specs.declared.network.Prefix.{Prefix}
use Rattle.prefix_stack.specs.Descent.{IsLevelOf, child_of}
use Rattle.prefix_stack.proofs.level.consider_children.Given as goal

abbrev pub invariant-loop-number : goal.invariant-loop-number
invariant-loop-number l = (limit : ℕ) (cs : List Prefix) → IsLevelOf l.table limit l.fn.least cs l.initial.reached
    → IsLevelOf l.table limit l.fn.least (cs ++ map (child_of l.parent) (range_with_len 0 l.number)) l.reached
