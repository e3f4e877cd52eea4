use Rattle.std.proofs.Common.{take}
use Rattle.prefix_stack.specs.Descent.{IsLevelOf, candidates_of, prefixes_of}
use Rattle.prefix_stack.proofs.level.level.Given as goal

abbrev pub invariant-loop-parent : goal.invariant-loop-parent
invariant-loop-parent l = IsLevelOf l.table l.limit l.fn.least (candidates_of (prefixes_of (take l.parent-index l.parents))) l.reached
