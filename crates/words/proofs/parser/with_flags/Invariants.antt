use Rattle.std.proofs.Common.{◌≡◌, ◌++◌, List, map, take}
use Rattle.clap.specs.Words.{app_of}
use Rattle.words.specs.Grammar.{Name}
use Rattle.words.specs.Rules.{app_of_names, flag_name}
use Rattle.words.proofs.parser.with_flags.Given as goal

abbrev pub invariant-loop-name : goal.invariant-loop-name
invariant-loop-name l = (before : List Name) → app_of l.fn.begun ≡ app_of_names before → app_of l.parser ≡ app_of_names (before ++ map flag_name (take l.name-index l.names))
