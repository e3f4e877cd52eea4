use Rattle.std.proofs.Common.{◌<◌, length, arith}
use Rattle.words.specs.Rules.{option_name}
use Rattle.words.proofs.Building.{more}
use Rattle.words.proofs.parser.with_options.Goals as goal

pub loop-name-preserved : goal.loop-name-preserved
loop-name-preserved c = λ before is.
    let lt : c.loop-name.name-index < length c.args.names.now = omega arith in
    more option_name before c.args.names.now c.loop-name.name-index _ _ _ _ lt (c.loop-name.invariant before is) c.option.ensures.rule (c.in_ok-parser.ensures.shape c.option.ensures.local)
