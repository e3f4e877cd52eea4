use Rattle.std.proofs.Common.{◌∙◌}
use Rattle.rounds_audit.proofs.Differing.{take_most}
use Rattle.rounds_audit.proofs.word.Word.front_of.Goals as goal

pub returns : goal.returns
returns c = c.new.ensures ∙ take_most c.min.result 99 c.args.text.now c.min.ensures
