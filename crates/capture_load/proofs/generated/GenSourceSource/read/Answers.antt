use Rattle.std.proofs.Common.{◌∙◌, sym}
use Rattle.capture_load.proofs.Parts.{nothing_left}
use Rattle.capture_load.proofs.generated.GenSourceSource.read.Goals as goal

pub returns-clause-end : goal.returns-clause-end
returns-clause-end c = λ none. sym c.turn.ensures.left ∙ nothing_left c.turn.new.self (c.give.ensures.none none) (c.turn.ensures.some (c.give.ensures.none none))
