use Rattle.answer_audit.proofs.Placed.{unordered_is}
use Rattle.answer_audit.proofs.orders.unordered.Goals as goal

pub returns : goal.returns
returns c = unordered_is c.args.line c.args.front.now c.args.other.now c.first_unlike-place.result c.number_at.result c.number_at-2.result
    c.first_unlike-place.ensures c.number_at.ensures c.number_at-2.ensures
