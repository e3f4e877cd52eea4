use Rattle.std.proofs.Common.{◌∙◌, ap, sym, pos, replicate}
use Rattle.hash_rows.specs.declared.shape.Shape.{Shape}
use Rattle.hash_rows.specs.Shapes.{size_of}
use Rattle.answer_audit.proofs.Reaching.{reached_none}
use Rattle.answer_audit.proofs.reached.Reached.new.Goals as goal

pub returns-clause-none : goal.returns-clause-none
returns-clause-none g c = λ messages.
    reached_none g.K.Kind.rules messages c.in_ok-front.front.items c.in_ok-table.table c.args.workers c.in_ok-front.ensures.items
    (c.in_ok-table.ensures.zeros ∙ ap (λ (s : Shape). replicate (size_of s) (pos 0)) (sym c.in_ok-table.ensures.shape))
