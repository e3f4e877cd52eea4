use Rattle.std.proofs.Common.{◌≡◌, ◌++◌, [], ap, sym, subst, ◌∙◌}
use Rattle.aggregate.specs.Takens.{AreTaken, takens}
use Rattle.aggregate.proofs.Grown.{none_taken}
use Rattle.aggregate.proofs.aggregator.Aggregator.new.Goals as goal

pub returns-clause-taken : goal.returns-clause-taken
returns-clause-taken g c =
    let w = c.args.writer in
    let empty : w.published ++ w.pending ++ [] ≡ [] = ap (λ l. l ++ w.pending ++ []) c.requires.writer.0 ∙ ap (λ l. l ++ []) c.requires.writer.1 in
    subst (AreTaken g.K.Kind.rules w.layout (takens c.args.outs.items)) (sym empty) (none_taken g.K.Kind.rules w.layout c.args.outs.items c.requires.outs)
