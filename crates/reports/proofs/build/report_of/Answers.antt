use Rattle.std.proofs.Common.{rules}
use Rattle.reports.proofs.OfAll.{report_is}
use Rattle.reports.proofs.build.report_of.Goals as goal

pub returns-clause-tells : goal.returns-clause-tells
returns-clause-tells g c = search rules

pub returns-clause-sequential : goal.returns-clause-sequential
returns-clause-sequential g c = λ was.
    let law = (g.met.K.Kind g.world.𝓛 g.world.𝓜 g.world.𝓡 ((λ s x. x), (λ x. x), (λ x. x), (λ x. x))).is_sketch in
    report_is g.K.Kind.rules g.K.Kind.sketch c.args.table.now _ _ _ _ c.args.options.now _ law c.requires.sketch was (returns-clause-tells g c)
