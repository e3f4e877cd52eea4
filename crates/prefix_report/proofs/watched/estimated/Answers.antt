use Rattle.std.proofs.Common.{rules, FitsSigned, w64}
use Rattle.std.proofs.lemmas.Int.{to_z-of_z}
use Rattle.prefix_report.proofs.Tables.{estimated_is}
use Rattle.prefix_report.proofs.watched.estimated.Goals as goal

pub returns-clause-estimate : goal.returns-clause-estimate
returns-clause-estimate c shape packets are =
    let fits : FitsSigned w64 c.estimate.result = search rules in
    estimated_is shape packets c.args.tables.now c.args.prefix.now c.index-tables-prefix.result c.prefix_key.result c.estimate.result _
    c.requires.network.length are c.index-tables-prefix.is c.prefix_key.ensures c.estimate.ensures (to_z-of_z w64 c.estimate.result fits)
