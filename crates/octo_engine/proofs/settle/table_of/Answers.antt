use Rattle.std.proofs.Common.{sym, subst, slice_index_or}
use Rattle.hash_rows.specs.Tables.{TableView}
use Rattle.push_history.specs.Journal.{terms_of}
use Rattle.push_rule.specs.Residues.{IsWorkerFor}
use Rattle.octo_engine.proofs.Beginning.{are_terms, rules_are}
use Rattle.octo_engine.proofs.Outcomes.{each_for, table_is}
use Rattle.octo_engine.proofs.settle.table_of.Goals as goal

pub join_residues-requires-clause-each : goal.join_residues-requires-clause-each
join_residues-requires-clause-each g c κs within =
    let kind = g.met.K.Kind g.world.𝓛 g.world.𝓜 g.world.𝓡 ((λ s x. x), (λ x. x), (λ x. x), (λ x. x)) in
    let o = c.args.options.now in
    let packets = c.args.packets.now in
    let rules_is = rules_are g.K.Kind.rules o g.K.Kind.sketch kind.is_sketch c.requires.sketch in
    let terms = are_terms g.K.Kind.rules packets o rules_is c.requires.lawful c.requires.amounts c.requires.few in
    λ w p lt. subst (λ (t : TableView). IsWorkerFor g.K.Kind.stands g.K.Kind.rules t.shape (slice_index_or c.args.parts.now w p).counter.sketch) (sym c.into_table-table.ensures)
    (each_for g.K.Kind.stands g.K.Kind.rules (terms_of packets o) o packets terms c.requires.end.0 c.args.parts.now c.args.state c.requires.end.1 w p lt)

pub returns : goal.returns
returns g c =
    let kind = g.met.K.Kind g.world.𝓛 g.world.𝓜 g.world.𝓡 ((λ s x. x), (λ x. x), (λ x. x), (λ x. x)) in
    let o = c.args.options.now in
    let packets = c.args.packets.now in
    let rules_is = rules_are g.K.Kind.rules o g.K.Kind.sketch kind.is_sketch c.requires.sketch in
    let terms = are_terms g.K.Kind.rules packets o rules_is c.requires.lawful c.requires.amounts c.requires.few in
    table_is g.K.Kind.stands g.K.Kind.rules packets o rules_is c.requires.lawful c.requires.amounts terms c.requires.end.0 c.args.parts.now c.args.state c.into_table-table.result c.join_residues.new.table
    c.requires.end.1 c.into_table-table.ensures c.join_residues.ensures.shape c.join_residues.ensures.size c.join_residues.ensures.cells
