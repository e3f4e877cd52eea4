use Rattle.std.proofs.Common.{rules, ◌≡◌, ◌∙◌, List, arith, map, subst}
use Rattle.std.specs.List.{range_with_len}
use Rattle.hash_rows.specs.Tables.{TableView}
use Rattle.octo_engine.proofs.Beginning.{few_amounts}
use Rattle.prefix_stack.specs.Descent.{IsFound}
use Rattle.prefix_stack.proofs.Answering.{are_level_tables, rows_more, table_at, tables_len, tables_more, tables_never_below}
use Rattle.prefix_stack.proofs.Descending.{misses_none}
use Rattle.prefix_stack.proofs.run.run_levels.Goals as goal

pub push-requires : goal.push-requires
push-requires g c =
    let before = c.loop-place.invariant in
    omega (arith, tables_len (table_at c.args.options.now.shape c.args.packets.now) c.loop-place.place c.loop-place.tables.items before.tables, before.tables_room, c.loop-place-test.true)

pub loop-place-preserved : goal.loop-place-preserved
loop-place-preserved g c =
    let before = c.loop-place.invariant in
    record {
      tables = tables_more (table_at c.args.options.now.shape c.args.packets.now) c.loop-place.place c.loop-place.tables.items c.push.new.self.items c.in_ok-table.table before.tables c.push.ensures.items c.in_ok-table.ensures.table;
      tables_room = c.push.ensures.room ∙ before.tables_room;
      answers = rows_more c.args.packets.now c.args.options.now c.args.watch.now c.loop-place.place c.loop-place.answers.items c.push-in-loop-place.new.self.items c.in_ok-table.row before.answers c.push-in-loop-place.ensures.items c.in_ok-table.ensures.answers;
      answers_room = c.push-in-loop-place.ensures.room ∙ before.answers_room;
    }

pub returns-clause-tables : goal.returns-clause-tables
returns-clause-tables g c =
    let all : c.loop-place.place ≡ 4 = omega (arith, c.loop-place-test.false, c.loop-place.auto.place-end) in
    are_level_tables c.args.options.now.shape c.args.packets.now c.loop-place.tables.items
    (subst (λ k. c.loop-place.tables.items ≡ map (table_at c.args.options.now.shape c.args.packets.now) (range_with_len 0 k)) all c.loop-place.invariant.tables)

pub returns-clause-never_below : goal.returns-clause-never_below
returns-clause-never_below g c =
    let all : c.loop-place.place ≡ 4 = omega (arith, c.loop-place-test.false, c.loop-place.auto.place-end) in
    tables_never_below c.args.options.now.shape c.requires.options.lawful.shape c.args.packets.now (few_amounts c.args.packets.now c.amounts_fit.ensures c.requires.few) c.loop-place.tables.items
    (subst (λ k. c.loop-place.tables.items ≡ map (table_at c.args.options.now.shape c.args.packets.now) (range_with_len 0 k)) all c.loop-place.invariant.tables)

pub returns-clause-complete : goal.returns-clause-complete
returns-clause-complete g c =
    let o = c.args.options.now in
    let found : IsFound c.loop-place.tables.items o.heavy o.least c.in_ok-found.found.hits.items c.in_ok-found.found.more = search rules in
    misses_none o.shape c.requires.options.lawful.shape c.args.packets.now (few_amounts c.args.packets.now c.amounts_fit.ensures c.requires.few) o.heavy o.least c.in_ok-found.found.hits.items c.in_ok-found.found.more
    (subst (λ (ts : List TableView). IsFound ts o.heavy o.least c.in_ok-found.found.hits.items c.in_ok-found.found.more) (returns-clause-tables g c) found)
