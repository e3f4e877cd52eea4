use Rattle.std.proofs.Common.{◌∙◌, ap, subst, sym}
use Rattle.hash_rows.specs.Lawful.{IsLawful}
use Rattle.hash_rows.specs.declared.options.Options.{Options}
use Rattle.prefix_stack.proofs.Answering.{answers_of_run, level_answers, level_table_is}
use Rattle.prefix_stack.proofs.Watching.{level_lawful, level_sketch}
use Rattle.prefix_stack.proofs.run.run_level.Goals as goal

pub run_rounds-requires-clause-lawful : goal.run_rounds-requires-clause-lawful
run_rounds-requires-clause-lawful g c κs within =
    subst IsLawful (sym c.in_ok-options.ensures) (level_lawful c.args.options.now c.args.watch.now c.args.bits c.requires.options c.requires.watch)

pub run_rounds-requires-clause-sketch : goal.run_rounds-requires-clause-sketch
run_rounds-requires-clause-sketch g c κs within =
    ap (λ (o : Options). o.sketch) c.in_ok-options.ensures ∙ level_sketch c.args.options.now c.args.watch.now c.args.bits ∙ c.requires.options.sketch

pub returns-clause-table : goal.returns-clause-table
returns-clause-table g c =
    level_table_is c.args.options.now c.args.watch.now c.args.bits c.args.packets.now c.in_ok-options.options c.as_slice.result.now c.in_ok-settled.settled.table c.in_ok-options.ensures
    (c.as_slice.ensures ∙ c.in_ok-packets.ensures.items) c.in_ok-settled.ensures.table

pub returns-clause-answers : goal.returns-clause-answers
returns-clause-answers g c =
    let s = c.in_ok-settled.settled in
    let sketch = ap (λ (o : Options). o.sketch) c.in_ok-options.ensures ∙ level_sketch c.args.options.now c.args.watch.now c.args.bits ∙ c.requires.options.sketch in
    level_answers c.args.options.now c.args.watch.now c.args.bits c.args.packets.now c.in_ok-options.options c.as_slice.result.now s.lists.answers.items c.in_ok-options.ensures
    (c.as_slice.ensures ∙ c.in_ok-packets.ensures.items)
    (answers_of_run c.as_slice.result.now c.in_ok-options.options s.lists.refused.items s.lists.pushes.items s.lists.answers.items s.lists.live.items s.lists.missed sketch
    c.in_ok-settled.ensures.journal c.in_ok-settled.ensures.whole c.in_ok-settled.ensures.bracket)
