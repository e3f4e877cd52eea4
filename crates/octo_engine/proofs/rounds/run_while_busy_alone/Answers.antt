use Rattle.std.proofs.Common.{◌∙◌, sym}
use Rattle.push_history.specs.Journal.{terms_of}
use Rattle.octo_engine.proofs.Rounding.{after_block, busy_less, given_more, part_ran}
use Rattle.octo_engine.proofs.rounds.run_while_busy_alone.Goals as goal

pub busy-smaller : goal.busy-smaller
busy-smaller g c =
    let t = terms_of c.args.packets.now c.args.options.now in
    let was = c.busy.invariant in
    busy_less g.K.Kind.rules g.K.Kind.stands t c.args.options.now c.args.packets.now c.requires.terms was.rounds c.busy.parts c.run_workers_alone.new.parts c.requires.lawful was.workers c.run_workers_alone.ensures.len c.run_workers_alone.ensures.ran
    (sym c.any_busy.ensures ∙ c.busy-test.true)

pub busy-preserved : goal.busy-preserved
busy-preserved g c =
    let t = terms_of c.args.packets.now c.args.options.now in
    let was = c.busy.invariant in
    let given = given_more g.K.Kind.rules g.K.Kind.stands t c.args.options.now c.args.packets.now c.requires.terms was.rounds c.busy.parts c.run_workers_alone.new.parts was.workers c.run_workers_alone.ensures.len c.run_workers_alone.ensures.ran in
    let folded = c.in_ok-fold_block.ensures.folded t was.rounds c.requires.terms.runs given was.state_is was.seen in
    after_block g.K.Kind.rules g.K.Kind.stands t c.args.options.now c.args.packets.now c.requires.terms c.busy.parts c.run_workers_alone.new.parts c.busy.state c.fold_block.new.state c.busy.looks c.fold_block.new.looks was
    c.run_workers_alone.ensures.len c.run_workers_alone.ensures.ran folded

pub fold_block-requires-clause-ends : goal.fold_block-requires-clause-ends
fold_block-requires-clause-ends g c κs within = λ w p at.
    (part_ran g.K.Kind.rules g.K.Kind.stands c.args.options.now c.args.packets.now c.busy.parts c.run_workers_alone.new.parts c.run_workers_alone.ensures.len c.run_workers_alone.ensures.ran w p at).ends

pub fold_block-requires-clause-taken : goal.fold_block-requires-clause-taken
fold_block-requires-clause-taken g c κs within = λ w p at.
    (part_ran g.K.Kind.rules g.K.Kind.stands c.args.options.now c.args.packets.now c.busy.parts c.run_workers_alone.new.parts c.run_workers_alone.ensures.len c.run_workers_alone.ensures.ran w p at).sound.fit.taken
