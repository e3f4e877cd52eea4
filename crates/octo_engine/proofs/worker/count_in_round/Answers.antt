use Rattle.std.proofs.Common.{◌∙◌, sym}
use Rattle.octo_engine.proofs.Stepping.{round_is}
use Rattle.octo_engine.proofs.Places.{has_len}
use Rattle.octo_engine.proofs.worker.count_in_round.Goals as goal

pub returns-clause-keeps : goal.returns-clause-keeps
returns-clause-keeps g c = λ t w x has keeps.
    let all = has_len g.K.Kind.rules t c.args.options.now.shape c.args.packets.now w c.args.share.now has in
    round_is g.K.Kind.stands t w c.args.options.now c.args.counter.now c.count_updates.new.counter x c.due_in_round-count.result keeps (all ∙ sym c.requires.fit.updates) c.due_in_round-count.ensures
    (c.count_updates.ensures.keeps t w x has keeps)
