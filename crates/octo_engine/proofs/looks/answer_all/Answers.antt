use Rattle.std.proofs.Common.{◌∙◌, refl}
use Rattle.octo_engine.proofs.Answering.{like_none, like_more}
use Rattle.octo_engine.proofs.looks.answer_all.Goals as goal

pub asks-init : goal.asks-init
asks-init c = (refl, like_none c.args.reader c.args.looks.now.items c.args.answers.now.items)

pub asks-preserved : goal.asks-preserved
asks-preserved c = (
  c.push.ensures.room ∙ c.asks.invariant.0,
  like_more c.args.reader c.asks.number c.args.looks.now.items c.args.answers.now.items c.asks.answers.items c.push.new.self.items _ c.get.result.now c.asks.invariant.1 c.push.ensures.items c.get.ensures c.in_ok-answer.ensures,
)
