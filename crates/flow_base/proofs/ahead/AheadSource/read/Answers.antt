use Rattle.std.proofs.Common.{◌∙◌, sym, ap, take}
use Rattle.flow_base.specs.Flow.{behind}
use Rattle.flow_base.proofs.FlowLemmas.{behind_passed}
use Rattle.flow_base.proofs.ahead.AheadSource.read.Goals as goal

pub returns-clause-given : goal.returns-clause-given
returns-clause-given g c =
    sym c.fill.ensures.left
    ∙ behind_passed c.copy_front-count.result c.fill.new.self.window (take c.copy_front-count.result c.copy_front-count.new.buf) c.pass.new.self.window
    (g.S.Source.left c.fill.new.self.source.now) (c.copy_front-count.ensures.front ∙ ap (take c.copy_front-count.result) c.window.ensures) c.pass.ensures.window
    ∙ ap (λ (s : _). behind (take c.copy_front-count.result c.copy_front-count.new.buf) (behind c.pass.new.self.window (g.S.Source.left s))) (sym c.pass.ensures.source)
