use Rattle.std.proofs.Common.{◌∙◌, ap, sym, length}
use Rattle.lag_core.proofs.Calls.{ask_done, ask_long}
use Rattle.lag_core.proofs.lag.Lag.ask.Goals as goal

pub copy_counts_into-requires : goal.copy_counts_into-requires
copy_counts_into-requires g c =
    ask_long g.K.Kind.stands g.K.Kind.rules _ _ c.self.view_is _ c.self.invariant.1 c.args.reader c.requires c.index_mut.result.now c.index_mut.ensures.value ∙ ap length (sym c.as_slice.ensures)

pub invariant_of-self : goal.invariant_of-self
invariant_of-self g c =
    (ask_done g.K.Kind.stands g.K.Kind.rules _ _ c.self.view_is _ c.self.invariant.1 c.args.reader c.requires c.copy_counts_into.new.into (c.copy_counts_into.ensures.items ∙ c.as_slice.ensures)).0

pub returns : goal.returns
returns g c =
    (ask_done g.K.Kind.stands g.K.Kind.rules _ _ c.self.view_is _ c.self.invariant.1 c.args.reader c.requires c.copy_counts_into.new.into (c.copy_counts_into.ensures.items ∙ c.as_slice.ensures)).1
