use Rattle.std.proofs.Common.{sym, subst}
use Rattle.octo_run.specs.Refusals.{OfCapture}
use Rattle.octo_run.specs.Runs.{Spares}
use Rattle.octo_run.proofs.Ends.{at_command, load_end, no_rise, rose}
use Rattle.words.specs.declared.command.Command.{Command}
use Rattle.words.specs.declared.command.Command.TheVariants.{Run, Load, Prefix, Epochs, Audit}
use Rattle.octo_run.proofs.run.carry_out.Goals as goal

pub returns-in-Run-clause-ended : goal.returns-in-Run-clause-ended
returns-in-Run-clause-ended g c =
    at_command c.args.command (Run c.in-Run.options) (g.S.Source.left c.args.source.now) (g.S.Source.left c.run_in_mode.new.source) _ _ _ _ _ _ _ c.in-Run.is c.run_in_mode.ensures.ended

pub returns-in-Load-clause-ended : goal.returns-in-Load-clause-ended
returns-in-Load-clause-ended g c =
    let run = c.run_in_mode-in-Load in
    at_command c.args.command (Load c.in-Load.records c.in-Load.start c.in-Load.options) (g.S.Source.left c.args.source.now) (g.S.Source.left c.args.source.now) _ _ _ _ _ _ _ c.in-Load.is
    (load_end c.in-Load.records c.in-Load.start _ _ run.ensures.front.0 c.new-generated.ensures run.ensures.front.1 _ _ _ _ _ _ _ _ run.ensures.ended)

pub returns-in-Load-clause-spared : goal.returns-in-Load-clause-spared
returns-in-Load-clause-spared g c =
    subst (λ (k : Command). Spares k c.run_in_mode-in-Load.result) (sym c.in-Load.is) (λ is. no_rise (rose OfCapture _ _ _ _ _ _ _ _ _ c.run_in_mode-in-Load.ensures.ended is))

pub returns-in-Prefix-clause-ended : goal.returns-in-Prefix-clause-ended
returns-in-Prefix-clause-ended g c =
    at_command c.args.command (Prefix c.in-Prefix.options c.in-Prefix.watch) (g.S.Source.left c.args.source.now) (g.S.Source.left c.octo_prefix.new.source) _ _ _ _ _ _ _ c.in-Prefix.is
    (rw c.as_slice.ensures at c.octo_prefix.ensures.ended)

pub returns-in-Epochs-clause-ended : goal.returns-in-Epochs-clause-ended
returns-in-Epochs-clause-ended g c =
    let k = c.in-Epochs in
    at_command c.args.command (Epochs k.packets k.change k.options) (g.S.Source.left c.args.source.now) (g.S.Source.left c.epochs_in_mode.new.source) _ _ _ _ _ _ _ k.is
    c.epochs_in_mode.ensures.ended

pub returns-in-Audit-clause-ended : goal.returns-in-Audit-clause-ended
returns-in-Audit-clause-ended g c =
    at_command c.args.command Audit (g.S.Source.left c.args.source.now) (g.S.Source.left c.octo_audit.new.source) _ _ _ _ _ _ _ c.in-Audit.is c.octo_audit.ensures.ended
