use Rattle.std.proofs.Common.{sym, subst}
use Rattle.words.specs.declared.command.Command.{Command}
use Rattle.words.specs.declared.command.Command.TheVariants.{Load}
use Rattle.octo_run.specs.Refusals.{IsDifference}
use Rattle.octo_run.specs.Runs.{GivenFor, Leaves, Spares, input_of}
use Rattle.octo_run.proofs.Ends.{accepted, at_command, cut, differs, journal_command, no_usage, refused, risen, rose, told, unrefused}
use Rattle.octo_run.proofs.run.octo.Goals as goal

pub returns-in-Ok-clause-usage : goal.returns-in-Ok-clause-usage
returns-in-Ok-clause-usage g c = λ is. absurd (no_usage _ _ _ _ _ _ _ _ _ _ c.carry_out.ensures.ended is)

pub returns-in-Ok-clause-unread : goal.returns-in-Ok-clause-unread
returns-in-Ok-clause-unread g c = λ is. absurd (no_usage _ _ _ _ _ _ _ _ _ _ c.carry_out.ensures.ended is)

pub returns-in-Ok-clause-read : goal.returns-in-Ok-clause-read
returns-in-Ok-clause-read g c = rose _ _ _ _ _ _ _ _ _ _ c.carry_out.ensures.ended

pub returns-in-Ok-clause-write : goal.returns-in-Ok-clause-write
returns-in-Ok-clause-write g c = risen _ _ _ _ _ _ _ _ _ _ c.carry_out.ensures.ended

pub returns-in-Ok-clause-told : goal.returns-in-Ok-clause-told
returns-in-Ok-clause-told g c = told _ _ _ _ _ _ _ _ _ _ c.carry_out.ensures.ended

pub returns-in-Ok-clause-unrefused : goal.returns-in-Ok-clause-unrefused
returns-in-Ok-clause-unrefused g c = λ is command gives.
    let end = at_command command c.in-Ok.command (g.S.Source.left c.args.source.now) (g.S.Source.left c.carry_out.new.source) _ _ _ _ _ _ _
    (sym (c.in-Ok.ensures.once command gives)) c.carry_out.ensures.ended in
    unrefused _ _ _ _ _ _ _ _ _ _ end is

pub returns-in-Ok-clause-cut : goal.returns-in-Ok-clause-cut
returns-in-Ok-clause-cut g c = λ is command gives.
    let end = at_command command c.in-Ok.command (g.S.Source.left c.args.source.now) (g.S.Source.left c.carry_out.new.source) _ _ _ _ _ _ _
    (sym (c.in-Ok.ensures.once command gives)) c.carry_out.ensures.ended in
    cut _ _ _ _ _ _ _ _ _ _ end is

pub returns-in-Ok-clause-bad : goal.returns-in-Ok-clause-bad
returns-in-Ok-clause-bad g c = λ either command gives.
    let end = at_command command c.in-Ok.command (g.S.Source.left c.args.source.now) (g.S.Source.left c.carry_out.new.source) _ _ _ _ _ _ _
    (sym (c.in-Ok.ensures.once command gives)) c.carry_out.ensures.ended in
    refused _ _ _ _ _ _ _ _ _ _ end either

pub returns-in-Ok-clause-accepted : goal.returns-in-Ok-clause-accepted
returns-in-Ok-clause-accepted g c = λ either command gives.
    let end = at_command command c.in-Ok.command (g.S.Source.left c.args.source.now) (g.S.Source.left c.carry_out.new.source) _ _ _ _ _ _ _
    (sym (c.in-Ok.ensures.once command gives)) c.carry_out.ensures.ended in
    accepted _ _ _ _ _ _ _ _ _ _ end either

pub returns-in-Ok-clause-done : goal.returns-in-Ok-clause-done
returns-in-Ok-clause-done g c = λ is command gives.
    let end = at_command command c.in-Ok.command (g.S.Source.left c.args.source.now) (g.S.Source.left c.carry_out.new.source) _ _ _ _ _ _ _
    (sym (c.in-Ok.ensures.once command gives)) c.carry_out.ensures.ended in
    (end.done is).0

pub returns-in-Ok-clause-differs : goal.returns-in-Ok-clause-differs
returns-in-Ok-clause-differs g c = λ is command gives.
    let end = at_command command c.in-Ok.command (g.S.Source.left c.args.source.now) (g.S.Source.left c.carry_out.new.source) _ _ _ _ _ _ _
    (sym (c.in-Ok.ensures.once command gives)) c.carry_out.ensures.ended in
    let d = differs _ _ _ _ _ _ _ _ _ _ end is in
    let audit = journal_command command d.0 in (
      audit,
      d.1,
      d.2,
      d.3,
      subst (λ (k : Command). GivenFor k (g.S.Source.left c.args.source.now) (g.S.Source.left c.carry_out.new.source) (IsDifference (input_of k) d.1 d.2 d.3)) audit d.4,
      d.6,
    )

pub returns-in-Ok-clause-generated : goal.returns-in-Ok-clause-generated
returns-in-Ok-clause-generated g c = λ records start o gives.
    subst (λ (k : Command). Leaves k c.args.source.now c.carry_out.new.source) (c.in-Ok.ensures.once (Load records start o) gives) c.carry_out.ensures.left

pub returns-in-Ok-clause-unfailed : goal.returns-in-Ok-clause-unfailed
returns-in-Ok-clause-unfailed g c = λ records start o gives.
    subst (λ (k : Command). Spares k c.carry_out.result) (c.in-Ok.ensures.once (Load records start o) gives) c.carry_out.ensures.spared
