use Rattle.std.proofs.Common.{subst}
use Rattle.std.specs.Prelude.{Option}
use Rattle.push_history.specs.Journal.{rules_in, updates_by_options}
use Rattle.push_replay.specs.declared.replay.Fault.{Fault}
use Rattle.push_replay.specs.Replays.{IsFirstFault}
use Rattle.octo_text.specs.Content.{content_of}
use Rattle.audit_law.specs.LineNumbers.{refused_line}
use Rattle.audit_law.specs.WorkerTests.{all_refused_tests, given_by, refused_by}
use Rattle.journal_audit.proofs.Refusals.{past_then}
use Rattle.journal_audit.proofs.WorkerCases.{refused_rise}
use Rattle.journal_audit.proofs.workers.refused_failure.Goals as goal

pub returns-in-Some : goal.returns-in-Some
returns-in-Some c = λ packets updates first.
    let j = content_of c.args.journal.now in
    let o = c.args.journal.now.options in
    c.fault_failure.ensures packets
    (subst (λ (fault : Option Fault). IsFirstFault (rules_in o) c.args.worker o.threshold o.lane (updates_by_options packets o c.args.worker) (refused_by j c.args.worker) fault) c.in-Some.is first)

pub returns-in-None : goal.returns-in-None
unfolding all_refused_tests given_by
returns-in-None c = λ packets updates first.
    let j = content_of c.args.journal.now in
    let o = c.args.journal.now.options in
    past_then o c.args.worker (updates_by_options packets o c.args.worker) (refused_by j c.args.worker) (refused_line j c.args.worker)
    (refused_rise c.args.journal.now c.args.worker c.requires.worker) c.args.updates c.past_failure.result updates
    (subst (λ (fault : Option Fault). IsFirstFault (rules_in o) c.args.worker o.threshold o.lane (updates_by_options packets o c.args.worker) (refused_by j c.args.worker) fault) c.in-None.is first) c.past_failure.ensures
