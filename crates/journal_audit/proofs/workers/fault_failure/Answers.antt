use Rattle.std.proofs.Common.{◌∙◌, ℕ, sym, ap, subst}
use Rattle.std.specs.Prelude.{Option, Some}
use Rattle.push_history.specs.Journal.{rules_in, updates_by_options}
use Rattle.push_replay.specs.declared.replay.Fault.{Fault}
use Rattle.push_replay.specs.Replays.{IsFirstFault}
use Rattle.octo_text.specs.Content.{content_of}
use Rattle.audit_law.specs.declared.failure.Failure.{Failure}
use Rattle.audit_law.specs.declared.failure.Value.TheVariants.{Number}
use Rattle.audit_law.specs.LineNumbers.{refused_line}
use Rattle.audit_law.specs.WorkerTests.{all_refused_tests, given_by, refused_by}
use Rattle.journal_audit.proofs.Refusals.{near_fails, few_fails}
use Rattle.journal_audit.proofs.WorkerCases.{refused_rise}
use Rattle.journal_audit.proofs.workers.fault_failure.Goals as goal

pub returns-in-TooNear : goal.returns-in-TooNear
unfolding all_refused_tests given_by
returns-in-TooNear c = λ packets first.
    let j = content_of c.args.journal.now in
    let o = c.args.journal.now.options in
    ap {B = Option Failure} (λ (line : ℕ). Some (record { line = line; kept = Number c.in-TooNear.distance; lawful = Number o.threshold })) c.line_of_refused.ensures
    ∙ sym (near_fails o c.args.worker (updates_by_options packets o c.args.worker) (refused_by j c.args.worker) (refused_line j c.args.worker)
    (refused_rise c.args.journal.now c.args.worker c.requires.worker) c.in-TooNear.update c.in-TooNear.distance
    (subst (λ (fault : Option Fault). IsFirstFault (rules_in o) c.args.worker o.threshold o.lane (updates_by_options packets o c.args.worker) (refused_by j c.args.worker) fault) (ap {B = Option Fault} (λ (fault : Fault). Some fault) c.in-TooNear.is) first))

pub returns-in-TooFew : goal.returns-in-TooFew
unfolding all_refused_tests given_by
returns-in-TooFew c = λ packets first.
    let j = content_of c.args.journal.now in
    let o = c.args.journal.now.options in
    ap {B = Option Failure} (λ (line : ℕ). Some (record { line = line; kept = Number c.in-TooFew.messages; lawful = Number c.from.result })) c.line_of_refused-in-TooFew.ensures
    ∙ ap {B = Option Failure} (λ (lane : ℕ). Some (record { line = refused_line j c.args.worker c.in-TooFew.update; kept = Number c.in-TooFew.messages; lawful = Number lane })) c.from.ensures
    ∙ sym (few_fails o c.args.worker (updates_by_options packets o c.args.worker) (refused_by j c.args.worker) (refused_line j c.args.worker)
    (refused_rise c.args.journal.now c.args.worker c.requires.worker) c.in-TooFew.update c.in-TooFew.messages
    (subst (λ (fault : Option Fault). IsFirstFault (rules_in o) c.args.worker o.threshold o.lane (updates_by_options packets o c.args.worker) (refused_by j c.args.worker) fault) (ap {B = Option Fault} (λ (fault : Fault). Some fault) c.in-TooFew.is) first))
