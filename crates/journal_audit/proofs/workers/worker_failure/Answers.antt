use Rattle.push_history.specs.LagRun.{is_wait}
use Rattle.std.proofs.Common.{rules, ◌≡◌, ◌≢◌, ◌∙◌, ℕ, get_or, length, if◌then◌else◌, sym, ap}
use Rattle.std.specs.Prelude.{Option, Some}
use Rattle.std.proofs.lemmas.Option.{get_or_from_slice_get}
use Rattle.octo_text.specs.Content.{content_of}
use Rattle.audit_law.specs.declared.failure.Failure.{Failure}
use Rattle.audit_law.specs.declared.failure.Value.TheVariants.{Number}
use Rattle.audit_law.specs.LineNumbers.{worker_line}
use Rattle.journal_audit.proofs.WorkerCases.{pushes_is, pushes_fail, waits_fail, then_refused, refused_count}
use Rattle.journal_audit.proofs.workers.worker_failure.Goals as goal

pub returns-then-pushes-messages : goal.returns-then-pushes-messages
returns-then-pushes-messages c = λ packets sent updates first.
    let j = content_of c.args.journal.now in
    let o = c.args.journal.now.options in
    let kept : c.get-pushes.result.now ≡ get_or j.pushes c.args.worker 0 =
    sym (pushes_is c.args.journal.now c.args.worker ∙ get_or_from_slice_get c.args.journal.now.lists.pushes.items c.args.worker c.get-pushes.result.now 0 c.get-pushes.ensures) in
    let differ : c.get-pushes.result.now ≢ length c.args.sent.now = search rules in
    ap {B = Option Failure} (λ (line : ℕ). Some (record { line = line; kept = Number c.get-pushes.result.now; lawful = Number (length c.args.sent.now) })) c.line_of_worker.ensures.line
    ∙ sym (pushes_fail packets o j c.args.worker c.get-pushes.result.now (length c.args.sent.now) kept (ap length sent) differ)

pub returns-then-waiting-ne0 : goal.returns-then-waiting-ne0
returns-then-waiting-ne0 c = λ packets sent updates first.
    let j = content_of c.args.journal.now in
    let o = c.args.journal.now.options in
    let kept : c.get-pushes.result.now ≡ get_or j.pushes c.args.worker 0 =
    sym (pushes_is c.args.journal.now c.args.worker ∙ get_or_from_slice_get c.args.journal.now.lists.pushes.items c.args.worker c.get-pushes.result.now 0 c.get-pushes.ensures) in
    let same : c.get-pushes.result.now ≡ length c.args.sent.now = search rules in
    let waiting = c.refused_in_wait-waiting.ensures
    ∙ ap (λ (n : ℕ). if is_wait o.full then n else 0) (c.count-refused.ensures ∙ sym (refused_count c.args.journal.now c.args.worker c.get.result.now c.get.ensures)) in
    let some : c.refused_in_wait-waiting.result ≢ 0 = search rules in
    ap {B = Option Failure} (λ (line : ℕ). Some (record { line = line; kept = Number c.from.result; lawful = Number 0 })) c.line_of_worker-then-waiting-ne0.ensures.line
    ∙ ap {B = Option Failure} (λ (n : ℕ). Some (record { line = worker_line j c.args.worker; kept = Number n; lawful = Number 0 })) c.from.ensures
    ∙ sym (waits_fail packets o j c.args.worker c.refused_in_wait-waiting.result (sym kept ∙ same ∙ ap length sent) waiting some)

pub returns : goal.returns
returns c = λ packets sent updates first.
    let j = content_of c.args.journal.now in
    let o = c.args.journal.now.options in
    let kept : c.get-pushes.result.now ≡ get_or j.pushes c.args.worker 0 =
    sym (pushes_is c.args.journal.now c.args.worker ∙ get_or_from_slice_get c.args.journal.now.lists.pushes.items c.args.worker c.get-pushes.result.now 0 c.get-pushes.ensures) in
    let same : c.get-pushes.result.now ≡ length c.args.sent.now = search rules in
    let waiting = c.refused_in_wait-waiting.ensures
    ∙ ap (λ (n : ℕ). if is_wait o.full then n else 0) (c.count-refused.ensures ∙ sym (refused_count c.args.journal.now c.args.worker c.get.result.now c.get.ensures)) in
    let none : c.refused_in_wait-waiting.result ≡ 0 = search rules in
    c.refused_failure.ensures packets updates first
    ∙ sym (then_refused packets o j c.args.worker c.refused_in_wait-waiting.result (sym kept ∙ same ∙ ap length sent) waiting none)
