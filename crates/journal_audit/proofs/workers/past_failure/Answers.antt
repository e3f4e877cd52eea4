use Rattle.std.proofs.Common.{rules, ◌<◌, ◌≤◌, ◌∙◌, ℕ, length, ap, ap₂, arith}
use Rattle.octo_text.specs.Content.{content_of}
use Rattle.audit_law.specs.LineNumbers.{refused_line}
use Rattle.audit_law.specs.declared.failure.Failure.{Failure}
use Rattle.audit_law.specs.declared.failure.Value.TheVariants.{Number}
use Rattle.journal_audit.proofs.WorkerCases.{past_end, past_none, past_at}
use Rattle.journal_audit.proofs.workers.past_failure.Goals as goal

pub returns-then-updates-len : goal.returns-then-updates-len
returns-then-updates-len c =
    past_end c.args.journal.now c.args.worker c.get-refused.result.now c.get-refused.ensures c.args.updates (omega (arith, c.len.ensures))

pub returns-then-place-len : goal.returns-then-place-len
returns-then-place-len c =
    let next = c.next-place.ensures in
    let place = c.next-place.result in
    let within : place < length c.get-refused.result.now = search rules in
    let made : ℕ → ℕ → ℕ → Failure = λ (line kept lawful : ℕ). record { line = line; kept = Number kept; lawful = Number lawful } in (
      place,
      past_at c.args.journal.now c.args.worker c.get-refused.result.now c.get-refused.ensures c.args.updates place next.low (next.found within) next.before,
      ap (λ (line : ℕ). made line c.from.result c.from-then-place-len.result) c.line_of_refused.ensures
          ∙ ap₂ (made (refused_line (content_of c.args.journal.now) c.args.worker place)) c.from.ensures c.from-then-place-len.ensures,
    )

pub returns-else-place-len : goal.returns-else-place-len
returns-else-place-len c =
    let next = c.next-place.ensures in
    let past : length c.get-refused.result.now ≤ c.next-place.result = search rules in
    past_none c.args.journal.now c.args.worker c.get-refused.result.now c.get-refused.ensures c.args.updates c.next-place.result past next.before
