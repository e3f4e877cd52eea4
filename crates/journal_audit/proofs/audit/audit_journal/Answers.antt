use Rattle.std.proofs.Common.{sym, subst}
use Rattle.std.specs.Prelude.{IfOk}
use Rattle.hash_rows.specs.declared.options.Mode.{Mode}
use Rattle.octo_text.specs.Content.{content_of}
use Rattle.rounds_audit.specs.declared.verdict.Verdict.{Verdict}
use Rattle.journal_audit.specs.Verdicts.{IsVerdictIn}
use Rattle.journal_audit.proofs.audit.audit_journal.Goals as goal

pub returns-in-Rounds-clause-differs : goal.returns-in-Rounds-clause-differs
returns-in-Rounds-clause-differs g c =
    subst (λ (m : Mode). IfOk c.audit_rounds.result (λ (v : Verdict). IsVerdictIn m c.args.packets.now c.args.journal.now.options (content_of c.args.journal.now) v)) (sym c.in-Rounds.is) c.audit_rounds.ensures.differs

pub returns-in-Threads-clause-differs : goal.returns-in-Threads-clause-differs
returns-in-Threads-clause-differs g c =
    subst (λ (m : Mode). IfOk c.audit_threads.result (λ (v : Verdict). IsVerdictIn m c.args.packets.now c.args.journal.now.options (content_of c.args.journal.now) v)) (sym c.in-Threads.is) c.audit_threads.ensures.differs
