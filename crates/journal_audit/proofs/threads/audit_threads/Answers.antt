use Rattle.std.proofs.Common.{◌∙◌, ap}
use Rattle.audit_law.specs.Judged.{tests_of}
use Rattle.octo_text.specs.Content.{content_of}
use Rattle.journal_audit.specs.Verdicts.{verdict_of}
use Rattle.journal_audit.proofs.Formed.{lawful_verdict, tests_lawful}
use Rattle.journal_audit.proofs.threads.audit_threads.Goals as goal

pub returns-clause-lawful : goal.returns-clause-lawful
returns-clause-lawful g c =
    lawful_verdict c.in_ok-failure.failure c.verdict_of.result (tests_of c.args.packets.now c.args.journal.now.options (content_of c.args.journal.now)) c.verdict_of.ensures c.in_ok-failure.ensures
    (tests_lawful c.args.packets.now c.args.journal.now c.requires.readable c.requires.threads)

pub returns-clause-differs : goal.returns-clause-differs
returns-clause-differs g c = c.verdict_of.ensures ∙ ap verdict_of c.in_ok-failure.ensures
