use Rattle.journal_read.proofs.Grouped.{not_said, said_lawful}
use Rattle.journal_read.proofs.options.read_options.Goals as goal
use Rattle.journal_read.proofs.options.read_options.Goals.{else-is_lawful-via-then-is_lawful+else-is_options, else-is_lawful-via-else-is_lawful}

pub returns-else-is_lawful-clause-line : goal.returns-else-is_lawful-clause-line
returns-else-is_lawful-clause-line c = λ o law is.
    let told = c.in_ok-said.ensures.said o law is in
    elim c.else-is_lawful.branch [
      | else-is_lawful-via-then-is_lawful+else-is_options w ↦
          not_said c.args.line.now c.in_ok-said.said o law is told (w.is_options.ensures.no w.if-is_options.false)
      | else-is_lawful-via-else-is_lawful w ↦
          c.is_lawful.ensures.no w.if-is_lawful.false (said_lawful c.in_ok-said.said o law told)
    ]
