use Rattle.std.proofs.Common.{◌≡◌, length}
use Rattle.octo_text.specs.Content.{content_of}
use Rattle.told_table.specs.Tables.{lists_of}
use Rattle.audit_law.specs.AnswerTests.{answer_tests}
use Rattle.audit_law.proofs.Failing.{NoneFail}
use Rattle.answer_audit.specs.Reached.{HasReached}
use Rattle.answer_audit.proofs.Beginning.{StandsAt}
use Rattle.answer_audit.proofs.answers.answers_failure.Given as goal

abbrev pub invariant-loop-place : goal.invariant-loop-place
invariant-loop-place g l = record {
  shape : l.reached.table.shape ≡ l.journal.options.shape;
  len : length l.reached.front.items ≡ l.journal.options.workers;
  stands : StandsAt (content_of l.journal) l.place l.reached.front.items;
  reached : HasReached g.K.Kind.rules (lists_of l.messages) l.reached.front.items l.reached.table;
  none : NoneFail (answer_tests l.journal.options (content_of l.journal) (lists_of l.messages)) l.place;
}
