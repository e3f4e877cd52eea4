use Rattle.std.proofs.Common.{◌≡◌, ◌<◌, ◌≤◌, ◌-◌, true}
use Rattle.octo_text.specs.Content.{content_of}
use Rattle.audit_law.specs.AnswerTests.{answer_at, is_no_further}
use Rattle.answer_audit.proofs.orders.first_further.Given as goal

abbrev pub invariant-loop-low : goal.invariant-loop-low
invariant-loop-low l = record {
  start : l.start ≤ l.low;
  order : l.low ≤ l.high;
  end : l.high ≤ l.end;
  before : l.start < l.low → is_no_further (answer_at (content_of l.journal) (l.low - 1)).front l.front ≡ true;
}

abbrev pub decreases-loop-low : goal.decreases-loop-low
decreases-loop-low l = l.high - l.low
