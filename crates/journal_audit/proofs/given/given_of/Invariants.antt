use Rattle.std.proofs.Common.{◌≡◌, ◌≤◌, map}
use Rattle.std.specs.Prelude.{vec_len, vec_capacity}
use Rattle.std.specs.List.{range_with_len}
use Rattle.shares.specs.Owners.{AreOwners}
use Rattle.octo_text.specs.Content.{content_of}
use Rattle.audit_law.specs.WorkerTests.{given_by, worker_tests}
use Rattle.audit_law.proofs.Failing.{NoneFail}
use Rattle.journal_audit.proofs.given.given_of.Given as goal

abbrev pub invariant-loop-worker : goal.invariant-loop-worker
invariant-loop-worker g l = record {
  messages : map (λ v. v.items) l.messages.items ≡ map (given_by l.packets l.journal.options (content_of l.journal)) (range_with_len 0 l.worker);
  room : l.journal.options.workers ≤ vec_capacity l.messages;
  owners : AreOwners l.journal.options l.packets l.owners;
  len : vec_len l.messages ≡ l.worker;
  hold : NoneFail (worker_tests l.packets l.journal.options (content_of l.journal)) l.worker;
}
