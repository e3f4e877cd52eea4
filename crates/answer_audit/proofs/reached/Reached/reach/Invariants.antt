use Rattle.std.proofs.Common.{◌≡◌, ◌<◌, ◌≤◌, ℕ, length, get_or}
use Rattle.told_table.specs.Tables.{lists_of}
use Rattle.answer_audit.specs.Reached.{HasReached}
use Rattle.answer_audit.proofs.reached.Reached.reach.Given as goal

abbrev pub invariant-loop-worker : goal.invariant-loop-worker
invariant-loop-worker g l = record {
  shape : l.self.table.shape ≡ l.initial.self.table.shape;
  len : length l.self.front.items ≡ length l.initial.self.front.items;
  there : (k : ℕ) → k < l.worker → get_or l.self.front.items k 0 ≡ get_or l.front k 0;
  rest : (k : ℕ) → l.worker ≤ k → get_or l.self.front.items k 0 ≡ get_or l.initial.self.front.items k 0;
  reached : HasReached g.K.Kind.rules (lists_of l.messages) l.initial.self.front.items l.initial.self.table
      → HasReached g.K.Kind.rules (lists_of l.messages) l.self.front.items l.self.table;
}
