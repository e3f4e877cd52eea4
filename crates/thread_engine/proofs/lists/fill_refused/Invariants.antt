use Rattle.std.proofs.Common.{◌≡◌, ◌+◌, ◌++◌, length, map}
use Rattle.std.specs.Vec.Iter.{into_iter_items}
use Rattle.thread_engine.proofs.lists.fill_refused.Given as goal

abbrev pub invariant-loop : goal.invariant-loop
invariant-loop g l = record {
  bits : l.rows.items ++ map (λ s. s.bits) (into_iter_items l.rest) ≡ map (λ s. s.bits) l.fn.sketches.items;
  lengths : map (λ bits. length bits) l.rows.items ++ map (λ s. s.room) (into_iter_items l.rest) ≡ map (λ s. s.room) l.fn.sketches.items;
  many : l.counter + length (into_iter_items l.rest) ≡ length l.fn.sketches.items;
  made : length l.rows.items ≡ l.counter;
  room : l.rows.room ≡ l.fn.rows.room;
}
