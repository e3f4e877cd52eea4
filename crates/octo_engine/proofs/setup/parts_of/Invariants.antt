use Rattle.std.proofs.Common.{◌≡◌, ◌≤◌, ◌<◌, ℕ, length, slice_index_or}
use Rattle.std.specs.Prelude.{vec_capacity}
use Rattle.push_history.specs.Journal.{terms_of}
use Rattle.shares.specs.Owners.{AreOwners}
use Rattle.octo_engine.specs.Parts.{IsWorkerAfter}
use Rattle.octo_engine.proofs.setup.parts_of.Given as goal

abbrev pub invariant-loop-worker : goal.invariant-loop-worker
invariant-loop-worker g l =
    (length l.parts.items ≡ l.worker) × (l.options.workers ≤ vec_capacity l.parts)
    × ((w : ℕ) (p : _) → w < l.worker → IsWorkerAfter g.K.Kind.stands (terms_of l.packets l.options) l.options l.packets 0 w (slice_index_or l.parts.items w p))
    × AreOwners l.options l.packets l.owners
