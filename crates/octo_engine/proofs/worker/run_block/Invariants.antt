use Rattle.std.proofs.Common.{◌≡◌, ◌≤◌, ◌*◌, ℕ, length}
use Rattle.push_history.specs.LagRun.{Terms, Worker}
use Rattle.push_rule.specs.Keeps.{Keeps}
use Rattle.octo_engine.specs.Counts.{HasShare, IsFit}
use Rattle.octo_engine.specs.Parts.{AreEnds, HasRun}
use Rattle.octo_engine.proofs.worker.run_block.Given as goal

abbrev pub invariant-loop-round : goal.invariant-loop-round
invariant-loop-round g l =
    (l.part.share ≡ l.fn.part.share) × IsFit l.options (length l.packets) l.part.share l.part.counter × (l.part.counter.room ≡ l.fn.part.counter.room)
    × AreEnds l.part.ends.items l.round l.part.counter.taken × (l.part.counter.taken ≤ l.round * l.options.batch)
    × ((t : Terms) (w : ℕ) (x : Worker) → HasShare g.K.Kind.rules t l.options.shape l.packets w l.fn.part.share → Keeps g.K.Kind.stands t w l.fn.part.counter x
    → HasRun g.K.Kind.stands t l.options w x l.round l.part.ends.items l.part.counter)
