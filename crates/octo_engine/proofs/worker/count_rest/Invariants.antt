use Rattle.std.proofs.Common.{◌≡◌, ◌≤◌, ◌<◌, ◌+◌, ◌*◌, ◌-◌, ℕ, false, length}
use Rattle.push_history.specs.LagRun.{Terms, Worker}
use Rattle.push_rule.specs.Keeps.{Keeps}
use Rattle.octo_engine.specs.Counts.{HasCounted, HasMoved, HasShare, IsFit}
use Rattle.octo_engine.proofs.worker.count_rest.Given as goal

abbrev pub invariant-loop-left : goal.invariant-loop-left
invariant-loop-left g l =
    ((l.left ≤ l.count) × (l.first < l.options.shape.rows) × (0 < l.left → l.counter.sketch.counted ≡ l.options.shape.rows * l.place + l.first)) × HasMoved l.initial.counter l.counter (l.count - l.left) false × IsFit l.options (length l.packets) l.share l.counter
    × ((t : Terms) (w : ℕ) (x : Worker) → HasShare g.K.Kind.rules t l.options.shape l.packets w l.share → Keeps g.K.Kind.stands t w l.initial.counter x
    → HasCounted g.K.Kind.stands t w x (l.count - l.left) false l.counter)

abbrev pub decreases-loop-left : goal.decreases-loop-left
decreases-loop-left g l = l.left
