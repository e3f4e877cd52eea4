use Rattle.std.proofs.Common.{◌≡◌, ◌+◌, ◌*◌, ℕ, false, length}
use Rattle.push_history.specs.LagRun.{Terms, Worker}
use Rattle.push_rule.specs.Keeps.{Keeps}
use Rattle.octo_engine.specs.Counts.{HasCounted, HasMoved, HasShare, IsFit}
use Rattle.octo_engine.proofs.worker.count_packets.Given as goal

abbrev pub invariant-loop-ahead : goal.invariant-loop-ahead
invariant-loop-ahead g l =
    HasMoved l.initial.counter l.counter (l.options.shape.rows * l.ahead) false × IsFit l.options (length l.packets) l.share l.counter
    × (l.counter.sketch.counted ≡ l.options.shape.rows * (l.place + l.ahead))
    × ((t : Terms) (w : ℕ) (x : Worker) → HasShare g.K.Kind.rules t l.options.shape l.packets w l.share → Keeps g.K.Kind.stands t w l.initial.counter x
    → HasCounted g.K.Kind.stands t w x (l.options.shape.rows * l.ahead) false l.counter)
