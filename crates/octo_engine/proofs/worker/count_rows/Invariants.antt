use Rattle.std.proofs.Common.{◌≡◌, ◌-◌, ℕ, false}
use Rattle.push_history.specs.LagRun.{Terms, Worker}
use Rattle.push_rule.specs.Keeps.{Keeps}
use Rattle.octo_engine.specs.Counts.{AreNext, HasCounted, HasMoved}
use Rattle.octo_engine.proofs.worker.count_rows.Given as goal

abbrev pub invariant-loop-row : goal.invariant-loop-row
invariant-loop-row g l =
    HasMoved l.initial.counter l.counter (l.row - l.first) false
    × ((t : Terms) (w : ℕ) (x : Worker) → t.rules ≡ g.K.Kind.rules → Keeps g.K.Kind.stands t w l.initial.counter x
    → AreNext t w x l.shape l.packet l.position l.first l.last → HasCounted g.K.Kind.stands t w x (l.row - l.first) false l.counter)
