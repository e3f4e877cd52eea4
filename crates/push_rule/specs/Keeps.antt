-- What a worker stands for.
use Rattle.std.specs.Prelude.{◌≡◌, ◌≤◌, ℕ, ℤ, ◌+◌, ◌++◌, List, length, take, None}
use Rattle.hash_rows.specs.declared.shape.Push.{Push}
use Rattle.push_history.specs.LagRun.{Terms, Worker, updates_by}
use Rattle.push_rule.specs.Stands.{StandsFor}
use Rattle.push_rule.specs.Counters.{CounterView}

-- worker w of a run has counted, sent, refused and given away what x says
pub record Keeps {Held : Type 0} (stands : Held → ℤ → ℤ → Type 0) (t : Terms) (w : ℕ) (d : CounterView Held) (x : Worker) : Type 0 where
  pub sketch : StandsFor stands t.rules d.sketch (take x.counted (updates_by t w)) x.sent x.refused
  pub idle : d.sketch.due ≡ None
  pub within : x.counted ≤ length (updates_by t w)
  pub threshold : d.sketch.threshold ≡ t.threshold
  pub worker : d.worker ≡ w
  pub lane : d.lane ≡ t.capacity
  pub full : d.full ≡ t.full
  pub cleared : List Push
  pub queue : x.sent ≡ cleared ++ d.queue
  pub taken : x.taken ≡ length cleared + d.taken
  pub taken_within : d.taken ≤ length d.queue
