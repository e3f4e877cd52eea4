-- What holds of every state of a run.
use Rattle.std.specs.Prelude.{◌≡◌, ◌<◌, ◌≤◌, ℕ, All, length, take}
use Rattle.push_history.specs.Front.{messages_of}
use Rattle.push_history.specs.LagRun.{Terms, Worker, State, updates_by, worker_in}
use Rattle.push_history.specs.Pushes.{LawfulPushes}

-- the worker's messages and refused updates are lawful up to what it counted
pub record IsLawfulWorker (t : Terms) (w : ℕ) (x : Worker) : Type 0 where
  pub counted : x.counted ≤ length (updates_by t w)
  pub lawful : LawfulPushes t.rules w t.threshold t.capacity t.full (take x.counted (updates_by t w)) x.sent x.refused
  pub taken : x.taken ≤ length x.sent

-- each worker is lawful; the messages that were folded are those taken of each worker; readers saw only what is shown
pub record IsLawfulState (t : Terms) (s : State) : Type 0 where
  pub workers : length s.workers ≡ length t.updates
  pub each : (w : ℕ) → w < length t.updates → IsLawfulWorker t w (worker_in s w)
  pub folded : (w : ℕ) → w < length t.updates → messages_of w s.folded ≡ take (worker_in s w).taken (worker_in s w).sent
  pub of_workers : All (λ m. m.worker < length t.updates) s.folded
  pub shown : s.shown ≤ length s.folded
  pub seen : All (λ n. n ≤ s.shown) s.seen
