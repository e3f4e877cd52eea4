-- What is left to do of a worker.
use Rattle.std.specs.Prelude.{ℕ, ◌+◌, ◌*◌, ◌||◌, Bool, nat_lt}
use Rattle.push_history.specs.LagRun.{Terms, Worker}
use Rattle.push_history.specs.OwnSteps.{uncounted_of, untaken_of}

-- whether the worker has updates left, or its lane a message
abbrev pub is_own_busy : Terms → ℕ → Worker → Bool
is_own_busy t w x = nat_lt 0 (uncounted_of t w x) || nat_lt 0 (untaken_of x)

-- an update may still become a message, and a message is still to be folded
abbrev pub work_left : Terms → ℕ → Worker → ℕ
work_left t w x = 2 * uncounted_of t w x + untaken_of x
