-- What one worker does of a run by itself: the other workers have no part in it.
use Rattle.std.specs.Prelude.{ℕ, zero, suc, ◌+◌, ◌-◌, ◌*◌, List, if◌then◌else◌, length, take, drop, min}
use Rattle.hash_rows.specs.declared.options.Options.{Options}
use Rattle.hash_rows.specs.declared.shape.Push.{Push}
use Rattle.push_history.specs.LagRun.{Terms, Worker, updates_by, count_step}
use Rattle.push_history.specs.Rounds.{is_waits}

-- worker w counts so many of its next updates, ending early after one that waits
abbrev pub counts : Terms → ℕ → ℕ → Worker → Worker
counts t w zero x = x
counts t w (suc n) x = let c = count_step t w x in if is_waits c.1 then c.0 else counts t w n c.0

-- the worker's updates that aren't counted
abbrev pub uncounted_of : Terms → ℕ → Worker → ℕ
uncounted_of t w x = length (updates_by t w) - x.counted

-- the messages in its lane
abbrev pub untaken_of : Worker → ℕ
untaken_of x = length x.sent - x.taken

-- the worker once so many more of its messages were folded
abbrev pub with_taken : Worker → ℕ → Worker
with_taken x n = record { counted = x.counted; sent = x.sent; refused = x.refused; taken = x.taken + n }

-- the next n messages to be folded
abbrev pub next_taken : Worker → ℕ → List Push
next_taken x n = take n (drop x.taken x.sent)

-- the worker after it counted in a round
unfoldable pub counted_in_round : Terms → Options → ℕ → Worker → Worker
counted_in_round t o w x = counts t w (min (o.shape.rows * o.round) (uncounted_of t w x)) x

-- its messages that are folded in the round
unfoldable pub folded_in_round : Terms → Options → ℕ → Worker → List Push
folded_in_round t o w x = let c = counted_in_round t o w x in next_taken c (min o.batch (untaken_of c))

-- the worker after the round
unfoldable pub own_round : Terms → Options → ℕ → Worker → Worker
own_round t o w x = let c = counted_in_round t o w x in with_taken c (min o.batch (untaken_of c))
