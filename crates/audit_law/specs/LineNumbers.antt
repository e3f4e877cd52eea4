-- The lines of a journal, counted from 1.
use Rattle.std.specs.Prelude.{ℕ, ◌+◌, List, [], length, map, sum, take, count_by, nat_le, slice_index_or}
use Rattle.push_history.specs.Journal.{Journal}
use Rattle.octo_text.specs.Runs.{runs_of}

-- the lines that tell of a worker: its own, and one for each run of its refused updates
abbrev pub lines_of_worker : List ℕ → ℕ
lines_of_worker refused = 1 + length (runs_of refused)

-- the line of worker w, behind the title, the options, the watched keys and the workers before
unfoldable pub worker_line : Journal → ℕ → ℕ
worker_line j w = 3 + length j.options.watch.items + sum (map lines_of_worker (take w j.refused))

-- the line of the run that a refused update of worker w is in
unfoldable pub refused_line : Journal → ℕ → ℕ → ℕ
refused_line j w k = worker_line j w + count_by (λ run. nat_le run.0 k) (runs_of (slice_index_or j.refused w []))

-- the line of answer i, behind all workers
unfoldable pub answer_line : Journal → ℕ → ℕ
answer_line j i = worker_line j (length j.refused) + i

-- the line of live key i, behind all answers
unfoldable pub live_line : Journal → ℕ → ℕ
live_line j i = answer_line j (length j.answers) + i

-- the line that tells how many were missed, behind all live keys
unfoldable pub missed_line : Journal → ℕ
missed_line j = live_line j (length j.live)
