-- The tests of what a journal says of a worker.
use Rattle.push_history.specs.LagRun.{is_wait}
use Rattle.std.specs.Prelude.{ℕ, ◌==◌, ◌||◌, ◌∷◌, List, [], not, length, map, nat_lt, nat_le, slice_index_or}
use Rattle.std.specs.List.{flat_map, range_with_len}
use Rattle.hash_rows.specs.declared.options.Options.{Options}
use Rattle.hash_rows.specs.declared.shape.Packet.{Packet}
use Rattle.hash_rows.specs.declared.shape.Push.{Push}
use Rattle.hash_rows.specs.declared.shape.Update.{Update}
use Rattle.push_history.specs.Journal.{Journal, rules_in, updates_by_options}
use Rattle.push_history.specs.Pushes.{distance_at}
use Rattle.push_history.specs.Told.{messages_before}
use Rattle.given_law.specs.Given.{given_messages}
use Rattle.audit_law.specs.declared.failure.Value.TheVariants.{Number}
use Rattle.audit_law.specs.LineNumbers.{worker_line, refused_line}
use Rattle.audit_law.specs.Tests.{Test, test}

-- the updates of worker w that the journal says were refused
abbrev pub refused_by : Journal → ℕ → List ℕ
refused_by j w = slice_index_or j.refused w []

-- the messages of worker w that these determine
unfoldable pub given_by : List Packet → Options → Journal → ℕ → List Push
given_by packets o j w = given_messages (rules_in o) w o.threshold (updates_by_options packets o w) (refused_by j w)

-- those of each worker
unfoldable pub all_given : List Packet → Options → Journal → List (List Push)
all_given packets o j = map (given_by packets o j) (range_with_len 0 o.workers)

-- a refused update is one of the worker's, it was due, and the messages of a full lane stand before it
unfoldable pub refused_tests : Options → List Update → List Push → (ℕ → ℕ) → ℕ → List Test
refused_tests o updates sent line k =
    let distance = distance_at (rules_in o) updates sent k in
    let before = length (messages_before k sent) in
    test (line k) (Number k) (Number (length updates)) (nat_lt k (length updates))
    ∷ test (line k) (Number distance) (Number o.threshold) (nat_le o.threshold distance)
    ∷ test (line k) (Number before) (Number o.lane) (nat_le o.lane before) ∷ []

-- those of each refused update of worker w
unfoldable pub all_refused_tests : List Packet → Options → Journal → ℕ → List Test
all_refused_tests packets o j w = flat_map (refused_tests o (updates_by_options packets o w) (given_by packets o j w) (refused_line j w))
    (refused_by j w)

-- the pushes are as many as the refused updates determine; none is refused where a push waits; and each refused one
-- may be
unfoldable pub worker_tests : List Packet → Options → Journal → ℕ → List Test
worker_tests packets o j w =
    let refused = refused_by j w in
    let sent = given_by packets o j w in
    let pushes = slice_index_or j.pushes w 0 in
    test (worker_line j w) (Number pushes) (Number (length sent)) (pushes == length sent)
    ∷ test (worker_line j w) (Number (length refused)) (Number 0) (not (is_wait o.full) || (length refused == 0))
    ∷ all_refused_tests packets o j w

-- those of each worker
abbrev pub all_worker_tests : List Packet → Options → Journal → List Test
all_worker_tests packets o j = flat_map (worker_tests packets o j) (range_with_len 0 o.workers)
