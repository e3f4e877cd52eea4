-- How many messages of each worker were folded.
use Rattle.std.specs.Prelude.{◌≡◌, ◌<◌, ◌≤◌, ℕ, ◌+◌, ◌-◌, ◌==◌, pos, List, [], length, map, filter, slice_index_or, if◌then◌else◌}
use Rattle.std.specs.List.{range_with_len}
use Rattle.hash_rows.specs.declared.shape.Push.{Push}
use Rattle.push_history.specs.Share.{zero_key}

-- message number k
abbrev pub message_at : List Push → ℕ → Push
message_at messages k = slice_index_or messages k (record { worker = 0; packet = 0; update = 0; key = zero_key; cell = 0; amount = pos 0 })

-- the messages of a worker
abbrev pub messages_of : ℕ → List Push → List Push
messages_of w messages = filter (λ m. m.worker == w) messages

-- how many messages each worker has
unfoldable pub front_of : ℕ → List Push → List ℕ
front_of workers messages = map (λ w. length (messages_of w messages)) (range_with_len 0 workers)

-- at most so many as each worker has
pub record IsFront (messages : List (List Push)) (front : List ℕ) : Type 0 where
  pub workers : length front ≡ length messages
  pub within : (w : ℕ) → w < length messages → slice_index_or front w 0 ≤ length (slice_index_or messages w [])

-- one more than the update number of the last of the first j messages, 0 where there is none
unfoldable pub upto_of : List Push → ℕ → ℕ
upto_of messages j = if j == 0 then 0 else (message_at messages (j - 1)).update + 1

-- that of each worker, over all its messages
unfoldable pub uptos_of : ℕ → List Push → List ℕ
uptos_of workers messages = map (λ w. upto_of (messages_of w messages) (length (messages_of w messages))) (range_with_len 0 workers)
