-- The keys whose estimate was large when a message of theirs was folded.
use Rattle.std.specs.Prelude.{ℕ, ℤ, ◌+◌, ◌∷◌, ◌++◌, List, [], Bool, not, if◌then◌else◌, length, take, map, filter, fold, int_le}
use Rattle.std.specs.List.{list_any, range_with_len}
use Rattle.packet_key.specs.declared.key.FlowKey.{FlowKey}
use Rattle.hash_rows.specs.declared.shape.Shape.{Shape}
use Rattle.hash_rows.specs.declared.shape.Flow.{Flow}
use Rattle.hash_rows.specs.declared.shape.Push.{Push}
pub use Rattle.packet_key.specs.Keys.{same_key}
use Rattle.hash_rows.specs.Rules.{Rules}
use Rattle.push_history.specs.Front.{message_at}
use Rattle.push_history.specs.Shown.{told_cells}

-- whether the key is one of these
abbrev pub is_among : List FlowKey → FlowKey → Bool
is_among keys key = list_any (λ k. same_key k key) keys

-- the keys with this one behind them, unless it is one of them
abbrev pub with_key : List FlowKey → FlowKey → List FlowKey
with_key keys key = if is_among keys key then keys else keys ++ key ∷ []

-- each key once, by first occurrence
abbrev pub distinct_keys : List FlowKey → List FlowKey
distinct_keys keys = fold with_key [] keys

-- the keys of the notes whose estimate is at least `least`
abbrev pub qualifying : ℤ → List Flow → List FlowKey
qualifying least notes = map (λ note. note.key) (filter (λ note. int_le least note.estimate) notes)

-- the distinct ones of these, at most `limit`
unfoldable pub live_of : ℕ → ℤ → List Flow → List FlowKey
live_of limit least notes = take limit (distinct_keys (qualifying least notes))

-- how many of these aren't live
unfoldable pub missed_of : ℕ → ℤ → List Flow → ℕ
missed_of limit least notes = length (filter (λ key. not (is_among (live_of limit least notes) key)) (qualifying least notes))

-- the key of message p, with its estimate on the table of the messages up to and with p
unfoldable pub note_at : Rules → Shape → List Push → ℕ → Flow
note_at r shape messages p =
    let key = (message_at messages p).key in
    record { key = key; estimate = r.estimate shape (told_cells r shape (take (p + 1) messages)) key }

-- that of each message, in order
unfoldable pub notes_of : Rules → Shape → List Push → List Flow
notes_of r shape messages = map (note_at r shape messages) (range_with_len 0 (length messages))

-- the live keys of some messages; for a kind whose estimates don't depend on the key none is live, and none missed
unfoldable pub live_keys : Rules → Shape → ℕ → ℤ → List Push → List FlowKey
live_keys r shape limit least messages = if r.keyed then live_of limit least (notes_of r shape messages) else []

-- how many of their notes were missed
unfoldable pub missed_keys : Rules → Shape → ℕ → ℤ → List Push → ℕ
missed_keys r shape limit least messages = if r.keyed then missed_of limit least (notes_of r shape messages) else 0
