-- The tests of the live keys, and of how many were missed.
use Rattle.std.specs.Prelude.{ℕ, ◌+◌, ◌==◌, ◌&&◌, ◌||◌, ◌∷◌, ◌++◌, List, [], Bool, true, false, not, if◌then◌else◌, length, map, int_le, nat_lt, nat_le, count_by, slice_index_or}
use Rattle.std.specs.List.{range_with_len}
use Rattle.packet_key.specs.declared.key.FlowKey.{FlowKey}
use Rattle.hash_rows.specs.declared.options.Options.{Options}
use Rattle.hash_rows.specs.declared.options.Sketch.{Sketch}
use Rattle.hash_rows.specs.declared.options.Sketch.TheVariants.{CountMin, LogLog}
use Rattle.hash_rows.specs.declared.shape.Push.{Push}
use Rattle.packet_key.specs.Keys.{same_key}
use Rattle.push_history.specs.Journal.{Journal, rules_in}
use Rattle.push_history.specs.LawfulJournal.{all_of, not_live, sure_missed, possible_missed, estimate_on_all}
use Rattle.push_history.specs.LiveHeavy.{is_among, live_keys, missed_keys}
use Rattle.push_history.specs.Share.{zero_key}
use Rattle.audit_law.specs.declared.failure.Value.{Value}
use Rattle.audit_law.specs.declared.failure.Value.TheVariants.{Number, Signed, Key, Absent}
use Rattle.audit_law.specs.LineNumbers.{live_line, missed_line}
use Rattle.audit_law.specs.Tests.{Test, test}

-- whether the sketch is LogLog
abbrev pub is_loglog : Sketch → Bool
is_loglog LogLog = true
is_loglog _ = false

-- whether it is Count-Min
abbrev pub is_count_min : Sketch → Bool
is_count_min CountMin = true
is_count_min _ = false

-- the key at a place
abbrev pub key_at : List FlowKey → ℕ → FlowKey
key_at keys i = slice_index_or keys i zero_key

-- whether a worker sent a message
abbrev pub some_sent : List Push → Bool
some_sent sent = nat_lt 0 (length sent)

-- one worker alone has messages
unfoldable pub is_lone : List (List Push) → Bool
is_lone messages = count_by some_sent messages == 1

-- the live keys of all messages, in the order of workers, which is that of the fold where one worker alone has messages
unfoldable pub live_alone : Options → List (List Push) → List FlowKey
live_alone o messages = live_keys (rules_in o) o.shape o.heavy o.least (all_of messages)

-- and how many keys were missed
unfoldable pub missed_alone : Options → List (List Push) → ℕ
missed_alone o messages = missed_keys (rules_in o) o.shape o.heavy o.least (all_of messages)

-- the key at a place, if there is one
abbrev pub key_there : List FlowKey → ℕ → Value
key_there keys i = if nat_lt i (length keys) then Key (key_at keys i) else Absent

-- the key is that of a message
unfoldable pub is_sent_key : List (List Push) → FlowKey → Bool
is_sent_key messages key = is_among (map (λ m. m.key) (all_of messages)) key

-- it isn't that of an earlier line
unfoldable pub twice_test : Journal → ℕ → ℕ → Test
twice_test j i e = test (live_line j i) (Key (key_at j.live i)) (Number (live_line j e))
    (not (same_key (key_at j.live e) (key_at j.live i)))

-- there is room for it; with Count-Min its estimate on all messages reaches `least`; and where one worker alone has
-- messages it is live at its place
unfoldable pub place_tests : Options → Journal → List (List Push) → ℕ → List Test
place_tests o j messages i =
    let key = key_at j.live i in
    let line = live_line j i in
    let estimate = estimate_on_all o messages key in
    let alone = live_alone o messages in
    test line (Number (i + 1)) (Number o.heavy) (nat_lt i o.heavy)
    ∷ test line (Signed estimate) (Signed o.least) (not (is_count_min o.sketch) || int_le o.least estimate)
    ∷ test line (Key key) (key_there alone i) (not (is_lone messages) || (nat_lt i (length alone) && same_key (key_at alone i) key)) ∷ []

-- a live key
unfoldable pub live_tests : Options → Journal → List (List Push) → ℕ → List Test
live_tests o j messages i =
    let key = key_at j.live i in
    test (live_line j i) (Key key) Absent (not (is_loglog o.sketch) && is_sent_key messages key)
    ∷ (map (twice_test j i) (range_with_len 0 i) ++ place_tests o j messages i)

-- none was missed while there was room; at most as many as have keys that aren't live; with Count-Min at least the sure
-- ones and at most the possible ones; and where one worker alone has messages, just those that it missed
unfoldable pub missed_tests : Options → Journal → List (List Push) → List Test
missed_tests o j messages =
    let line = missed_line j in
    let kept = Number j.missed in
    let others = length (not_live j.live (all_of messages)) in
    let sure = length (sure_missed o messages j.live) in
    let possible = length (possible_missed o messages j.live) in
    test line kept (Number 0) ((j.missed == 0) || (not (is_loglog o.sketch) && nat_le o.heavy (length j.live)))
    ∷ test line kept (Number others) (nat_le j.missed others)
    ∷ test line kept (Number sure) (not (is_count_min o.sketch) || nat_le sure j.missed)
    ∷ test line kept (Number possible) (not (is_count_min o.sketch) || nat_le j.missed possible)
    ∷ test line (Number (length j.live)) (Number (length (live_alone o messages)))
    (not (is_lone messages) || (length j.live == length (live_alone o messages)))
    ∷ test line kept (Number (missed_alone o messages)) (not (is_lone messages) || (j.missed == missed_alone o messages)) ∷ []
