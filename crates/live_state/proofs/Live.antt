-- What the state after some messages says of them.
use Rattle.std.proofs.Common.{◌≡◌, ℕ, ℤ, ◌≤◌, not, filter, Bool, true, false, cond, List, [], ◌∷◌, ◌++◌, length, refl, sym, ap, ◌∙◌, arith, subst, append_assoc}
use Rattle.std.specs.Prelude.{int_le}
use Rattle.std.proofs.lemmas.List.{append-nil, take_all, length-map}
use Rattle.std.proofs.lemmas.List.FromFn.{length-map-range_with_len}
use Rattle.hash_rows.specs.declared.shape.Flow.{Flow}
use Rattle.hash_rows.specs.declared.shape.Push.{Push}
use Rattle.hash_rows.specs.declared.shape.Shape.{Shape}
use Rattle.hash_rows.specs.Rules.{Rules}
use Rattle.heavy_keys.specs.Noted.{HeavyTable, noted, fresh_table}
use Rattle.heavy_keys.specs.Live.{HoldsLive}
use Rattle.heavy_keys.proofs.LiveLemmas.{holds_none, holds_noted}
use Rattle.push_history.specs.LiveHeavy.{notes_of, note_at, live_of, missed_of, live_keys, missed_keys, qualifying, is_among}
use Rattle.live_state.specs.declared.layout.Layout.{Layout}
use Rattle.live_state.specs.Fold.{StateView, most, state_after, Fit}
use Rattle.live_state.specs.Shows.{Shows}
use Rattle.live_state.proofs.Lists.{filter_length}
use Rattle.live_state.proofs.Kept.{Kept, all_noted, kept_none, kept_all}

live_all : (t : HeavyTable) (before rest : List Flow) → HoldsLive t before → HoldsLive (all_noted t rest) (before ++ rest)
live_all t before [] h = subst (HoldsLive t) (sym (append-nil before)) h
live_all t before (n ∷ rest) h =
    subst (HoldsLive (all_noted (noted t n.key n.estimate) rest)) (append_assoc before (n ∷ []) rest)
    (live_all (noted t n.key n.estimate) (before ++ n ∷ []) rest (holds_noted t before n.key n.estimate h))

few_missed : (limit : ℕ) (least : ℤ) (notes : List Flow) → missed_of limit least notes ≤ length notes
unfolding missed_of
few_missed limit least notes =
    let one = filter_length (λ key. not (is_among (live_of limit least notes) key)) (qualifying least notes) in
    let two = filter_length (λ (note : Flow). int_le least note.estimate) notes in
    omega (arith, one, two, length-map (filter (λ (note : Flow). int_le least note.estimate) notes) (λ (note : Flow). note.key))

count_notes : (r : Rules) (shape : Shape) (messages : List Push) → length (notes_of r shape messages) ≡ length messages
unfolding notes_of
count_notes r shape messages = length-map-range_with_len (note_at r shape messages) 0 (length messages)

-- the notes of the messages, where estimates depend on the key
abbrev asked_notes : Rules → Shape → List Push → List Flow
asked_notes r shape messages = cond r.keyed (notes_of r shape messages) []

few_asked : (r : Rules) (shape : Shape) (messages : List Push) → length (asked_notes r shape messages) ≤ length messages
few_asked r shape messages = by r.keyed
  where
    by : (b : Bool) → length (cond b (notes_of r shape messages) []) ≤ length messages
    by true = omega (arith, count_notes r shape messages)
    by false = omega arith

keys_asked : (r : Rules) (shape : Shape) (limit : ℕ) (least : ℤ) (messages : List Push) → live_of limit least (asked_notes r shape messages) ≡ live_keys r shape limit least messages
unfolding live_keys live_of
keys_asked r shape limit least messages = by r.keyed
  where
    by : (b : Bool) → live_of limit least (cond b (notes_of r shape messages) []) ≡ cond b (live_of limit least (notes_of r shape messages)) []
    by true = refl
    by false = take_all limit [] (omega arith)

missed_asked : (r : Rules) (shape : Shape) (limit : ℕ) (least : ℤ) (messages : List Push) → missed_of limit least (asked_notes r shape messages) ≡ missed_keys r shape limit least messages
unfolding missed_keys missed_of
missed_asked r shape limit least messages = by r.keyed
  where
    by : (b : Bool) → missed_of limit least (cond b (notes_of r shape messages) []) ≡ cond b (missed_of limit least (notes_of r shape messages)) 0
    by true = refl
    by false = refl

shows_kept : (r : Rules) (l : Layout) (messages : List Push) (s : StateView) → Kept r l messages s → length messages ≤ most → Shows r l messages s
shows_kept r l messages s h short =
    let notes = asked_notes r l.shape messages in
    let live : HoldsLive s.heavy notes = subst (λ t. HoldsLive t notes) (sym h.heavy) (live_all (fresh_table l.heavy l.least) [] notes (holds_none (fresh_table l.heavy l.least) refl refl)) in
    let limit : s.heavy.limit ≡ l.heavy = ap (λ (x : Layout). x.heavy) h.layout in
    let least : s.heavy.least ≡ l.least = ap (λ (x : Layout). x.least) h.layout in
    let few : missed_of s.heavy.limit s.heavy.least notes ≤ most = omega (arith, few_missed s.heavy.limit s.heavy.least notes, few_asked r l.shape messages, short) in
    let missed : s.heavy.missed ≡ missed_of s.heavy.limit s.heavy.least notes = omega (arith, live.missed, few) in
    record {
      shape = ap (λ (x : Layout). x.shape) h.layout;
      cells = h.cells;
      front = h.front;
      upto = h.upto;
      folded = h.folded;
      keys = live.keys ∙ ((λ i. live_of (limit i) (least i) notes) ∙ keys_asked r l.shape l.heavy l.least messages);
      missed = missed ∙ ((λ i. missed_of (limit i) (least i) notes) ∙ missed_asked r l.shape l.heavy l.least messages);
    }

pub shows_all : (r : Rules) (l : Layout) (messages : List Push) → Fit r l messages → length messages ≤ most → Shows r l messages (state_after r l messages)
shows_all r l messages fit short = shows_kept r l messages (state_after r l messages) (kept_all r l [] messages _ (kept_none r l) fit (omega (arith, short))) short
