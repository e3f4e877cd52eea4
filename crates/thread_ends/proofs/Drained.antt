-- One more message of a lane that is drained.
use Rattle.std.proofs.Common.{inl, inr, ◌+◌, ◌≡◌, ◌≢◌, ◌<◌, ◌≤◌, ℕ, zero, suc, true, List, [], ◌∷◌, ◌++◌, length, set, get_or, refl, sym, ap, subst, ◌∙◌, arith, append_assoc, slice_get}
use Rattle.std.specs.Prelude.{All, Some, None, Option, MatchOption, Result, Ok, Err, OnErr}
use Rattle.std.proofs.Math.Seq.{map-set_same}
use Rattle.std.proofs.lemmas.List.{map-set, get_or-map, get_or-set_other, get_or-set_same, get_or_push, get_or_append_left, length-map, length-append, length_push, ext_get_or}
use Rattle.std.proofs.lemmas.Bool.{cases_eq}
use Rattle.std.proofs.lemmas.List.Elements.{All-set}
use Rattle.std.proofs.lemmas.Option.{get_or_from_slice_get, slice_get_within}
use Rattle.hash_rows.specs.declared.shape.Push.{Push}
use Rattle.hash_rows.specs.Rules.{Rules}
use Rattle.live_state.specs.Fold.{fits}
use Rattle.live_state.specs.declared.layout.Layout.{Layout}
use Rattle.live_view.specs.Views.{WriterView}
use Rattle.push_lane.specs.Rule.{StartsWith}
use Rattle.push_lane.specs.Views.{BothView, LaneView}
use Rattle.aggregate.specs.Takens.{AreNamed, AreTaken, taken_at}
use Rattle.aggregate.proofs.Grown.{taken_more}
use Rattle.thread_ends.specs.Ends.{AreOf, HasAll, HaveOrder, KeepLists, KeepsPublished, both_sents, both_takens, kept_in, with_message}
use Rattle.thread_ends.proofs.Joined.{both_id, lane_id}

abbrev IsInOrder : BothView → Type 0
IsInOrder b = StartsWith b.sent b.taken

pub keep_self : (passes : List BothView) → KeepLists passes passes
keep_self passes = record { ids = refl; sents = refl; fulls = refl }

pub keep_then : (a b c : List BothView) → KeepLists a b → KeepLists b c → KeepLists a c
keep_then a b c x y = record { ids = y.ids ∙ x.ids; sents = y.sents ∙ x.sents; fulls = y.fulls ∙ x.fulls }

pub keep_len : (a b : List BothView) → KeepLists a b → length b ≡ length a
keep_len a b k = sym (length-map b both_id) ∙ ap length k.ids ∙ length-map a both_id

pub of_len : (lanes : List LaneView) (passes : List BothView) → AreOf lanes passes → length passes ≡ length lanes
of_len lanes passes ids = sym (length-map passes both_id) ∙ ap length ids ∙ length-map lanes lane_id

pub same_self : (w : WriterView) → KeepsPublished w w
same_self w = record { book = refl; layout = refl; published = refl }

pub same_then : (a b c : WriterView) → KeepsPublished a b → KeepsPublished b c → KeepsPublished a c
same_then a b c x y = record { book = y.book ∙ x.book; layout = y.layout ∙ x.layout; published = y.published ∙ x.published }

-- the pass at a place is one of the lane there
pub tied : (lanes : List LaneView) (passes : List BothView) (place : ℕ) (lane : LaneView) (one : BothView) → AreOf lanes passes → lane ≡ get_or lanes place lane
    → slice_get passes place ≡ Some one → one.id ≡ lane.id
tied lanes passes place lane one ids on at =
    let within = slice_get_within passes place one at in
    sym (ap both_id (get_or_from_slice_get passes place one one at))
    ∙ sym (get_or-map both_id passes place one one.id within)
    ∙ ap (λ l. get_or l place one.id) ids
    ∙ get_or-map lane_id lanes place lane one.id (omega (arith, within, of_len lanes passes ids))
    ∙ ap lane_id (sym on)

-- the pass at the place, and what became of it
module _ (passes : List BothView) (place : ℕ) (old new : BothView) (at : slice_get passes place ≡ Some old) where
  within : place < length passes
  within = slice_get_within passes place old at

  old_at : (d : BothView) → get_or passes place d ≡ old
  old_at d = get_or_from_slice_get passes place old d at

  pub in_order : HaveOrder passes → StartsWith old.sent old.taken
  in_order order = subst IsInOrder (old_at old) (order place old within)

  pub lists_stay : new.id ≡ old.id → new.sent ≡ old.sent → new.fulls ≡ old.fulls → KeepLists passes (set passes place new)
  lists_stay id sent fulls = record {
    ids = map-set_same both_id passes place new old (id ∙ ap both_id (sym (old_at old)));
    sents = map-set_same (λ (b : BothView). b.sent) passes place new old (sent ∙ ap (λ (b : BothView). b.sent) (sym (old_at old)));
    fulls = map-set_same (λ (b : BothView). b.fulls) passes place new old (fulls ∙ ap (λ (b : BothView). b.fulls) (sym (old_at old)));
  }

  taken_old : taken_at (both_takens passes) place ≡ old.taken
  taken_old = get_or-map (λ (b : BothView). b.taken) passes place old [] within ∙ ap (λ (b : BothView). b.taken) (old_at old)

  sent_old : taken_at (both_sents passes) place ≡ old.sent
  sent_old = get_or-map (λ (b : BothView). b.sent) passes place old [] within ∙ ap (λ (b : BothView). b.sent) (old_at old)

  grow : (m : Push) → new.taken ≡ old.taken ++ m ∷ [] → both_takens (set passes place new) ≡ with_message (both_takens passes) place m
  grow m grew =
      map-set (λ (b : BothView). b.taken) passes place new
      ∙ ap (λ (l : List Push). set (both_takens passes) place l) (grew ∙ ap (λ (l : List Push). l ++ m ∷ []) (sym taken_old))

  stay : new.taken ≡ old.taken → both_takens (set passes place new) ≡ both_takens passes
  stay same = map-set_same (λ (b : BothView). b.taken) passes place new old (same ∙ ap (λ (b : BothView). b.taken) (sym (old_at old)))

-- what a drain makes of the lists
abbrev pub Drains : BothView → BothView → Option Push → Type 0
Drains old new o = MatchOption o ((old.taken ≡ old.sent) × (new.taken ≡ old.taken)) (λ m. (new.taken ≡ old.taken ++ m ∷ []) × StartsWith new.sent new.taken)

pub order_after : (passes : List BothView) (place : ℕ) (old new : BothView) → slice_get passes place ≡ Some old → HaveOrder passes → new.sent ≡ old.sent → (o : Option Push) → Drains old new o
    → HaveOrder (set passes place new)
order_after passes place old new at order sent None d =
    let first = in_order passes place old old at order in
    All-set IsInOrder passes place new (first.0, sent ∙ first.1 ∙ ap (λ (l : List Push). l ++ first.0) (sym d.1)) order
order_after passes place old new at order sent (Some m) d = All-set IsInOrder passes place new d.1 order

pub takens_after : (passes : List BothView) (place : ℕ) (old new : BothView) → slice_get passes place ≡ Some old → (o : Option Push) → Drains old new o
    → MatchOption o
    ((both_takens (set passes place new) ≡ both_takens passes) × (taken_at (both_takens passes) place ≡ taken_at (both_sents passes) place))
    (λ m. both_takens (set passes place new) ≡ with_message (both_takens passes) place m)
takens_after passes place old new at None d = (stay passes place old new at d.1, taken_old passes place old new at ∙ d.0 ∙ sym (sent_old passes place old new at))
takens_after passes place old new at (Some m) d = grow passes place old new at m d.0

pub order_at : (passes : List BothView) (k : ℕ) → k < length passes → HaveOrder passes → StartsWith (taken_at (both_sents passes) k) (taken_at (both_takens passes) k)
order_at [] k lt order = absurd (omega (arith, lt))
order_at (b ∷ bs) zero lt order = order 0 b (omega arith)
order_at (b ∷ bs) (suc k) lt order = order_at bs k (omega (arith, lt)) (λ j d l. order (suc j) d (omega (arith, l)))

-- one message more was taken of the lane at the place
module _ (a b : List BothView) (place : ℕ) (m : Push) (within : place < length a) (same : KeepLists a b) (took : both_takens b ≡ with_message (both_takens a) place m) where
  inside : place < length (both_takens a)
  inside = omega (arith, within, length-map a (λ (x : BothView). x.taken))

  at_place : taken_at (both_takens b) place ≡ taken_at (both_takens a) place ++ m ∷ []
  at_place = ap (λ (l : List (List Push)). taken_at l place) took ∙ get_or-set_same (both_takens a) place (taken_at (both_takens a) place ++ m ∷ []) [] inside

  pub others_stay : (k : ℕ) → k ≢ place → taken_at (both_takens b) k ≡ taken_at (both_takens a) k
  others_stay k apart = ap (λ (l : List (List Push)). taken_at l k) took ∙ get_or-set_other (both_takens a) place k (taken_at (both_takens a) place ++ m ∷ []) [] apart

  -- the message was sent, so it fits
  pub fits_one : (r : Rules) (l : Layout) (sents : List (List Push)) → both_sents b ≡ sents → AreNamed r l sents → HaveOrder b → fits r l m ≡ true
  fits_one r l sents is named order =
      let P : Push → Type 0 = λ x. (x.worker ≡ place) × (fits r l x ≡ true) in
      let t = taken_at (both_takens a) place in
      let begins : StartsWith (taken_at sents place) (t ++ m ∷ []) =
      subst (λ (front : List Push). StartsWith (taken_at sents place) front) at_place
      (subst (λ (ls : List (List Push)). StartsWith (taken_at ls place) (taken_at (both_takens b) place)) is (order_at b place (omega (arith, within, keep_len a b same)) order)) in
      let rest = begins.0 in
      let all : All P ((t ++ m ∷ []) ++ rest) = subst (All P) begins.1 (named place) in
      let lt : length t < length (t ++ m ∷ []) = omega (arith, length_push t m) in
      let at = all (length t) m (omega (arith, lt, length-append (t ++ m ∷ []) rest)) in
      (subst P (get_or_append_left (t ++ m ∷ []) rest m (length t) lt ∙ get_or_push t m m (length t) refl) at).1

  -- what was sent was named and ordered at first, and stayed
  module _ (r : Rules) (start : List BothView) (first v : WriterView) (kept : KeepLists start a) (pair : KeepsPublished first v) (named : AreNamed r first.layout (both_sents start)) (order : HaveOrder b) where
    pub it_fits : fits r v.layout m ≡ true
    it_fits = ap (λ (l : Layout). fits r l m) pair.layout ∙ fits_one r first.layout (both_sents start) (same.sents ∙ kept.sents) named order

    pub taken_one : (w : WriterView) (after : List Push) → HasAll r a v → w.layout ≡ v.layout → after ≡ kept_in v ++ m ∷ [] → AreTaken r w.layout (both_takens b) after
    taken_one w after before layout more =
        subst (λ (n : Layout). AreTaken r n (both_takens b) after) (sym layout)
        (subst (λ (ls : List (List Push)). AreTaken r v.layout ls after) (sym took)
        (taken_more (both_takens a) place m inside r v.layout (kept_in v) before after true (sym it_fits) more))

-- nothing more was taken
pub taken_same : (r : Rules) (l : Layout) (a b : List BothView) (messages : List Push) → both_takens b ≡ both_takens a → AreTaken r l (both_takens a) messages → AreTaken r l (both_takens b) messages
taken_same r l a b messages same before = subst (λ (ls : List (List Push)). AreTaken r l ls messages) (sym same) before

-- what the writer has after a message was appended, and after none was
pub kept_more : (v w : WriterView) (m : Push) → w.published ≡ v.published → w.pending ≡ v.pending ++ m ∷ [] → kept_in w ≡ kept_in v ++ m ∷ []
kept_more v w m published pending =
    ap (λ (l : List Push). l ++ w.pending) published ∙ ap (λ (l : List Push). v.published ++ l) pending ∙ sym (append_assoc v.published v.pending (m ∷ []))

pub kept_same : (v w : WriterView) → w.published ≡ v.published → w.pending ≡ v.pending → kept_in w ≡ kept_in v
kept_same v w published pending = ap (λ (l : List Push). l ++ w.pending) published ∙ ap (λ (l : List Push). v.published ++ l) pending

-- one lane more is drained
pub drained_next : (a b : List BothView) (place : ℕ) → ((k : ℕ) → k ≢ place → taken_at (both_takens b) k ≡ taken_at (both_takens a) k) → KeepLists a b
    → taken_at (both_takens b) place ≡ taken_at (both_sents b) place → ((k : ℕ) → k < place → taken_at (both_takens a) k ≡ taken_at (both_sents a) k)
    → (k : ℕ) → k < place + 1 → taken_at (both_takens b) k ≡ taken_at (both_sents b) k
drained_next a b place others kept here before k lt = elim (cases_eq k place) [
  | inl same ↦ subst (λ (n : ℕ). taken_at (both_takens b) n ≡ taken_at (both_sents b) n) (sym same) here
  | inr apart ↦ others k apart ∙ before k (omega (arith, lt, apart)) ∙ sym (ap (λ (l : List (List Push)). taken_at l k) kept.sents)
]

-- all lanes are drained
pub drained_all : (passes : List BothView) (n : ℕ) → length passes ≤ n → ((k : ℕ) → k < n → taken_at (both_takens passes) k ≡ taken_at (both_sents passes) k) → both_takens passes ≡ both_sents passes
drained_all passes n all each =
    let takens_len = length-map passes (λ (b : BothView). b.taken) in
    let sents_len = length-map passes (λ (b : BothView). b.sent) in
    ext_get_or [] (both_takens passes) (both_sents passes) (omega (arith, takens_len, sents_len)) (λ k lt. each k (omega (arith, lt, takens_len, all)))

-- what was sent is still named, as it is the same
pub named_still : (r : Rules) (a b : List BothView) (v w : WriterView) → KeepLists a b → KeepsPublished v w → AreNamed r v.layout (both_sents a) → AreNamed r w.layout (both_sents b)
named_still r a b v w kept same named =
    subst (λ (l : Layout). AreNamed r l (both_sents b)) (sym same.layout) (subst (AreNamed r v.layout) (sym kept.sents) named)

-- what holds after want of memory
pub at_err : {A E : Type 0} (P : Type 0) (r : Result A E) → P → OnErr r P
at_err P (Ok a) p = tt
at_err P (Err e) p = p
