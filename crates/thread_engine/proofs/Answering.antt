-- The answers of all readers are those of beginnings of what was published.
use Rattle.std.proofs.Common.{◌≡◌, ◌<◌, ◌≤◌, ◌^◌, ℕ, zero, suc, ◌+◌, ◌*◌, ℤ, List, [], ◌∷◌, ◌++◌, length, take, get_or, true, sym, ap, ◌∙◌, subst, arith}
use Rattle.std.specs.Prelude.{map}
use Rattle.std.specs.List.{flat_map}
use mathlib.Core.List.{IsPrefix}
use Rattle.std.proofs.lemmas.List.{get_or-append-add, length-append, length-take, take-append-le}
use Rattle.std.proofs.lemmas.List.Elements.{All-take}
use Rattle.std.proofs.lemmas.Option.{get_or_from_slice_get}
use Rattle.std.proofs.Math.ListN.{get_or-append}
use Rattle.hash_rows.specs.declared.answer.Answer.{Answer}
use Rattle.hash_rows.specs.declared.options.Options.{Options}
use Rattle.hash_rows.specs.declared.shape.Push.{Push}
use Rattle.hash_rows.specs.declared.shape.Shape.{Shape}
use Rattle.hash_rows.specs.Rules.{Rules}
use Rattle.push_history.specs.Journal.{keys_of, rules_in}
use Rattle.push_history.specs.Looks.{IsLook}
use Rattle.live_state.specs.Copies.{IsCopyOf}
use Rattle.live_state.specs.Fold.{Fit, StateView, fits, most, state_after, layout_in}
use Rattle.live_state.specs.Shows.{Shows}
use Rattle.live_state.specs.declared.layout.Layout.{Layout}
use Rattle.live_state.proofs.Live.{shows_all}
use Rattle.live_view.specs.Views.{ReaderView}
use Rattle.thread_law.specs.Ran.{AreAnswers, IsAnswerNumber}
use Rattle.thread_engine.specs.Readers.{HasSeen}

-- the items of lists of one length, one list after another
pub flat_len : {X Y : Type 0} (f : X → List Y) (m : ℕ) (xs : List X) → ((i : ℕ) (e : X) → i < length xs → length (f (get_or xs i e)) ≡ m) → length (flat_map f xs) ≡ length xs * m
flat_len f m [] each = omega arith
flat_len f m (x ∷ xs) each =
    let here = each 0 x (omega arith) in
    let rest = flat_len f m xs (λ i e lt. each (suc i) e (omega (arith, lt))) in
    let next : suc (length xs) ≡ length xs + 1 = omega arith in
    let times : suc (length xs) * m ≡ length xs * m + m = ap (λ (k : ℕ). k * m) next ∙ omega arith in
    length-append (f x) (flat_map f xs) ∙ omega (arith, here, rest, times)

pub flat_at : {X Y : Type 0} (f : X → List Y) (m : ℕ) (xs : List X) → ((i : ℕ) (e : X) → i < length xs → length (f (get_or xs i e)) ≡ m)
    → (q k : ℕ) (e : X) (d : Y) → q < length xs → k < m → get_or (flat_map f xs) (q * m + k) d ≡ get_or (f (get_or xs q e)) k d
flat_at f m [] each q k e d low high = absurd (omega (arith, low))
flat_at {X} {Y} f m (x ∷ xs) each zero k e d low high =
    let here = each 0 x (omega arith) in
    let at : 0 * m + k ≡ k = omega arith in
    ap (λ (n : ℕ). get_or (f x ++ flat_map f xs) n d) at ∙ get_or-append (f x) (flat_map f xs) d k (omega (arith, here, high))
flat_at {X} {Y} f m (x ∷ xs) each (suc q) k e d low high =
    let here = each 0 x (omega arith) in
    let row : suc q ≡ q + 1 = omega arith in
    let at : suc q * m + k ≡ m + (q * m + k) = ap (λ (b : ℕ). b * m + k) row ∙ omega arith in
    let there : suc q * m + k ≡ length (f x) + (q * m + k) = omega (arith, at, here) in
    ap (λ (n : ℕ). get_or (f x ++ flat_map f xs) n d) there
    ∙ get_or-append-add (f x) (flat_map f xs) (q * m + k) d
    ∙ flat_at f m xs (λ i e lt. each (suc i) e (omega (arith, lt))) q k e d (omega (arith, low)) high

-- a copy of a state is a look at its messages
copied_look : (r : Rules) (o : Options) (messages : List Push) (s : StateView) (a : Answer) → Shows r (layout_in o) messages s → IsCopyOf r s (keys_of o) a → IsLook r o messages a
copied_look r o messages s a shows copy = record {
  folded = copy.folded ∙ shows.folded;
  front = copy.front ∙ shows.front;
  upto = copy.upto ∙ shows.upto;
  shown = copy.shown
      ∙ ap (λ (shape : Shape). map (r.estimate shape s.table.cells) (keys_of o)) shows.shape
      ∙ ap (λ (cells : List ℤ). map (r.estimate o.shape cells) (keys_of o)) shows.cells;
}

module _ (r : Rules) (o : Options) (published : List Push) (fit : Fit r (layout_in o) published) (few : length published < 2 ^ 64) where
  shown_first : (n : ℕ) → Shows r (layout_in o) (take n published) (state_after r (layout_in o) (take n published))
  shown_first n =
      let short : length (take n published) ≤ most = omega (arith, length-take n published, few) in
      shows_all r (layout_in o) (take n published) (All-take (λ m. fits r (layout_in o) m ≡ true) n published fit) short

  module _ (q : ℕ) (view : ReaderView) (answers : List Answer) (h : HasSeen r o published q view answers) where
    many : length view.known ≤ length published
    many = omega (arith, sym (ap length h.known.1) ∙ length-append view.known h.known.0)

    -- answer number k is that of as many first messages as were seen then
    look_at : (k : ℕ) (a : Answer) → k < o.asks → get_or answers k a ≡ a → (IsLook r o (take (h.asked.seen k) published) a) × (a.folded ≡ h.asked.seen k)
    look_at k a lt at =
        let n : ℕ = h.asked.seen k in
        let within = h.asked.within k lt in
        let firsts : take n view.known ≡ take n published = sym (ap (take n) (sym h.known.1) ∙ take-append-le n view.known h.known.0 within) in
        let state = λ (l : Layout) (ms : List Push). state_after r l ms in
        let copy : IsCopyOf r (state (layout_in o) (take n published)) (keys_of o) a =
        subst (λ (b : Answer). IsCopyOf r (state (layout_in o) (take n published)) (keys_of o) b) at
        (subst (λ (ms : List Push). IsCopyOf r (state (layout_in o) ms) (keys_of o) (get_or answers k a)) firsts
        (subst (λ (l : Layout). IsCopyOf r (state l (take n view.known)) (keys_of o) (get_or answers k a)) h.layout (h.asked.each k a lt))) in
        let look = copied_look r o (take n published) (state (layout_in o) (take n published)) a (shown_first n) copy in
        (look, look.folded ∙ omega (arith, length-take n published, within, many))

    answer_is : (k : ℕ) (a : Answer) → k < o.asks → get_or answers k a ≡ a → (a.reader ≡ q) × (a.number ≡ k) × (a.folded ≤ length published) × IsLook r o (take a.folded published) a
    answer_is k a lt at =
        let seen = look_at k a lt at in
        let keeps = h.asked.rest k a (omega (arith, lt, h.asks)) in
        let its = h.numbered k a lt in (
          sym (ap (λ (b : Answer). b.reader) at) ∙ keeps.reader ∙ its.0,
          sym (ap (λ (b : Answer). b.number) at) ∙ keeps.number ∙ its.1,
          omega (arith, seen.1, h.asked.within k lt, many),
          subst (λ (n : ℕ). IsLook r o (take n published) a) (sym seen.1) seen.0,
        )

-- the answers of all readers, by reader
pub answers_are : {P : Type 0} (o : Options) (published : List Push) → Fit (rules_in o) (layout_in o) published → length published < 2 ^ 64
    → (parts : List P) (view_of : P → ReaderView) (answers_of : P → List Answer) → length parts ≡ o.readers
    → ((q : ℕ) (p : P) → q < o.readers → HasSeen (rules_in o) o published q (view_of (get_or parts q p)) (answers_of (get_or parts q p)))
    → AreAnswers o published (flat_map answers_of parts)
answers_are {P} o published fit few parts view_of answers_of count each =
    let r = rules_in o in
    let all = flat_map answers_of parts in
    let lengths : (i : ℕ) (p : P) → i < length parts → length (answers_of (get_or parts i p)) ≡ o.asks = λ i p lt.
    let h = each i p (omega (arith, lt, count)) in h.asked.len ∙ h.asks in
    let own : (q k : ℕ) (p : P) (a : Answer) → q < o.readers → k < o.asks → IsAnswerNumber o all q k a → get_or (answers_of (get_or parts q p)) k a ≡ a = λ q k p a low high is.
    sym (flat_at answers_of o.asks parts lengths q k p a (omega (arith, low, count)) high) ∙ get_or_from_slice_get all (q * o.asks + k) a a is in
    record {
      len = flat_len answers_of o.asks parts lengths ∙ ap (λ (n : ℕ). n * o.asks) count;
      each = λ q k a low high is.
          let p = some_part parts q (omega (arith, low, count)) in
          let its = answer_is r o published fit few q _ _ (each q p low) k a high (own q k p a low high is) in
          record { reader = its.0; number = its.1; within = its.2; look = its.3 };
      rising = λ q j k a b low le high at_a at_b.
          let p = some_part parts q (omega (arith, low, count)) in
          let h = each q p low in
          let x = look_at r o published fit few q _ _ h j a (omega (arith, le, high)) (own q j p a low (omega (arith, le, high)) at_a) in
          let y = look_at r o published fit few q _ _ h k b high (own q k p b low high at_b) in
          omega (arith, x.1, y.1, h.asked.rising j k le high);
    }
  where
    some_part : {P : Type 0} (xs : List P) (n : ℕ) → n < length xs → P
    some_part [] n lt = absurd (omega (arith, lt))
    some_part (x ∷ xs) n lt = x
