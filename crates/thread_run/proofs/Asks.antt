-- One ask more of a reader.
use Rattle.std.proofs.Common.{◌≡◌, ◌≢◌, ◌<◌, ◌≤◌, ℕ, ◌+◌, ◌==◌, true, false, cond, List, [], ◌++◌, length, get_or, take, append_assoc, append-nil, refl, sym, ap, ◌∙◌, subst, arith, inl, inr, length-append}
use mathlib.Core.List.{IsPrefix}
use Rattle.std.proofs.lemmas.Bool.{cases_eq}
use Rattle.std.proofs.lemmas.List.{take_all, take-append-le}
use Rattle.packet_key.specs.declared.key.FlowKey.{FlowKey}
use Rattle.hash_rows.specs.declared.answer.Answer.{Answer}
use Rattle.hash_rows.specs.declared.shape.Push.{Push}
use Rattle.hash_rows.specs.Rules.{Rules}
use Rattle.live_state.specs.Copies.{IsCopyOf, KeepsRest}
use Rattle.live_state.specs.Fold.{state_after}
use Rattle.live_view.specs.Views.{ReaderView}
use Rattle.live_state.specs.declared.layout.Layout.{Layout}
use Rattle.thread_run.specs.Readers.{AreAsked}

pub prefix_self : (xs : List Push) → IsPrefix xs xs
prefix_self xs = ([], append-nil xs)

pub prefix_trans : (xs ys zs : List Push) → IsPrefix xs ys → IsPrefix ys zs → IsPrefix xs zs
prefix_trans xs ys zs p q = (p.0 ++ q.0, sym (append_assoc xs p.0 q.0) ∙ (ap (λ (w : List Push). w ++ q.0) p.1 ∙ q.1))

prefix_len : (xs ys : List Push) → IsPrefix xs ys → length xs ≤ length ys
prefix_len xs ys p = omega (arith, sym (ap length p.1) ∙ length-append xs p.0)

prefix_take : (n : ℕ) (xs ys : List Push) → IsPrefix xs ys → n ≤ length xs → take n ys ≡ take n xs
prefix_take n xs ys p le = ap (take n) (sym p.1) ∙ take-append-le n xs p.0 le

-- no ask was made
pub asked_none : (r : Rules) (keys : List FlowKey) (old : List Answer) (view : ReaderView) → AreAsked r keys old view old 0
asked_none r keys old view = record {
  len = refl;
  rest = λ k d lt. record { reader = refl; number = refl; front_room = refl; upto_room = refl; shown_room = refl };
  seen = λ k. 0;
  within = λ k lt. absurd (omega (arith, lt));
  rising = λ j k le lt. absurd (omega (arith, lt));
  each = λ k d lt. absurd (omega (arith, lt));
}

rest_then : (a b c : Answer) → KeepsRest a b → KeepsRest b c → KeepsRest a c
rest_then a b c h k = record {
  reader = k.reader ∙ h.reader;
  number = k.number ∙ h.number;
  front_room = k.front_room ∙ h.front_room;
  upto_room = k.upto_room ∙ h.upto_room;
  shown_room = k.shown_room ∙ h.shown_room;
}

module _ (r : Rules) (keys : List FlowKey) (old : List Answer) (v w : ReaderView) (a b : List Answer) (n : ℕ) (h : AreAsked r keys old v a n)
    (layout : w.layout ≡ v.layout) (known : IsPrefix v.known w.known) (len : length b ≡ length a) (inside : n < length a)
    (others : (k : ℕ) (d : Answer) → k ≢ n → get_or b k d ≡ get_or a k d)
    (rest : (d : Answer) → KeepsRest (get_or a n d) (get_or b n d))
    (one : (d : Answer) → IsCopyOf r (state_after r w.layout w.known) keys (get_or b n d)) where
  now_seen : ℕ → ℕ
  now_seen k = cond (k == n) (length w.known) (h.seen k)

  seen_here : now_seen n ≡ length w.known
  unfolding now_seen
  seen_here = let e : (n == n) ≡ true = grind arith in ap (λ c. cond c (length w.known) (h.seen n)) e

  seen_before : (k : ℕ) → k ≢ n → now_seen k ≡ h.seen k
  unfolding now_seen
  seen_before k ne = let e : (k == n) ≡ false = grind arith in ap (λ c. cond c (length w.known) (h.seen k)) e

  longer : length v.known ≤ length w.known
  longer = prefix_len v.known w.known known

  seen_within : (k : ℕ) → k < n + 1 → now_seen k ≤ length w.known
  seen_within k lt = elim (cases_eq k n) [
    | inl same ↦ (let e = ap now_seen same ∙ seen_here in omega (arith, e))
    | inr ne ↦ (let e = seen_before k ne in let le = h.within k (omega (arith, lt, ne)) in omega (arith, e, le, longer))
  ]

  seen_rising : (j k : ℕ) → j ≤ k → k < n + 1 → now_seen j ≤ now_seen k
  seen_rising j k le lt = elim (cases_eq k n) [
    | inl same ↦ (let e = ap now_seen same ∙ seen_here in let m = seen_within j (omega (arith, le, lt)) in omega (arith, e, m))
    | inr ne ↦ (
        let jn : j ≢ n = (λ (q : j ≡ n). absurd (omega (arith, q, le, lt, ne))) in
        let e = seen_before k ne in
        let f = seen_before j jn in
        let m = h.rising j k le (omega (arith, lt, ne)) in
        omega (arith, e, f, m))
  ]

  each_now : (k : ℕ) (d : Answer) → k < n + 1 → IsCopyOf r (state_after r w.layout (take (now_seen k) w.known)) keys (get_or b k d)
  each_now k d lt = elim (cases_eq k n) [
    | inl same ↦ (
        let whole : take (now_seen k) w.known ≡ w.known = take_all (now_seen k) w.known (let e = ap now_seen same ∙ seen_here in omega (arith, e)) in
        subst (λ (l : List Push). IsCopyOf r (state_after r w.layout l) keys (get_or b k d)) (sym whole)
        (subst (λ (m : ℕ). IsCopyOf r (state_after r w.layout w.known) keys (get_or b m d)) (sym same) (one d)))
    | inr ne ↦ (
        let before : k < n = omega (arith, lt, ne) in
        let front : take (h.seen k) v.known ≡ take (now_seen k) w.known = sym (prefix_take (h.seen k) v.known w.known known (h.within k before)) ∙ ap (λ (m : ℕ). take m w.known) (sym (seen_before k ne)) in
        subst (λ (l : Layout). IsCopyOf r (state_after r l (take (now_seen k) w.known)) keys (get_or b k d)) (sym layout)
        (subst (λ (l : List Push). IsCopyOf r (state_after r v.layout l) keys (get_or b k d)) front
        (subst (IsCopyOf r (state_after r v.layout (take (h.seen k) v.known)) keys) (sym (others k d ne)) (h.each k d before))))
  ]

  rest_now : (k : ℕ) (d : Answer) → k < length old → KeepsRest (get_or old k d) (get_or b k d)
  rest_now k d lt = elim (cases_eq k n) [
    | inl same ↦ rest_then (get_or old k d) (get_or a k d) (get_or b k d) (h.rest k d lt) (subst (λ (m : ℕ). KeepsRest (get_or a m d) (get_or b m d)) (sym same) (rest d))
    | inr ne ↦ subst (KeepsRest (get_or old k d)) (sym (others k d ne)) (h.rest k d lt)
  ]

  pub asked_more : AreAsked r keys old w b (n + 1)
  asked_more = record {
    len = len ∙ h.len;
    rest = rest_now;
    seen = now_seen;
    within = seen_within;
    rising = seen_rising;
    each = each_now;
  }
