-- The state that messages are folded into.
use Rattle.std.proofs.Common.{◌≡◌, ◌<◌, ◌≤◌, ◌+◌, ◌*◌, ◌^◌, ◌&&◌, ℕ, Bool, true, false, List, [], ◌∷◌, ◌++◌, length, get_or, fold, nat_lt, if◌then◌else◌, refl, sym, ap, ap₂, ◌∙◌, subst, arith, append_assoc, append-nil, length-append}
use Rattle.std.specs.Prelude.{All, slice_set, sum}
use Rattle.std.proofs.Math.Nat.{mul-le-mul_right}
use Rattle.std.proofs.lemmas.List.{get_or_append_left, length-take-le, take_all}
use Rattle.std.proofs.lemmas.List.Sums.{fold-append, sum_by-le}
use Rattle.std.proofs.lemmas.Option.{get_or_from_slice_get, slice_get-get_or}
use Rattle.flow_base.specs.Calls.{one_more}
use Rattle.packet_key.specs.declared.key.FlowKey.{FlowKey}
use Rattle.hash_rows.specs.declared.shape.Push.{Push}
use Rattle.hash_rows.specs.Rules.{Rules}
use Rattle.hash_rows.specs.Shapes.{size_of}
use Rattle.hash_rows.specs.Tables.{put_in}
use Rattle.heavy_keys.specs.Noted.{is_due}
use Rattle.push_history.specs.Front.{front_of, messages_of}
use Rattle.push_history.specs.LagRun.{State, Terms, updates_by, worker_in}
use Rattle.push_history.specs.LawfulRun.{IsLawfulState}
use Rattle.push_history.specs.LiveHeavy.{live_keys}
use Rattle.push_history.proofs.Fitting.{sent_few}
use Rattle.push_history.proofs.MoreMessages.{front_at, front_len}
use Rattle.fold_law.proofs.Fronts.{front_sum}
use Rattle.live_state.specs.declared.layout.Layout.{Layout}
use Rattle.live_state.specs.Fold.{Fit, IsStateAfter, StateView, absorbed, fits, fresh_state, front_raised, layout_of, most, state_after}
use Rattle.live_state.specs.Shows.{Shows}
use Rattle.live_state.proofs.Layouts.{absorbed_layout}
use Rattle.live_state.proofs.Live.{shows_all}

-- a run folds fewer messages than a count of 64 bits holds
pub folded_few : (t : Terms) (s : State) → IsLawfulState t s → length t.updates < 2 ^ 32 → ((w : ℕ) → w < length t.updates → length (updates_by t w) < 2 ^ 32) → length s.folded ≤ most
folded_few t s h few updates =
    let n = length t.updates in
    let front : List ℕ = front_of n s.folded in
    let each : All (λ c. c ≤ 4294967295) front = λ k d lt.
    let below : k < n = omega (arith, lt, front_len n s.folded) in
    let at : get_or front k d ≡ length (messages_of k s.folded) = get_or_from_slice_get front k (get_or front k 0) d (slice_get-get_or front k 0 lt) ∙ front_at n s.folded k below in
    let x = worker_in s k in
    let own : length (messages_of k s.folded) ≡ x.taken = ap length (h.folded k below) ∙ length-take-le x.taken x.sent (h.each k below).taken in
    omega (arith, at, own, (h.each k below).taken, sent_few t k x (h.each k below), updates k below) in
    let total = sum_by-le (λ (c : ℕ). c) 4294967295 front each in
    let times : length front * 4294967295 ≤ 4294967295 * 4294967295 = mul-le-mul_right {n = 4294967295} 4294967295 (omega (arith, few, front_len n s.folded)) in
    let all : sum front ≡ length s.folded = ap (λ (l : List Push). sum (front_of n l)) (sym (take_all (length s.folded) s.folded (omega arith))) ∙ front_sum n s.folded h.of_workers (length s.folded) (omega arith) in
    omega (arith, total, times, all)

fit_by : (a b c : Bool) → a ≡ true → b ≡ true → c ≡ true → (a && (b && c)) ≡ true
fit_by a b c x y z = ap₂ (λ u v. u && v) x (ap₂ (λ u v. u && v) y z)

module _ (r : Rules) where
  pub all_fit : (l : Layout) (messages : List Push) → All (λ m. (m.worker < l.workers) × (m.cell < size_of l.shape) × (r.is_value m.amount ≡ true)) messages → Fit r l messages
  all_fit l messages h = λ k d lt.
      let m = h k d lt in
      let worker : nat_lt (get_or messages k d).worker l.workers ≡ true = grind (arith, m.0) in
      let cell : nat_lt (get_or messages k d).cell (size_of l.shape) ≡ true = grind (arith, m.1) in
      fit_by _ _ _ worker cell m.2

  -- a further message
  pub folded_on : (s : StateView) (messages : List Push) (m : Push) → IsStateAfter r s messages → Fit r (layout_of s) (messages ++ m ∷ []) → IsStateAfter r (absorbed r s m) (messages ++ m ∷ [])
  folded_on s messages m h fit =
      let same : layout_of (absorbed r s m) ≡ layout_of s = absorbed_layout r s m in
      record {
        fit = subst (λ (l : Layout). Fit r l (messages ++ m ∷ [])) (sym same) fit;
        sums = ap (λ (z : StateView). absorbed r z m) h.sums ∙ sym (fold-append (absorbed r) (fresh_state (layout_of s)) messages (m ∷ []))
            ∙ ap (λ (l : Layout). state_after r l (messages ++ m ∷ [])) (sym same);
      }

  pub shows : (s : StateView) (messages : List Push) → IsStateAfter r s messages → length messages ≤ most → Shows r (layout_of s) messages s
  shows s messages h short = subst (λ (z : StateView). Shows r (layout_of s) messages z) (sym h.sums) (shows_all r (layout_of s) messages h.fit short)

  -- the keys stay, and others may come behind them
  keys_stay : (s : StateView) (m : Push) → (more : List FlowKey) × ((absorbed r s m).heavy.keys ≡ s.heavy.keys ++ more)
  keys_stay s m =
      let table = put_in r.join s.table m.cell m.amount in
      by (fits r (layout_of s) m) r.keyed (is_due s.heavy m.key (r.estimate table.shape table.cells m.key)) (nat_lt (length s.heavy.keys) s.heavy.limit)
    where
      by : (a b c e : Bool) → (more : List FlowKey) × ((if a then (record {
        table = put_in r.join s.table m.cell m.amount;
        front = front_raised s.front m.worker;
        upto = slice_set s.upto m.worker (m.update + 1);
        folded = one_more s.folded;
        heavy = if b then (if c then (if e then record s.heavy { keys = s.heavy.keys ++ m.key ∷ [] } else record s.heavy { missed = one_more s.heavy.missed }) else s.heavy) else s.heavy;
      }) else s).heavy.keys ≡ s.heavy.keys ++ more)
      by false b c e = ([], sym (append-nil s.heavy.keys))
      by true false c e = ([], sym (append-nil s.heavy.keys))
      by true true false e = ([], sym (append-nil s.heavy.keys))
      by true true true true = (m.key ∷ [], refl)
      by true true true false = ([], sym (append-nil s.heavy.keys))

  keys_go_on : (s : StateView) (messages : List Push) → (more : List FlowKey) × ((fold (absorbed r) s messages).heavy.keys ≡ s.heavy.keys ++ more)
  keys_go_on s [] = ([], sym (append-nil s.heavy.keys))
  keys_go_on s (m ∷ messages) =
      let one = keys_stay s m in
      let rest = keys_go_on (absorbed r s m) messages in
      (one.0 ++ rest.0, rest.1 ∙ ap (λ (ks : List FlowKey). ks ++ rest.0) one.1 ∙ append_assoc s.heavy.keys one.0 rest.0)

  -- the live keys of the first messages are the first of all live keys
  pub live_first : (l : Layout) (xs ys : List Push) → Fit r l (xs ++ ys) → length (xs ++ ys) ≤ most
      → (more : List FlowKey) × (live_keys r l.shape l.heavy l.least (xs ++ ys) ≡ live_keys r l.shape l.heavy l.least xs ++ more)
  live_first l xs ys fit short =
      let both = length-append xs ys in
      let own : Fit r l xs = λ k d lt. subst (λ (m : Push). fits r l m ≡ true) (get_or_append_left xs ys d k lt) (fit k d (omega (arith, lt, both))) in
      let all = shows_all r l (xs ++ ys) fit short in
      let first = shows_all r l xs own (omega (arith, short, both)) in
      let on = keys_go_on (state_after r l xs) ys in
      (on.0, sym all.keys ∙ ap (λ (z : StateView). z.heavy.keys) (fold-append (absorbed r) (fresh_state l) xs ys) ∙ on.1 ∙ ap (λ (ks : List FlowKey). ks ++ on.0) first.keys)
