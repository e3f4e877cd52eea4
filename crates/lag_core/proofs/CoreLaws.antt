-- The laws that hold of each worker of a core.
use Rattle.std.proofs.Common.{◌≡◌, ◌<◌, ◌≤◌, ◌-◌, ◌==◌, ℕ, ℤ, true, List, [], ◌++◌, length, take, drop, get_or, slice_get, Some, sym, ◌∙◌, ap, ap₂, subst, arith, inl, inr, append_assoc, length-append}
use Rattle.std.proofs.lemmas.Bool.{cases_lt}
use Rattle.std.proofs.lemmas.List.{drop_at, get_or_past, length-take-le, take-append-drop, take_at}
use Rattle.std.proofs.lemmas.List.Elements.{All-nil, filter-append}
use Rattle.std.proofs.lemmas.Option.{slice_get_within}
use Rattle.hash_rows.specs.declared.shape.Push.{Push}
use Rattle.hash_rows.specs.declared.shape.Update.{Update as Entry}
use Rattle.hash_rows.specs.Rules.{Rules, AreLaws}
use Rattle.push_history.specs.Front.{front_of, messages_of}
use Rattle.push_history.specs.LagRun.{State, Terms, Worker, worker_in, updates_by}
use Rattle.push_history.specs.Pushes.{LawfulPushes}
use Rattle.push_history.specs.Residue.{residue}
use Rattle.push_history.specs.Told.{told_of}
use Rattle.push_history.specs.Updates.{HoldValues}
use Rattle.push_history.specs.Whole.{whole}
use Rattle.push_history.proofs.Conserved.{conserved}
use Rattle.push_history.proofs.MoreMessages.{front_at}
use Rattle.push_rule.specs.Counters.{CounterView}
use Rattle.lag_core.specs.Workers.{IsWorkerAt, terms_within}
use Rattle.lag_core.specs.Lags.{Core, IsCoreAt, shown_messages, workers_of}
use Rattle.lag_core.specs.Laws.{Conserves, IsLawfulAt, IsLawfulCore, folded_front, lane_of, shown_front, told_folded, told_shown}
use Rattle.lag_core.proofs.CoreSteps.{state_shows}
use Rattle.lag_core.proofs.Counting.{counted_is}

module _ {K H : Type 0} (stands : H → ℤ → ℤ → Type 0) (r : Rules) (v : Core K H) (s : State) (h : IsCoreAt stands r v s) where
  abbrev t : Terms
  t = terms_within r v.limits

  -- the messages of a worker that are shown, and those that are folded and not shown
  abbrev first : ℕ → List Push
  first w = messages_of w (shown_messages s)

  abbrev rest : ℕ → List Push
  rest w = messages_of w (drop s.shown s.folded)

  at_front : (front : List ℕ) (messages : List Push) → front ≡ front_of (length v.fold.front) messages → (w : ℕ) → w < workers_of v → get_or front w 0 ≡ length (messages_of w messages)
  at_front front messages is w below = ap (λ (l : List ℕ). get_or l w 0) is ∙ front_at (length v.fold.front) messages w (omega (arith, below, h.fit.fronts))

  shown_is : (w : ℕ) → w < workers_of v → shown_front v w ≡ length (first w)
  shown_is = at_front v.shown.front.items (shown_messages s) h.shown.front

  all_is : (w : ℕ) → w < workers_of v → folded_front v w ≡ length (messages_of w s.folded)
  all_is = at_front v.fold.front s.folded (state_shows stands r v s h).front

  both_are : (w : ℕ) → first w ++ rest w ≡ messages_of w s.folded
  both_are w = sym (filter-append (λ m. m.worker == w) (shown_messages s) (drop s.shown s.folded)) ∙ ap (messages_of w) (take-append-drop s.shown s.folded)

  no_more_shown : (w : ℕ) → w < workers_of v → shown_front v w ≤ folded_front v w
  no_more_shown w below = omega (arith, shown_is w below, all_is w below, ap length (both_are w), length-append (first w) (rest w))

  own_values : (w : ℕ) → HoldValues r (updates_by t w)
  own_values w = elim (cases_lt w (workers_of v)) [
    | inl below ↦ (λ k d lt. (h.fit.updates w below k d lt).1)
    | inr past ↦ subst (λ (us : List Entry). HoldValues r us) (sym (get_or_past v.limits.updates w [] past)) (All-nil (λ (u : Entry). r.is_value u.value ≡ true))
  ]

  module _ (w : ℕ) (d : CounterView H) (at : slice_get v.workers w ≡ Some d) where
    abbrev x : Worker
    x = worker_in s w

    abbrev tail : List Push
    tail = drop x.taken x.sent

    its : IsWorkerAt stands t w d x
    its = h.each w d at

    below : w < workers_of v
    below = omega (arith, slice_get_within v.workers w d at, h.fit.workers)

    count : d.sketch.counted ≡ x.counted
    count = counted_is stands t w d x its

    folded_is : folded_front v w ≡ x.taken
    folded_is = all_is w below ∙ ap length (h.lawful.folded w below) ∙ length-take-le x.taken x.sent (h.lawful.each w below).taken

    lane_is : lane_of d ≡ tail
    lane_is =
        let place : x.taken ≡ length its.keeps.cleared = omega (arith, its.keeps.taken, its.ready.cleared) in
        ap (λ (n : ℕ). drop n d.queue) its.ready.cleared
        ∙ sym (ap (drop x.taken) its.keeps.queue ∙ drop_at its.keeps.cleared d.queue x.taken (sym place))

    lawful_worker : IsLawfulAt r v s w d
    lawful_worker = record {
      pushes = subst (λ (n : ℕ). LawfulPushes r w v.limits.threshold v.limits.capacity v.limits.full (take n (updates_by t w)) x.sent x.refused) (sym count) (h.lawful.each w below).lawful;
      folded = h.lawful.folded w below ∙ ap (λ (n : ℕ). take n x.sent) (sym folded_is);
      queued = lane_is ∙ ap (λ (n : ℕ). drop n x.sent) (sym folded_is);
    }

    sent_is : x.sent ≡ first w ++ (rest w ++ tail)
    sent_is = sym (take-append-drop x.taken x.sent) ∙ ap (λ (l : List Push). l ++ tail) (sym (both_are w ∙ h.lawful.folded w below)) ∙ append_assoc (first w) (rest w) tail

    shown_first : take (shown_front v w) x.sent ≡ first w
    shown_first = ap (take (shown_front v w)) sent_is ∙ take_at (first w) (rest w ++ tail) (shown_front v w) (sym (shown_is w below))

    then_folded : take (folded_front v w - shown_front v w) (drop (shown_front v w) x.sent) ≡ rest w
    then_folded =
        let k : ℕ = folded_front v w - shown_front v w in
        let long : length (rest w) ≡ k = omega (arith, shown_is w below, all_is w below, ap length (both_are w), length-append (first w) (rest w)) in
        ap (λ (l : List Push). take k (drop (shown_front v w) l)) sent_is
        ∙ ap (take k) (drop_at (first w) (rest w ++ tail) (shown_front v w) (sym (shown_is w below))) ∙ take_at (rest w) tail k long

    conserved_worker : AreLaws r → (cell : ℕ) → whole r (updates_by t w) d.sketch.counted cell
        ≡ r.join (r.join (r.join (told_shown r v x.sent w cell) (told_folded r v x.sent w cell)) (told_of r cell (lane_of d))) (residue r (updates_by t w) x.sent d.sketch.counted cell)
    conserved_worker laws cell =
        ap (λ (n : ℕ). whole r (updates_by t w) n cell) count
        ∙ conserved t laws own_values s h.lawful w cell below
        ∙ ap₂ r.join
        (ap₂ r.join (ap₂ r.join (ap (told_of r cell) (sym shown_first)) (ap (told_of r cell) (sym then_folded))) (ap (told_of r cell) (sym lane_is)))
        (ap (λ (n : ℕ). residue r (updates_by t w) x.sent n cell) (sym count))

  pub lawful_at : IsLawfulCore r v s
  lawful_at = record { workers = lawful_worker; shown = no_more_shown }

  pub conserves_at : AreLaws r → Conserves r v s
  conserves_at laws = record { whole_is = λ w cell d at. conserved_worker w d at laws cell }
