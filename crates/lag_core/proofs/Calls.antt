-- What each call of a core makes of it, and what each reading tells: `v` is what the core holds, and `o` what its caller
-- sees of it.
use Rattle.std.proofs.Common.{◌≡◌, ◌<◌, ◌-◌, ◌∙◌, ℕ, ℤ, pos, Bool, Some, List, length, take, set, get_or, slice_get, refl, sym, ap, subst, arith}
use Rattle.std.proofs.lemmas.Option.{get_or_from_slice_get, slice_get_read}
use Rattle.listed.specs.Listed.{Listed}
use Rattle.packet_key.specs.declared.key.FlowKey.{FlowKey}
use Rattle.hash_rows.specs.declared.shape.Push.{Push}
use Rattle.hash_rows.specs.declared.shape.Update.{Update as Entry}
use Rattle.hash_rows.specs.declared.shape.Shape.{Shape}
use Rattle.hash_rows.specs.Rules.{Rules, AreLaws}
use Rattle.hash_rows.specs.Shapes.{size_of}
use Rattle.hash_rows.specs.Tables.{TableView}
use Rattle.push_history.specs.declared.event.Event.{Event}
use Rattle.push_history.specs.declared.event.Event.TheVariants.{Update, Take, Publish, Ask}
use Rattle.push_history.specs.declared.event.Reply.{Reply}
use Rattle.push_history.specs.declared.event.Reply.TheVariants.{Published, Answered, Empty, Took}
use Rattle.push_history.specs.Front.{front_of, message_at, uptos_of}
use Rattle.push_history.specs.LagRun.{State, Terms, Worker, count_step, lag_step, updates_by, worker_in}
use Rattle.push_history.specs.OwnSteps.{with_taken}
use Rattle.push_history.specs.LiveHeavy.{live_keys}
use Rattle.push_history.specs.Pushes.{is_refused}
use Rattle.push_history.specs.Residue.{residue}
use Rattle.push_history.specs.Shown.{shown_cells, shown_of}
use Rattle.push_rule.specs.Counters.{CounterView}
use Rattle.push_rule.specs.Keeps.{Keeps}
use Rattle.fold_law.proofs.Sums.{count_min}
use Rattle.bracket.specs.Bracket.{AreAmounts, IsNear}
use Rattle.bracket.proofs.Bracketed.{are_plain}
use Rattle.bracket.proofs.Counted.{front_within, near_at}
use Rattle.live_state.specs.Fold.{StateView, absorbed}
use Rattle.lag_core.specs.declared.shown.ShownState.{ShownState}
use Rattle.lag_core.specs.Workers.{CanTakeUp, IsWorkerAt, Limits, terms_within}
use Rattle.lag_core.specs.Lags.{Core, IsCoreAfter, IsCoreAt, Steps, refused_by_each, run_state, sent_by_each, shape_of, shown_messages, workers_of}
use Rattle.lag_core.proofs.Counting.{held_is}
use Rattle.lag_core.proofs.Reading.{cell_is, estimate_is, live_at, live_within}
use Rattle.lag_core.proofs.CoreSteps.{ask_steps, can_take_up, front_long, publish_steps, seen_long, take_none, take_one, update_steps, upto_long}

module _ {K H : Type 0} (stands : H → ℤ → ℤ → Type 0) (r : Rules) (v o : Core K H) (same : v ≡ o) where
  -- what holds of what the core holds, for all events, holds of what its caller sees
  seen_as : (P : Core K H → State → Type 0) → ((events : List Event) → IsCoreAfter stands r v events → P v (run_state r v events)) → (events : List Event) → IsCoreAfter stands r o events → P o (run_state r o events)
  seen_as P all = subst (λ (z : Core K H). (events : List Event) → IsCoreAfter stands r z events → P z (run_state r z events)) same all

  pub front_read : (w x : ℕ) → slice_get v.shown.front.items w ≡ Some x → (events : List Event) → IsCoreAfter stands r o events → x ≡ get_or (front_of (workers_of o) (shown_messages (run_state r o events))) w 0
  front_read w x at = seen_as (λ z s. x ≡ get_or (front_of (workers_of z) (shown_messages s)) w 0)
      (λ events h. sym (get_or_from_slice_get v.shown.front.items w x 0 at) ∙ ap (λ (l : List ℕ). get_or l w 0) h.shown.front ∙ ap (λ (n : ℕ). get_or (front_of n (shown_messages (run_state r v events))) w 0) h.fit.fronts)

  pub upto_read : (w x : ℕ) → slice_get v.shown.upto.items w ≡ Some x → (events : List Event) → IsCoreAfter stands r o events → x ≡ get_or (uptos_of (workers_of o) (shown_messages (run_state r o events))) w 0
  upto_read w x at = seen_as (λ z s. x ≡ get_or (uptos_of (workers_of z) (shown_messages s)) w 0)
      (λ events h. sym (get_or_from_slice_get v.shown.upto.items w x 0 at) ∙ ap (λ (l : List ℕ). get_or l w 0) h.shown.upto ∙ ap (λ (n : ℕ). get_or (uptos_of n (shown_messages (run_state r v events))) w 0) h.fit.fronts)

  pub seen_read : (q w x : ℕ) (front : Listed ℕ) → slice_get v.seen q ≡ Some front → slice_get front.items w ≡ Some x
      → (events : List Event) → IsCoreAfter stands r o events → x ≡ get_or (front_of (workers_of o) (take (get_or (run_state r o events).seen q 0) (run_state r o events).folded)) w 0
  seen_read q w x front at_q at = seen_as (λ z s. x ≡ get_or (front_of (workers_of z) (take (get_or s.seen q 0) s.folded)) w 0)
      (λ events h. sym (get_or_from_slice_get front.items w x 0 at) ∙ ap (λ (l : List ℕ). get_or l w 0) (h.seen q front at_q))

  module _ (laws : AreLaws r) (own : v.shape ≡ shape_of v) where
    pub shown_read : (cell : ℕ) → cell < size_of o.shape → (z : ℤ) → z ≡ get_or v.shown.table.cells cell (pos 0)
        → (events : List Event) → IsCoreAfter stands r o events → z ≡ shown_of r (sent_by_each (run_state r o events)) (front_of (workers_of o) (shown_messages (run_state r o events))) cell
    shown_read cell below z is = seen_as (λ y s. z ≡ shown_of r (sent_by_each s) (front_of (workers_of y) (shown_messages s)) cell)
        (λ events h. is ∙ cell_is stands r v (run_state r v events) h laws cell (subst (λ (x : Shape). cell < size_of x) own (subst (λ (y : Core K H). cell < size_of y.shape) (sym same) below)))

    pub estimate_read : (key : FlowKey) (z : ℤ) → z ≡ r.estimate v.shown.table.shape v.shown.table.cells key → (events : List Event) → IsCoreAfter stands r o events
        → z ≡ r.estimate o.shape (shown_cells r o.shape (sent_by_each (run_state r o events)) (front_of (workers_of o) (shown_messages (run_state r o events)))) key
    estimate_read key z is = seen_as (λ y s. z ≡ r.estimate y.shape (shown_cells r y.shape (sent_by_each s) (front_of (workers_of y) (shown_messages s))) key)
        (λ events h. subst (λ (x : Shape). z ≡ r.estimate x (shown_cells r x (sent_by_each (run_state r v events)) (front_of (workers_of v) (shown_messages (run_state r v events)))) key) (sym own)
        (is ∙ estimate_is stands r v (run_state r v events) h laws key))

    -- for Count-Min an answer is near the true estimate
    pub near_read : (key : FlowKey) (z : ℤ) → z ≡ r.estimate v.shown.table.shape v.shown.table.cells key → r ≡ count_min → AreAmounts o.limits.updates → (events : List Event) → IsCoreAfter stands r o events
        → IsNear o.limits.threshold o.limits.updates (sent_by_each (run_state r o events)) (refused_by_each (run_state r o events)) (front_of (workers_of o) (shown_messages (run_state r o events))) o.shape key z
    near_read key z is rules amounts events at =
        let s = run_state r o events in
        let front = front_of (workers_of o) (shown_messages s) in
        subst (λ (y : ℤ). IsNear o.limits.threshold o.limits.updates (sent_by_each s) (refused_by_each s) front o.shape key y)
        (sym (estimate_read key z is events at ∙ ap (λ (q : Rules). q.estimate o.shape (shown_cells q o.shape (sent_by_each s) front) key) rules))
        (near_at (terms_within r o.limits) s at.lawful rules (are_plain o.limits.updates amounts) front (front_within (terms_within r o.limits) s at.lawful s.shown) o.shape key)

  pub live_read : v.shape ≡ shape_of v → (place : ℕ) (key : FlowKey) → place < o.shown.live → slice_get v.fold.heavy.keys place ≡ Some key → (events : List Event) → IsCoreAfter stands r o events
      → slice_get (live_keys r o.shape o.fold.heavy.limit o.fold.heavy.least (shown_messages (run_state r o events))) place ≡ Some key
  live_read own place key below at = seen_as (λ y s. slice_get (live_keys r y.shape y.fold.heavy.limit y.fold.heavy.least (shown_messages s)) place ≡ Some key)
      (λ events h. subst (λ (x : Shape). slice_get (live_keys r x v.fold.heavy.limit v.fold.heavy.least (shown_messages (run_state r v events))) place ≡ Some key) (sym own)
      (live_at stands r v (run_state r v events) h place key (subst (λ (y : Core K H). place < y.shown.live) (sym same) below) at))

  module _ (w : ℕ) (d : CounterView H) (at : slice_get v.workers w ≡ Some d) where
    pub queued_read : (n : ℕ) → n ≡ length d.queue - d.taken → (events : List Event) → IsCoreAfter stands r o events
        → n ≡ length (worker_in (run_state r o events) w).sent - (worker_in (run_state r o events) w).taken
    queued_read n is = seen_as (λ _ s. n ≡ length (worker_in s w).sent - (worker_in s w).taken)
        (λ events h. is ∙ held_is stands (terms_within r v.limits) w d (worker_in (run_state r v events) w) (h.each w d at))

    pub residue_read : (cell : ℕ) (z : ℤ) → ((t : Terms) (k : ℕ) (x : Worker) → t.rules ≡ r → Keeps stands t k d x → z ≡ residue t.rules (updates_by t k) x.sent x.counted cell)
        → (events : List Event) → IsCoreAfter stands r o events
        → z ≡ residue r (updates_by (terms_within r o.limits) w) (worker_in (run_state r o events) w).sent (worker_in (run_state r o events) w).counted cell
    residue_read cell z is = seen_as (λ y s. z ≡ residue r (updates_by (terms_within r y.limits) w) (worker_in s w).sent (worker_in s w).counted cell)
        (λ events h. is (terms_within r v.limits) w (worker_in (run_state r v events) w) refl (h.each w d at).keeps)

    pub refused_read : (n : ℕ) (b : Bool) → ((t : Terms) (k : ℕ) (x : Worker) → t.rules ≡ r → Keeps stands t k d x → b ≡ is_refused n x.refused)
        → (events : List Event) → IsCoreAfter stands r o events → b ≡ is_refused n (worker_in (run_state r o events) w).refused
    refused_read n b is = seen_as (λ _ s. b ≡ is_refused n (worker_in s w).refused)
        (λ events h. is (terms_within r v.limits) w (worker_in (run_state r v events) w) refl (h.each w d at).keeps)

module _ {K H : Type 0} (stands : H → ℤ → ℤ → Type 0) (r : Rules) (v o : Core K H) (same : v ≡ o) (s : State) (h : IsCoreAt stands r v s) where
  -- the core is at the next state, and its caller sees the step
  moved : (new : Core K H) (e : Event) (reply : Reply) → Steps stands r v new e reply → ((z : State) × IsCoreAt stands r new z) × Steps stands r o new e reply
  moved new e reply steps = (((lag_step (terms_within r v.limits) s e).0, (steps.step s h).0), subst (λ (z : Core K H). Steps stands r z new e reply) same steps)

  pub there : (w : ℕ) → w < workers_of o → w < length v.workers
  there w below = (let own : w < workers_of v = subst (λ (z : Core K H). w < workers_of z) (sym same) below in omega (arith, own, h.fit.workers))

  pub worker_at : (w : ℕ) (d : CounterView H) → w < workers_of o → d ≡ get_or v.workers w d → slice_get v.workers w ≡ Some d
  worker_at w d below is = slice_get_read v.workers (length v.workers) w d refl (there w below) is

  module _ (w : ℕ) (d : CounterView H) (below : w < workers_of o) (is : d ≡ get_or v.workers w d) where
    inside : w < workers_of v
    inside = omega (arith, there w below, h.fit.workers)

    pub lane_cleared : d.taken ≡ 0
    lane_cleared = (h.each w d (worker_at w d below is)).ready.cleared

    pub update_asks : (us : List Entry) → updates_by (terms_within r v.limits) w ≡ us → CanTakeUp r us d
    update_asks us own = can_take_up stands r v s h w d inside (worker_at w d below is) us own

    module _ (e : CounterView H) (same_cells : length e.sketch.held ≡ length d.sketch.held) where
      pub update_done : (us : List Entry) → updates_by (terms_within r v.limits) w ≡ us → (reply : Reply)
          → ((l : Limits) (k : ℕ) (x : Worker) → updates_by (terms_within r l) k ≡ us → IsWorkerAt stands (terms_within r l) k d x
          → IsWorkerAt stands (terms_within r l) k e (count_step (terms_within r l) k x).0 × (reply ≡ (count_step (terms_within r l) k x).1))
          → ((z : State) × IsCoreAt stands r (record v { workers = set v.workers w e }) z) × Steps stands r o (record v { workers = set v.workers w e }) (Update w) reply
      update_done us own reply works =
          moved (record v { workers = set v.workers w e }) (Update w) reply (update_steps stands r v w d e inside (worker_at w d below is) same_cells reply (λ x its. works v.limits w x own its))

      pub none_done : ((l : Limits) (k : ℕ) (x : Worker) → IsWorkerAt stands (terms_within r l) k d x → (x.taken ≡ length x.sent) × IsWorkerAt stands (terms_within r l) k e x)
          → ((z : State) × IsCoreAt stands r (record v { workers = set v.workers w e }) z) × Steps stands r o (record v { workers = set v.workers w e }) (Take w) Empty
      none_done works = moved (record v { workers = set v.workers w e }) (Take w) Empty (take_none stands r v w d e inside (worker_at w d below is) same_cells (λ x its. works v.limits w x its))

      pub one_done : v.shape ≡ shape_of v → AreLaws r → (m : Push) (z : ℤ) → z ≡ m.amount → (f : StateView) → f ≡ absorbed r v.fold m
          → ((l : Limits) (k : ℕ) (x : Worker) → IsWorkerAt stands (terms_within r l) k d x
          → (x.taken < length x.sent) × (message_at x.sent x.taken ≡ m) × IsWorkerAt stands (terms_within r l) k e (with_taken x 1))
          → ((z : State) × IsCoreAt stands r (record v { shape = f.table.shape; workers = set v.workers w e; fold = f }) z)
          × Steps stands r o (record v { shape = f.table.shape; workers = set v.workers w e; fold = f }) (Take w) (Took z)
      one_done own laws m z amount f fold works =
          let new : StateView → Core K H = λ g. record v { shape = g.table.shape; workers = set v.workers w e; fold = g } in
          moved (new f) (Take w) (Took z) (subst (λ (g : StateView). Steps stands r v (new g) (Take w) (Took z)) (sym fold)
          (subst (λ (y : ℤ). Steps stands r v (new (absorbed r v.fold m)) (Take w) (Took y)) (sym amount)
          (take_one stands r v w d e inside (worker_at w d below is) same_cells m own laws (λ x its. works v.limits w x its))))

  pub publish_done : (shown : ShownState K H) → shown.table ≡ v.fold.table → shown.front.items ≡ v.fold.front → shown.upto.items ≡ v.fold.upto
      → shown.live ≡ length v.fold.heavy.keys → shown.missed ≡ v.fold.heavy.missed
      → ((z : State) × IsCoreAt stands r (record v { shown = shown }) z) × Steps stands r o (record v { shown = shown }) Publish Published
  publish_done shown table front upto live missed = moved (record v { shown = shown }) Publish Published (publish_steps stands r v shown table front upto live missed)

  module _ (q : ℕ) (below : q < length o.seen) where
    pub seen_there : q < length v.seen
    seen_there = subst (λ (z : Core K H). q < length z.seen) (sym same) below

    pub seen_at : (front : Listed ℕ) → front ≡ get_or v.seen q front → slice_get v.seen q ≡ Some front
    seen_at front is = slice_get_read v.seen (length v.seen) q front refl seen_there is

    pub ask_long : (front : Listed ℕ) → front ≡ get_or v.seen q front → length front.items ≡ length v.shown.front.items
    ask_long front is = seen_long stands r v s h q front (seen_at front is) ∙ sym (front_long stands r v s h)

    pub ask_done : (front : Listed ℕ) → front.items ≡ v.shown.front.items
        → ((z : State) × IsCoreAt stands r (record v { seen = set v.seen q front }) z) × Steps stands r o (record v { seen = set v.seen q front }) (Ask q) Answered
    ask_done front is = moved (record v { seen = set v.seen q front }) (Ask q) Answered (ask_steps stands r v q front seen_there is)

  -- a shown count of a worker
  pub front_there : (w : ℕ) → w < workers_of o → (w < length v.shown.front.items) × (w < length v.shown.upto.items)
  front_there w below =
      (omega (arith, there w below, h.fit.workers, h.fit.fronts, front_long stands r v s h), omega (arith, there w below, h.fit.workers, h.fit.fronts, upto_long stands r v s h))

  pub cell_there : v.shape ≡ shape_of v → (cell : ℕ) → cell < size_of o.shape → cell < size_of v.shown.table.shape
  cell_there own cell below = subst (λ (x : Shape). cell < size_of x) (own ∙ ap (λ (t : TableView). t.shape) (sym h.shown.table)) (subst (λ (y : Core K H). cell < size_of y.shape) (sym same) below)

  pub seen_cell : (w : ℕ) → w < workers_of o → (q : ℕ) → q < length o.seen → (front : Listed ℕ) → front ≡ get_or v.seen q front → w < length front.items
  seen_cell w below q inside front is = omega (arith, there w below, h.fit.workers, h.fit.fronts, seen_long stands r v s h q front (seen_at q inside front is))

  pub residue_there : v.shape ≡ shape_of v → (w : ℕ) (d : CounterView H) → slice_get v.workers w ≡ Some d → (cell : ℕ) → cell < size_of o.shape → cell < length d.sketch.held
  residue_there own w d at cell below =
      let size : size_of v.shape ≡ length d.sketch.held = ap size_of own ∙ sym (h.fit.cells w d at) in
      let inside : cell < size_of v.shape = subst (λ (y : Core K H). cell < size_of y.shape) (sym same) below in
      omega (arith, inside, size)

  pub update_there : (w : ℕ) (d : CounterView H) → slice_get v.workers w ≡ Some d → (k : ℕ) → k < length (updates_by (terms_within r o.limits) w) → k < d.sketch.room
  update_there w d at k below =
      let inside : k < length (updates_by (terms_within r v.limits) w) = subst (λ (y : Core K H). k < length (updates_by (terms_within r y.limits) w)) (sym same) below in
      omega (arith, inside, (h.each w d at).ready.updates_room)

  pub live_there : (place : ℕ) → place < o.shown.live → place < length v.fold.heavy.keys
  live_there place below =
      let inside : place < v.shown.live = subst (λ (y : Core K H). place < y.shown.live) (sym same) below in
      omega (arith, inside, live_within stands r v s h)
