-- The events of a core, one at a time.
use Rattle.std.proofs.Common.{◌≡◌, ◌<◌, ◌≤◌, ◌==◌, inl, inr, ℕ, ℤ, true, false, Some, List, [], ◌∷◌, ◌++◌, length, take, set, get_or, slice_get, refl, sym, ◌∙◌, ap, subst, arith, length-set}
use Rattle.std.specs.Prelude.{All, map}
use Rattle.std.proofs.lemmas.List.{take_all, take-append-le, get_or-set_same, get_or-set_other}
use Rattle.std.specs.Option.{option_map}
use Rattle.std.proofs.lemmas.Option.{get_or_from_slice_get, slice_get-map, slice_get_within}
use Rattle.listed.specs.Listed.{Listed}
use Rattle.hash_rows.specs.declared.shape.Push.{Push}
use Rattle.hash_rows.specs.declared.shape.Update.{Update as Entry}
use Rattle.hash_rows.specs.Rules.{Rules, AreLaws}
use Rattle.hash_rows.specs.declared.shape.Shape.{Shape}
use Rattle.hash_rows.specs.Shapes.{size_of}
use Rattle.hash_rows.specs.Tables.{TableView}
use Rattle.push_history.specs.declared.event.Event.TheVariants.{Update, Take, Publish, Ask}
use Rattle.push_history.specs.declared.event.Reply.{Reply}
use Rattle.push_history.specs.declared.event.Reply.TheVariants.{Published, Answered, Empty, Took}
use Rattle.push_history.specs.Front.{front_of, message_at, uptos_of}
use Rattle.push_history.specs.LagRun.{State, Worker, count_step, fresh_worker, lag_step, take_step, updates_by, worker_in}
use Rattle.push_history.specs.LawfulRun.{IsLawfulState}
use Rattle.push_history.specs.OwnSteps.{with_taken}
use Rattle.push_history.proofs.Fitting.{folded_fit}
use Rattle.push_history.proofs.RunLaws.{step_lawful}
use Rattle.push_history.specs.Shown.{told_cells}
use Rattle.push_history.specs.Told.{told_of}
use Rattle.push_history.proofs.MoreMessages.{front_len}
use Rattle.push_history.proofs.Runs.{same_worker}
use Rattle.std.proofs.lemmas.List.FromFn.{length-map-range_with_len}
use Rattle.push_rule.specs.Counters.{CounterView}
use Rattle.live_state.specs.declared.layout.Layout.{Layout}
use Rattle.live_state.specs.Fold.{Fit, StateView, absorbed, layout_of}
use Rattle.live_state.specs.Shows.{Shows}
use Rattle.live_state.proofs.Layouts.{absorbed_layout}
use Rattle.lag_core.specs.declared.shown.ShownState.{ShownState}
use Rattle.lag_core.specs.Workers.{CanTakeUp, IsReadyToCount, IsWorkerAt, terms_within}
use Rattle.lag_core.specs.Lags.{Core, IsCoreAt, IsFitForRun, IsShownOf, Steps, shape_of, shown_messages, workers_of}
use Rattle.lag_core.proofs.Counting.{queue_few, sent_counted}
use Rattle.lag_core.proofs.Folding.{all_fit, folded_few, folded_on, shows}
use Rattle.lag_core.proofs.Slots.{slot_set}

-- the updates of a worker
pub row_at : (rows : List (Listed Entry)) (w : ℕ) (row : Listed Entry) → slice_get rows w ≡ Some row → get_or (map (λ (l : Listed Entry). l.items) rows) w [] ≡ row.items
row_at rows w row at = get_or_from_slice_get (map (λ (l : Listed Entry). l.items) rows) w row.items [] (slice_get-map (λ (l : Listed Entry). l.items) rows w ∙ ap (option_map (λ (l : Listed Entry). l.items)) at)

-- a message is taken
took : (s : State) (w : ℕ) (m : Push) → (worker_in s w).taken < length (worker_in s w).sent → message_at (worker_in s w).sent (worker_in s w).taken ≡ m
    → take_step s w ≡ (record { workers = set s.workers w (with_taken (worker_in s w) 1); folded = s.folded ++ m ∷ []; shown = s.shown; seen = s.seen }, Took m.amount)
unfolding take_step
took s w m some is =
    let x = worker_in s w in
    let test : (x.taken == length x.sent) ≡ false = grind arith in
    rw test (ap (λ (z : Push). (record { workers = set s.workers w (with_taken x 1); folded = s.folded ++ z ∷ []; shown = s.shown; seen = s.seen }, Took z.amount)) is)

module _ {K H : Type 0} (stands : H → ℤ → ℤ → Type 0) (r : Rules) (v : Core K H) where
  -- what a state of the run says of its messages
  pub state_shows : (s : State) → IsCoreAt stands r v s → Shows r (layout_of v.fold) s.folded v.fold
  state_shows s h = shows r v.fold s.folded h.fold (folded_few (terms_within r v.limits) s h.lawful h.fit.few h.fit.few_updates)

  -- all that a run folds is for workers and cells that there are, and tells values
  pub folded_parts : AreLaws r → IsFitForRun r v → (s : State) → IsLawfulState (terms_within r v.limits) s
      → All (λ m. (m.worker < workers_of v) × (m.cell < size_of (shape_of v)) × (r.is_value m.amount ≡ true)) s.folded
  folded_parts laws fit s lawful = folded_fit (terms_within r v.limits) laws (size_of (shape_of v)) fit.updates s lawful

  fits_in : AreLaws r → IsFitForRun r v → (s : State) → IsLawfulState (terms_within r v.limits) s → Fit r (layout_of v.fold) s.folded
  fits_in laws fit s lawful = all_fit r (layout_of v.fold) s.folded (λ k e lt. let m = folded_parts laws fit s lawful k e lt in (omega (arith, m.0, fit.fronts), m.1, m.2))

  -- how long the lists are that are shown
  pub front_long : (s : State) → IsCoreAt stands r v s → length v.shown.front.items ≡ length v.fold.front
  front_long s h = ap length h.shown.front ∙ front_len (length v.fold.front) (shown_messages s)

  uptos_long : (workers : ℕ) (messages : List Push) → length (uptos_of workers messages) ≡ workers
  unfolding uptos_of
  uptos_long workers messages = length-map-range_with_len _ 0 workers

  pub upto_long : (s : State) → IsCoreAt stands r v s → length v.shown.upto.items ≡ length v.fold.front
  upto_long s h = ap length h.shown.upto ∙ uptos_long (length v.fold.front) (shown_messages s)

  pub folded_upto_long : (s : State) → IsCoreAt stands r v s → length v.fold.upto ≡ length v.fold.front
  folded_upto_long s h = ap length (state_shows s h).upto ∙ uptos_long (length v.fold.front) s.folded

  cells_long : (shape : Shape) (messages : List Push) → length (told_cells r shape messages) ≡ size_of shape
  unfolding told_cells
  cells_long shape messages = length-map-range_with_len (λ cell. told_of r cell messages) 0 (size_of shape)

  pub folded_cells_long : (s : State) → IsCoreAt stands r v s → length v.fold.table.cells ≡ size_of (shape_of v)
  folded_cells_long s h = ap length (state_shows s h).cells ∙ cells_long (shape_of v) s.folded

  pub shown_cells_long : (s : State) → IsCoreAt stands r v s → length v.shown.table.cells ≡ size_of (shape_of v)
  shown_cells_long s h = ap (λ (z : TableView). length z.cells) h.shown.table ∙ cells_long (shape_of v) (shown_messages s)

  -- the front that a reader has seen is as long as that which is shown
  pub seen_long : (s : State) → IsCoreAt stands r v s → (q : ℕ) (front : Listed ℕ) → slice_get v.seen q ≡ Some front → length front.items ≡ length v.fold.front
  seen_long s h q front at = ap length (h.seen q front at) ∙ front_len (workers_of v) _ ∙ sym h.fit.fronts

  -- what a reader has seen is shown
  pub seen_shown : (s : State) → IsCoreAt stands r v s → (q : ℕ) → q < length v.seen → get_or s.seen q 0 ≤ s.shown
  seen_shown s h q below = h.lawful.seen q 0 (omega (arith, below, h.readers))

  -- a worker can take up its updates
  pub can_take_up : (s : State) → IsCoreAt stands r v s → (w : ℕ) (d : CounterView H) → w < workers_of v → slice_get v.workers w ≡ Some d
      → (us : List Entry) → updates_by (terms_within r v.limits) w ≡ us → CanTakeUp r us d
  can_take_up s h w d below at us is =
      let t = terms_within r v.limits in
      let its = h.each w d at in
      let fit = subst (λ (l : List Entry). All (λ u. (u.cell < size_of (shape_of v)) × (r.is_value u.value ≡ true)) l) is (h.fit.updates w below) in
      record {
        ready = subst (λ (l : List Entry). IsReadyToCount (length l) d) is its.ready;
        few = queue_few stands t w d (worker_in s w) its (sent_counted t w (worker_in s w) below (h.lawful.each w below));
        cells = λ k e lt. omega (arith, (fit k e lt).0, h.fit.cells w d at);
        values = λ k e lt. (fit k e lt).1;
      }

  module _ (w : ℕ) (d e : CounterView H) (below : w < workers_of v) (at : slice_get v.workers w ≡ Some d) (same_cells : length e.sketch.held ≡ length d.sketch.held) where
    -- the workers with one in place of another
    each_after : (s : State) → IsCoreAt stands r v s → (y : Worker) → IsWorkerAt stands (terms_within r v.limits) w e y
        → (k : ℕ) (a : CounterView H) → slice_get (set v.workers w e) k ≡ Some a → IsWorkerAt stands (terms_within r v.limits) k a (get_or (set s.workers w y) k fresh_worker)
    each_after s h y now k a at_a = elim (slot_set v.workers w k e a at_a) [
      | inl same ↦
          let itself : get_or (set s.workers w y) w fresh_worker ≡ y = get_or-set_same s.workers w y fresh_worker (omega (arith, below, h.lawful.workers)) in
          subst (λ (j : ℕ). IsWorkerAt stands (terms_within r v.limits) j a (get_or (set s.workers w y) j fresh_worker)) same.0
          (subst (λ (z : Worker). IsWorkerAt stands (terms_within r v.limits) w a z) (sym itself) (subst (λ (z : CounterView H). IsWorkerAt stands (terms_within r v.limits) w z y) same.1 now))
      | inr other ↦ subst (λ (z : Worker). IsWorkerAt stands (terms_within r v.limits) k a z) (sym (get_or-set_other s.workers w k y fresh_worker (λ i. other.0 (sym i)))) (h.each k a other.1)
    ]

    fit_after : IsFitForRun r v → (z : Shape) (f : StateView) → layout_of f ≡ layout_of v.fold → IsFitForRun r (record v { shape = z; workers = set v.workers w e; fold = f })
    fit_after fit z f same = record {
      workers = length-set v.workers w e ∙ fit.workers;
      few = fit.few;
      few_updates = fit.few_updates;
      updates = subst (λ (l : Layout). (k : ℕ) → k < workers_of v → All (λ u. (u.cell < size_of l.shape) × (r.is_value u.value ≡ true)) (updates_by (terms_within r v.limits) k)) (sym same) fit.updates;
      cells = λ k a at_a. elim (slot_set v.workers w k e a at_a) [
        | inl here ↦ ap (λ (z : CounterView H). length z.sketch.held) (sym here.1) ∙ same_cells ∙ fit.cells w d at ∙ ap (λ (l : Layout). size_of l.shape) (sym same)
        | inr there ↦ fit.cells k a there.1 ∙ ap (λ (l : Layout). size_of l.shape) (sym same)
      ];
      fronts = ap (λ (l : Layout). l.workers) same ∙ fit.fronts;
    }

    pub update_steps : (reply : Reply) → ((x : Worker) → IsWorkerAt stands (terms_within r v.limits) w d x
        → IsWorkerAt stands (terms_within r v.limits) w e (count_step (terms_within r v.limits) w x).0 × (reply ≡ (count_step (terms_within r v.limits) w x).1))
        → Steps stands r v (record v { workers = set v.workers w e }) (Update w) reply
    unfolding lag_step
    update_steps reply works = record {
      limits = refl;
      readers = refl;
      same_shape = refl;
      layout = refl;
      step = λ s h.
          let now = works (worker_in s w) (h.each w d at) in (
            record {
              fit = fit_after h.fit v.shape v.fold refl;
              lawful = step_lawful (terms_within r v.limits) s (Update w) h.lawful;
              each = each_after s h (count_step (terms_within r v.limits) w (worker_in s w)).0 now.0;
              fold = h.fold;
              shown = h.shown;
              readers = h.readers;
              seen = h.seen;
            },
            now.1,
          );
    }

    pub take_none : ((x : Worker) → IsWorkerAt stands (terms_within r v.limits) w d x → (x.taken ≡ length x.sent) × IsWorkerAt stands (terms_within r v.limits) w e x)
        → Steps stands r v (record v { workers = set v.workers w e }) (Take w) Empty
    unfolding lag_step take_step
    take_none works = record {
      limits = refl;
      readers = refl;
      same_shape = refl;
      layout = refl;
      step = λ s h.
          let x = worker_in s w in
          let now = works x (h.each w d at) in
          let all = now.0 in
          let test : (x.taken == length x.sent) ≡ true = grind arith in
          rw test (
            record {
              fit = fit_after h.fit v.shape v.fold refl;
              lawful = h.lawful;
              each = λ k a at_a. subst (λ (z : State). IsWorkerAt stands (terms_within r v.limits) k a (worker_in z k)) (same_worker s w) (each_after s h x now.1 k a at_a);
              fold = h.fold;
              shown = h.shown;
              readers = h.readers;
              seen = h.seen;
            },
            refl,
          );
    }

    module _ (m : Push) where
      -- the state with the message folded
      abbrev with_folded : State → State
      with_folded s = record { workers = set s.workers w (with_taken (worker_in s w) 1); folded = s.folded ++ m ∷ []; shown = s.shown; seen = s.seen }

      core_folded : AreLaws r → (s : State) → IsCoreAt stands r v s → IsLawfulState (terms_within r v.limits) (with_folded s) → IsWorkerAt stands (terms_within r v.limits) w e (with_taken (worker_in s w) 1)
          → IsCoreAt stands r (record v { shape = (absorbed r v.fold m).table.shape; workers = set v.workers w e; fold = absorbed r v.fold m }) (with_folded s)
      core_folded laws s h lawful now =
          let same : layout_of (absorbed r v.fold m) ≡ layout_of v.fold = absorbed_layout r v.fold m in
          let stays : (n : ℕ) → n ≤ length s.folded → take n (s.folded ++ m ∷ []) ≡ take n s.folded = λ n le. take-append-le n s.folded (m ∷ []) le in
          record {
            fit = fit_after h.fit (absorbed r v.fold m).table.shape (absorbed r v.fold m) same;
            lawful = lawful;
            each = each_after s h (with_taken (worker_in s w) 1) now;
            fold = folded_on r v.fold s.folded m h.fold (fits_in laws h.fit (with_folded s) lawful);
            shown = subst (λ (l : Layout). IsShownOf r l (take s.shown (s.folded ++ m ∷ [])) v.shown) (sym same)
                (subst (λ (ms : List Push). IsShownOf r (layout_of v.fold) ms v.shown) (sym (stays s.shown h.lawful.shown)) h.shown);
            readers = h.readers;
            seen = λ q front at_q.
                let few = seen_shown s h q (slice_get_within v.seen q front at_q) in
                h.seen q front at_q ∙ ap (front_of (workers_of v)) (sym (stays (get_or s.seen q 0) (omega (arith, few, h.lawful.shown))));
          }

      pub take_one : v.shape ≡ shape_of v → AreLaws r → ((x : Worker) → IsWorkerAt stands (terms_within r v.limits) w d x
          → (x.taken < length x.sent) × (message_at x.sent x.taken ≡ m) × IsWorkerAt stands (terms_within r v.limits) w e (with_taken x 1))
          → Steps stands r v (record v { shape = (absorbed r v.fold m).table.shape; workers = set v.workers w e; fold = absorbed r v.fold m }) (Take w) (Took m.amount)
      unfolding lag_step
      take_one own laws works = record {
        limits = refl;
        readers = refl;
        same_shape = ap (λ (l : Layout). l.shape) (absorbed_layout r v.fold m) ∙ sym own;
        layout = absorbed_layout r v.fold m;
        step = λ s h.
            let now = works (worker_in s w) (h.each w d at) in
            let step = took s w m now.0 now.1 in
            let lawful : IsLawfulState (terms_within r v.limits) (with_folded s) = subst (λ (z : State × Reply). IsLawfulState (terms_within r v.limits) z.0) step (step_lawful (terms_within r v.limits) s (Take w) h.lawful) in
            subst (λ (z : State × Reply). IsCoreAt stands r (record v { shape = (absorbed r v.fold m).table.shape; workers = set v.workers w e; fold = absorbed r v.fold m }) z.0 × (Took m.amount ≡ z.1)) (sym step)
            (core_folded laws s h lawful now.2, refl);
      }

  -- what is folded is shown
  module _ (shown : ShownState K H) (table : shown.table ≡ v.fold.table) (front : shown.front.items ≡ v.fold.front) (upto : shown.upto.items ≡ v.fold.upto)
      (live : shown.live ≡ length v.fold.heavy.keys) (missed : shown.missed ≡ v.fold.heavy.missed) where
    all_shown : (s : State) → IsCoreAt stands r v s → IsShownOf r (layout_of v.fold) (take (length s.folded) s.folded) shown
    all_shown s h =
        let its = state_shows s h in
        subst (λ (ms : List Push). IsShownOf r (layout_of v.fold) ms shown) (sym (take_all (length s.folded) s.folded (omega arith))) (record {
          table = table ∙ (λ i. record { shape = shape_of v; cells = its.cells i });
          front = front ∙ its.front;
          upto = upto ∙ its.upto;
          live = live ∙ ap length its.keys;
          missed = missed ∙ its.missed;
        })

    pub publish_steps : Steps stands r v (record v { shown = shown }) Publish Published
    unfolding lag_step
    publish_steps = record {
      limits = refl;
      readers = refl;
      same_shape = refl;
      layout = refl;
      step = λ s h. (
        record {
          fit = record { workers = h.fit.workers; few = h.fit.few; few_updates = h.fit.few_updates; updates = h.fit.updates; cells = h.fit.cells; fronts = h.fit.fronts };
          lawful = step_lawful (terms_within r v.limits) s Publish h.lawful;
          each = h.each;
          fold = h.fold;
          shown = all_shown s h;
          readers = h.readers;
          seen = h.seen;
        },
        refl,
      );
    }

  -- a reader sees what is shown
  pub ask_steps : (q : ℕ) (front : Listed ℕ) → q < length v.seen → front.items ≡ v.shown.front.items → Steps stands r v (record v { seen = set v.seen q front }) (Ask q) Answered
  unfolding lag_step
  ask_steps q front below is = record {
    limits = refl;
    readers = length-set v.seen q front;
    same_shape = refl;
    layout = refl;
    step = λ s h. (
      record {
        fit = record { workers = h.fit.workers; few = h.fit.few; few_updates = h.fit.few_updates; updates = h.fit.updates; cells = h.fit.cells; fronts = h.fit.fronts };
        lawful = step_lawful (terms_within r v.limits) s (Ask q) h.lawful;
        each = h.each;
        fold = h.fold;
        shown = h.shown;
        readers = length-set s.seen q s.shown ∙ h.readers ∙ sym (length-set v.seen q front);
        seen = λ p other at. elim (slot_set v.seen q p front other at) [
          | inl e ↦
              let here : get_or (set s.seen q s.shown) p 0 ≡ s.shown = subst (λ (k : ℕ). get_or (set s.seen q s.shown) k 0 ≡ s.shown) e.0 (get_or-set_same s.seen q s.shown 0 (omega (arith, below, h.readers))) in
              ap (λ (l : Listed ℕ). l.items) (sym e.1) ∙ is ∙ h.shown.front ∙ (λ i. front_of (h.fit.fronts i) (take (sym here i) s.folded))
          | inr e ↦
              let there : get_or (set s.seen q s.shown) p 0 ≡ get_or s.seen p 0 = get_or-set_other s.seen q p s.shown 0 (λ x. e.0 (sym x)) in
              h.seen p other e.1 ∙ ap (λ (n : ℕ). front_of (workers_of v) (take n s.folded)) (sym there)
        ];
      },
      refl,
    );
  }
