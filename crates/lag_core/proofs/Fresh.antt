-- A core to which nothing has happened.
use Rattle.std.proofs.Common.{◌≡◌, ◌<◌, ◌^◌, ℕ, ℤ, true, List, [], length, take, get_or, replicate, slice_get, Some, sym, ◌∙◌, ap, subst, arith}
use Rattle.std.specs.Prelude.{All, map}
use Rattle.std.proofs.lemmas.List.{length-replicate, get_or-replicate}
use Rattle.std.proofs.lemmas.List.Elements.{All-map, All-nil}
use Rattle.std.proofs.lemmas.Option.{get_or_from_slice_get, slice_get_within}
use Rattle.listed.specs.Listed.{Listed}
use Rattle.hash_rows.specs.declared.shape.Push.{Push}
use Rattle.hash_rows.specs.declared.shape.Update.{Update as Entry}
use Rattle.hash_rows.specs.Rules.{Rules}
use Rattle.hash_rows.specs.Shapes.{size_of}
use Rattle.push_history.specs.Front.{front_of}
use Rattle.push_history.specs.LagRun.{Worker, fresh_worker, lag_run, start}
use Rattle.push_history.specs.Updates.{HoldValues}
use Rattle.push_history.proofs.MoreMessages.{front_none}
use Rattle.push_history.proofs.RunLaws.{run_lawful}
use Rattle.push_rule.specs.Counters.{CounterView}
use Rattle.live_state.specs.declared.layout.Layout.{Layout}
use Rattle.live_state.specs.Fold.{fits, fresh_state, layout_of, zero_cells}
use Rattle.live_state.proofs.Layouts.{fresh_layout}
use Rattle.live_state.proofs.Live.{shows_all}
use Rattle.lag_core.specs.declared.shown.ShownState.{ShownState}
use Rattle.lag_core.specs.Workers.{IsFreshWorker, IsWorkerAt, terms_within}
use Rattle.lag_core.specs.Lags.{Core, IsCoreAt, IsShownOf, shape_of, workers_of}

-- nothing is shown before a message is folded
pub none_shown : {K H : Type 0} (r : Rules) (l : Layout) (shown : ShownState K H) → shown.table ≡ record { shape = l.shape; cells = zero_cells l.shape }
    → shown.front.items ≡ replicate l.workers 0 → shown.upto.items ≡ replicate l.workers 0 → shown.live ≡ 0 → shown.missed ≡ 0 → IsShownOf r l [] shown
none_shown r l shown table front upto live missed =
    let its = shows_all r l [] (All-nil (λ (m : Push). fits r l m ≡ true)) (omega arith) in
    record {
      table = table ∙ (λ i. record { shape = l.shape; cells = its.cells i });
      front = front ∙ its.front;
      upto = upto ∙ its.upto;
      live = live ∙ ap length its.keys;
      missed = missed ∙ its.missed;
    }

-- the updates of each worker are few, and each is of a cell and has a value of the kind
pub rows_fit : (r : Rules) (size : ℕ) (rows : List (Listed Entry)) → All (λ row. length row.items < 2 ^ 32) rows → All (λ row. All (λ u. u.cell < size) row.items) rows → All (λ row. HoldValues r row.items) rows
    → (w : ℕ) → w < length (map (λ (l : Listed Entry). l.items) rows)
    → (length (get_or (map (λ (l : Listed Entry). l.items) rows) w []) < 2 ^ 32) × All (λ u. u.cell < size) (get_or (map (λ (l : Listed Entry). l.items) rows) w []) × HoldValues r (get_or (map (λ (l : Listed Entry). l.items) rows) w [])
rows_fit r size rows few cells values w below =
    let items = map (λ (l : Listed Entry). l.items) rows in (
      All-map (λ (us : List Entry). length us < 2 ^ 32) (λ (l : Listed Entry). l.items) rows few w [] below,
      All-map (λ (us : List Entry). All (λ u. u.cell < size) us) (λ (l : Listed Entry). l.items) rows cells w [] below,
      All-map (λ (us : List Entry). HoldValues r us) (λ (l : Listed Entry). l.items) rows values w [] below,
    )

module _ {K H : Type 0} (stands : H → ℤ → ℤ → Type 0) (r : Rules) (v : Core K H) (l : Layout) where
  pub core_fresh : v.fold ≡ fresh_state l → l.workers ≡ workers_of v → length v.workers ≡ workers_of v → workers_of v < 2 ^ 32
      → ((w : ℕ) (d : CounterView H) → slice_get v.workers w ≡ Some d → IsFreshWorker stands (terms_within r v.limits) (size_of l.shape) w d)
      → ((w : ℕ) → w < workers_of v → (length (get_or v.limits.updates w []) < 2 ^ 32) × All (λ u. u.cell < size_of l.shape) (get_or v.limits.updates w []) × HoldValues r (get_or v.limits.updates w []))
      → IsShownOf r l [] v.shown → All (λ front. front.items ≡ replicate (workers_of v) 0) v.seen
      → IsCoreAt stands r v (lag_run (terms_within r v.limits) (length v.seen) [])
  unfolding lag_run start
  core_fresh fold same count few fresh updates shown fronts =
      let layout : layout_of v.fold ≡ l = ap layout_of fold ∙ fresh_layout l in
      let size : size_of (shape_of v) ≡ size_of l.shape = ap (λ (z : Layout). size_of z.shape) layout in
      record {
        fit = record {
          workers = count;
          few = few;
          few_updates = λ w below. (updates w below).0;
          updates = λ w below k e lt. (omega (arith, (updates w below).1 k e lt, size), (updates w below).2 k e lt);
          cells = λ w d at. (fresh w d at).its_cells ∙ sym size;
          fronts = ap (λ (z : Layout). z.workers) layout ∙ same;
        };
        lawful = run_lawful (terms_within r v.limits) (length v.seen) [];
        each = λ w d at.
            let there : get_or (replicate (workers_of v) fresh_worker) w fresh_worker ≡ fresh_worker =
            get_or-replicate (workers_of v) w fresh_worker fresh_worker (omega (arith, slice_get_within v.workers w d at, count)) in
            subst (λ (x : Worker). IsWorkerAt stands (terms_within r v.limits) w d x) (sym there) (fresh w d at).fresh;
        fold = record {
          fit = All-nil (λ (m : Push). fits r (layout_of v.fold) m ≡ true);
          sums = fold ∙ ap fresh_state (sym layout);
        };
        shown = subst (λ (z : Layout). IsShownOf r z [] v.shown) (sym layout) shown;
        readers = length-replicate {A = ℕ} (length v.seen) 0;
        seen = λ q front at.
            let below : q < length v.seen = slice_get_within v.seen q front at in
            let none : get_or (replicate (length v.seen) 0) q 0 ≡ 0 = get_or-replicate {A = ℕ} (length v.seen) q 0 0 below in
            subst (λ (z : Listed ℕ). z.items ≡ replicate (workers_of v) 0) (get_or_from_slice_get v.seen q front front at) (fronts q front below) ∙ front_none (workers_of v)
            ∙ ap (λ (n : ℕ). front_of (workers_of v) (take n [])) (sym none);
      }
