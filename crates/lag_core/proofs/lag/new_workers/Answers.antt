use Rattle.std.proofs.Common.{◌≡◌, ◌∙◌, ℕ, List, [], ◌∷◌, Some, inl, inr, length, get_or, map, slice_get, sym, ap, subst, arith, length-append}
use Rattle.std.proofs.lemmas.Bool.{cases_lt}
use Rattle.std.proofs.lemmas.Option.{slice_get-get_or}
use Rattle.listed.specs.Listed.{Listed}
use Rattle.hash_rows.specs.declared.shape.Update.{Update}
use Rattle.hash_rows.specs.Shapes.{size_of}
use Rattle.push_history.specs.LagRun.{updates_by}
use Rattle.push_rule.specs.Counters.{CounterView}
use Rattle.push_rule.specs.Stands.{PrivateView, StandsFor}
use Rattle.lag_core.specs.Workers.{IsFreshWorker, Limits, terms_within}
use Rattle.lag_core.proofs.CoreSteps.{row_at}
use Rattle.lag_core.proofs.Slots.{slot_push}
use Rattle.lag_core.proofs.lag.new_workers.Goals as goal

pub loop-number-preserved : goal.loop-number-preserved
loop-number-preserved g c =
    let rows = c.args.updates.now.items in
    let l : Limits = record { threshold = c.args.threshold; capacity = c.args.capacity; full = c.args.full; updates = map (λ (row : Listed Update). row.items) rows } in
    let n = c.loop-number.number in
    let was = c.loop-number.invariant in
    let worker = c.in_ok-worker.worker in
    let its = c.in_ok-worker.ensures in
    let sketch = c.in_ok-sketch.ensures in
    let updates : c.len-count.result ≡ length (updates_by (terms_within g.K.Kind.rules l) n) = c.len-count.ensures ∙ sym (ap length (row_at rows n c.get.result.now c.get.ensures)) in
    let IsFresh : ℕ → CounterView g.row.K-Held.Denot → Type 0 = λ w d. IsFreshWorker g.K.Kind.stands (terms_within g.K.Kind.rules l) (size_of c.args.shape.now) w d in
    let fresh : IsFresh n worker = record {
      fresh = record {
        keeps = record {
          sketch = subst (λ (p : PrivateView g.row.K-Held.Denot). StandsFor g.K.Kind.stands g.K.Kind.rules p [] [] []) (sym its.sketch) sketch.fresh;
          idle = ap (λ (p : PrivateView g.row.K-Held.Denot). p.due) its.sketch ∙ sketch.idle;
          within = omega arith;
          threshold = ap (λ (p : PrivateView g.row.K-Held.Denot). p.threshold) its.sketch ∙ sketch.threshold;
          worker = its.worker;
          lane = its.lane;
          full = its.full;
          cleared = [];
          queue = sym its.queue;
          taken = omega (arith, its.taken);
          taken_within = omega (arith, its.taken);
        };
        ready = record {
          updates_room = ap (λ (p : PrivateView g.row.K-Held.Denot). p.room) its.sketch ∙ sketch.room ∙ updates;
          room = omega (arith, its.room, c.min-room.ensures, c.saturating_add.ensures, its.lane, updates);
          cleared = its.taken;
          short = omega (arith, ap length its.queue);
        };
      };
      its_cells = ap (λ (p : PrivateView g.row.K-Held.Denot). length p.held) its.sketch ∙ sketch.cells;
    } in
    let pushed = c.in_ok-push_item.ensures in (
      omega (arith, ap length pushed, length-append c.loop-number.workers.items (worker ∷ []), was.0),
      (λ w d at. elim (slot_push c.loop-number.workers.items w worker d (subst (λ (xs : List (CounterView g.row.K-Held.Denot)). slice_get xs w ≡ Some d) pushed at)) [
        | inl old ↦ was.1 w d old
        | inr new ↦ subst (λ (z : CounterView g.row.K-Held.Denot). IsFresh w z) new.1 (subst (λ (k : ℕ). IsFresh k worker) (sym was.0 ∙ new.0) fresh)
      ]),
      (λ w row lt at. elim (cases_lt w n) [
        | inl early ↦ was.2 w row early at
        | inr late ↦
            let same : n ≡ w = omega (arith, late, lt) in
            let there : slice_get rows w ≡ Some c.get.result.now = subst (λ (k : ℕ). slice_get rows k ≡ Some c.get.result.now) same c.get.ensures in
            let e : c.get.result.now ≡ row = cc in
            omega (arith, c.len-count.ensures, ap (λ (r : Listed Update). length r.items) e)
      ]),
    )

pub returns-clause-few : goal.returns-clause-few
returns-clause-few g c = λ k d lt.
    c.loop-number.invariant.2 k (get_or c.args.updates.now.items k d) (omega (arith, lt, c.loop-number-test.false, c.len-number-end.ensures)) (slice_get-get_or c.args.updates.now.items k d lt)
