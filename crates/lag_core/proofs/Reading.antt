-- What is read of a core, and what it means.
use Rattle.std.proofs.Common.{◌≡◌, ◌<◌, ◌≤◌, ℕ, ℤ, pos, true, List, [], ◌++◌, length, take, drop, get_or, slice_get, Some, sym, ◌∙◌, ap, subst, arith, length-append}
use Rattle.std.proofs.Math.ListN.{get_or-map}
use Rattle.std.proofs.lemmas.List.{get_or_append_left, length-map, length-take, take-append-drop, take-take}
use Rattle.std.proofs.lemmas.List.Elements.{All-take}
use Rattle.std.proofs.lemmas.List.FromFn.{get_or-map-range_with_len}
use Rattle.std.proofs.lemmas.Option.{get_or_from_slice_get, slice_get-get_or, slice_get_within}
use Rattle.packet_key.specs.declared.key.FlowKey.{FlowKey}
use Rattle.hash_rows.specs.declared.shape.Push.{Push}
use Rattle.hash_rows.specs.Rules.{Rules, AreLaws}
use Rattle.hash_rows.specs.Shapes.{size_of}
use Rattle.hash_rows.specs.Tables.{TableView}
use Rattle.push_history.specs.Front.{front_of, messages_of}
use Rattle.push_history.specs.LagRun.{State, Worker, worker_in, fresh_worker}
use Rattle.push_history.specs.LiveHeavy.{live_keys}
use Rattle.push_history.specs.Shown.{shown_of, shown_cells, told_cells}
use Rattle.push_history.specs.Told.{told_of}
use Rattle.push_history.proofs.Folded.{fold_shown}
use Rattle.push_history.proofs.Notes.{map_range_same}
use Rattle.fold_law.proofs.Fronts.{begins_all}
use Rattle.live_state.specs.Fold.{Fit, layout_of, most}
use Rattle.lag_core.specs.Workers.{terms_within}
use Rattle.lag_core.specs.Lags.{Core, IsCoreAt, sent_by_each, shape_of, shown_messages, workers_of}
use Rattle.lag_core.proofs.CoreSteps.{folded_parts, state_shows}
use Rattle.lag_core.proofs.Folding.{folded_few, live_first}

module _ {K H : Type 0} (stands : H → ℤ → ℤ → Type 0) (r : Rules) (v : Core K H) (s : State) (h : IsCoreAt stands r v s) where
  abbrev front : List ℕ
  front = front_of (workers_of v) (shown_messages s)

  -- the shown messages of a worker are the first that it sent
  firsts : (w : ℕ) (sent : List Push) → slice_get (sent_by_each s) w ≡ Some sent → messages_of w (shown_messages s) ≡ take (length (messages_of w (shown_messages s))) sent
  firsts w sent at =
      let x = worker_in s w in
      let n = length (messages_of w (shown_messages s)) in
      let below : w < workers_of v = omega (arith, slice_get_within (sent_by_each s) w sent at, length-map s.workers (λ (x : Worker). x.sent), h.lawful.workers) in
      let its : x.sent ≡ sent = sym (get_or-map (λ (x : Worker). x.sent) s.workers w fresh_worker) ∙ get_or_from_slice_get (sent_by_each s) w sent [] at in
      let begins = begins_all w s.folded s.shown in
      let few : n ≤ x.taken = omega (arith, ap length begins, length-take n (messages_of w s.folded), ap length (h.lawful.folded w below), length-take x.taken x.sent) in
      begins ∙ ap (take n) (h.lawful.folded w below) ∙ take-take n x.taken x.sent few ∙ ap (take n) its

  module _ (laws : AreLaws r) where
    told_is : (cell : ℕ) → told_of r cell (shown_messages s) ≡ shown_of r (sent_by_each s) front cell
    told_is cell =
        let parts = folded_parts stands r v laws h.fit s h.lawful in
        sym (fold_shown r laws (workers_of v) (sent_by_each s) (shown_messages s) (length-map s.workers (λ (x : Worker). x.sent) ∙ h.lawful.workers)
        (All-take (λ m. m.worker < workers_of v) s.shown s.folded (λ k d lt. (parts k d lt).0)) (All-take (λ m. r.is_value m.amount ≡ true) s.shown s.folded (λ k d lt. (parts k d lt).2)) firsts cell)

    pub cells_are : v.shown.table.cells ≡ shown_cells r (shape_of v) (sent_by_each s) front
    unfolding told_cells shown_cells
    cells_are = ap (λ (z : TableView). z.cells) h.shown.table
        ∙ map_range_same (λ cell. told_of r cell (shown_messages s)) (shown_of r (sent_by_each s) front) 0 (size_of (shape_of v)) (λ k from to. told_is k)

    pub cell_is : (cell : ℕ) → cell < size_of (shape_of v) → get_or v.shown.table.cells cell (pos 0) ≡ shown_of r (sent_by_each s) front cell
    unfolding shown_cells
    cell_is cell below = ap (λ (l : List ℤ). get_or l cell (pos 0)) cells_are ∙ get_or-map-range_with_len (shown_of r (sent_by_each s) front) 0 (size_of (shape_of v)) cell cell (pos 0) below (omega arith)

    pub estimate_is : (key : FlowKey) → r.estimate v.shown.table.shape v.shown.table.cells key ≡ r.estimate (shape_of v) (shown_cells r (shape_of v) (sent_by_each s) front) key
    estimate_is key = λ i. r.estimate (h.shown.table i).shape (cells_are i) key

  live_parts : (more : List FlowKey) × (v.fold.heavy.keys ≡ live_keys r (shape_of v) v.fold.heavy.limit v.fold.heavy.least (shown_messages s) ++ more)
  live_parts =
      let parts = take-append-drop s.shown s.folded in
      let few : length (shown_messages s ++ drop s.shown s.folded) ≤ most = omega (arith, ap length parts, folded_few (terms_within r v.limits) s h.lawful h.fit.few h.fit.few_updates) in
      let fit : Fit r (layout_of v.fold) (shown_messages s ++ drop s.shown s.folded) = subst (λ (ms : List Push). Fit r (layout_of v.fold) ms) (sym parts) h.fold.fit in
      let first = live_first r (layout_of v.fold) (shown_messages s) (drop s.shown s.folded) fit few in
      (first.0, (state_shows stands r v s h).keys ∙ ap (live_keys r (shape_of v) v.fold.heavy.limit v.fold.heavy.least) (sym parts) ∙ first.1)

  pub live_within : v.shown.live ≤ length v.fold.heavy.keys
  live_within = omega (arith, h.shown.live, ap length live_parts.1, length-append (live_keys r (shape_of v) v.fold.heavy.limit v.fold.heavy.least (shown_messages s)) live_parts.0)

  pub live_at : (place : ℕ) (key : FlowKey) → place < v.shown.live → slice_get v.fold.heavy.keys place ≡ Some key
      → slice_get (live_keys r (shape_of v) v.fold.heavy.limit v.fold.heavy.least (shown_messages s)) place ≡ Some key
  live_at place key below at =
      let keys = live_keys r (shape_of v) v.fold.heavy.limit v.fold.heavy.least (shown_messages s) in
      let inside : place < length keys = omega (arith, below, h.shown.live) in
      slice_get-get_or keys place key inside
      ∙ ap Some (sym (get_or_append_left keys live_parts.0 key place inside) ∙ sym (ap (λ (ks : List FlowKey). get_or ks place key) live_parts.1) ∙ get_or_from_slice_get v.fold.heavy.keys place key key at)
