-- What the parts of a run leave says that each worker counted all its updates.
use Rattle.std.proofs.Common.{◌≡◌, ◌<◌, ◌≤◌, ℕ, ℤ, List, [], length, get_or, sym, ap, ◌∙◌, subst, arith, ◌⊎◌, inl, inr}
use Rattle.std.specs.Prelude.{map}
use Rattle.std.proofs.lemmas.Bool.{cases_lt}
use Rattle.std.proofs.lemmas.List.{length-map, get_or-map}
use Rattle.packet_key.specs.declared.key.FlowKey.{FlowKey}
use Rattle.hash_rows.specs.declared.options.Options.{Options}
use Rattle.hash_rows.specs.declared.shape.Packet.{Packet}
use Rattle.hash_rows.specs.declared.shape.Push.{Push}
use Rattle.hash_rows.specs.declared.shape.Update.{Update}
use Rattle.hash_rows.specs.Rules.{Rules}
use Rattle.push_history.specs.Pushes.{LawfulPushes}
use Rattle.push_history.specs.Share.{share_of_worker}
use Rattle.push_history.specs.Updates.{updates_of}
use Rattle.push_history.proofs.Sharing.{updates_len}
use Rattle.push_lane.specs.Views.{LaneView}
use Rattle.push_rule.specs.Stands.{PrivateView, StandsFor}
use Rattle.thread_run.specs.Workers.{HasWorked, IsReady}
use Rattle.thread_run.specs.declared.parts.RestPart.{RestPart}
use Rattle.thread_run.specs.declared.parts.WorkerPart.{WorkerPart}
use Rattle.thread_setup.specs.declared.spare.Spare.{Spare}
use Rattle.thread_engine.specs.Ended.{HaveEnded}
use Rattle.thread_engine.specs.Tellings.{HasToldAll, HaveToldAll, updates_by_rules}
use Rattle.thread_engine.proofs.Outcomes.{some_item}

module _ {K H : Type 0} (stands : H → ℤ → ℤ → Type 0) (r : Rules) (o : Options) (packets : List Packet) (keys : List FlowKey) (lanes : List LaneView) (workers : List (WorkerPart K H))
    (rest : RestPart K H) (spare : Spare K H) (h : HaveEnded stands r o packets keys lanes workers rest spare) where
  pub lanes_len : length lanes ≡ o.workers
  lanes_len = ap length h.lanes_are ∙ h.begun.lanes_len

  pub workers_len : length workers ≡ o.workers
  workers_len = h.worked.len ∙ h.begun.workers_len

  worker_at : (w : ℕ) → w < o.workers → WorkerPart K H
  worker_at w lt = some_item workers w (omega (arith, lt, workers_len))

  lane_at : (w : ℕ) → w < o.workers → LaneView
  lane_at w lt = some_item lanes w (omega (arith, lt, lanes_len))

  -- the worker's part before the run, and after it
  abbrev before_at : (w : ℕ) → w < o.workers → WorkerPart K H
  before_at w lt = get_or h.before.workers.items w (worker_at w lt)

  abbrev after_at : (w : ℕ) → w < o.workers → WorkerPart K H
  after_at w lt = get_or workers w (worker_at w lt)

  done : (w : ℕ) (lt : w < o.workers) → HasWorked stands r o packets w (get_or lanes w (lane_at w lt)) (before_at w lt) (after_at w lt)
  done w lt = h.worked.each w (lane_at w lt) (worker_at w lt) (omega (arith, lt, lanes_len))

  ready : (w : ℕ) (lt : w < o.workers) → IsReady stands r o packets (get_or h.before.lanes.items w (lane_at w lt)) (before_at w lt)
  ready w lt = h.begun.ready.each w (lane_at w lt) (worker_at w lt) (omega (arith, lt, h.begun.lanes_len))

  share_is : (w : ℕ) (lt : w < o.workers) → (before_at w lt).share ≡ share_of_worker o.share o.workers packets w
  share_is w lt = h.begun.shares w (worker_at w lt) lt

  capacity_is : (w : ℕ) (lt : w < o.workers) → (get_or lanes w (lane_at w lt)).capacity ≡ o.lane
  capacity_is w lt =
      ap (λ (l : List LaneView). (get_or l w (lane_at w lt)).capacity) h.lanes_are ∙ h.begun.capacity w (lane_at w lt) (omega (arith, lt, h.begun.lanes_len))

  threshold_is : (w : ℕ) (lt : w < o.workers) → (after_at w lt).sketch.threshold ≡ o.threshold
  threshold_is w lt = (done w lt).same.threshold ∙ h.begun.thresholds w (worker_at w lt) lt

  refused_in : (w : ℕ) → (w < o.workers) ⊎ (o.workers ≤ w) → List ℕ
  refused_in w (inl lt) = (done w lt).told.refused
  refused_in w (inr le) = []

  -- the worker's part after the run says all of it
  own_told : (w : ℕ) (lt : w < o.workers)
      → HasToldAll stands r o w (after_at w lt).sketch (after_at w lt).pass.sent (after_at w lt).pass.fulls (updates_by_rules r packets o w) (done w lt).told.refused
  own_told w lt =
      let d = done w lt in
      let p = after_at w lt in
      let updates : List ℕ → List Update = λ share. updates_of r o.shape packets share in
      let U = updates_by_rules r packets o w in
      let same : updates (before_at w lt).share ≡ U = ap updates (share_is w lt) in
      let stood : StandsFor stands r p.sketch U p.pass.sent d.told.refused = subst (λ (us : List Update). StandsFor stands r p.sketch us p.pass.sent d.told.refused) same d.told.sketch_is in
      let lawful : LawfulPushes r w o.threshold o.lane o.full U p.pass.sent d.told.refused =
      subst (λ (T : ℕ). LawfulPushes r w T o.lane o.full U p.pass.sent d.told.refused) (threshold_is w lt)
      (subst (λ (L : ℕ). LawfulPushes r w p.sketch.threshold L o.full U p.pass.sent d.told.refused) (capacity_is w lt)
      (subst (λ (us : List Update). LawfulPushes r w p.sketch.threshold (get_or lanes w (lane_at w lt)).capacity o.full us p.pass.sent d.told.refused) same d.told.lawful)) in
      record {
        stands_for = stood;
        lawful = lawful;
        fulls_are = d.told.fulls;
        room = d.same.room ∙ (ready w lt).room ∙ sym (updates_len r o.shape packets (before_at w lt).share) ∙ ap (λ (us : List Update). length us) same;
        cells = d.same.cells ∙ (ready w lt).cells;
      }

  told_in : (w : ℕ) (c : (w < o.workers) ⊎ (o.workers ≤ w)) → (s : PrivateView H) → w < o.workers
      → HasToldAll stands r o w (get_or (map (λ (p : WorkerPart K H). p.sketch) workers) w s) (get_or (map (λ (p : WorkerPart K H). p.pass.sent) workers) w [])
      (get_or (map (λ (p : WorkerPart K H). p.pass.fulls) workers) w 0) (updates_by_rules r packets o w) (refused_in w c)
  unfolding refused_in done
  told_in w (inl lt) s _ =
      let inside : w < length workers = omega (arith, lt, workers_len) in
      let own = own_told w lt in
      let at = worker_at w lt in
      subst (λ (z : PrivateView H). HasToldAll stands r o w z (get_or (map (λ (p : WorkerPart K H). p.pass.sent) workers) w []) (get_or (map (λ (p : WorkerPart K H). p.pass.fulls) workers) w 0) (updates_by_rules r packets o w) (done w lt).told.refused)
      (sym (get_or-map (λ (p : WorkerPart K H). p.sketch) workers w at s inside))
      (subst (λ (z : List Push). HasToldAll stands r o w (after_at w lt).sketch z (get_or (map (λ (p : WorkerPart K H). p.pass.fulls) workers) w 0) (updates_by_rules r packets o w) (done w lt).told.refused)
      (sym (get_or-map (λ (p : WorkerPart K H). p.pass.sent) workers w at [] inside))
      (subst (λ (z : ℕ). HasToldAll stands r o w (after_at w lt).sketch (after_at w lt).pass.sent z (updates_by_rules r packets o w) (done w lt).told.refused)
      (sym (get_or-map (λ (p : WorkerPart K H). p.pass.fulls) workers w at 0 inside)) own))
  told_in w (inr le) s lt = absurd (omega (arith, le, lt))

  pub all_told : HaveToldAll stands r o packets (map (λ (p : WorkerPart K H). p.sketch) workers) (map (λ (p : WorkerPart K H). p.pass.sent) workers) (map (λ (p : WorkerPart K H). p.pass.fulls) workers)
  all_told = record {
    refused = λ w. refused_in w (cases_lt w o.workers);
    sketches_len = length-map workers (λ (p : WorkerPart K H). p.sketch) ∙ workers_len;
    sents_len = length-map workers (λ (p : WorkerPart K H). p.pass.sent) ∙ workers_len;
    each = λ w s lt. told_in w (cases_lt w o.workers) s lt;
  }

  -- the passes of the workers are those of the lanes
  pub ids : (i : ℕ) (l : LaneView) (p : WorkerPart K H) → i < length lanes → (get_or workers i p).pass.id ≡ (get_or lanes i l).id
  ids i l p lt = (h.worked.each i l p lt).id
