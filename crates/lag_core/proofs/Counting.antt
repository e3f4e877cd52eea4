-- What a worker of a core holds, and how it takes up an update.
use Rattle.std.proofs.Common.{◌≡◌, ◌<◌, ◌≤◌, ◌+◌, ◌-◌, ◌==◌, ℕ, ℤ, true, List, [], length, take, set, refl, sym, ◌∙◌, ap, subst, arith, length-append}
use Rattle.std.specs.Prelude.{max}
use Rattle.std.proofs.lemmas.List.{get_or-set_same, length-take-le, take_all}
use Rattle.hash_rows.specs.declared.shape.Update.{Update}
use Rattle.push_history.specs.declared.event.Reply.{Reply}
use Rattle.push_history.specs.declared.event.Reply.TheVariants.{Over}
use Rattle.push_history.specs.LagRun.{Terms, Worker, count_step, updates_by}
use Rattle.push_history.specs.LawfulRun.{IsLawfulWorker}
use Rattle.push_history.specs.Pushes.{LawfulPushes}
use Rattle.push_history.proofs.Fitting.{sent_few}
use Rattle.push_rule.specs.Counters.{CounterView, KeepsSettings}
use Rattle.push_rule.specs.Keeps.{Keeps}
use Rattle.lag_core.specs.Workers.{IsWorkerAt, queue_room}

-- no more messages than counted updates
pub sent_counted : (t : Terms) (w : ℕ) (x : Worker) → w < length t.updates → IsLawfulWorker t w x → length x.sent ≤ x.counted
sent_counted t w x below h =
    let U : List Update = take x.counted (updates_by t w) in
    let few : Terms = record { rules = t.rules; threshold = t.threshold; capacity = t.capacity; full = t.full; updates = set t.updates w U } in
    let own : updates_by few w ≡ U = get_or-set_same t.updates w U [] below in
    let len : length U ≡ x.counted = length-take-le x.counted (updates_by t w) h.counted in
    let all : length (updates_by few w) ≡ x.counted = ap length own ∙ len in
    let cut : take x.counted (updates_by few w) ≡ U = ap (take x.counted) own ∙ take_all x.counted U (omega (arith, len)) in
    let lawful = subst (λ (V : List Update). LawfulPushes t.rules w t.threshold t.capacity t.full V x.sent x.refused) (sym cut) h.lawful in
    omega (arith, sent_few few w x (record { counted = omega (arith, all); lawful = lawful; taken = h.taken }), all)

module _ {H : Type 0} (stands : H → ℤ → ℤ → Type 0) (t : Terms) (w : ℕ) (d : CounterView H) (x : Worker) (h : IsWorkerAt stands t w d x) where
  pub counted_is : d.sketch.counted ≡ x.counted
  counted_is = h.keeps.sketch.all_counted ∙ length-take-le x.counted (updates_by t w) h.keeps.within

  -- all that was sent
  all_sent : length x.sent ≡ x.taken + length d.queue
  all_sent = omega (arith, ap length h.keeps.queue, length-append h.keeps.cleared d.queue, h.keeps.taken, h.ready.cleared)

  -- what the lane holds
  pub held_is : length d.queue - d.taken ≡ length x.sent - x.taken
  held_is = omega (arith, all_sent, h.ready.cleared)

  -- the queue holds no more than was counted
  pub queue_few : length x.sent ≤ x.counted → length d.queue ≤ d.sketch.counted
  queue_few few = omega (arith, few, all_sent, counted_is)

  -- a further update is counted
  pub goes_on : (new : CounterView H) (reply : Reply) → KeepsSettings d new → length new.queue ≤ max (length d.queue) (d.taken + d.lane)
      → Keeps stands t w new (count_step t w x).0 × (reply ≡ (count_step t w x).1) → IsWorkerAt stands t w new (count_step t w x).0 × (reply ≡ (count_step t w x).1)
  goes_on new reply same lane next = (
    record {
      keeps = next.0;
      ready = record {
        updates_room = same.updates ∙ h.ready.updates_room;
        room = same.room ∙ h.ready.room ∙ ap (λ n. queue_room n (length (updates_by t w))) (sym same.lane);
        cleared = same.taken ∙ h.ready.cleared;
        short = omega (arith, lane, h.ready.short, h.ready.cleared, same.lane);
      };
    },
    next.1,
  )

  -- nothing is left to count
  pub all_over : length (updates_by t w) ≤ d.sketch.counted → IsWorkerAt stands t w d (count_step t w x).0 × (Over ≡ (count_step t w x).1)
  unfolding count_step
  all_over end =
      let all : x.counted ≡ length (updates_by t w) = omega (arith, end, counted_is, h.keeps.within) in
      let test : (x.counted == length (updates_by t w)) ≡ true = grind arith in
      rw test (h, refl)
