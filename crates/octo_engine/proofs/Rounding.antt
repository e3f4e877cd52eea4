-- A block of rounds of all workers, and what is left to do.
use Rattle.std.proofs.Common.{◌≡◌, ◌<◌, ◌≤◌, ℕ, ℤ, zero, suc, ◌+◌, ◌-◌, ◌*◌, ◌||◌, List, length, length-append, get_or, Some, slice_get, true, nat_lt, refl, sym, ap, ap₂, ◌∙◌, subst, arith}
use Rattle.std.specs.Prelude.{fold, slice_index_or, sum_by}
use Rattle.std.specs.List.{flat_map, list_any, range_with_len}
use Rattle.std.proofs.lemmas.List.Sums.{fold-append}
use Rattle.std.proofs.lemmas.Option.{get_or_from_slice_get, slice_get_within}
use Rattle.listed.specs.Listed.{Listed}
use Rattle.hash_rows.specs.declared.answer.Answer.{Answer}
use Rattle.hash_rows.specs.declared.options.Options.{Options}
use Rattle.hash_rows.specs.declared.shape.Packet.{Packet}
use Rattle.hash_rows.specs.declared.shape.Push.{Push}
use Rattle.hash_rows.specs.Lawful.{IsLawful}
use Rattle.hash_rows.specs.Rules.{Rules}
use Rattle.std.proofs.Math.Nat.{one-le-mul}
use Rattle.push_history.specs.LagRun.{Terms, Worker, updates_by, fresh_worker}
use Rattle.push_history.specs.OwnSteps.{folded_in_round, own_round}
use Rattle.round_law.proofs.WorkLeft.{is_own_busy, work_left}
use Rattle.push_history.specs.Share.{share_of_worker}
use Rattle.push_rule.specs.Keeps.{Keeps}
use Rattle.live_state.specs.Fold.{StateView, absorbed, fresh_state, state_after, layout_in}
use Rattle.round_law.specs.OwnRounds.{folded_after, own_rounds}
use Rattle.round_law.proofs.OwnRounds.{folded_more, rounds_more}
use Rattle.round_law.proofs.Measure.{IsWithin, less_left, no_more_left, round_within}
use Rattle.octo_engine.specs.declared.worker.Part.{Part}
use Rattle.octo_engine.specs.Counts.{HasShare}
use Rattle.octo_engine.specs.Looks.{AreLooks, Runs}
use Rattle.octo_engine.specs.Parts.{IsWorkerAfter, RanBlock, block, is_busy_part, messages_in, part_work}
use Rattle.octo_engine.specs.Rounds.{AreWorkersAfter, AreTerms, IsAfter}
use Rattle.octo_engine.proofs.Places.{has_len}
use Rattle.octo_engine.proofs.Running.{held_is}
use Rattle.octo_engine.proofs.Stepping.{counted_by}
use Rattle.octo_engine.proofs.Sums.{by_place, sums_less}

-- a part that stands in the list ran a block
pub part_ran : {K H : Type 0} (r : Rules) (stands : H → ℤ → ℤ → Type 0) (o : Options) (packets : List Packet) (parts new : List (Part K H)) → length new ≡ length parts
    → ((w : ℕ) (p : Part K H) → w < length parts → RanBlock r stands o packets (slice_index_or parts w p) (slice_index_or new w p))
    → (w : ℕ) (q : Part K H) → slice_get new w ≡ Some q → RanBlock r stands o packets (slice_index_or parts w q) q
part_ran {K} {H} r stands o packets parts new len ran w q at =
    let below = slice_get_within new w q at in
    subst (λ (z : Part K H). RanBlock r stands o packets (slice_index_or parts w q) z) (get_or_from_slice_get new w q q at) (ran w q (omega (arith, below, len)))

-- the state once what a round gives is folded
pub state_more : (r : Rules) (t : Terms) (o : Options) → Runs r t o → (n : ℕ) (s new : StateView) (messages : List Push) → s ≡ state_after r (layout_in o) (folded_after t o n)
    → messages ≡ flat_map (λ w. folded_in_round t o w (own_rounds t o w n fresh_worker)) (range_with_len 0 o.workers) → new ≡ fold (absorbed r) s messages
    → new ≡ state_after r (layout_in o) (folded_after t o (n + 1))
state_more r t o runs n s new messages is given made =
    let next : suc n ≡ n + 1 = omega arith in
    made ∙ ap₂ (λ z m. fold (absorbed r) z m) is given
    ∙ sym (fold-append (absorbed r) (fresh_state (layout_in o)) (folded_after t o n) (flat_map (λ w. folded_in_round t o w (own_rounds t o w n fresh_worker)) (range_with_len 0 o.workers)))
    ∙ ap (λ (ms : List Push). state_after r (layout_in o) ms) (sym (folded_more t o runs.workers n))
    ∙ ap (λ k. state_after r (layout_in o) (folded_after t o k)) next

-- a worker has less to do after each block in which it is busy, and never more
module _ (t : Terms) (o : Options) (w : ℕ) (some : 1 ≤ t.capacity) where
  rounds_no_more : (m : ℕ) (x : Worker) → IsWithin t w x → IsWithin t w (own_rounds t o w m x) × (work_left t w (own_rounds t o w m x) ≤ work_left t w x)
  rounds_no_more zero x within = (within, omega arith)
  rounds_no_more (suc m) x within =
      let before = rounds_no_more m x within in
      let step = no_more_left t o w (own_rounds t o w m x) some before.0.taken before.0.counted in
      let far = before.1 in
      (round_within t o w (own_rounds t o w m x) some before.0, omega (arith, step, far))

  block_less : (x : Worker) → 1 ≤ o.batch → 1 ≤ o.shape.rows * o.round → IsWithin t w x → is_own_busy t w x ≡ true → work_left t w (own_rounds t o w block x) < work_left t w x
  block_less x batch round within busy =
      let first = less_left t o w x some batch round busy within.taken within.counted in
      let rest = rounds_no_more (block - 1) (own_round t o w x) (round_within t o w x some within) in
      let far = rest.1 in
      let all : work_left t w (own_rounds t o w (block - 1) (own_round t o w x)) ≡ work_left t w (own_rounds t o w block x) = ap (work_left t w) (rounds_more t o w 1 (block - 1) x) in
      omega (arith, first, far, all)

some_round : (o : Options) → IsLawful o → 1 ≤ o.shape.rows * o.round
some_round o lawful = one-le-mul lawful.shape.some_rows lawful.some_round

lt_by : (a b : ℕ) → nat_lt a b ≡ nat_lt 0 (b - a)
lt_by a b = grind arith

module _ {K H : Type 0} (r : Rules) (stands : H → ℤ → ℤ → Type 0) (t : Terms) (o : Options) (packets : List Packet) (terms : AreTerms r t o packets) where
  within_is : (n w : ℕ) (p : Part K H) → IsWorkerAfter stands t o packets n w p → IsWithin t w (own_rounds t o w n fresh_worker)
  within_is n w p is =
      let keeps = is.keeps in
      let taken = keeps.taken in
      let few = keeps.taken_within in
      let queue = ap length keeps.queue in
      let both = length-append keeps.cleared p.counter.queue in
      record { counted = keeps.within; taken = omega (arith, taken, few, queue, both) }

  module _ (n w : ℕ) (p : Part K H) (lt : w < o.workers) (is : IsWorkerAfter stands t o packets n w p) where
    left_is : p.counter.sketch.room - p.counter.sketch.counted ≡ length (updates_by t w) - (own_rounds t o w n fresh_worker).counted
    left_is =
        let len = has_len r t o.shape packets w (share_of_worker o.share o.workers packets w) (terms.shares w lt) in
        let share = ap length is.share in
        let room = is.sound.fit.updates ∙ ap (λ k. o.shape.rows * k) share ∙ sym len in
        let number = counted_by stands t w p.counter (own_rounds t o w n fresh_worker) p.counter.sketch.counted is.keeps refl in
        ap₂ (λ a b. a - b) room number

    work_is : part_work p ≡ work_left t w (own_rounds t o w n fresh_worker)
    work_is = ap₂ (λ a b. 2 * a + b) left_is (sym (held_is stands t w p.counter (own_rounds t o w n fresh_worker) is.keeps))

    pub busy_is : is_busy_part p ≡ is_own_busy t w (own_rounds t o w n fresh_worker)
    busy_is =
        ap₂ (λ a b. a || b) (lt_by p.counter.sketch.counted p.counter.sketch.room ∙ ap (λ k. nat_lt 0 k) left_is)
        (ap (λ k. nat_lt 0 k) (sym (held_is stands t w p.counter (own_rounds t o w n fresh_worker) is.keeps)))

  -- the parts after a block
  pub parts_more : (n : ℕ) (parts new : List (Part K H)) → AreWorkersAfter stands t o packets n parts → length new ≡ length parts
      → ((w : ℕ) (p : Part K H) → w < length parts → RanBlock r stands o packets (slice_index_or parts w p) (slice_index_or new w p)) → AreWorkersAfter stands t o packets (n + block) new
  parts_more n parts new are len ran =
      let each : (w : ℕ) (p : Part K H) → w < o.workers → IsWorkerAfter stands t o packets (n + block) w (slice_index_or new w p) = λ w p lt.
      let old = are.each w p lt in
      let moved = ran w p (let many = are.len in omega (arith, lt, many)) in
      let has = subst (λ (l : List ℕ). HasShare r t o.shape packets w l) (sym old.share) (terms.shares w lt) in
      let run = moved.run t w (own_rounds t o w n fresh_worker) has old.keeps in
      record {
        share = moved.share ∙ old.share;
        sound = moved.sound;
        keeps = subst (λ (x : Worker). Keeps stands t w (slice_index_or new w p).counter x) (rounds_more t o w n block fresh_worker) run.keeps;
      } in
      record { len = len ∙ are.len; each = each }

  -- what they give to be folded in each round of the block
  pub given_more : (n : ℕ) (parts new : List (Part K H)) → AreWorkersAfter stands t o packets n parts → length new ≡ length parts
      → ((w : ℕ) (p : Part K H) → w < length parts → RanBlock r stands o packets (slice_index_or parts w p) (slice_index_or new w p)) → (k : ℕ) → k < block
      → flat_map (messages_in k) new ≡ flat_map (λ w. folded_in_round t o w (own_rounds t o w (n + k) fresh_worker)) (range_with_len 0 o.workers)
  given_more n parts new are len ran k below =
      let many = are.len in
      let each : (w : ℕ) (p : Part K H) → w < length new → messages_in k (get_or new w p) ≡ folded_in_round t o (0 + w) (own_rounds t o (0 + w) (n + k) fresh_worker) = λ w p lt.
      let inside : w < o.workers = omega (arith, lt, len, many) in
      let old = are.each w p inside in
      let moved = ran w p (omega (arith, lt, len)) in
      let has = subst (λ (l : List ℕ). HasShare r t o.shape packets w l) (sym old.share) (terms.shares w inside) in
      let run = moved.run t w (own_rounds t o w n fresh_worker) has old.keeps in
      let same : w ≡ 0 + w = omega arith in
      run.folded k below ∙ ap (folded_in_round t o w) (rounds_more t o w n k fresh_worker) ∙ ap (λ v. folded_in_round t o v (own_rounds t o v (n + k) fresh_worker)) same in
      by_place (messages_in k) (λ w. folded_in_round t o w (own_rounds t o w (n + k) fresh_worker)) new 0 each
      ∙ ap (λ m. flat_map (λ w. folded_in_round t o w (own_rounds t o w (n + k) fresh_worker)) (range_with_len 0 m)) (len ∙ many)

  pub work_less : (n : ℕ) (parts new : List (Part K H)) → 1 ≤ o.batch → 1 ≤ o.shape.rows * o.round → AreWorkersAfter stands t o packets n parts → AreWorkersAfter stands t o packets (n + block) new
      → list_any is_busy_part parts ≡ true → sum_by part_work new < sum_by part_work parts
  work_less n parts new batch round old are busy =
      let len = old.len in
      let many = are.len in
      let each : (w : ℕ) (p : Part K H) → w < length parts → part_work (get_or new w p) ≤ part_work (get_or parts w p) = λ w p lt.
      let inside : w < o.workers = omega (arith, lt, len) in
      let before = old.each w p inside in
      let after = are.each w p inside in
      let one = work_is n w (slice_index_or parts w p) inside before in
      let two = work_is (n + block) w (slice_index_or new w p) inside after in
      let less = (rounds_no_more t o w terms.some_lane block (own_rounds t o w n fresh_worker) (within_is n w _ before)).1 in
      let join = ap (work_left t w) (rounds_more t o w n block fresh_worker) in
      omega (arith, one, two, less, join) in
      let strict : (w : ℕ) (p : Part K H) → w < length parts → is_busy_part (get_or parts w p) ≡ true → part_work (get_or new w p) < part_work (get_or parts w p) = λ w p lt its.
      let inside : w < o.workers = omega (arith, lt, len) in
      let before = old.each w p inside in
      let after = are.each w p inside in
      let one = work_is n w (slice_index_or parts w p) inside before in
      let two = work_is (n + block) w (slice_index_or new w p) inside after in
      let less = block_less t o w terms.some_lane (own_rounds t o w n fresh_worker) batch round (within_is n w _ before) (sym (busy_is n w (slice_index_or parts w p) inside before) ∙ its) in
      let join = ap (work_left t w) (rounds_more t o w n block fresh_worker) in
      omega (arith, one, two, less, join) in
      sums_less part_work is_busy_part parts new (many ∙ sym len) each strict busy

  -- a block leaves less to do
  pub busy_less : (n : ℕ) (parts new : List (Part K H)) → IsLawful o → AreWorkersAfter stands t o packets n parts → length new ≡ length parts
      → ((w : ℕ) (p : Part K H) → w < length parts → RanBlock r stands o packets (slice_index_or parts w p) (slice_index_or new w p)) → list_any is_busy_part parts ≡ true
      → sum_by part_work new < sum_by part_work parts
  busy_less n parts new lawful are len ran busy = work_less n parts new lawful.some_batch (some_round o lawful) are (parts_more n parts new are len ran) busy

  -- once what a block gives is folded, the run is a block further
  pub after_block : (parts new : List (Part K H)) (state told : StateView) (looks more : Listed Answer) → (was : IsAfter stands r t o packets parts state looks) → length new ≡ length parts
      → ((w : ℕ) (p : Part K H) → w < length parts → RanBlock r stands o packets (slice_index_or parts w p) (slice_index_or new w p))
      → (told ≡ state_after r (layout_in o) (folded_after t o (was.rounds + block))) × AreLooks r t o (was.rounds + block) more → IsAfter stands r t o packets new told more
  after_block parts new state told looks more was len ran folded = record {
    rounds = was.rounds + block;
    workers = parts_more was.rounds parts new was.workers len ran;
    state_is = folded.0;
    seen = folded.1;
  }
