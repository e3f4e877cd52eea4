-- A worker takes up one update more.
use Rattle.std.proofs.Common.{zero, suc, ◌≡◌, ◌<◌, ◌≤◌, ℕ, ℤ, ◌+◌, ◌-◌, ◌==◌, List, [], ◌∷◌, ◌++◌, length, take, drop, length-append, length-take, length-drop, Bool, true, false, nat_lt, refl, sym, ap, ◌∙◌, subst, arith, append_assoc, All}
use Rattle.std.specs.Prelude.{◌&&◌, nat_le, Option, Some, None, MatchOption}
use Rattle.std.proofs.lemmas.List.{take_more, length_push, take-append-drop, take-append-le, take-take}
use Rattle.std.proofs.Math.Seq.{take-length}
use Rattle.packet_key.specs.declared.key.FlowKey.{FlowKey}
use Rattle.hash_rows.specs.declared.options.Full.{Full}
use Rattle.hash_rows.specs.declared.options.Full.TheVariants.{Leave, Wait}
use Rattle.hash_rows.specs.declared.shape.Update.{Update}
use Rattle.hash_rows.specs.declared.shape.Push.{Push}
use Rattle.hash_rows.specs.Rules.{Rules, AreLaws}
use Rattle.push_history.specs.declared.event.Reply.TheVariants.{Counted, Pushed, Refused, Waits}
use Rattle.push_history.specs.LagRun.{Terms, Worker, fresh_worker, updates_by, count_step, message_of, meets_full, pushes, is_wait}
use Rattle.push_history.specs.Pushes.{ArePushes, distance_at}
use Rattle.push_history.specs.Residue.{residue}
use Rattle.push_history.specs.Told.{told, told_of}
use Rattle.push_history.specs.Updates.{update_at}
use Rattle.push_history.specs.Whole.{whole, whole_of}
use Rattle.push_history.proofs.Growing.{numbers_within, told_all}
use Rattle.push_rule.specs.Stands.{StandsFor, StandsAt, PrivateView, Owes}
use Rattle.push_rule.specs.Stands.{Waits as Open}
use Rattle.push_rule.proofs.Standing.{whole_own}
use Rattle.push_rule.specs.Counters.{CounterView, KeepsSettings, in_lane}
use Rattle.push_rule.specs.Keeps.{Keeps}

-- the updates up to the next one
pub take_next : (U : List Update) (n : ℕ) (u : Update) → n < length U → update_at U n ≡ u → take (n + 1) U ≡ take n U ++ u ∷ []
take_next U n u lt at = take_more U n _ lt ∙ ap (λ (y : Update). take n U ++ y ∷ []) at

-- what the next update makes of its cell, and how far that is from what was told of it
abbrev pub whole_next : Terms → ℕ → Worker → Update → ℤ
whole_next t w x u = t.rules.join (whole_of t.rules u.cell (take x.counted (updates_by t w))) u.value

abbrev pub distance_next : Terms → ℕ → Worker → Update → ℕ
distance_next t w x u = t.rules.distance (told_of t.rules u.cell x.sent) (whole_next t w x u)

-- what the sketch stands for, by the kind's rules
pub sketch_stands : {H : Type 0} (stands : H → ℤ → ℤ → Type 0) (t : Terms) (w : ℕ) (d : CounterView H) (x : Worker) → Keeps stands t w d x → (r : Rules) → t.rules ≡ r
    → StandsFor stands r d.sketch (take x.counted (updates_by t w)) x.sent x.refused
sketch_stands stands t w d x keeps r same = subst (λ (q : Rules). StandsFor stands q d.sketch (take x.counted (updates_by t w)) x.sent x.refused) same keeps.sketch

module _ {H : Type 0} (stands : H → ℤ → ℤ → Type 0) (t : Terms) (w : ℕ) (d : CounterView H) (x : Worker) (u : Update) (keeps : Keeps stands t w d x)
    (lt : x.counted < length (updates_by t w)) (at : update_at (updates_by t w) x.counted ≡ u) where
  pub are_pushes : ArePushes t.rules d.sketch.threshold (take x.counted (updates_by t w)) x.sent x.refused
  are_pushes = subst (λ (o : Option ℕ). MatchOption o (ArePushes t.rules d.sketch.threshold (take x.counted (updates_by t w)) x.sent x.refused) (Open t.rules d.sketch.threshold (take x.counted (updates_by t w)) x.sent x.refused)) keeps.idle keeps.sketch.pushes

  whole_is : (c : ℕ) → whole t.rules (updates_by t w) (x.counted + 1) c ≡ whole_of t.rules c (take x.counted (updates_by t w) ++ u ∷ [])
  unfolding whole
  whole_is c = ap (whole_of t.rules c) (take_next (updates_by t w) x.counted u lt at)

  whole_is_next : whole t.rules (updates_by t w) (x.counted + 1) u.cell ≡ whole_next t w x u
  whole_is_next = whole_is u.cell ∙ whole_own t.rules (take x.counted (updates_by t w)) u

  told_is : (c : ℕ) → told t.rules x.sent x.counted c ≡ told_of t.rules c x.sent
  told_is c =
      let U = updates_by t w in
      let len : length (take x.counted U) ≡ x.counted = omega (arith, length-take x.counted U, lt) in
      told_all t.rules x.sent x.counted c (subst (λ (n : ℕ). All (λ m. m.update < n) x.sent) len (numbers_within t.rules (take x.counted U) x.sent x.sent are_pushes.amounts))

  pub distance_is : distance_at t.rules (updates_by t w) x.sent x.counted ≡ distance_next t w x u
  unfolding distance_at
  distance_is =
      ap (λ (y : Update). t.rules.distance (told t.rules x.sent x.counted y.cell) (whole t.rules (updates_by t w) (x.counted + 1) y.cell)) at
      ∙ ap (λ (z : ℤ). t.rules.distance z (whole t.rules (updates_by t w) (x.counted + 1) u.cell)) (told_is u.cell)
      ∙ ap (λ (z : ℤ). t.rules.distance (told_of t.rules u.cell x.sent) z) whole_is_next

  -- the message of the next update
  abbrev pub next_message : Push
  next_message = record {
    worker = w;
    packet = u.packet;
    update = x.counted;
    key = u.key;
    cell = u.cell;
    amount = t.rules.gap (told_of t.rules u.cell x.sent) (whole_of t.rules u.cell (take x.counted (updates_by t w) ++ u ∷ []));
  }

  pub message_is : message_of t.rules w (updates_by t w) x.sent x.counted ≡ next_message
  unfolding message_of
  message_is =
      ap (λ (y : Update). record {
        worker = w;
        packet = y.packet;
        update = x.counted;
        key = y.key;
        cell = y.cell;
        amount = t.rules.gap (told t.rules x.sent x.counted y.cell) (whole t.rules (updates_by t w) (x.counted + 1) y.cell);
      }) at
      ∙ ap (λ (z : ℤ). record { worker = w; packet = u.packet; update = x.counted; key = u.key; cell = u.cell; amount = t.rules.gap z (whole t.rules (updates_by t w) (x.counted + 1) u.cell) }) (told_is u.cell)
      ∙ ap (λ (z : ℤ). record { worker = w; packet = u.packet; update = x.counted; key = u.key; cell = u.cell; amount = t.rules.gap (told_of t.rules u.cell x.sent) z }) (whole_is u.cell)

  -- what a count of the next update says, in the words of the kind's rules
  pub owes_next : (r : Rules) → t.rules ≡ r → (v : ℤ) → v ≡ u.value → (answer : Option ℤ)
      → ((told whole : ℤ) → StandsAt stands d.sketch.held u.cell told whole → Owes r d.sketch.threshold told (r.join whole v) answer)
      → Owes t.rules t.threshold (told_of t.rules u.cell x.sent) (whole_next t w x u) answer
  owes_next r same v value answer h =
      let at_v : (told whole : ℤ) → StandsAt stands d.sketch.held u.cell told whole → Owes t.rules d.sketch.threshold told (t.rules.join whole u.value) answer =
      subst (λ (z : ℤ). (told whole : ℤ) → StandsAt stands d.sketch.held u.cell told whole → Owes t.rules d.sketch.threshold told (t.rules.join whole z) answer) value
      (subst (λ (q : Rules). (told whole : ℤ) → StandsAt stands d.sketch.held u.cell told whole → Owes q d.sketch.threshold told (q.join whole v) answer) (sym same) h) in
      subst (λ (n : ℕ). Owes t.rules n (told_of t.rules u.cell x.sent) (whole_next t w x u) answer) keeps.threshold
      (at_v (told_of t.rules u.cell x.sent) (whole_of t.rules u.cell (take x.counted (updates_by t w))) (keeps.sketch.cells u.cell))

  pub counted_next : (r : Rules) → t.rules ≡ r → (v : ℤ) → v ≡ u.value → (mid : PrivateView H)
      → ((packet : ℕ) (key : FlowKey) (updates : List Update) (messages : List Push) (refused : List ℕ) → StandsFor stands r d.sketch updates messages refused
      → StandsFor stands r mid (updates ++ record { packet = packet; key = key; cell = u.cell; value = v } ∷ []) messages refused)
      → StandsFor stands t.rules mid (take x.counted (updates_by t w) ++ u ∷ []) x.sent x.refused
  counted_next r same v value mid h =
      let U = take x.counted (updates_by t w) in
      subst (λ (q : Rules). StandsFor stands q mid (U ++ u ∷ []) x.sent x.refused) (sym same)
      (subst (λ (z : ℤ). StandsFor stands r mid (U ++ record { packet = u.packet; key = u.key; cell = u.cell; value = z } ∷ []) x.sent x.refused) value
      (h u.packet u.key U x.sent x.refused (sketch_stands stands t w d x keeps r same)))

  -- the number of the update that is due
  pub number_is : (mid : PrivateView H) → StandsFor stands t.rules mid (take x.counted (updates_by t w) ++ u ∷ []) x.sent x.refused → mid.counted - 1 ≡ x.counted
  number_is mid h = omega (arith, h.all_counted, length_push (take x.counted (updates_by t w)) u, length-take x.counted (updates_by t w), lt)

  pub sent_next : (r : Rules) → t.rules ≡ r → (mid new : PrivateView H) → mid.due ≡ Some u.cell
      → StandsFor stands t.rules mid (take x.counted (updates_by t w) ++ u ∷ []) x.sent x.refused
      → ((worker packet : ℕ) (key : FlowKey) (updates : List Update) (messages : List Push) (refused : List ℕ) → StandsFor stands r mid updates messages refused
      → MatchOption mid.due (StandsFor stands r new updates messages refused)
      (λ cell. StandsFor stands r new updates (messages ++ record {
        worker = worker;
        packet = packet;
        update = mid.counted - 1;
        key = key;
        cell = cell;
        amount = r.gap (told_of r cell messages) (whole_of r cell updates);
      } ∷ []) refused))
      → StandsFor stands t.rules new (take x.counted (updates_by t w) ++ u ∷ []) (x.sent ++ next_message ∷ []) x.refused
  sent_next r same mid new due stood h =
      let U = take x.counted (updates_by t w) ++ u ∷ [] in
      let message : Rules → ℕ → ℕ → Push = λ q n cell. record { worker = w; packet = u.packet; update = n; key = u.key; cell = cell; amount = q.gap (told_of q cell x.sent) (whole_of q cell U) } in
      let by_t = subst (λ (q : Rules). StandsFor stands q mid U x.sent x.refused
      → MatchOption mid.due (StandsFor stands q new U x.sent x.refused) (λ cell. StandsFor stands q new U (x.sent ++ message q (mid.counted - 1) cell ∷ []) x.refused)) (sym same) (h w u.packet u.key U x.sent x.refused) in
      let after : StandsFor stands t.rules new U (x.sent ++ message t.rules (mid.counted - 1) u.cell ∷ []) x.refused =
      subst (λ (o : Option ℕ). MatchOption o (StandsFor stands t.rules new U x.sent x.refused) (λ cell. StandsFor stands t.rules new U (x.sent ++ message t.rules (mid.counted - 1) cell ∷ []) x.refused)) due (by_t stood) in
      subst (λ (n : ℕ). StandsFor stands t.rules new U (x.sent ++ message t.rules n u.cell ∷ []) x.refused) (number_is mid stood) after

  pub refused_next : (r : Rules) → t.rules ≡ r → (mid new : PrivateView H)
      → StandsFor stands t.rules mid (take x.counted (updates_by t w) ++ u ∷ []) x.sent x.refused
      → ((updates : List Update) (messages : List Push) (refused : List ℕ) → StandsFor stands r mid updates messages refused → StandsFor stands r new updates messages (refused ++ (mid.counted - 1) ∷ []))
      → StandsFor stands t.rules new (take x.counted (updates_by t w) ++ u ∷ []) x.sent (x.refused ++ x.counted ∷ [])
  refused_next r same mid new stood h =
      let U = take x.counted (updates_by t w) ++ u ∷ [] in
      let by_t = subst (λ (q : Rules). StandsFor stands q mid U x.sent x.refused → StandsFor stands q new U x.sent (x.refused ++ (mid.counted - 1) ∷ [])) (sym same) (h U x.sent x.refused) in
      subst (λ (n : ℕ). StandsFor stands t.rules new U x.sent (x.refused ++ n ∷ [])) (number_is mid stood) (by_t stood)

  -- the message that is queued is that of the next update
  pub queued_is : (r : Rules) → t.rules ≡ r → (worker number : ℕ) (amount : ℤ) → worker ≡ w → number ≡ x.counted → amount ≡ t.rules.gap (told_of t.rules u.cell x.sent) (whole_next t w x u)
      → record { worker = worker; packet = u.packet; update = number; key = u.key; cell = u.cell; amount = amount } ≡ next_message
  queued_is r same worker number amount worker_is number_is amount_is =
      let total : amount ≡ t.rules.gap (told_of t.rules u.cell x.sent) (whole_of t.rules u.cell (take x.counted (updates_by t w) ++ u ∷ [])) =
      amount_is ∙ ap (λ (z : ℤ). t.rules.gap (told_of t.rules u.cell x.sent) z) (sym (whole_own t.rules (take x.counted (updates_by t w)) u)) in
      let make : ℕ → ℕ → ℤ → Push = λ a b z. record { worker = a; packet = u.packet; update = b; key = u.key; cell = u.cell; amount = z } in
      ap (λ a. make a number amount) worker_is ∙ ap (λ b. make w b amount) number_is ∙ ap (make w x.counted) total

  -- whether the next update makes a push due
  pub due_is : (r : Rules) → t.rules ≡ r → (v : ℤ) → v ≡ u.value → (b : Bool)
      → ((updates : List Update) (messages : List Push) (refused : List ℕ) → StandsFor stands r d.sketch updates messages refused
      → b ≡ nat_le d.sketch.threshold (r.distance (told_of r u.cell messages) (r.join (whole_of r u.cell updates) v)))
      → b ≡ nat_le t.threshold (distance_at t.rules (updates_by t w) x.sent x.counted)
  due_is r same v value b h =
      let U = take x.counted (updates_by t w) in
      let by_t = subst (λ (q : Rules). StandsFor stands q d.sketch U x.sent x.refused → b ≡ nat_le d.sketch.threshold (q.distance (told_of q u.cell x.sent) (q.join (whole_of q u.cell U) v))) (sym same) (h U x.sent x.refused) in
      by_t keeps.sketch ∙ ap (λ (z : ℤ). nat_le d.sketch.threshold (t.rules.distance (told_of t.rules u.cell x.sent) (t.rules.join (whole_of t.rules u.cell U) z))) value
      ∙ ap (λ n. nat_le n (distance_next t w x u)) keeps.threshold ∙ ap (nat_le t.threshold) (sym distance_is)

  some_left : (x.counted == length (updates_by t w)) ≡ false
  some_left = grind (arith, lt)

  -- the messages in the lane are those that weren't taken
  pub lane_is : length x.sent - x.taken ≡ in_lane d
  lane_is = omega (arith, ap (λ (l : List Push). length l) keeps.queue, length-append keeps.cleared d.queue, keeps.taken)

  pub step_quiet : distance_next t w x u < t.threshold
      → count_step t w x ≡ (record { counted = x.counted + 1; sent = x.sent; refused = x.refused; taken = x.taken }, Counted)
  unfolding count_step
  step_quiet near =
      let below : nat_lt (distance_at t.rules (updates_by t w) x.sent x.counted) t.threshold ≡ true = rw distance_is (grind (arith, near)) in
      rw (some_left, below) refl

  far_test : t.threshold ≤ distance_next t w x u → nat_lt (distance_at t.rules (updates_by t w) x.sent x.counted) t.threshold ≡ false
  far_test far = rw distance_is (grind (arith, far))

  pub step_pushed : t.threshold ≤ distance_next t w x u → in_lane d < d.lane → count_step t w x ≡ pushes next_message x
  unfolding count_step
  step_pushed far room =
      let free : nat_lt (length x.sent - x.taken) t.capacity ≡ true = rw (lane_is, ← keeps.lane) (grind (arith, room)) in
      rw (some_left, far_test far, free) (ap (λ (m : Push). pushes m x) message_is)

  pub step_full : t.threshold ≤ distance_next t w x u → d.lane ≤ in_lane d → count_step t w x ≡ meets_full t.full x
  unfolding count_step
  step_full far full =
      let none : nat_lt (length x.sent - x.taken) t.capacity ≡ false = rw (lane_is, ← keeps.lane) (grind (arith, full)) in
      rw (some_left, far_test far, none) refl

  stands_next : (S : List Push) (F : List ℕ) (p : PrivateView H) → StandsFor stands t.rules p (take x.counted (updates_by t w) ++ u ∷ []) S F
      → StandsFor stands t.rules p (take (x.counted + 1) (updates_by t w)) S F
  stands_next S F p h = subst (λ (l : List Update). StandsFor stands t.rules p l S F) (sym (take_next (updates_by t w) x.counted u lt at)) h

  module _ (d' : CounterView H) (same : KeepsSettings d d') (idle : d'.sketch.due ≡ None) where
    -- no push is due
    pub after_quiet : distance_next t w x u < t.threshold → StandsFor stands t.rules d'.sketch (take x.counted (updates_by t w) ++ u ∷ []) x.sent x.refused → d'.queue ≡ d.queue
        → Keeps stands t w d' (count_step t w x).0 × (Counted ≡ (count_step t w x).1)
    after_quiet near h queue = rw (step_quiet near) (
      record {
        sketch = stands_next x.sent x.refused d'.sketch h;
        idle = idle;
        within = omega (arith, lt);
        threshold = same.threshold ∙ keeps.threshold;
        worker = same.worker ∙ keeps.worker;
        lane = same.lane ∙ keeps.lane;
        full = same.full ∙ keeps.full;
        cleared = keeps.cleared;
        queue = keeps.queue ∙ ap (λ (l : List Push). keeps.cleared ++ l) (sym queue);
        taken = keeps.taken ∙ ap (λ n. length keeps.cleared + n) (sym same.taken);
        taken_within = omega (arith, same.taken, keeps.taken_within, ap (λ (l : List Push). length l) queue);
      },
      refl,
    )

    -- a due push is refused
    pub after_refused : t.threshold ≤ distance_next t w x u → d.lane ≤ in_lane d → t.full ≡ Leave
        → StandsFor stands t.rules d'.sketch (take x.counted (updates_by t w) ++ u ∷ []) x.sent (x.refused ++ x.counted ∷ []) → d'.queue ≡ d.queue
        → Keeps stands t w d' (count_step t w x).0 × (Refused ≡ (count_step t w x).1)
    after_refused far full leave h queue = rw (step_full far full ∙ ap (λ f. meets_full f x) leave) (
      record {
        sketch = stands_next x.sent (x.refused ++ x.counted ∷ []) d'.sketch h;
        idle = idle;
        within = omega (arith, lt);
        threshold = same.threshold ∙ keeps.threshold;
        worker = same.worker ∙ keeps.worker;
        lane = same.lane ∙ keeps.lane;
        full = same.full ∙ keeps.full;
        cleared = keeps.cleared;
        queue = keeps.queue ∙ ap (λ (l : List Push). keeps.cleared ++ l) (sym queue);
        taken = keeps.taken ∙ ap (λ n. length keeps.cleared + n) (sym same.taken);
        taken_within = omega (arith, same.taken, keeps.taken_within, ap (λ (l : List Push). length l) queue);
      },
      refl,
    )

    -- a due push is sent
    pub after_sent : t.threshold ≤ distance_next t w x u → in_lane d < d.lane
        → StandsFor stands t.rules d'.sketch (take x.counted (updates_by t w) ++ u ∷ []) (x.sent ++ next_message ∷ []) x.refused → d'.queue ≡ d.queue ++ next_message ∷ []
        → Keeps stands t w d' (count_step t w x).0 × (Pushed next_message.amount ≡ (count_step t w x).1)
    after_sent far room h queue = rw (step_pushed far room) (
      record {
        sketch = stands_next (x.sent ++ next_message ∷ []) x.refused d'.sketch h;
        idle = idle;
        within = omega (arith, lt);
        threshold = same.threshold ∙ keeps.threshold;
        worker = same.worker ∙ keeps.worker;
        lane = same.lane ∙ keeps.lane;
        full = same.full ∙ keeps.full;
        cleared = keeps.cleared;
        queue = ap (λ (l : List Push). l ++ next_message ∷ []) keeps.queue ∙ append_assoc keeps.cleared d.queue (next_message ∷ []) ∙ ap (λ (l : List Push). keeps.cleared ++ l) (sym queue);
        taken = keeps.taken ∙ ap (λ n. length keeps.cleared + n) (sym same.taken);
        taken_within = omega (arith, same.taken, keeps.taken_within, ap (λ (l : List Push). length l) queue, length_push d.queue next_message);
      },
      refl,
    )

  -- a due push waits
  pub after_waits : t.threshold ≤ distance_next t w x u → d.lane ≤ in_lane d → t.full ≡ Wait
      → Keeps stands t w d (count_step t w x).0 × (Waits ≡ (count_step t w x).1)
  after_waits far full wait = rw (step_full far full ∙ ap (λ f. meets_full f x) wait) (keeps, refl)

-- a push waits where it is due, once pushes wait and the lane is full
pub waits_where : (waits filled due : Bool) → waits ≡ true → filled ≡ true → due ≡ (waits && (filled && due))
waits_where waits filled due are full = rw (are, full) refl

-- where no push waits, a due one that meets a full lane is left
pub leave_of : (full : Full) (lane held threshold distance : ℕ) → lane ≤ held → threshold ≤ distance
    → (is_wait full && (nat_le lane held && nat_le threshold distance)) ≡ false → full ≡ Leave
leave_of Leave lane held threshold distance filled far quiet = refl
leave_of Wait lane held threshold distance filled far quiet =
    let yes : nat_le threshold distance ≡ true = grind (arith, far) in
    let none : nat_le lane held ≡ true = grind (arith, filled) in
    let h : (true && (nat_le lane held && nat_le threshold distance)) ≡ false = quiet in
    let e : (true && (true && true)) ≡ false = rw (none, yes) at h in absurd (cc)

pub wait_of : (full : Full) (lane held threshold distance : ℕ) → (is_wait full && (nat_le lane held && nat_le threshold distance)) ≡ true
    → (full ≡ Wait) × ((lane ≤ held) × (threshold ≤ distance))
wait_of Leave lane held threshold distance h = absurd (let e : false ≡ true = h in cc)
wait_of Wait lane held threshold distance h = by (nat_le lane held) (nat_le threshold distance) refl refl h
  where
    by : (a b : Bool) → nat_le lane held ≡ a → nat_le threshold distance ≡ b → (a && b) ≡ true → (Wait ≡ Wait) × ((lane ≤ held) × (threshold ≤ distance))
    by true true filled far both = (refl, (grind arith, grind arith))
    by true false filled far both = absurd (cc)
    by false b filled far both = absurd (cc)

-- what is left behind the first so many
pub rotated : (q : List Push) (n : ℕ) → n ≤ length q → take (length q - n) (drop n q ++ take n q) ≡ drop n q
rotated q n le =
    let len : length q - n ≡ length (drop n q) = sym (length-drop n q) in
    ap (λ m. take m (drop n q ++ take n q)) len ∙ take-append-le (length (drop n q)) (drop n q) (take n q) (omega arith) ∙ take-length (drop n q)

-- the messages that were folded are cleared
pub keeps_cleared : {H : Type 0} (stands : H → ℤ → ℤ → Type 0) (t : Terms) (w : ℕ) (d d' : CounterView H) (x : Worker) → Keeps stands t w d x
    → d'.sketch ≡ d.sketch → d'.worker ≡ d.worker → d'.lane ≡ d.lane → d'.full ≡ d.full → d'.queue ≡ drop d.taken d.queue → d'.taken ≡ 0 → Keeps stands t w d' x
keeps_cleared {H} stands t w d d' x keeps sketch worker lane full queue taken = record {
  sketch = subst (λ (p : PrivateView H). StandsFor stands t.rules p (take x.counted (updates_by t w)) x.sent x.refused) (sym sketch) keeps.sketch;
  idle = ap (λ (p : PrivateView H). p.due) sketch ∙ keeps.idle;
  within = keeps.within;
  threshold = ap (λ (p : PrivateView H). p.threshold) sketch ∙ keeps.threshold;
  worker = worker ∙ keeps.worker;
  lane = lane ∙ keeps.lane;
  full = full ∙ keeps.full;
  cleared = keeps.cleared ++ take d.taken d.queue;
  queue = keeps.queue ∙ ap (λ (l : List Push). keeps.cleared ++ l) (sym (take-append-drop d.taken d.queue)) ∙ sym (append_assoc keeps.cleared (take d.taken d.queue) (drop d.taken d.queue))
      ∙ ap (λ (l : List Push). keeps.cleared ++ take d.taken d.queue ++ l) (sym queue);
  taken = omega (arith, keeps.taken, taken, length-append keeps.cleared (take d.taken d.queue), length-take d.taken d.queue, keeps.taken_within);
  taken_within = omega (arith, taken);
}

-- the residue of the updates that were counted is the residue there of all
pub residue_is : {H : Type 0} (stands : H → ℤ → ℤ → Type 0) (t : Terms) (w : ℕ) (d : CounterView H) (x : Worker) → Keeps stands t w d x → (r : Rules) → t.rules ≡ r → (cell : ℕ)
    → residue r (take x.counted (updates_by t w)) x.sent (length (take x.counted (updates_by t w))) cell ≡ residue t.rules (updates_by t w) x.sent x.counted cell
unfolding residue whole
residue_is stands t w d x keeps r same cell =
    let U = take x.counted (updates_by t w) in
    let len : length U ≡ x.counted = omega (arith, length-take x.counted (updates_by t w), keeps.within) in
    ap (λ (q : Rules). residue q U x.sent (length U) cell) (sym same)
    ∙ ap (λ n. t.rules.gap (told t.rules x.sent n cell) (whole_of t.rules cell (take n U))) len
    ∙ ap (λ (l : List Update). t.rules.gap (told t.rules x.sent x.counted cell) (whole_of t.rules cell l)) (take-take x.counted x.counted (updates_by t w) (omega arith))

-- a worker that has counted nothing
pub keeps_fresh : {H : Type 0} (stands : H → ℤ → ℤ → Type 0) (t : Terms) (w : ℕ) (d : CounterView H) → StandsFor stands t.rules d.sketch [] [] [] → d.sketch.due ≡ None
    → d.sketch.threshold ≡ t.threshold → d.worker ≡ w → d.lane ≡ t.capacity → d.full ≡ t.full → d.queue ≡ [] → d.taken ≡ 0 → Keeps stands t w d fresh_worker
keeps_fresh stands t w d stood idle threshold worker lane full queue taken = record {
  sketch = stood;
  idle = idle;
  within = omega arith;
  threshold = threshold;
  worker = worker;
  lane = lane;
  full = full;
  cleared = [];
  queue = sym queue;
  taken = omega (arith, taken);
  taken_within = omega (arith, taken);
}

-- what joins the told value to the whole one is a value
pub residue_value : {H : Type 0} (stands : H → ℤ → ℤ → Type 0) (r : Rules) → AreLaws r
    → ((h : H) (said all : ℤ) → stands h said all → (r.is_value said ≡ true) × (r.is_value all ≡ true) × (r.is_behind said all ≡ true))
    → (held : List H) (cell : ℕ) → cell < length held → (said all z : ℤ) → StandsAt stands held cell said all → z ≡ r.gap said all → r.is_value z ≡ true
residue_value {H} stands r laws values [] cell lt said all z at is = absurd (omega arith)
residue_value {H} stands r laws values (h ∷ held) zero lt said all z at is =
    let both = values h said all (at h refl) in
    ap r.is_value is ∙ laws.gap_value said all both.0 both.1
residue_value {H} stands r laws values (h ∷ held) (suc cell) lt said all z at is = residue_value stands r laws values held cell (omega arith) said all z at is
