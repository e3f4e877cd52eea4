-- What is left to do of a worker falls in each round in which it is busy.
use Rattle.std.proofs.Common.{◌≡◌, ◌≢◌, ◌<◌, ◌≤◌, ℕ, zero, suc, ◌+◌, ◌*◌, ◌==◌, ◌⊎◌, length, Bool, true, false, nat_lt, ◌||◌, refl, sym, ap, ◌∙◌, arith, inl, inr}
use Rattle.std.specs.Prelude.{if◌then◌else◌, min}
use Rattle.std.proofs.lemmas.List.{length_push}
use Rattle.hash_rows.specs.declared.options.Full.{Full}
use Rattle.hash_rows.specs.declared.options.Full.TheVariants.{Leave, Wait}
use Rattle.hash_rows.specs.declared.options.Options.{Options}
use Rattle.push_history.specs.declared.event.Reply.{Reply}
use Rattle.push_history.specs.declared.event.Reply.TheVariants.{Counted, Over}
use Rattle.push_history.specs.LagRun.{Terms, Worker, updates_by, count_step, meets_full, message_of, pushes}
use Rattle.push_history.specs.OwnSteps.{counts, uncounted_of, untaken_of, with_taken, own_round, counted_in_round}
use Rattle.round_law.proofs.WorkLeft.{is_own_busy, work_left}
use Rattle.push_history.specs.Pushes.{distance_at}
use Rattle.push_history.specs.Rounds.{is_waits}

-- no more counted than there are updates, no more taken than sent
pub record IsWithin (t : Terms) (w : ℕ) (x : Worker) : Type 0 where
  pub counted : x.counted ≤ length (updates_by t w)
  pub taken : x.taken ≤ length x.sent

-- what counting one update makes of what is left: less, unless the worker waits and its lane isn't empty
record IsStep (t : Terms) (w : ℕ) (x : Worker) (c : Worker × Reply) : Type 0 where
  pub within : IsWithin t w c.0
  pub no_more : work_left t w c.0 ≤ work_left t w x
  pub goes_on : x.counted < length (updates_by t w) → (work_left t w c.0 < work_left t w x) ⊎ ((1 ≤ untaken_of c.0) × (is_waits c.1 ≡ true))

module _ (t : Terms) (w : ℕ) (x : Worker) (some : 1 ≤ t.capacity) (h : IsWithin t w x) where
  full_step : (full : Full) → x.counted < length (updates_by t w) → t.capacity ≤ untaken_of x → IsStep t w x (meets_full full x)
  full_step Leave lt many = record {
    within = record { counted = omega (arith, lt); taken = h.taken };
    no_more = omega (arith, lt);
    goes_on = λ _. inl (omega (arith, lt));
  }
  full_step Wait lt many = record {
    within = h;
    no_more = omega arith;
    goes_on = λ _. inr (omega (arith, some, many), refl);
  }

  room_step : x.counted < length (updates_by t w) → (b : Bool) → nat_lt (untaken_of x) t.capacity ≡ b
      → IsStep t w x (if b then pushes (message_of t.rules w (updates_by t w) x.sent x.counted) x else meets_full t.full x)
  room_step lt true room =
      let longer = length_push x.sent (message_of t.rules w (updates_by t w) x.sent x.counted) in
      record {
        within = record { counted = omega (arith, lt); taken = omega (arith, longer, h.taken) };
        no_more = omega (arith, lt, longer, h.taken);
        goes_on = λ _. inl (omega (arith, lt, longer, h.taken));
      }
  room_step lt false none = full_step t.full lt (let many : t.capacity ≤ untaken_of x = grind arith in many)

  due_step : x.counted < length (updates_by t w) → (b : Bool)
      → IsStep t w x (if b then (record { counted = x.counted + 1; sent = x.sent; refused = x.refused; taken = x.taken }, Counted)
      else if nat_lt (untaken_of x) t.capacity then pushes (message_of t.rules w (updates_by t w) x.sent x.counted) x else meets_full t.full x)
  due_step lt true = record {
    within = record { counted = omega (arith, lt); taken = h.taken };
    no_more = omega (arith, lt);
    goes_on = λ _. inl (omega (arith, lt));
  }
  due_step lt false = room_step lt (nat_lt (untaken_of x) t.capacity) refl

  left_step : (b : Bool) → (x.counted == length (updates_by t w)) ≡ b
      → IsStep t w x (if b then (x, Over)
      else if nat_lt (distance_at t.rules (updates_by t w) x.sent x.counted) t.threshold then (record { counted = x.counted + 1; sent = x.sent; refused = x.refused; taken = x.taken }, Counted)
      else if nat_lt (untaken_of x) t.capacity then pushes (message_of t.rules w (updates_by t w) x.sent x.counted) x else meets_full t.full x)
  left_step true over =
      let all : x.counted ≡ length (updates_by t w) = grind arith in
      record { within = h; no_more = omega arith; goes_on = λ lt. absurd (omega (arith, lt, all)) }
  left_step false left =
      let ne : x.counted ≢ length (updates_by t w) = (λ e. let yes : (x.counted == length (updates_by t w)) ≡ true = grind arith in let no : true ≡ false = sym yes ∙ left in absurd (cc)) in
      due_step (omega (arith, h.counted, ne)) (nat_lt (distance_at t.rules (updates_by t w) x.sent x.counted) t.threshold)

  one_step : IsStep t w x (count_step t w x)
  unfolding count_step
  one_step = left_step (x.counted == length (updates_by t w)) refl

-- counting leaves no more to do
pub record NoMore (t : Terms) (w : ℕ) (x y : Worker) : Type 0 where
  pub within : IsWithin t w y
  pub no_more : work_left t w y ≤ work_left t w x

pub counts_no_more : (t : Terms) (w : ℕ) → 1 ≤ t.capacity → (n : ℕ) (x : Worker) → IsWithin t w x → NoMore t w x (counts t w n x)
counts_no_more t w some zero x h = record { within = h; no_more = omega arith }
counts_no_more t w some (suc n) x h =
    let one = one_step t w x some h in
    let c = count_step t w x in
    let rest = counts_no_more t w some n c.0 one.within in
    elim (is_waits c.1) as (λ b. NoMore t w x (if b then c.0 else counts t w n c.0)) [
      | true ↦ record { within = one.within; no_more = one.no_more }
      | false ↦ record { within = rest.within; no_more = omega (arith, rest.no_more, one.no_more) }
    ]

-- where an update is left, it leaves less, or a lane that isn't empty
pub counts_goes_on : (t : Terms) (w : ℕ) → 1 ≤ t.capacity → (n : ℕ) (x : Worker) → IsWithin t w x → 1 ≤ n → x.counted < length (updates_by t w)
    → (work_left t w (counts t w n x) < work_left t w x) ⊎ (1 ≤ untaken_of (counts t w n x))
counts_goes_on t w some zero x h more lt = absurd (omega (arith, more))
counts_goes_on t w some (suc n) x h more lt = by (is_waits (count_step t w x).1) refl
  where
    by : (b : Bool) → is_waits (count_step t w x).1 ≡ b
        → (work_left t w (if b then (count_step t w x).0 else counts t w n (count_step t w x).0) < work_left t w x)
        ⊎ (1 ≤ untaken_of (if b then (count_step t w x).0 else counts t w n (count_step t w x).0))
    by true waits = elim ((one_step t w x some h).goes_on lt) [ inl less ↦ inl less | inr held ↦ inr held.0 ]
    by false goes =
        let one = one_step t w x some h in
        let rest = counts_no_more t w some n (count_step t w x).0 one.within in
        elim (one.goes_on lt) [
          | inl less ↦ inl (omega (arith, less, rest.no_more))
          | inr held ↦ absurd (let no : true ≡ false = sym held.1 ∙ goes in cc)
        ]

-- what folding from the lane leaves
taking : (t : Terms) (w : ℕ) (c : Worker) (n : ℕ) → c.taken ≤ length c.sent → n ≤ untaken_of c → work_left t w (with_taken c n) + n ≡ work_left t w c
taking t w c n h few = omega (arith, h, few)

pub no_more_left : (t : Terms) (o : Options) (w : ℕ) (x : Worker) → 1 ≤ t.capacity → x.taken ≤ length x.sent → x.counted ≤ length (updates_by t w)
    → work_left t w (own_round t o w x) ≤ work_left t w x
unfolding own_round counted_in_round
no_more_left t o w x some taken counted =
    let n = min (o.shape.rows * o.round) (uncounted_of t w x) in
    let c = counts t w n x in
    let after : NoMore t w x c = counts_no_more t w some n x (record { counted = counted; taken = taken }) in
    omega (arith, after.no_more, taking t w c (min o.batch (untaken_of c)) after.within.taken (omega arith))

-- a round keeps a worker within its updates and messages
pub round_within : (t : Terms) (o : Options) (w : ℕ) (x : Worker) → 1 ≤ t.capacity → IsWithin t w x → IsWithin t w (own_round t o w x)
unfolding own_round counted_in_round
round_within t o w x some h =
    let n = min (o.shape.rows * o.round) (uncounted_of t w x) in
    let after : NoMore t w x (counts t w n x) = counts_no_more t w some n x h in
    record { counted = after.within.counted; taken = omega (arith, after.within.taken) }

busy_by : (a b : ℕ) → (nat_lt 0 a || nat_lt 0 b) ≡ true → (1 ≤ a) ⊎ ((a ≡ 0) × (1 ≤ b))
busy_by zero b busy = inr (refl, grind arith)
busy_by (suc a) b busy = inl (omega arith)

pub less_left : (t : Terms) (o : Options) (w : ℕ) (x : Worker) → 1 ≤ t.capacity → 1 ≤ o.batch → 1 ≤ o.shape.rows * o.round → is_own_busy t w x ≡ true
    → x.taken ≤ length x.sent → x.counted ≤ length (updates_by t w) → work_left t w (own_round t o w x) < work_left t w x
unfolding own_round counted_in_round
less_left t o w x some batch round busy taken counted =
    let n = min (o.shape.rows * o.round) (uncounted_of t w x) in
    let c = counts t w n x in
    let after : NoMore t w x c = counts_no_more t w some n x (record { counted = counted; taken = taken }) in
    let left = taking t w c (min o.batch (untaken_of c)) after.within.taken (omega arith) in
    elim (busy_by (uncounted_of t w x) (untaken_of x) busy) [
      | inl more ↦ elim (counts_goes_on t w some n x (record { counted = counted; taken = taken }) (omega (arith, more, round)) (omega (arith, more))) [
        | inl less ↦ omega (arith, less, left)
        | inr held ↦ omega (arith, held, batch, left, after.no_more)
      ]
      | inr held ↦
          let none : n ≡ 0 = omega (arith, held.0) in
          let same : c ≡ x = ap (λ k. counts t w k x) none in
          omega (arith, ap untaken_of same, held.1, batch, left, after.no_more)
    ]
