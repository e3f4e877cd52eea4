-- A run that is idle stays so: later rounds change nothing.
use Rattle.std.proofs.Common.{◌≡◌, ◌<◌, ◌≤◌, ℕ, zero, suc, ◌+◌, ◌-◌, ◌*◌, List, [], ◌∷◌, ◌++◌, length, Bool, true, false, nat_lt, ◌||◌, ◌⊎◌, refl, sym, ap, ◌∙◌, subst, arith, add-zero, inl, inr}
use Rattle.std.specs.Prelude.{fold, min}
use Rattle.std.specs.List.{flat_map, range_with_len}
use Rattle.std.proofs.Math.Nat.{eq-or-lt_of_le}
use Rattle.std.proofs.lemmas.Bool.{cases_lt}
use Rattle.std.proofs.lemmas.List.{append-nil, ext_get_or}
use Rattle.hash_rows.specs.declared.options.Options.{Options}
use Rattle.hash_rows.specs.declared.shape.Push.{Push}
use Rattle.push_history.specs.declared.event.Event.{Event}
use Rattle.push_history.specs.LagRun.{Terms, Worker, fresh_worker, lag_run, start}
use Rattle.push_history.specs.OwnSteps.{counts, uncounted_of, untaken_of, with_taken, next_taken, own_round, folded_in_round, counted_in_round}
use Rattle.round_law.proofs.WorkLeft.{is_own_busy}
use Rattle.round_law.specs.RoundStates.{round_state}
use Rattle.push_history.specs.Rounds.{AreRounds, ask_at_end, is_busy, events_of_rounds}
use Rattle.round_law.proofs.RoundAnswers.{finish_run}
use Rattle.round_law.proofs.RoundRuns.{flat_map_same}
use Rattle.round_law.proofs.RoundSteps.{SameRun}
use Rattle.round_law.specs.OwnRounds.{own_rounds, folded_after}
use Rattle.round_law.proofs.OwnRounds.{round_len, round_next, worker_after, folded_more, rounds_more, idle_by_workers, worker_idle}

neither : (a b : ℕ) → (nat_lt 0 a || nat_lt 0 b) ≡ false → (a ≡ 0) × (b ≡ 0)
neither a b none = elim (cases_lt 0 a) [
  | inl lt ↦ absurd (let on : nat_lt 0 a ≡ true = grind arith in let no : true ≡ false = ap (λ c. c || nat_lt 0 b) (sym on) ∙ none in cc)
  | inr le ↦ elim (cases_lt 0 b) [
    | inl lt ↦ absurd (let off : nat_lt 0 a ≡ false = grind arith in let on : nat_lt 0 b ≡ true = grind arith in
        let no : true ≡ false = ap (λ c. false || c) (sym on) ∙ ap (λ c. c || nat_lt 0 b) (sym off) ∙ none in cc)
    | inr few ↦ (omega (arith, le), omega (arith, few))
  ]
]

-- nothing counted, nothing taken
pub nothing_left : (t : Terms) (w : ℕ) (x : Worker) → is_own_busy t w x ≡ false → (uncounted_of t w x ≡ 0) × (untaken_of x ≡ 0)
nothing_left t w x none = neither (uncounted_of t w x) (untaken_of x) none

module _ (t : Terms) (o : Options) (w : ℕ) (x : Worker) (none : is_own_busy t w x ≡ false) where
  counted_same : counted_in_round t o w x ≡ x
  unfolding counted_in_round
  counted_same =
      let left = (nothing_left t w x none).0 in
      let zero_more : min (o.shape.rows * o.round) (uncounted_of t w x) ≡ 0 = omega (arith, left) in
      ap (λ n. counts t w n x) zero_more

  none_held : min o.batch (untaken_of (counted_in_round t o w x)) ≡ 0
  none_held = let held = (nothing_left t w x none).1 in omega (arith, ap untaken_of counted_same, held)

  idle_round : own_round t o w x ≡ x
  unfolding own_round
  idle_round =
      ap (with_taken (counted_in_round t o w x)) none_held ∙ ap (λ (c : Worker). with_taken c 0) counted_same
      ∙ ap (λ (n : ℕ). record { counted = x.counted; sent = x.sent; refused = x.refused; taken = n }) (add-zero x.taken)

  idle_folds : folded_in_round t o w x ≡ []
  unfolding folded_in_round
  idle_folds = ap (next_taken (counted_in_round t o w x)) none_held

idle_rounds : (t : Terms) (o : Options) (w : ℕ) (x : Worker) → is_own_busy t w x ≡ false → (m : ℕ) → own_rounds t o w m x ≡ x
idle_rounds t o w x none zero = refl
idle_rounds t o w x none (suc m) = ap (own_round t o w) (idle_rounds t o w x none m) ∙ idle_round t o w x none

nothing : {X : Type 0} (ws : List ℕ) → flat_map {X = ℕ} {A = X} (λ w. []) ws ≡ []
nothing [] = refl
nothing (w ∷ ws) = nothing ws

-- all that was folded is shown
pub shown_after : (t : Terms) (o : Options) → length t.updates ≡ o.workers → (n : ℕ) → (round_state t o n).shown ≡ length (folded_after t o n)
unfolding round_state events_of_rounds lag_run start
shown_after t o same zero = refl
shown_after t o same (suc n) = (round_next t o same n).shown

module _ (t : Terms) (o : Options) (same : length t.updates ≡ o.workers) (n : ℕ) (idle : is_busy t o (events_of_rounds t o n) ≡ false) where
  worker_same : (m w : ℕ) → w < o.workers → own_rounds t o w (n + m) fresh_worker ≡ own_rounds t o w n fresh_worker
  worker_same m w lt = sym (rounds_more t o w n m fresh_worker) ∙ idle_rounds t o w (own_rounds t o w n fresh_worker) (worker_idle t o same n idle w lt) m

  own_idle : (m w : ℕ) → w < o.workers → is_own_busy t w (own_rounds t o w (n + m) fresh_worker) ≡ false
  own_idle m w lt = ap (is_own_busy t w) (worker_same m w lt) ∙ worker_idle t o same n idle w lt

  pub still_idle : (m : ℕ) → is_busy t o (events_of_rounds t o (n + m)) ≡ false
  still_idle m = idle_by_workers t o same (n + m) (own_idle m)

  folded_same : (m : ℕ) → folded_after t o (n + m) ≡ folded_after t o n
  folded_same zero = ap (folded_after t o) (add-zero n)
  folded_same (suc m) =
      let next : n + suc m ≡ suc (n + m) = omega arith in
      ap (folded_after t o) next ∙ folded_more t o same (n + m)
      ∙ ap (λ (l : List Push). folded_after t o (n + m) ++ l)
      (flat_map_same _ (λ w. []) 0 o.workers (λ w _ lt. idle_folds t o w (own_rounds t o w (n + m) fresh_worker) (own_idle m w (omega (arith, lt)))) ∙ nothing (range_with_len 0 o.workers))
      ∙ append-nil (folded_after t o (n + m)) ∙ folded_same m

  workers_same : (m : ℕ) → (round_state t o (n + m)).workers ≡ (round_state t o n).workers
  workers_same m =
      let long : length (round_state t o (n + m)).workers ≡ o.workers = round_len t o same (n + m) in
      ext_get_or fresh_worker (round_state t o (n + m)).workers (round_state t o n).workers (long ∙ sym (round_len t o same n))
      (λ w lt. let within : w < o.workers = omega (arith, lt, long) in
      worker_after t o same (n + m) w within ∙ worker_same m w within ∙ sym (worker_after t o same n w within))

  same_more : (m : ℕ) → SameRun (round_state t o n) (round_state t o (n + m))
  same_more m = record {
    workers = workers_same m;
    folded = folded_same m;
    shown = shown_after t o same (n + m) ∙ ap length (folded_same m) ∙ sym (shown_after t o same n);
  }

  -- the state after more rounds
  pub same_later : (k : ℕ) → n ≤ k → SameRun (round_state t o n) (round_state t o k)
  same_later k le = let at : n + (k - n) ≡ k = omega (arith, le) in subst (λ (m : ℕ). SameRun (round_state t o n) (round_state t o m)) at (same_more (k - n))

-- the least number below a bound that fails, or none does
least_below : (p : ℕ → Bool) (n : ℕ) → ((m : ℕ) → m < n → p m ≡ true) ⊎ ((r : ℕ) × (r < n) × ((m : ℕ) → m < r → p m ≡ true) × (p r ≡ false))
least_below p zero = inl (λ m lt. absurd (omega (arith, lt)))
least_below p (suc n) = elim (least_below p n) [
  | inl all ↦ by (p n) refl all
  | inr found ↦ inr (found.0, omega (arith, found.1), found.2, found.3)
]
  where
    by : (b : Bool) → p n ≡ b → ((m : ℕ) → m < n → p m ≡ true)
        → ((m : ℕ) → m < suc n → p m ≡ true) ⊎ ((r : ℕ) × (r < suc n) × ((m : ℕ) → m < r → p m ≡ true) × (p r ≡ false))
    by true is all = inl (λ m lt. elim (eq-or-lt_of_le (let le : m ≤ n = omega (arith, lt) in le)) [ inl e ↦ ap p e ∙ is | inr early ↦ all m early ])
    by false is all = inr (n, omega arith, all, is)

-- the schedule of a run that is idle after n rounds at the latest
pub rounds_end : (t : Terms) (o : Options) (n : ℕ) → is_busy t o (events_of_rounds t o n) ≡ false
    → (events : List Event) × (h : AreRounds t o events) × (h.rounds ≤ n)
rounds_end t o n idle = elim (least_below (λ k. is_busy t o (events_of_rounds t o k)) n) [
  | inl all ↦ (events n, record { rounds = n; busy = all; idle = idle; all = refl }, omega arith)
  | inr found ↦ (events found.0, record { rounds = found.0; busy = found.2; idle = found.3; all = refl }, omega (arith, found.1))
]
  where
    events : ℕ → List Event
    events k = fold (ask_at_end o) (events_of_rounds t o k) (range_with_len 0 o.readers)

-- a schedule ends no later than the run is idle, and in the state after those rounds
pub end_rounds : (t : Terms) (o : Options) (n : ℕ) → is_busy t o (events_of_rounds t o n) ≡ false → (events : List Event) (h : AreRounds t o events) → h.rounds ≤ n
end_rounds t o n idle events h = elim (cases_lt n h.rounds) [
  | inl late ↦ absurd (let no : true ≡ false = sym (h.busy n late) ∙ idle in cc)
  | inr le ↦ le
]

pub end_state : (t : Terms) (o : Options) → length t.updates ≡ o.workers → (n : ℕ) → is_busy t o (events_of_rounds t o n) ≡ false → (events : List Event) → AreRounds t o events
    → SameRun (round_state t o n) (lag_run t o.readers events)
end_state t o same n idle events h =
    let ended : SameRun (round_state t o h.rounds) (lag_run t o.readers events) =
    subst (λ (es : List Event). SameRun (round_state t o h.rounds) (lag_run t o.readers es)) (sym h.all) (finish_run t o h.rounds) in
    let later : SameRun (round_state t o h.rounds) (round_state t o n) = same_later t o same h.rounds h.idle n (end_rounds t o n idle events h) in
    record { workers = ended.workers ∙ sym later.workers; folded = ended.folded ∙ sym later.folded; shown = ended.shown ∙ sym later.shown }
