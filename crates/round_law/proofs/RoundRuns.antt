-- A round, worker by worker: each worker's part is a step of its own, and the fold grows by what each lane gives.
use Rattle.std.proofs.Common.{◌≡◌, ◌<◌, ◌≤◌, ℕ, zero, suc, ◌+◌, ◌==◌, List, [], ◌∷◌, ◌++◌, length, set, length-set, take, drop, replicate, false, refl, sym, ap, ◌∙◌, subst, arith, append_assoc, ◌*◌, drop-cons, add-zero, add-one, pos, inl, inr}
use Rattle.std.specs.Prelude.{fold, slice_set, slice_index_or, min}
use Rattle.std.specs.List.{flat_map, range_with_len}
use Rattle.std.proofs.lemmas.List.{append-nil, get_or-set_same, get_or-set_other}
use Rattle.std.proofs.Math.Nat.{eq-or-lt_of_le}
use Rattle.hash_rows.specs.declared.options.Options.{Options}
use Rattle.hash_rows.specs.declared.shape.Push.{Push}
use Rattle.push_history.specs.declared.event.Event.{Event}
use Rattle.push_history.specs.declared.event.Event.TheVariants.{Take}
use Rattle.push_history.specs.Share.{zero_key}
use Rattle.push_history.specs.Front.{message_at}
use Rattle.push_history.specs.LagRun.{Terms, Worker, State, worker_in, fresh_worker, take_step, lag_step, lag_run}
use Rattle.push_history.specs.Rounds.{count_times, count_in_round, fold_in_round, held_by, updates_left}
use Rattle.push_history.specs.OwnSteps.{counts, untaken_of, with_taken, next_taken, counted_in_round}
use Rattle.push_history.proofs.Runs.{run_more, count_times_run, same_worker, set_twice}

abbrev no_push : Push
no_push = record { worker = 0; packet = 0; update = 0; key = zero_key; cell = 0; amount = pos 0 }

-- the state with this worker in place of worker w, and these messages folded
abbrev pub stepped : State → ℕ → Worker → List Push → State
stepped s w x messages = record { workers = slice_set s.workers w x; folded = s.folded ++ messages; shown = s.shown; seen = s.seen }

-- the workers from a on, k of them, have stepped, and their messages are folded in order
pub record Steps (f : ℕ → Worker → Worker) (g : ℕ → Worker → List Push) (a k : ℕ) (s s' : State) : Type 0 where
  pub len : length s'.workers ≡ length s.workers
  pub done : (w : ℕ) → a ≤ w → w < a + k → worker_in s' w ≡ f w (worker_in s w)
  pub before : (w : ℕ) → w < a → worker_in s' w ≡ worker_in s w
  pub behind : (w : ℕ) → a + k ≤ w → worker_in s' w ≡ worker_in s w
  pub folded : s'.folded ≡ s.folded ++ flat_map (λ w. g w (worker_in s w)) (range_with_len a k)
  pub shown : s'.shown ≡ s.shown
  pub seen : s'.seen ≡ s.seen

pub flat_map_same : {X : Type 0} (h h' : ℕ → List X) (a k : ℕ) → ((w : ℕ) → a ≤ w → w < a + k → h w ≡ h' w) → flat_map h (range_with_len a k) ≡ flat_map h' (range_with_len a k)
flat_map_same h h' a zero same = refl
flat_map_same h h' a (suc k) same =
    ap (λ t. t ++ flat_map h (range_with_len (a + 1) k)) (same a (omega arith) (omega arith))
    ∙ ap (λ t. h' a ++ t) (flat_map_same h h' (a + 1) k (λ w low high. same w (omega (arith, low)) (omega (arith, high))))

-- one worker's part of a phase is a step of that worker
abbrev pub IsPhase : Terms → ℕ → (List Event → ℕ → List Event) → (ℕ → Worker → Worker) → (ℕ → Worker → List Push) → Type 0
IsPhase t readers p f g = (events : List Event) (s : State) (w : ℕ) → lag_run t readers events ≡ s → w < length s.workers
    → lag_run t readers (p events w) ≡ stepped s w (f w (worker_in s w)) (g w (worker_in s w))

no_steps : (f : ℕ → Worker → Worker) (g : ℕ → Worker → List Push) (a : ℕ) (s : State) → Steps f g a 0 s s
no_steps f g a s = record {
  len = refl;
  done = λ w low high. absurd (omega (arith, low, high));
  before = λ w _. refl;
  behind = λ w _. refl;
  folded = sym (append-nil s.folded);
  shown = refl;
  seen = refl;
}

one_more : (f : ℕ → Worker → Worker) (g : ℕ → Worker → List Push) (a k : ℕ) (s s' : State) → a < length s.workers
    → Steps f g (a + 1) k (stepped s a (f a (worker_in s a)) (g a (worker_in s a))) s' → Steps f g a (suc k) s s'
one_more f g a k s s' within rest =
    let x = f a (worker_in s a) in
    let there : slice_index_or (set s.workers a x) a fresh_worker ≡ x = get_or-set_same s.workers a x fresh_worker within in
    let other : (w : ℕ) → (w ≡ a → ⊥) → slice_index_or (set s.workers a x) w fresh_worker ≡ worker_in s w = λ w apart. get_or-set_other s.workers a w x fresh_worker apart in
    record {
      len = rest.len ∙ length-set s.workers a x;
      done = λ w low high. elim (eq-or-lt_of_le low) [
        | inl e ↦ subst (λ v. worker_in s' v ≡ f v (worker_in s v)) e (rest.before a (omega arith) ∙ there)
        | inr lt ↦ rest.done w (omega (arith, lt)) (omega (arith, high)) ∙ ap (f w) (other w (λ e. absurd (omega (arith, lt, e))))
      ];
      before = λ w lt. rest.before w (omega (arith, lt)) ∙ other w (λ e. absurd (omega (arith, lt, e)));
      behind = λ w le. rest.behind w (omega (arith, le)) ∙ other w (λ e. absurd (omega (arith, le, e)));
      folded = rest.folded ∙ append_assoc s.folded (g a (worker_in s a)) _
          ∙ ap (λ t. s.folded ++ (g a (worker_in s a) ++ t)) (flat_map_same _ _ (a + 1) k (λ w low high. ap (g w) (other w (λ e. absurd (omega (arith, low, e))))));
      shown = rest.shown;
      seen = rest.seen;
    }

-- a phase goes through the workers in order
pub phase_run : (t : Terms) (readers : ℕ) (p : List Event → ℕ → List Event) (f : ℕ → Worker → Worker) (g : ℕ → Worker → List Push) → IsPhase t readers p f g
    → (a k : ℕ) (events : List Event) (s : State) → lag_run t readers events ≡ s → a + k ≤ length s.workers
    → Steps f g a k s (lag_run t readers (fold p events (range_with_len a k)))
phase_run t readers p f g is_phase a zero events s is within = subst (λ (z : State). Steps f g a 0 s z) (sym is) (no_steps f g a s)
phase_run t readers p f g is_phase a (suc k) events s is within =
    let x = f a (worker_in s a) in
    let next = stepped s a x (g a (worker_in s a)) in
    let inside : a + 1 + k ≤ length next.workers = rw (length-set s.workers a x) (omega (arith, within)) in
    one_more f g a k s _ (omega (arith, within)) (phase_run t readers p f g is_phase (a + 1) k (p events a) next (is_phase events s a is (omega (arith, within))) inside)

-- counting is a phase that folds nothing
pub counting_is_phase : (t : Terms) (o : Options) → IsPhase t o.readers (count_in_round t o) (counted_in_round t o) (λ w x. [])
unfolding counted_in_round count_in_round
counting_is_phase t o events s w is within =
    let n : State → ℕ = λ z. min (o.shape.rows * o.round) (updates_left t z w) in
    ap (λ (z : State). lag_run t o.readers (count_times t o.readers w (n z) events)) is
    ∙ count_times_run t o.readers w (n s) events s is within
    ∙ ap (λ (ms : List Push). record { workers = slice_set s.workers w (counts t w (n s) (worker_in s w)); folded = ms; shown = s.shown; seen = s.seen }) (sym (append-nil s.folded))

-- the oldest message of a lane is folded
take_once : (t : Terms) (s : State) (w : ℕ) → 1 ≤ untaken_of (worker_in s w)
    → (lag_step t s (Take w)).0 ≡ stepped s w (with_taken (worker_in s w) 1) (message_at (worker_in s w).sent (worker_in s w).taken ∷ [])
unfolding lag_step take_step
take_once t s w held =
    let x = worker_in s w in
    let some : (x.taken == length x.sent) ≡ false = grind (arith, held) in
    rw some refl

-- and then n more
take_more : (s : State) (w n : ℕ) → suc n ≤ untaken_of (worker_in s w)
    → stepped (stepped s w (with_taken (worker_in s w) 1) (message_at (worker_in s w).sent (worker_in s w).taken ∷ [])) w
    (with_taken (with_taken (worker_in s w) 1) n) (next_taken (with_taken (worker_in s w) 1) n)
    ≡ stepped s w (with_taken (worker_in s w) (suc n)) (next_taken (worker_in s w) (suc n))
take_more s w n held =
    let x = worker_in s w in
    let m = message_at x.sent x.taken in
    let same : with_taken (with_taken x 1) n ≡ with_taken x (suc n) =
    ap (λ (k : ℕ). record { counted = x.counted; sent = x.sent; refused = x.refused; taken = k }) (omega arith) in
    let front : m ∷ next_taken (with_taken x 1) n ≡ next_taken x (suc n) =
    ap (λ (k : ℕ). m ∷ take n (drop k x.sent)) (add-one x.taken) ∙ ap (λ (l : List Push). take (suc n) l) (sym (drop-cons x.sent x.taken no_push (omega (arith, held)))) in
    ap (λ (ws : List Worker). record { workers = ws; folded = s.folded ++ m ∷ [] ++ next_taken (with_taken x 1) n; shown = s.shown; seen = s.seen }) (set_twice s.workers w (with_taken x 1) (with_taken (with_taken x 1) n))
    ∙ ap (λ (y : Worker). record { workers = slice_set s.workers w y; folded = s.folded ++ m ∷ [] ++ next_taken (with_taken x 1) n; shown = s.shown; seen = s.seen }) same
    ∙ ap (λ (ms : List Push). record { workers = slice_set s.workers w (with_taken x (suc n)); folded = ms; shown = s.shown; seen = s.seen })
    (append_assoc s.folded (m ∷ []) (next_taken (with_taken x 1) n) ∙ ap (λ (l : List Push). s.folded ++ l) front)

-- the oldest messages of a lane are folded
takes_run : (t : Terms) (readers w n : ℕ) (events : List Event) (s : State) → lag_run t readers events ≡ s → w < length s.workers
    → n ≤ untaken_of (worker_in s w)
    → lag_run t readers (events ++ replicate n (Take w)) ≡ stepped s w (with_taken (worker_in s w) n) (next_taken (worker_in s w) n)
takes_run t readers w zero events s is within held =
    let x = worker_in s w in
    ap (lag_run t readers) (append-nil events) ∙ is ∙ sym (
    ap (λ (n : ℕ). stepped s w (record { counted = x.counted; sent = x.sent; refused = x.refused; taken = n }) []) (add-zero x.taken)
    ∙ ap (λ (ms : List Push). record { workers = slice_set s.workers w x; folded = ms; shown = s.shown; seen = s.seen }) (append-nil s.folded)
    ∙ same_worker s w)
takes_run t readers w (suc n) events s is within held =
    let x = worker_in s w in
    let one = stepped s w (with_taken x 1) (message_at x.sent x.taken ∷ []) in
    let now : lag_run t readers (events ++ Take w ∷ []) ≡ one =
    run_more t readers events (Take w) ∙ ap (λ (z : State). (lag_step t z (Take w)).0) is ∙ take_once t s w (omega (arith, held)) in
    let there : worker_in one w ≡ with_taken x 1 = get_or-set_same s.workers w (with_taken x 1) fresh_worker within in
    let inside : w < length one.workers = rw (length-set s.workers w (with_taken x 1)) within in
    let few : n ≤ untaken_of (worker_in one w) = subst (λ (y : Worker). n ≤ untaken_of y) (sym there) (omega (arith, held)) in
    ap (lag_run t readers) (sym (append_assoc events (Take w ∷ []) (replicate n (Take w))))
    ∙ takes_run t readers w n (events ++ Take w ∷ []) one now inside few
    ∙ ap (λ (y : Worker). stepped one w (with_taken y n) (next_taken y n)) there
    ∙ take_more s w n (omega (arith, held))

pub folding_is_phase : (t : Terms) (o : Options) → IsPhase t o.readers (fold_in_round t o) (λ w x. with_taken x (min o.batch (untaken_of x))) (λ w x. next_taken x (min o.batch (untaken_of x)))
unfolding fold_in_round
folding_is_phase t o events s w is within =
    let n : State → ℕ = λ z. min o.batch (held_by z w) in
    ap (λ (z : State). lag_run t o.readers (events ++ replicate (n z) (Take w))) is ∙ takes_run t o.readers w (n s) events s is within (omega arith)
