-- A run after one event more, and what the events of one worker make of it.
use Rattle.std.proofs.Common.{◌≡◌, ◌<◌, ℕ, zero, suc, List, [], ◌∷◌, ◌++◌, length, set, length-set, true, false, refl, sym, ap, ◌∙◌}
use Rattle.std.specs.Prelude.{if◌then◌else◌}
use Rattle.std.proofs.lemmas.List.{set-get_or, get_or-set_same}
use Rattle.std.proofs.lemmas.List.Sums.{fold-append}
use Rattle.push_history.specs.declared.event.Event.{Event}
use Rattle.push_history.specs.declared.event.Event.TheVariants.{Update}
use Rattle.push_history.specs.LagRun.{Terms, Worker, State, worker_in, with_worker, fresh_worker, count_step, lag_step, lag_run, reply_to, start}
use Rattle.push_history.specs.Rounds.{is_waits, count_times}
use Rattle.push_history.specs.OwnSteps.{counts}

-- after one event more
pub run_more : (t : Terms) (readers : ℕ) (events : List Event) (e : Event) → lag_run t readers (events ++ e ∷ []) ≡ (lag_step t (lag_run t readers events) e).0
unfolding lag_run
run_more t readers events e = fold-append (λ s e. (lag_step t s e).0) (start (length t.updates) readers) events (e ∷ [])

pub set_twice : {X : Type 0} (xs : List X) (i : ℕ) (x y : X) → set (set xs i x) i y ≡ set xs i y
set_twice [] i x y = refl
set_twice (z ∷ xs) zero x y = refl
set_twice (z ∷ xs) (suc i) x y = ap (λ t. z ∷ t) (set_twice xs i x y)

-- a worker's own value put in its place
pub same_worker : (s : State) (w : ℕ) → with_worker s w (worker_in s w) ≡ s
same_worker s w = ap (λ (ws : List Worker). record { workers = ws; folded = s.folded; shown = s.shown; seen = s.seen }) (set-get_or s.workers w fresh_worker)

-- one worker's value, and then another in its place
pub worker_twice : (s : State) (w : ℕ) (x y : Worker) → with_worker (with_worker s w x) w y ≡ with_worker s w y
worker_twice s w x y = ap (λ (ws : List Worker). record { workers = ws; folded = s.folded; shown = s.shown; seen = s.seen }) (set_twice s.workers w x y)

pub worker_there : (s : State) (w : ℕ) (x : Worker) → w < length s.workers → worker_in (with_worker s w x) w ≡ x
worker_there s w x within = get_or-set_same s.workers w x fresh_worker within

-- an update changes its worker alone
pub update_run : (t : Terms) (readers : ℕ) (events : List Event) (w : ℕ)
    → lag_run t readers (events ++ Update w ∷ []) ≡ with_worker (lag_run t readers events) w (count_step t w (worker_in (lag_run t readers events) w)).0
unfolding lag_step
update_run t readers events w = run_more t readers events (Update w)

update_reply : (t : Terms) (readers : ℕ) (events : List Event) (w : ℕ) → reply_to t readers events (Update w) ≡ (count_step t w (worker_in (lag_run t readers events) w)).1
unfolding reply_to lag_step
update_reply t readers events w = refl

-- the worker counts, and the others stay
pub count_times_run : (t : Terms) (readers w n : ℕ) (events : List Event) (s : State) → lag_run t readers events ≡ s → w < length s.workers
    → lag_run t readers (count_times t readers w n events) ≡ with_worker s w (counts t w n (worker_in s w))
count_times_run t readers w zero events s is within = is ∙ sym (same_worker s w)
count_times_run t readers w (suc n) events s is within =
    let c = count_step t w (worker_in s w) in
    let next : lag_run t readers (events ++ Update w ∷ []) ≡ with_worker s w c.0 =
    update_run t readers events w ∙ ap (λ (z : State). with_worker z w (count_step t w (worker_in z w)).0) is in
    let reply : reply_to t readers events (Update w) ≡ c.1 = update_reply t readers events w ∙ ap (λ (z : State). (count_step t w (worker_in z w)).1) is in
    let inside : w < length (with_worker s w c.0).workers = rw (length-set s.workers w c.0) within in
    let rest : lag_run t readers (count_times t readers w n (events ++ Update w ∷ [])) ≡ with_worker s w (counts t w n c.0) =
    count_times_run t readers w n (events ++ Update w ∷ []) (with_worker s w c.0) next inside
    ∙ worker_twice s w c.0 (counts t w n (worker_in (with_worker s w c.0) w))
    ∙ ap (λ (x : Worker). with_worker s w (counts t w n x)) (worker_there s w c.0 within) in
    rw reply (elim (is_waits c.1) as (λ b. lag_run t readers (if b then events ++ Update w ∷ [] else count_times t readers w n (events ++ Update w ∷ []))
    ≡ with_worker s w (if b then c.0 else counts t w n c.0)) [ true ↦ next | false ↦ rest ])
