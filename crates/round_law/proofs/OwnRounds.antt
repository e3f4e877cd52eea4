-- A run in rounds, worker by worker.
use Rattle.std.proofs.Common.{◌≡◌, ◌<◌, ℕ, zero, suc, ◌+◌, [], ◌++◌, length, get_or, replicate, false, refl, sym, ap, ◌∙◌, subst, arith}
use Rattle.std.specs.List.{flat_map, range_with_len}
use Rattle.std.proofs.lemmas.List.Folds.{list_any_none}
use Rattle.std.proofs.lemmas.List.FromFn.{get_or-range_with_len, length-range_with_len}
use Rattle.hash_rows.specs.declared.options.Options.{Options}
use Rattle.push_history.specs.LagRun.{Terms, Worker, worker_in, fresh_worker, lag_run, start}
use Rattle.push_history.specs.LawfulRun.{IsLawfulState}
use Rattle.push_history.specs.OwnSteps.{own_round, folded_in_round}
use Rattle.round_law.proofs.WorkLeft.{is_own_busy}
use Rattle.round_law.specs.RoundStates.{round_state}
use Rattle.round_law.proofs.RoundSteps.{IsRound, round_run}
use Rattle.push_history.specs.Rounds.{is_busy, events_of_rounds}
use Rattle.push_history.proofs.Lists.{each_fails}
use Rattle.round_law.proofs.RoundAnswers.{one_round_more}
use Rattle.round_law.proofs.RoundRuns.{flat_map_same}
use Rattle.push_history.proofs.RunLaws.{run_lawful}
use Rattle.round_law.specs.OwnRounds.{own_rounds, folded_after}

-- each state after rounds is lawful
pub rounds_lawful : (t : Terms) (o : Options) (n : ℕ) → IsLawfulState t (round_state t o n)
unfolding round_state
rounds_lawful t o n = run_lawful t o.readers (events_of_rounds t o n)

pub round_len : (t : Terms) (o : Options) → length t.updates ≡ o.workers → (n : ℕ) → length (round_state t o n).workers ≡ o.workers
round_len t o same n = (rounds_lawful t o n).workers ∙ same

-- one round more
pub round_next : (t : Terms) (o : Options) → length t.updates ≡ o.workers → (n : ℕ) → IsRound t o (round_state t o n) (round_state t o (suc n))
unfolding round_state
round_next t o same n =
    let events = events_of_rounds t o n in
    let len : length (lag_run t o.readers events).workers ≡ o.workers = (run_lawful t o.readers events).workers ∙ same in
    subst (λ es. IsRound t o (lag_run t o.readers events) (lag_run t o.readers es)) (sym (one_round_more t o n))
    (round_run t o events (lag_run t o.readers events) refl len)

fresh_there : (n w : ℕ) → get_or (replicate n fresh_worker) w fresh_worker ≡ fresh_worker
fresh_there zero w = refl
fresh_there (suc n) zero = refl
fresh_there (suc n) (suc w) = fresh_there n w

pub worker_after : (t : Terms) (o : Options) → length t.updates ≡ o.workers → (n w : ℕ) → w < o.workers → worker_in (round_state t o n) w ≡ own_rounds t o w n fresh_worker
unfolding round_state events_of_rounds lag_run start
worker_after t o same zero w lt = fresh_there (length t.updates) w
worker_after t o same (suc n) w lt = (round_next t o same n).workers w lt ∙ ap (own_round t o w) (worker_after t o same n w lt)

pub folded_more : (t : Terms) (o : Options) → length t.updates ≡ o.workers → (n : ℕ)
    → folded_after t o (suc n) ≡ folded_after t o n ++ flat_map (λ w. folded_in_round t o w (own_rounds t o w n fresh_worker)) (range_with_len 0 o.workers)
folded_more t o same n =
    (round_next t o same n).folded
    ∙ ap (λ l. folded_after t o n ++ l) (flat_map_same _ _ 0 o.workers (λ w _ lt. ap (folded_in_round t o w) (worker_after t o same n w (omega (arith, lt)))))

pub folded_none : (t : Terms) (o : Options) → folded_after t o 0 ≡ []
unfolding round_state events_of_rounds lag_run start
folded_none t o = refl

pub rounds_more : (t : Terms) (o : Options) (w n m : ℕ) (x : Worker) → own_rounds t o w m (own_rounds t o w n x) ≡ own_rounds t o w (n + m) x
rounds_more t o w n zero x = ap (λ k. own_rounds t o w k x) (omega arith)
rounds_more t o w n (suc m) x =
    let next : suc (n + m) ≡ n + suc m = omega arith in
    ap (own_round t o w) (rounds_more t o w n m x) ∙ ap (λ k. own_rounds t o w k x) next

-- a run is idle where each worker is
pub idle_by_workers : (t : Terms) (o : Options) → length t.updates ≡ o.workers → (n : ℕ)
    → ((w : ℕ) → w < o.workers → is_own_busy t w (own_rounds t o w n fresh_worker) ≡ false) → is_busy t o (events_of_rounds t o n) ≡ false
unfolding is_busy round_state
idle_by_workers t o same n idle =
    let s = lag_run t o.readers (events_of_rounds t o n) in
    list_any_none (λ w. is_own_busy t w (worker_in s w)) (range_with_len 0 o.workers)
    (λ k d lt.
    let within : k < o.workers = omega (arith, lt, length-range_with_len 0 o.workers) in
    let at : get_or (range_with_len 0 o.workers) k d ≡ k = get_or-range_with_len 0 o.workers k d within ∙ omega arith in
    ap (λ w. is_own_busy t w (worker_in s w)) at ∙ ap (is_own_busy t k) (worker_after t o same n k within) ∙ idle k within)

-- and the other way round
pub worker_idle : (t : Terms) (o : Options) → length t.updates ≡ o.workers → (n : ℕ) → is_busy t o (events_of_rounds t o n) ≡ false
    → (w : ℕ) → w < o.workers → is_own_busy t w (own_rounds t o w n fresh_worker) ≡ false
unfolding is_busy round_state
worker_idle t o same n idle w lt =
    let s = lag_run t o.readers (events_of_rounds t o n) in
    let within : w < length (range_with_len 0 o.workers) = omega (arith, lt, length-range_with_len 0 o.workers) in
    let at : get_or (range_with_len 0 o.workers) w 0 ≡ w = get_or-range_with_len 0 o.workers w 0 lt ∙ omega arith in
    ap (is_own_busy t w) (sym (worker_after t o same n w lt)) ∙ ap (λ v. is_own_busy t v (worker_in s v)) (sym at)
    ∙ each_fails (λ v. is_own_busy t v (worker_in s v)) (range_with_len 0 o.workers) idle w 0 within
