-- A round as a step of the state.
use Rattle.std.proofs.Common.{◌≡◌, ◌<◌, ℕ, zero, suc, ◌+◌, List, [], ◌∷◌, ◌++◌, length, true, false, nat_lt, refl, sym, ap, ◌∙◌, subst, arith}
use Rattle.std.specs.Prelude.{fold, if◌then◌else◌, min, count_by}
use Rattle.std.specs.List.{flat_map, range_with_len}
use Rattle.std.proofs.lemmas.List.{append-nil}
use Rattle.hash_rows.specs.declared.options.Options.{Options}
use Rattle.hash_rows.specs.declared.shape.Push.{Push}
use Rattle.push_history.specs.declared.event.Event.{Event}
use Rattle.push_history.specs.declared.event.Event.TheVariants.{Publish, Ask}
use Rattle.push_history.specs.LagRun.{Terms, Worker, State, worker_in, lag_step, lag_run}
use Rattle.push_history.specs.Answers.{is_ask}
use Rattle.push_history.specs.Rounds.{count_in_round, fold_in_round, ask_in_round, with_round}
use Rattle.push_history.specs.OwnSteps.{untaken_of, with_taken, next_taken, counted_in_round, folded_in_round, own_round}
use Rattle.push_history.proofs.Runs.{run_more}
use Rattle.round_law.proofs.RoundRuns.{Steps, phase_run, counting_is_phase, folding_is_phase, flat_map_same}

-- each worker has gone through a round of its own, and what was folded of each lane, in worker order, is shown
pub record IsRound (t : Terms) (o : Options) (s s' : State) : Type 0 where
  pub len : length s'.workers ≡ length s.workers
  pub workers : (w : ℕ) → w < o.workers → worker_in s' w ≡ own_round t o w (worker_in s w)
  pub folded : s'.folded ≡ s.folded ++ flat_map (λ w. folded_in_round t o w (worker_in s w)) (range_with_len 0 o.workers)
  pub shown : s'.shown ≡ length s'.folded

-- two states that differ at most in what readers have seen
pub record SameRun (s s' : State) : Type 0 where
  pub workers : s'.workers ≡ s.workers
  pub folded : s'.folded ≡ s.folded
  pub shown : s'.shown ≡ s.shown

pub same_run : (s : State) → SameRun s s
same_run s = record { workers = refl; folded = refl; shown = refl }

pub same_then : (a b c : State) → SameRun a b → SameRun b c → SameRun a c
same_then a b c x y = record { workers = y.workers ∙ x.workers; folded = y.folded ∙ x.folded; shown = y.shown ∙ x.shown }

-- an ask changes what its reader has seen alone
pub ask_run : (t : Terms) (readers : ℕ) (events : List Event) (q : ℕ) → SameRun (lag_run t readers events) (lag_run t readers (events ++ Ask q ∷ []))
unfolding lag_step
ask_run t readers events q = subst (λ (z : State). SameRun (lag_run t readers events) z) (sym (run_more t readers events (Ask q))) (record { workers = refl; folded = refl; shown = refl })

pub ask_in_round_run : (t : Terms) (o : Options) (events : List Event) (q : ℕ) → SameRun (lag_run t o.readers events) (lag_run t o.readers (ask_in_round o events q))
unfolding ask_in_round
ask_in_round_run t o events q =
    elim (nat_lt (count_by (is_ask q) events) o.asks) as (λ b. SameRun (lag_run t o.readers events) (lag_run t o.readers (if b then events ++ Ask q ∷ [] else events)))
    [ true ↦ ask_run t o.readers events q | false ↦ same_run (lag_run t o.readers events) ]

-- nor do the asks of a round change more
pub asks_run : (t : Terms) (o : Options) (a k : ℕ) (events : List Event)
    → SameRun (lag_run t o.readers events) (lag_run t o.readers (fold (ask_in_round o) events (range_with_len a k)))
asks_run t o a zero events = same_run (lag_run t o.readers events)
asks_run t o a (suc k) events = same_then _ _ _ (ask_in_round_run t o events a) (asks_run t o (a + 1) k (ask_in_round o events a))

-- what is folded becomes what is shown
pub publish_run : (t : Terms) (readers : ℕ) (events : List Event) (s : State) → lag_run t readers events ≡ s
    → lag_run t readers (events ++ Publish ∷ []) ≡ record { workers = s.workers; folded = s.folded; shown = length s.folded; seen = s.seen }
unfolding lag_step
publish_run t readers events s is = run_more t readers events Publish ∙ ap (λ (z : State). (lag_step t z Publish).0) is

nothing_folded : {X : Type 0} (a k : ℕ) → flat_map {X = ℕ} {A = X} (λ w. []) (range_with_len a k) ≡ []
nothing_folded a zero = refl
nothing_folded a (suc k) = nothing_folded (a + 1) k

-- the events of a round before its asks
abbrev pub before_asks : Terms → Options → List Event → List Event
before_asks t o events = fold (fold_in_round t o) (fold (count_in_round t o) events (range_with_len 0 o.workers)) (range_with_len 0 o.workers) ++ Publish ∷ []

pub before_asks_run : (t : Terms) (o : Options) (events : List Event) (s : State) → lag_run t o.readers events ≡ s → length s.workers ≡ o.workers
    → IsRound t o s (lag_run t o.readers (before_asks t o events))
unfolding own_round folded_in_round
before_asks_run t o events s is len =
    let counting = fold (count_in_round t o) events (range_with_len 0 o.workers) in
    let s₁ = lag_run t o.readers counting in
    let counted : Steps (counted_in_round t o) (λ w x. []) 0 o.workers s s₁ =
    phase_run t o.readers (count_in_round t o) (counted_in_round t o) (λ w x. []) (counting_is_phase t o) 0 o.workers events s is (omega (arith, len)) in
    let n : Worker → ℕ = λ x. min o.batch (untaken_of x) in
    let folding = fold (fold_in_round t o) counting (range_with_len 0 o.workers) in
    let s₂ = lag_run t o.readers folding in
    let folded : Steps (λ w x. with_taken x (n x)) (λ w x. next_taken x (n x)) 0 o.workers s₁ s₂ =
    phase_run t o.readers (fold_in_round t o) _ _ (folding_is_phase t o) 0 o.workers counting s₁ refl (omega (arith, len, counted.len)) in
    let at : (w : ℕ) → w < o.workers → worker_in s₁ w ≡ counted_in_round t o w (worker_in s w) = λ w lt. counted.done w (omega arith) (omega (arith, lt)) in
    let list : s₁.folded ≡ s.folded = counted.folded ∙ ap (λ (l : List Push). s.folded ++ l) (nothing_folded 0 o.workers) ∙ append-nil s.folded in
    let shown = publish_run t o.readers folding s₂ refl in
    subst (λ (z : State). IsRound t o s z) (sym shown) (record {
      len = folded.len ∙ counted.len;
      workers = λ w lt. folded.done w (omega arith) (omega (arith, lt)) ∙ ap (λ (x : Worker). with_taken x (n x)) (at w lt);
      folded = folded.folded ∙ ap (λ (l : List Push). l ++ flat_map (λ w. next_taken (worker_in s₁ w) (n (worker_in s₁ w))) (range_with_len 0 o.workers)) list
          ∙ ap (λ (l : List Push). s.folded ++ l) (flat_map_same _ _ 0 o.workers (λ w _ lt. ap (λ (x : Worker). next_taken x (n x)) (at w (omega (arith, lt)))));
      shown = refl;
    })

is_round_same : (t : Terms) (o : Options) (s a b : State) → IsRound t o s a → SameRun a b → IsRound t o s b
is_round_same t o s a b r same = record {
  len = ap length same.workers ∙ r.len;
  workers = λ w lt. ap (λ (ws : List Worker). worker_in (record { workers = ws; folded = []; shown = 0; seen = [] }) w) same.workers ∙ r.workers w lt;
  folded = same.folded ∙ r.folded;
  shown = same.shown ∙ r.shown ∙ ap length (sym same.folded);
}

-- a round
pub round_run : (t : Terms) (o : Options) (events : List Event) (s : State) → lag_run t o.readers events ≡ s → length s.workers ≡ o.workers
    → IsRound t o s (lag_run t o.readers (with_round t o events))
unfolding with_round
round_run t o events s is len = is_round_same t o s _ _ (before_asks_run t o events s is len) (asks_run t o 0 o.readers (before_asks t o events))
