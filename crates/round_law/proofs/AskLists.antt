-- What readers are answered, one event after another.
use Rattle.std.proofs.Common.{◌≡◌, ℕ, zero, suc, ◌+◌, ◌==◌, List, [], ◌∷◌, ◌++◌, length, replicate, true, false, refl, sym, ap, ◌∙◌, arith, append_assoc}
use Rattle.std.specs.Prelude.{fold, if◌then◌else◌, count_by, cond}
use Rattle.std.specs.List.{range_with_len}
use Rattle.std.proofs.lemmas.List.{append-nil}
use Rattle.std.proofs.lemmas.List.Sums.{sum_by-cons}
use Rattle.hash_rows.specs.declared.options.Options.{Options}
use Rattle.push_history.specs.declared.event.Event.{Event}
use Rattle.push_history.specs.declared.event.Event.TheVariants.{Update, Take, Publish, Ask}
use Rattle.push_history.specs.LagRun.{Terms, State, lag_step, lag_run, reply_to, start}
use Rattle.push_history.specs.Answers.{is_ask, asked_in}
use Rattle.push_history.specs.Rounds.{is_waits, count_times, count_in_round, fold_in_round}
use Rattle.round_law.proofs.RoundSteps.{before_asks}

-- the state after some events, from any state on
abbrev run_from : Terms → State → List Event → State
run_from t s events = fold (λ s e. (lag_step t s e).0) s events

asked_more : (t : Terms) (q : ℕ) (s : State) (es : List Event) (e : Event)
    → asked_in t q s (es ++ e ∷ []) ≡ asked_in t q s es ++ (if is_ask q e then run_from t s es ∷ [] else [])
asked_more t q s [] e = refl
asked_more t q s (x ∷ es) e =
    let tail = if is_ask q e then run_from t (lag_step t s x).0 es ∷ [] else [] in
    let rest = asked_more t q (lag_step t s x).0 es e in
    rw rest (elim (is_ask q x) as (λ b. (if b then s ∷ (asked_in t q (lag_step t s x).0 es ++ tail) else asked_in t q (lag_step t s x).0 es ++ tail)
    ≡ (if b then s ∷ asked_in t q (lag_step t s x).0 es else asked_in t q (lag_step t s x).0 es) ++ tail) [ true ↦ refl | false ↦ refl ])

-- the states in which the reader asked
abbrev pub asked : Terms → ℕ → ℕ → List Event → List State
asked t readers q events = asked_in t q (start (length t.updates) readers) events

pub quiet_event : (t : Terms) (readers q : ℕ) (events : List Event) (e : Event) → is_ask q e ≡ false → asked t readers q (events ++ e ∷ []) ≡ asked t readers q events
quiet_event t readers q events e other = asked_more t q (start (length t.updates) readers) events e ∙ rw other (append-nil (asked t readers q events))

pub own_ask : (t : Terms) (readers q : ℕ) (events : List Event) → asked t readers q (events ++ Ask q ∷ []) ≡ asked t readers q events ++ lag_run t readers events ∷ []
unfolding lag_run
own_ask t readers q events =
    let same : (q == q) ≡ true = grind arith in
    asked_more t q (start (length t.updates) readers) events (Ask q) ∙ rw same refl

quiet_counts : (t : Terms) (readers q w n : ℕ) (events : List Event) → asked t readers q (count_times t readers w n events) ≡ asked t readers q events
quiet_counts t readers q w zero events = refl
quiet_counts t readers q w (suc n) events =
    let one : asked t readers q (events ++ Update w ∷ []) ≡ asked t readers q events = quiet_event t readers q events (Update w) refl in
    elim (is_waits (reply_to t readers events (Update w))) as (λ b. asked t readers q (if b then events ++ Update w ∷ [] else count_times t readers w n (events ++ Update w ∷ [])) ≡ asked t readers q events)
    [ true ↦ one | false ↦ quiet_counts t readers q w n (events ++ Update w ∷ []) ∙ one ]

quiet_takes : (t : Terms) (readers q w n : ℕ) (events : List Event) → asked t readers q (events ++ replicate n (Take w)) ≡ asked t readers q events
quiet_takes t readers q w zero events = ap (asked t readers q) (append-nil events)
quiet_takes t readers q w (suc n) events =
    ap (asked t readers q) (sym (append_assoc events (Take w ∷ []) (replicate n (Take w))))
    ∙ quiet_takes t readers q w n (events ++ Take w ∷ []) ∙ quiet_event t readers q events (Take w) refl

quiet_phase : (t : Terms) (readers q : ℕ) (p : List Event → ℕ → List Event) → ((events : List Event) (w : ℕ) → asked t readers q (p events w) ≡ asked t readers q events)
    → (a k : ℕ) (events : List Event) → asked t readers q (fold p events (range_with_len a k)) ≡ asked t readers q events
quiet_phase t readers q p quiet a zero events = refl
quiet_phase t readers q p quiet a (suc k) events = quiet_phase t readers q p quiet (a + 1) k (p events a) ∙ quiet events a

-- nobody asks before the asks of a round
pub quiet_before : (t : Terms) (o : Options) (q : ℕ) (events : List Event) → asked t o.readers q (before_asks t o events) ≡ asked t o.readers q events
unfolding count_in_round fold_in_round
quiet_before t o q events =
    let counting = fold (count_in_round t o) events (range_with_len 0 o.workers) in
    let folding = fold (fold_in_round t o) counting (range_with_len 0 o.workers) in
    quiet_event t o.readers q folding Publish refl
    ∙ quiet_phase t o.readers q (fold_in_round t o) (λ es w. quiet_takes t o.readers q w _ es) 0 o.workers counting
    ∙ quiet_phase t o.readers q (count_in_round t o) (λ es w. quiet_counts t o.readers q w _ es) 0 o.workers events

-- how often a reader asked
asked_count_from : (t : Terms) (q : ℕ) (s : State) (es : List Event) → length (asked_in t q s es) ≡ count_by (is_ask q) es
asked_count_from t q s [] = refl
asked_count_from t q s (e ∷ es) =
    let rest = asked_count_from t q (lag_step t s e).0 es in
    rw (sum_by-cons (λ x. cond (is_ask q x) 1 0) e es, ← rest) (elim (is_ask q e) as (λ b. length (if b then s ∷ asked_in t q (lag_step t s e).0 es else asked_in t q (lag_step t s e).0 es)
    ≡ cond b 1 0 + length (asked_in t q (lag_step t s e).0 es)) [ true ↦ omega arith | false ↦ omega arith ])

pub asked_count : (t : Terms) (readers q : ℕ) (events : List Event) → count_by (is_ask q) events ≡ length (asked t readers q events)
asked_count t readers q events = sym (asked_count_from t q (start (length t.updates) readers) events)
