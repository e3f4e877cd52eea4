-- The answers to a reader, round by round.
use Rattle.std.proofs.Common.{◌≡◌, ℕ, ◌+◌, ◌==◌, List, [], ◌∷◌, ◌++◌, length, true, false, nat_lt, refl, sym, ap, ◌∙◌, arith}
use Rattle.std.specs.Prelude.{if◌then◌else◌, count_by, map}
use Rattle.std.specs.List.{enumerate_from}
use Rattle.std.proofs.lemmas.List.{append-nil, map-append, length-map}
use Rattle.std.proofs.lemmas.List.FromFn.{length-enumerate_from}
use Rattle.packet_key.specs.declared.key.FlowKey.{FlowKey}
use Rattle.hash_rows.specs.declared.options.Options.{Options}
use Rattle.hash_rows.specs.declared.shape.Shape.{Shape}
use Rattle.hash_rows.specs.declared.shape.Push.{Push}
use Rattle.push_history.specs.declared.event.Event.{Event}
use Rattle.push_history.specs.declared.event.Event.TheVariants.{Ask}
use Rattle.push_history.specs.LagRun.{Terms, State, Worker, lag_run}
use Rattle.push_history.specs.Answers.{AnswerParts, is_ask, answer_in, answers_to}
use Rattle.push_history.specs.Rounds.{ask_in_round}
use Rattle.round_law.proofs.RoundSteps.{SameRun}
use Rattle.round_law.proofs.AskLists.{asked, own_ask, quiet_event, asked_count}

-- states that differ in what readers have seen alone answer alike
pub same_answer : (t : Terms) (shape : Shape) (keys : List FlowKey) (q k : ℕ) (a b : State) → SameRun a b → answer_in t shape keys q k b ≡ answer_in t shape keys q k a
unfolding answer_in
same_answer t shape keys q k a b same =
    let make : List Worker → List Push → ℕ → State = λ ws ms n. record { workers = ws; folded = ms; shown = n; seen = [] } in
    let parts : State → AnswerParts = λ s. answer_in t shape keys q k (make s.workers s.folded s.shown) in
    ap (λ (ws : List Worker). answer_in t shape keys q k (make ws b.folded b.shown)) same.workers
    ∙ ap (λ (ms : List Push). answer_in t shape keys q k (make a.workers ms b.shown)) same.folded
    ∙ ap (λ (n : ℕ). answer_in t shape keys q k (make a.workers a.folded n)) same.shown

enumerate_more : {X : Type 0} (a : ℕ) (xs : List X) (x : X) → enumerate_from a (xs ++ x ∷ []) ≡ enumerate_from a xs ++ (a + length xs, x) ∷ []
enumerate_more a [] x = ap (λ n. (n, x) ∷ []) (omega arith)
enumerate_more a (y ∷ ys) x = ap (λ t. (a, y) ∷ t) (enumerate_more (a + 1) ys x ∙ ap (λ n. enumerate_from (a + 1) ys ++ (n, x) ∷ []) (omega arith))

-- one more answer
pub answers_more : (t : Terms) (shape : Shape) (keys : List FlowKey) (readers q : ℕ) (events events' : List Event) (s : State)
    → asked t readers q events' ≡ asked t readers q events ++ s ∷ []
    → answers_to t shape keys readers events' q ≡ answers_to t shape keys readers events q ++ answer_in t shape keys q (length (answers_to t shape keys readers events q)) s ∷ []
unfolding answers_to
answers_more t shape keys readers q events events' s more =
    let parts : ℕ × State → AnswerParts = λ p. answer_in t shape keys q p.0 p.1 in
    let was = asked t readers q events in
    let count : length (map parts (enumerate_from 0 was)) ≡ 0 + length was = length-map (enumerate_from 0 was) parts ∙ length-enumerate_from 0 was ∙ omega arith in
    ap (λ (l : List State). map parts (enumerate_from 0 l)) more ∙ ap (map parts) (enumerate_more 0 was s)
    ∙ map-append parts (enumerate_from 0 was) ((0 + length was, s) ∷ [])
    ∙ ap (λ n. map parts (enumerate_from 0 was) ++ answer_in t shape keys q n s ∷ []) (sym count)

pub answers_same : (t : Terms) (shape : Shape) (keys : List FlowKey) (readers q : ℕ) (events events' : List Event)
    → asked t readers q events' ≡ asked t readers q events → answers_to t shape keys readers events' q ≡ answers_to t shape keys readers events q
unfolding answers_to
answers_same t shape keys readers q events events' same = ap (λ (l : List State). map (λ (p : ℕ × State). answer_in t shape keys q p.0 p.1) (enumerate_from 0 l)) same

-- as many answers as asks
pub answers_count : (t : Terms) (shape : Shape) (keys : List FlowKey) (readers q : ℕ) (events : List Event) → length (answers_to t shape keys readers events q) ≡ count_by (is_ask q) events
unfolding answers_to
answers_count t shape keys readers q events =
    length-map (enumerate_from 0 (asked t readers q events)) (λ (p : ℕ × State). answer_in t shape keys q p.0 p.1) ∙ length-enumerate_from 0 (asked t readers q events) ∙ sym (asked_count t readers q events)

-- another reader's ask in a round
pub other_ask : (t : Terms) (o : Options) (shape : Shape) (keys : List FlowKey) (q p : ℕ) (events : List Event) → (p == q) ≡ false
    → answers_to t shape keys o.readers (ask_in_round o events p) q ≡ answers_to t shape keys o.readers events q
unfolding ask_in_round
other_ask t o shape keys q p events other =
    elim (nat_lt (count_by (is_ask p) events) o.asks) as (λ b. answers_to t shape keys o.readers (if b then events ++ Ask p ∷ [] else events) q ≡ answers_to t shape keys o.readers events q)
    [ true ↦ answers_same t shape keys o.readers q events (events ++ Ask p ∷ []) (quiet_event t o.readers q events (Ask p) other) | false ↦ refl ]

-- its own
pub its_ask : (t : Terms) (o : Options) (shape : Shape) (keys : List FlowKey) (q : ℕ) (events : List Event) (n : ℕ) → length (answers_to t shape keys o.readers events q) ≡ n
    → answers_to t shape keys o.readers (ask_in_round o events q) q
    ≡ answers_to t shape keys o.readers events q ++ (if nat_lt n o.asks then answer_in t shape keys q n (lag_run t o.readers events) ∷ [] else [])
unfolding ask_in_round
its_ask t o shape keys q events n len =
    let all = answers_to t shape keys o.readers events q in
    let more : answers_to t shape keys o.readers (events ++ Ask q ∷ []) q ≡ all ++ answer_in t shape keys q n (lag_run t o.readers events) ∷ [] =
    answers_more t shape keys o.readers q events (events ++ Ask q ∷ []) (lag_run t o.readers events) (own_ask t o.readers q events)
    ∙ ap (λ m. all ++ answer_in t shape keys q m (lag_run t o.readers events) ∷ []) len in
    rw (sym (answers_count t shape keys o.readers q events) ∙ len) (elim (nat_lt n o.asks) as (λ b. answers_to t shape keys o.readers (if b then events ++ Ask q ∷ [] else events) q
    ≡ all ++ (if b then answer_in t shape keys q n (lag_run t o.readers events) ∷ [] else [])) [ true ↦ more | false ↦ sym (append-nil all) ])
