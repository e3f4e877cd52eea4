-- What an outcome tells of, and how its answers match their fronts.
use Rattle.std.proofs.Common.{◌≡◌, ◌<◌, ℕ, ◌+◌, ◌-◌, List, length, Bool, sym, ap, ◌∙◌, arith}
use Rattle.std.specs.Prelude.{All, map, min}
use Rattle.std.specs.List.{zip}
use Rattle.std.proofs.lemmas.List.{get_or-map, length-map}
use Rattle.packet_key.specs.declared.key.FlowKey.{FlowKey}
use Rattle.hash_rows.specs.declared.answer.Answer.{Answer}
use Rattle.hash_rows.specs.declared.options.Options.{Options}
use Rattle.hash_rows.specs.declared.shape.Push.{Push}
use Rattle.push_history.specs.declared.event.Event.{Event}
use Rattle.push_history.specs.Front.{front_of, messages_of, upto_of, uptos_of}
use Rattle.push_history.specs.Journal.{keys_of}
use Rattle.push_history.specs.LagRun.{Terms, Worker, State, fresh_worker, lag_run, worker_in}
use Rattle.round_law.specs.RoundStates.{round_state}
use Rattle.push_history.specs.Rounds.{AreRounds}
use Rattle.push_history.specs.Shown.{told_cells}
use Rattle.push_history.proofs.MoreMessages.{front_len, upto_firsts}
use Rattle.bracket.proofs.Counted.{messages_in}
use Rattle.round_law.specs.Outcome.{IsOutcome, IsWhole, MatchesFront}
use Rattle.round_law.specs.OwnRounds.{folded_after}
use Rattle.round_law.proofs.Firsts.{AreFirsts, rounds_firsts}
use Rattle.round_law.proofs.Idle.{end_state}
use Rattle.push_history.proofs.PlaceLists.{all_grid, map_zip_from}
use Rattle.round_law.proofs.OwnRounds.{round_len}

pub outcome_whole : (t : Terms) (o : Options) (rounds : ℕ) (bits : List (List Bool)) (pushes : List ℕ) (answers : List Answer) (live : List FlowKey) (missed : ℕ)
    → IsOutcome t o rounds bits pushes answers live missed → IsWhole o bits pushes answers
outcome_whole t o rounds bits pushes answers live missed h = record {
  refused = h.bits_len;
  pushes_len = ap length h.pushes_are ∙ front_len o.workers (folded_after t o rounds);
  answers_len = h.answers_len;
  fronts = all_grid (λ a. length a.front.items ≡ o.workers) o.readers o.asks answers h.answers_len
      (λ q k a low high is. ap length (h.answers_are q k a low high is).look.front ∙ front_len o.workers (folded_after t o (min (k + 1) rounds)));
  shown = all_grid (λ a. length a.shown.items ≡ length (keys_of o)) o.readers o.asks answers h.answers_len
      (λ q k a low high is. ap length (h.answers_are q k a low high is).look.shown
      ∙ length-map (keys_of o) (t.rules.estimate o.shape (told_cells t.rules o.shape (folded_after t o (min (k + 1) rounds)))));
}

-- the last updates of first messages are those at their front
firsts_upto : (s : State) (workers : ℕ) (ms : List Push) → length s.workers ≡ workers → AreFirsts s ms
    → uptos_of workers ms ≡ map (λ p. upto_of p.0 p.1) (zip (messages_in s) (front_of workers ms))
unfolding uptos_of front_of
firsts_upto s workers ms len firsts =
    let count : ℕ → ℕ = λ w. length (messages_of w ms) in
    let f : List Push × ℕ → ℕ = λ p. upto_of p.0 p.1 in
    sym (map_zip_from f count (λ w. upto_of (messages_of w ms) (count w)) (messages_in s) 0 workers (length-map s.workers (λ (x : Worker). x.sent) ∙ len)
    (λ i d lt.
    let inside : i < length s.workers = omega (arith, lt, len) in
    let at : i ≡ 0 + i = omega arith in
    ap (λ (b : List Push). upto_of b (count (0 + i))) (get_or-map (λ (x : Worker). x.sent) s.workers i fresh_worker d inside)
    ∙ ap (λ (b : ℕ). upto_of (worker_in s i).sent (count b)) (sym at)
    ∙ upto_firsts (messages_of i ms) (worker_in s i).sent (firsts i inside)
    ∙ ap (λ (b : ℕ). upto_of (messages_of b ms) (count b)) at))

pub fronts_match : (t : Terms) (o : Options) → length t.updates ≡ o.workers → (rounds : ℕ) (bits : List (List Bool)) (pushes : List ℕ) (answers : List Answer) (live : List FlowKey) (missed : ℕ)
    → IsOutcome t o rounds bits pushes answers live missed → (events : List Event) → AreRounds t o events → All (MatchesFront (lag_run t o.readers events)) answers
fronts_match t o same rounds bits pushes answers live missed h events schedule =
    let end = end_state t o same rounds h.idle events schedule in
    all_grid (MatchesFront (lag_run t o.readers events)) o.readers o.asks answers h.answers_len
    (λ q k a low high is.
    let look = (h.answers_are q k a low high is).look in
    let n : ℕ = min (k + 1) rounds in
    let f : List Push × ℕ → ℕ = λ p. upto_of p.0 p.1 in
    look.upto ∙ firsts_upto (round_state t o rounds) o.workers (folded_after t o n) (round_len t o same rounds) (rounds_firsts t o same n rounds (omega arith))
    ∙ ap (λ (ws : List Worker). map f (zip (map (λ (x : Worker). x.sent) ws) (front_of o.workers (folded_after t o n)))) (sym end.workers)
    ∙ ap (λ (l : List ℕ). map f (zip (map (λ (x : Worker). x.sent) (lag_run t o.readers events).workers) l)) (sym look.front))
