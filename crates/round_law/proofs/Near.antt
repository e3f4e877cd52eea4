-- Each answer of a run over Count-Min is near the true estimate.
use Rattle.std.proofs.Common.{◌≡◌, ◌<◌, ◌≤◌, ◌^◌, ◌+◌, ◌-◌, Bool, ℕ, ℤ, List, length, take, true, sym, ap, ◌∙◌, subst, arith}
use Rattle.std.specs.Prelude.{All, map, min}
use Rattle.std.proofs.Math.Seq.{take-append_seam}
use Rattle.packet_key.specs.declared.key.FlowKey.{FlowKey}
use Rattle.hash_rows.specs.Amounts.{total_amount}
use Rattle.hash_rows.specs.Lawful.{IsLawful}
use Rattle.hash_rows.specs.Rules.{Rules}
use Rattle.hash_rows.specs.Sketches.{count_min_estimate}
use Rattle.hash_rows.specs.declared.answer.Answer.{Answer}
use Rattle.hash_rows.specs.declared.options.Options.{Options}
use Rattle.hash_rows.specs.declared.options.Sketch.TheVariants.{CountMin}
use Rattle.hash_rows.specs.declared.shape.Packet.{Packet}
use Rattle.hash_rows.specs.declared.shape.Push.{Push}
use Rattle.hash_rows.proofs.SumLaws.{count_min_lawful}
use Rattle.push_history.specs.declared.event.Event.{Event}
use Rattle.push_history.specs.Front.{IsFront, front_of}
use Rattle.push_history.specs.Journal.{keys_of, terms_of}
use Rattle.push_history.specs.LagRun.{Terms, Worker, State, lag_run}
use Rattle.round_law.specs.RoundStates.{round_state}
use Rattle.push_history.specs.Rounds.{AreRounds}
use Rattle.push_history.specs.Shown.{shown_cells, told_cells}
use Rattle.bracket.specs.Bracket.{IsNear}
use Rattle.bracket.proofs.Counted.{front_within, messages_in, near_at}
use Rattle.fold_law.proofs.Sums.{count_min}
use Rattle.round_law.specs.Outcome.{IsNearAnswer, IsOutcome}
use Rattle.round_law.specs.OwnRounds.{folded_after}
use Rattle.round_law.proofs.Firsts.{firsts_shown, folded_first, rounds_firsts}
use Rattle.push_history.proofs.Fitting.{terms_len}
use Rattle.round_law.proofs.Fitting.{folded_values}
use Rattle.round_law.proofs.Idle.{end_state}
use Rattle.round_law.proofs.OwnRounds.{round_len, rounds_lawful}
use Rattle.bracket.proofs.Plain.{plain, rules_is, values}
use Rattle.push_history.proofs.PlaceLists.{all_grid, made_at}

-- a number is near the true estimate at a front of what these workers sent
abbrev NearBy : Terms → Options → List Worker → List ℕ → FlowKey → ℤ → Type 0
NearBy t o workers front key z = IsNear t.threshold t.updates (map (λ w. w.sent) workers) (map (λ w. w.refused) workers) front o.shape key z

module _ (packets : List Packet) (o : Options) (lawful : IsLawful o) (is : o.sketch ≡ CountMin) (total : total_amount packets < 2 ^ 63) where
  -- after n rounds, at the front of what was folded in the first m of them
  module _ (n m : ℕ) (le : m ≤ n) where
    abbrev s : State
    s = round_state (terms_of packets o) o n

    abbrev ms : List Push
    ms = folded_after (terms_of packets o) o m

    is_front : IsFront (messages_in s) (front_of o.workers ms)
    is_front =
        let t = terms_of packets o in
        let len = terms_len packets o in
        let more = folded_first t o len m (n - m) in
        let at : m + (n - m) ≡ n = omega (arith, le) in
        let first : take (length ms) s.folded ≡ ms = ap (take (length ms)) (sym (more.1 ∙ ap (folded_after t o) at)) ∙ take-append_seam ms more.0 in
        subst (λ (l : List Push). IsFront (messages_in s) (front_of o.workers l)) first
        (subst (λ (k : ℕ). IsFront (messages_in s) (front_of k (take (length ms) s.folded))) len (front_within t s (rounds_lawful t o n) (length ms)))

    -- what is told of a key there
    shown_is : (key : FlowKey)
        → (terms_of packets o).rules.estimate o.shape (told_cells (terms_of packets o).rules o.shape ms) key ≡ count_min_estimate o.shape (shown_cells count_min o.shape (messages_in s) (front_of o.workers ms)) key
    shown_is key =
        let t = terms_of packets o in
        let len = terms_len packets o in
        let told : All (λ m. count_min.is_value m.amount ≡ true) ms = subst (λ (r : Rules). All (λ m. r.is_value m.amount ≡ true) ms) (rules_is packets o lawful is total) (folded_values packets o lawful (values packets o lawful is total) m) in
        let of_workers : All (λ m. m.worker < o.workers) ms = λ k d lt. omega (arith, (rounds_lawful t o m).of_workers k d lt, len) in
        ap (λ (r : Rules). r.estimate o.shape (told_cells r o.shape ms) key) (rules_is packets o lawful is total)
        ∙ ap (λ cells. count_min_estimate o.shape cells key)
        (sym (firsts_shown count_min count_min_lawful o.shape o.workers s ms (round_len t o len n) of_workers told (rounds_firsts t o len m n le)))

    near_front : (key : FlowKey) → NearBy (terms_of packets o) o s.workers (front_of o.workers ms) key ((terms_of packets o).rules.estimate o.shape (told_cells (terms_of packets o).rules o.shape ms) key)
    near_front key =
        let t = terms_of packets o in
        subst (NearBy t o s.workers (front_of o.workers ms) key) (sym (shown_is key)) (near_at t s (rounds_lawful t o n) (rules_is packets o lawful is total) (plain packets o lawful is total) (front_of o.workers ms) is_front o.shape key)

pub answers_near : (packets : List Packet) (o : Options) (rounds : ℕ) (bits : List (List Bool)) (pushes : List ℕ) (answers : List Answer) (live : List FlowKey) (missed : ℕ)
    → IsLawful o → o.sketch ≡ CountMin → total_amount packets < 2 ^ 63 → IsOutcome (terms_of packets o) o rounds bits pushes answers live missed
    → (events : List Event) → AreRounds (terms_of packets o) o events → All (IsNearAnswer (terms_of packets o) o (lag_run (terms_of packets o) o.readers events)) answers
answers_near packets o rounds bits pushes answers live missed lawful is total h events schedule =
    let t = terms_of packets o in
    let end = end_state t o (terms_len packets o) rounds h.idle events schedule in
    let final = (lag_run t o.readers events).workers in
    all_grid (IsNearAnswer t o (lag_run t o.readers events)) o.readers o.asks answers h.answers_len
    (λ q k a low high at i key number key_at number_at.
    let look = (h.answers_are q k a low high at).look in
    let m : ℕ = min (k + 1) rounds in
    let told : FlowKey → ℤ = t.rules.estimate o.shape (told_cells t.rules o.shape (folded_after t o m)) in
    let own : told key ≡ number = made_at told (keys_of o) a.shown.items i key number look.shown key_at number_at in
    let near = near_front packets o lawful is total rounds m (omega arith) key in
    subst (NearBy t o final a.front.items key) own
    (subst (λ (front : List ℕ). NearBy t o final front key (told key)) (sym look.front)
    (subst (λ (ws : List Worker). NearBy t o ws (front_of o.workers (folded_after t o m)) key (told key)) (sym end.workers) near)))
