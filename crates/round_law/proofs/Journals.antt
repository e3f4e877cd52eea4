-- What the workers' own rounds come to is a journal of the round schedule.
use Rattle.std.proofs.Common.{◌≡◌, ◌<◌, ◌^◌, ℕ, List, length, Bool, sym, ap, ◌∙◌}
use Rattle.std.specs.Prelude.{All, map}
use Rattle.packet_key.specs.declared.key.FlowKey.{FlowKey}
use Rattle.hash_rows.specs.Lawful.{IsLawful}
use Rattle.hash_rows.specs.declared.answer.Answer.{Answer}
use Rattle.hash_rows.specs.declared.options.Options.{Options}
use Rattle.hash_rows.specs.declared.shape.Packet.{Packet}
use Rattle.push_history.specs.declared.event.Event.{Event}
use Rattle.push_history.specs.Answers.{AnswerParts}
use Rattle.push_history.specs.Journal.{Journal, journal_in, journal_of, rules_in, terms_of, with_journal}
use Rattle.push_history.specs.LagRun.{Worker, lag_run}
use Rattle.push_history.specs.LiveHeavy.{live_keys, missed_keys}
use Rattle.push_history.specs.Rounds.{AreRounds, IsRoundsJournal}
use Rattle.round_law.specs.RoundStates.{round_state}
use Rattle.round_law.proofs.RoundSteps.{SameRun}
use Rattle.round_law.specs.Outcome.{IsOutcome}
use Rattle.round_law.proofs.Answered.{run_answers, told_answers}
use Rattle.round_law.proofs.Ended.{pushes_are, refused_are}
use Rattle.round_law.proofs.Fitting.{folded_values}
use Rattle.push_history.proofs.Fitting.{rules_lawful, small_values, terms_laws, terms_len}
use Rattle.round_law.proofs.Idle.{end_state, rounds_end}

abbrev made : Options → List (List ℕ) → List ℕ → List AnswerParts → List FlowKey → ℕ → Journal
made o r p a l m = record { options = with_journal o; refused = r; pushes = p; answers = a; live = l; missed = m }

-- a journal by its lists
same_journal : (o : Options) {r r' : List (List ℕ)} {p p' : List ℕ} {a a' : List AnswerParts} {l l' : List FlowKey} {m m' : ℕ} → r ≡ r' → p ≡ p' → a ≡ a' → l ≡ l' → m ≡ m'
    → made o r p a l m ≡ made o r' p' a' l' m'
same_journal o r p a l m = λ i. made o (r i) (p i) (a i) (l i) (m i)

module _ (packets : List Packet) (o : Options) (rounds : ℕ) (bits : List (List Bool)) (pushes : List ℕ) (answers : List Answer) (live : List FlowKey) (missed : ℕ)
    (lawful : IsLawful o) (small : All (λ p. p.amount < 2 ^ 32) packets) (h : IsOutcome (terms_of packets o) o rounds bits pushes answers live missed) where
  journal_is : (events : List Event) → AreRounds (terms_of packets o) o events → journal_in o bits pushes answers live missed ≡ journal_of packets o events
  unfolding journal_of
  journal_is events schedule =
      let t = terms_of packets o in
      let len = terms_len packets o in
      let end : SameRun (round_state t o rounds) (lag_run t o.readers events) = end_state t o len rounds h.idle events schedule in
      let refused = refused_are t o len rounds h.idle bits h.bits_len h.bits_are ∙ ap (map (λ (x : Worker). x.refused)) (sym end.workers) in
      let sent = h.pushes_are ∙ sym (pushes_are t o len rounds h.idle) ∙ ap (map (λ (x : Worker). length x.sent)) (sym end.workers) in
      let told = told_answers t o len rounds (terms_laws packets o) (folded_values packets o lawful (small_values (rules_in o) (rules_lawful o.sketch) o.shape packets small)) answers h.answers_len h.answers_are
      ∙ sym (run_answers t o len rounds h.idle events schedule) in
      same_journal o refused sent told (h.live_are ∙ ap (live_keys t.rules o.shape o.heavy o.least) (sym end.folded)) (h.missed_is ∙ ap (missed_keys t.rules o.shape o.heavy o.least) (sym end.folded))

  pub journal_of_rounds : IsRoundsJournal packets o (journal_in o bits pushes answers live missed)
  journal_of_rounds =
      let end = rounds_end (terms_of packets o) o rounds h.idle in
      record { events = end.0; schedule = end.1; journal = journal_is end.0 end.1 }
