-- All answers of a run in rounds, reader by reader.
use Rattle.std.proofs.Common.{◌≡◌, ◌<◌, ◌≤◌, ℕ, ◌+◌, ◌-◌, ◌*◌, List, ◌++◌, length, Some, true, false, sym, ap, ap₂, ◌∙◌, arith}
use Rattle.std.specs.Prelude.{All, fold, map, min, slice_get}
use Rattle.std.specs.List.{flat_map, range_with_len}
use Rattle.std.proofs.lemmas.List.{map-append}
use Rattle.hash_rows.specs.Rules.{AreLaws}
use Rattle.hash_rows.specs.declared.answer.Answer.{Answer}
use Rattle.hash_rows.specs.declared.options.Options.{Options}
use Rattle.push_history.specs.declared.event.Event.{Event}
use Rattle.push_history.specs.Answers.{AnswerParts, answer_in, answers_of, answers_to, parts_of}
use Rattle.push_history.specs.Journal.{keys_of}
use Rattle.push_history.specs.LagRun.{Terms}
use Rattle.round_law.specs.RoundStates.{round_state}
use Rattle.push_history.specs.Rounds.{AreRounds, ask_at_end, events_of_rounds, is_busy}
use Rattle.round_law.proofs.AskParts.{same_answer}
use Rattle.push_history.proofs.Notes.{map_range_same}
use Rattle.round_law.proofs.RoundAnswers.{all_answers}
use Rattle.round_law.proofs.RoundRuns.{flat_map_same}
use Rattle.round_law.specs.Outcome.{IsAnswerAt}
use Rattle.round_law.specs.OwnRounds.{folded_after}
use Rattle.round_law.proofs.Idle.{same_later, shown_after, end_rounds}
use Rattle.push_history.proofs.PlaceLists.{map_grid, range_split}
use Rattle.round_law.proofs.Looks.{look_parts}
use Rattle.round_law.proofs.OwnRounds.{round_len, rounds_lawful}

module _ (t : Terms) (o : Options) (same : length t.updates ≡ o.workers) (n : ℕ) where
  -- ask k of reader q, after round k + 1 or the last one
  abbrev answered : ℕ → ℕ → AnswerParts
  answered q k = answer_in t o.shape (keys_of o) q k (round_state t o (min (k + 1) n))

  reader_answers : (q r : ℕ) → q < o.readers → r ≤ n → is_busy t o (events_of_rounds t o r) ≡ false
      → answers_to t o.shape (keys_of o) o.readers (fold (ask_at_end o) (events_of_rounds t o r) (range_with_len 0 o.readers)) q ≡ map (answered q) (range_with_len 0 o.asks)
  reader_answers q r within le idle =
      let early : ℕ = min r o.asks in
      let late : ℕ = o.asks - early in
      let all : early + late ≡ o.asks = omega arith in
      let from : 0 + early ≡ early = omega arith in
      all_answers t o o.shape (keys_of o) q within r
      ∙ ap₂ (λ a b. a ++ b)
      (map_range_same (λ k. answer_in t o.shape (keys_of o) q k (round_state t o (k + 1))) (answered q) 0 early
      (λ k _ lt. let at : k + 1 ≡ min (k + 1) n = omega (arith, lt, le) in ap (λ (m : ℕ). answer_in t o.shape (keys_of o) q k (round_state t o m)) at))
      (map_range_same (λ k. answer_in t o.shape (keys_of o) q k (round_state t o r)) (answered q) early late
      (λ k low high. sym (same_answer t o.shape (keys_of o) q k (round_state t o r) (round_state t o (min (k + 1) n)) (same_later t o same r idle (min (k + 1) n) (omega (arith, low, high, le))))))
      ∙ sym (map-append (answered q) (range_with_len 0 early) (range_with_len early late))
      ∙ ap (map (answered q)) (ap (λ (b : ℕ). range_with_len 0 early ++ range_with_len b late) (sym from) ∙ range_split 0 early late ∙ ap (range_with_len 0) all)

  pub run_answers : is_busy t o (events_of_rounds t o n) ≡ false → (events : List Event) → AreRounds t o events
      → answers_of t o.shape (keys_of o) o.readers events ≡ flat_map (λ q. map (answered q) (range_with_len 0 o.asks)) (range_with_len 0 o.readers)
  unfolding answers_of
  run_answers idle events h =
      flat_map_same _ _ 0 o.readers (λ q _ lt. ap (λ es. answers_to t o.shape (keys_of o) o.readers es q) h.all
      ∙ reader_answers q h.rounds (omega (arith, lt)) (end_rounds t o n idle events h) h.idle)

  pub told_answers : AreLaws t.rules → ((m : ℕ) → All (λ m. t.rules.is_value m.amount ≡ true) (folded_after t o m)) → (answers : List Answer) → length answers ≡ o.readers * o.asks
      → ((q k : ℕ) (a : Answer) → q < o.readers → k < o.asks → slice_get answers (q * o.asks + k) ≡ Some a → IsAnswerAt t o n q k a)
      → map parts_of answers ≡ flat_map (λ q. map (answered q) (range_with_len 0 o.asks)) (range_with_len 0 o.readers)
  told_answers laws values answers len are =
      map_grid parts_of answered o.asks 0 o.readers answers len
      (λ q k a low high is.
      let h = are q k a low high is in
      let m : ℕ = min (k + 1) n in
      let at : q ≡ 0 + q = omega arith in
      look_parts t laws o q k (round_state t o m) a (rounds_lawful t o m) (round_len t o same m) (shown_after t o same m) (values m) h.reader h.number h.look
      ∙ ap (λ (p : ℕ). answered p k) at)
