-- The tests of a journal, from those of its parts.
use Rattle.std.proofs.Common.{◌≡◌, ◌++◌, ℕ, List, length, true, sym, ap, ap₂, ◌∙◌}
use Rattle.std.specs.Prelude.{None, Option, is_some}
use Rattle.std.specs.List.{flat_map, range_with_len}
use Rattle.hash_rows.specs.declared.options.Options.{Options}
use Rattle.hash_rows.specs.declared.shape.Packet.{Packet}
use Rattle.hash_rows.specs.declared.shape.Push.{Push}
use Rattle.std.proofs.lemmas.List.{length-map}
use Rattle.push_history.specs.Answers.{parts_of}
use Rattle.push_history.specs.Journal.{Journal}
use Rattle.octo_text.specs.Content.{content_of}
use Rattle.octo_text.specs.declared.journal.Journal.{Journal as Kept}
use Rattle.audit_law.specs.declared.failure.Failure.{Failure}
use Rattle.audit_law.specs.Firsts.{first_of}
use Rattle.audit_law.specs.Tests.{Test, first_failing}
use Rattle.audit_law.specs.WorkerTests.{all_given, all_worker_tests}
use Rattle.audit_law.specs.AnswerTests.{answer_tests}
use Rattle.audit_law.specs.LiveTests.{live_tests, missed_tests}
use Rattle.audit_law.specs.Judged.{tests_of}
use Rattle.audit_law.proofs.Failing.{first_alone, first_of_both}

module _ (packets : List Packet) (o : Options) (j : Journal) where
  abbrev messages : List (List Push)
  messages = all_given packets o j

  abbrev of_answers : List Test
  of_answers = flat_map (answer_tests o j messages) (range_with_len 0 (length j.answers))

  abbrev of_live : List Test
  of_live = flat_map (live_tests o j messages) (range_with_len 0 (length j.live)) ++ missed_tests o j messages

  parted : first_failing (tests_of packets o j) ≡ first_of (first_failing (all_worker_tests packets o j)) (first_of (first_failing of_answers) (first_failing of_live))
  unfolding tests_of
  parted = first_of_both (all_worker_tests packets o j) (of_answers ++ of_live)
      ∙ ap (first_of (first_failing (all_worker_tests packets o j))) (first_of_both of_answers of_live)

  pub worker_first : (failure : Option Failure) → failure ≡ first_failing (all_worker_tests packets o j) → is_some failure ≡ true → failure ≡ first_failing (tests_of packets o j)
  worker_first failure is some =
      first_alone failure (first_of (first_failing of_answers) (first_failing of_live)) some
      ∙ ap (λ f. first_of f (first_of (first_failing of_answers) (first_failing of_live))) is ∙ sym parted

  pub answer_first : (failure : Option Failure) → first_failing (all_worker_tests packets o j) ≡ None → failure ≡ first_failing of_answers → is_some failure ≡ true
      → failure ≡ first_failing (tests_of packets o j)
  answer_first failure none is some =
      first_alone failure (first_failing of_live) some
      ∙ ap (λ f. first_of f (first_failing of_live)) is
      ∙ sym (parted ∙ ap (λ f. first_of f (first_of (first_failing of_answers) (first_failing of_live))) none)

  pub live_first : (failure : Option Failure) → first_failing (all_worker_tests packets o j) ≡ None → first_failing of_answers ≡ None → failure ≡ first_failing of_live
      → failure ≡ first_failing (tests_of packets o j)
  live_first failure none answers is =
      is
      ∙ sym (parted ∙ ap (λ f. first_of f (first_of (first_failing of_answers) (first_failing of_live))) none ∙ ap (λ f. first_of f (first_failing of_live)) answers)

-- the tests of the answers and of the live keys, of what the workers are given
pub answers_same : (packets : List Packet) (j : Kept) (lists : List (List Push)) → lists ≡ all_given packets j.options (content_of j)
    → first_failing (flat_map (answer_tests j.options (content_of j) lists) (range_with_len 0 (length j.lists.answers.items)))
    ≡ first_failing (flat_map (answer_tests j.options (content_of j) (all_given packets j.options (content_of j))) (range_with_len 0 (length (content_of j).answers)))
unfolding content_of
answers_same packets j lists are =
    ap₂ (λ (ms : List (List Push)) (n : ℕ). first_failing (flat_map (answer_tests j.options (content_of j) ms) (range_with_len 0 n))) are (sym (length-map j.lists.answers.items parts_of))

pub live_same : (packets : List Packet) (j : Kept) (lists : List (List Push)) → lists ≡ all_given packets j.options (content_of j)
    → first_failing (flat_map (live_tests j.options (content_of j) lists) (range_with_len 0 (length j.lists.live.items)) ++ missed_tests j.options (content_of j) lists)
    ≡ first_failing (flat_map (live_tests j.options (content_of j) (all_given packets j.options (content_of j))) (range_with_len 0 (length (content_of j).live))
    ++ missed_tests j.options (content_of j) (all_given packets j.options (content_of j)))
unfolding content_of
live_same packets j lists are =
    ap (λ (ms : List (List Push)). first_failing (flat_map (live_tests j.options (content_of j) ms) (range_with_len 0 (length j.lists.live.items)) ++ missed_tests j.options (content_of j) ms)) are
