-- Which test of a worker fails first.
use Rattle.push_history.specs.LagRun.{is_wait}
use Rattle.std.proofs.Common.{◌≡◌, ◌≢◌, ◌<◌, ◌≤◌, ℕ, ◌==◌, ◌||◌, List, [], ◌∷◌, length, get_or, Bool, true, false, not, if◌then◌else◌, refl, sym, ap, ap₂, ◌∙◌, subst, arith, inl, inr}
use Rattle.std.specs.Prelude.{Some, count_by, slice_get}
use Rattle.std.specs.List.Sorted.{IsStrictlyIncreasing}
use Rattle.std.proofs.lemmas.Bool.{eq-eqb, ne_eqb, cases_lt}
use Rattle.std.proofs.lemmas.List.{get_or-map, get_or_past}
use Rattle.std.proofs.lemmas.Option.{slice_get_within, get_or_from_slice_get}
use Rattle.hash_rows.specs.declared.options.Full.{Full}
use Rattle.hash_rows.specs.declared.options.Full.TheVariants.{Leave, Wait}
use Rattle.hash_rows.specs.declared.options.Options.{Options}
use Rattle.hash_rows.specs.declared.shape.Packet.{Packet}
use Rattle.hash_rows.specs.Marks.{marked}
use Rattle.push_history.specs.Journal.{Journal as Told}
use Rattle.octo_text.specs.Content.{content_of}
use Rattle.octo_text.proofs.RunLemmas.{length-marked}
use Rattle.push_history.specs.Pushes.{is_refused}
use Rattle.push_replay.proofs.Rows.{refused_bit}
use Rattle.journal_audit.specs.Past.{NonePast, IsFirstPast}
use Rattle.octo_text.specs.declared.journal.Journal.{Journal}
use Rattle.audit_law.specs.declared.failure.Value.TheVariants.{Number}
use Rattle.audit_law.specs.LineNumbers.{worker_line}
use Rattle.audit_law.specs.Tests.{Test, test, first_failing}
use Rattle.audit_law.specs.WorkerTests.{given_by, refused_by, all_refused_tests, worker_tests}
use Rattle.audit_law.proofs.Failing.{failing_head, failing_tail}
use Rattle.journal_audit.proofs.Marking.{marked_rises}

-- what the journal says of a worker
pub refused_is : (j : Journal) (w : ℕ) (d : List Bool) → w < length j.lists.refused.items → refused_by (content_of j) w ≡ marked (get_or j.lists.refused.items w d)
unfolding content_of
refused_is j w d lt = get_or-map marked j.lists.refused.items w d [] lt

pub refused_rise : (j : Journal) (w : ℕ) → w < length j.lists.refused.items → IsStrictlyIncreasing (refused_by (content_of j) w)
refused_rise j w lt = subst IsStrictlyIncreasing (sym (refused_is j w [] lt)) (marked_rises (get_or j.lists.refused.items w []))

pub pushes_is : (j : Journal) (w : ℕ) → get_or (content_of j).pushes w 0 ≡ get_or j.lists.pushes.items w 0
unfolding content_of
pushes_is j w = refl

module _ (packets : List Packet) (o : Options) (j : Told) (w : ℕ) where
  abbrev pushes_test : Test
  pushes_test = test (worker_line j w) (Number (get_or j.pushes w 0)) (Number (length (given_by packets o j w))) (get_or j.pushes w 0 == length (given_by packets o j w))

  abbrev waits_test : Test
  waits_test = test (worker_line j w) (Number (length (refused_by j w))) (Number 0) (not (is_wait o.full) || (length (refused_by j w) == 0))

  pub pushes_fail : (pushes sent : ℕ) → pushes ≡ get_or j.pushes w 0 → sent ≡ length (given_by packets o j w) → pushes ≢ sent
      → first_failing (worker_tests packets o j w) ≡ Some (record { line = worker_line j w; kept = Number pushes; lawful = Number sent })
  unfolding worker_tests
  pushes_fail pushes sent kept lawful differ =
      failing_head pushes_test (waits_test ∷ all_refused_tests packets o j w) (ap₂ (λ (a b : ℕ). a == b) (sym kept) (sym lawful) ∙ ne_eqb pushes sent differ)
      ∙ ap₂ (λ (a b : ℕ). Some (record { line = worker_line j w; kept = Number a; lawful = Number b })) (sym kept) (sym lawful)

  -- the refused updates, where pushes wait
  abbrev waiting_of : ℕ → ℕ
  waiting_of refused = if is_wait o.full then refused else 0

  waits_by : (f : Full) (refused : ℕ) → (not (is_wait f) || (refused == 0)) ≡ ((if is_wait f then refused else 0) == 0)
  waits_by Leave refused = refl
  waits_by Wait refused = refl

  waiting_some : (f : Full) (refused : ℕ) → (if is_wait f then refused else 0) ≢ 0 → (if is_wait f then refused else 0) ≡ refused
  waiting_some Leave refused some = absurd (some refl)
  waiting_some Wait refused some = refl

  pub waits_fail : (waiting : ℕ) → get_or j.pushes w 0 ≡ length (given_by packets o j w) → waiting ≡ waiting_of (length (refused_by j w)) → waiting ≢ 0
      → first_failing (worker_tests packets o j w) ≡ Some (record { line = worker_line j w; kept = Number waiting; lawful = Number 0 })
  unfolding worker_tests
  waits_fail waiting same is some =
      let refused : ℕ = length (refused_by j w) in
      let here : waiting ≡ refused = is ∙ waiting_some o.full refused (λ none. some (is ∙ none)) in
      failing_tail pushes_test (waits_test ∷ all_refused_tests packets o j w) (eq-eqb (get_or j.pushes w 0) (length (given_by packets o j w)) same)
      ∙ failing_head waits_test (all_refused_tests packets o j w) (waits_by o.full refused ∙ ap (λ (n : ℕ). n == 0) (sym is) ∙ ne_eqb waiting 0 some)
      ∙ ap (λ (n : ℕ). Some (record { line = worker_line j w; kept = Number n; lawful = Number 0 })) (sym here)

  pub then_refused : (waiting : ℕ) → get_or j.pushes w 0 ≡ length (given_by packets o j w) → waiting ≡ waiting_of (length (refused_by j w)) → waiting ≡ 0
      → first_failing (worker_tests packets o j w) ≡ first_failing (all_refused_tests packets o j w)
  unfolding worker_tests
  then_refused waiting same is none =
      failing_tail pushes_test (waits_test ∷ all_refused_tests packets o j w) (eq-eqb (get_or j.pushes w 0) (length (given_by packets o j w)) same)
      ∙ failing_tail waits_test (all_refused_tests packets o j w) (waits_by o.full (length (refused_by j w)) ∙ eq-eqb (waiting_of (length (refused_by j w))) 0 (sym is ∙ none))

-- refused updates behind those of the worker
module _ (j : Journal) (w : ℕ) (bits : List Bool) (at : slice_get j.lists.refused.items w ≡ Some bits) where
  pub refused_at : refused_by (content_of j) w ≡ marked bits
  refused_at = refused_is j w [] (slice_get_within j.lists.refused.items w bits at) ∙ ap marked (get_or_from_slice_get j.lists.refused.items w bits [] at)

  bit_is : (k : ℕ) → is_refused k (refused_by (content_of j) w) ≡ get_or bits k false
  bit_is k = ap (is_refused k) refused_at ∙ sym (refused_bit bits k)

  pub refused_count : length (refused_by (content_of j) w) ≡ count_by (λ mark. mark) bits
  refused_count = ap length refused_at ∙ length-marked bits 0

  pub past_end : (n : ℕ) → length bits ≤ n → NonePast (refused_by (content_of j) w) n
  past_end n past k le = bit_is k ∙ get_or_past bits k false (omega (arith, past, le))

  pub past_none : (n k : ℕ) → length bits ≤ k → ((i : ℕ) → n ≤ i → i < k → get_or bits i false ≡ false) → NonePast (refused_by (content_of j) w) n
  past_none n k past before i le = elim (cases_lt i k) [
    | inl lt ↦ bit_is i ∙ before i le lt
    | inr far ↦ bit_is i ∙ get_or_past bits i false (omega (arith, past, far))
  ]

  pub past_at : (n k : ℕ) → n ≤ k → get_or bits k false ≡ true → ((i : ℕ) → n ≤ i → i < k → get_or bits i false ≡ false) → IsFirstPast (refused_by (content_of j) w) n k
  past_at n k le set before = record { past = le; its = bit_is k ∙ set; none = λ i low lt. bit_is i ∙ before i low lt }
