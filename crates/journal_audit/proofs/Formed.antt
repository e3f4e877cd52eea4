-- A journal that can be read has the form of one, and what the workers of one sent can be told.
use Rattle.std.proofs.Common.{◌≡◌, ◌<◌, ◌≤◌, ◌+◌, ◌*◌, ◌^◌, ℕ, zero, suc, List, [], length, map, get_or, take, refl, sym, ap, ◌∙◌, subst, arith, length-append}
use Rattle.std.specs.Prelude.{◌↔◌, All, None, Option, Some}
use Rattle.audit_law.specs.declared.failure.Failure.{Failure}
use Rattle.audit_law.specs.Tests.{Test}
use Rattle.journal_audit.specs.Verdicts.{verdict_of}
use Rattle.rounds_audit.specs.declared.verdict.Verdict.{Verdict}
use Rattle.rounds_audit.specs.declared.verdict.Verdict.TheVariants.{Lawful}
use Rattle.std.specs.List.{flat_map, range_with_len}
use Rattle.std.specs.Global.{Vec}
use Rattle.std.proofs.lemmas.List.{length-map, take_all, get_or-map}
use Rattle.std.proofs.lemmas.List.Elements.{All-map}
use Rattle.std.proofs.lemmas.Nat.{mul-le}
use Rattle.std.proofs.lemmas.List.FromFn.{length-map-range_with_len}
use Rattle.hash_rows.specs.declared.answer.Answer.{Answer}
use Rattle.hash_rows.specs.declared.options.Mode.{Mode}
use Rattle.hash_rows.specs.declared.options.Mode.TheVariants.{Threads}
use Rattle.hash_rows.specs.declared.options.Options.{Options}
use Rattle.hash_rows.specs.declared.shape.Packet.{Packet}
use Rattle.hash_rows.specs.declared.shape.Push.{Push}
use Rattle.hash_rows.specs.declared.shape.Update.{Update}
use Rattle.hash_rows.specs.Lawful.{IsLawful}
use Rattle.hash_rows.specs.Marks.{marked}
use Rattle.hash_rows.specs.Shapes.{size_of}
use Rattle.push_history.specs.Answers.{AnswerParts, parts_of}
use Rattle.push_history.specs.Journal.{Journal as Told, rules_in, terms_of, updates_by_options}
use Rattle.push_history.specs.LagRun.{Worker, updates_by}
use Rattle.push_history.specs.LawfulJournal.{IsJournalIn, LawfulJournal, places_of, sent_by}
use Rattle.push_history.specs.LawfulRun.{IsLawfulWorker}
use Rattle.push_history.specs.Pushes.{LawfulPushes}
use Rattle.push_history.proofs.Fitting.{FitsFor, own_updates_fit, rules_lawful, sent_fits, small_values, updates_there}
use Rattle.octo_text.specs.Content.{content_of}
use Rattle.octo_text.specs.declared.journal.Journal.{Journal}
use Rattle.told_table.specs.Tables.{AreSent, lists_of}
use Rattle.live_audit.specs.Counted.{AreFew}
use Rattle.octo_text.specs.Readable.{CanBeJudged, IsReadable}
use Rattle.audit_law.specs.Forms.{HasForm, HasPlaces}
use Rattle.audit_law.specs.Tests.{first_failing}
use Rattle.audit_law.specs.WorkerTests.{all_given, all_worker_tests}
use Rattle.audit_law.specs.Judged.{tests_of}
use Rattle.audit_law.specs.LineNumbers.{answer_line, live_line, worker_line}
use Rattle.audit_law.proofs.JournalLaw.{lawful_where_none, none_where_lawful}
use Rattle.audit_law.proofs.WorkerLaw.{all_given_length, workers_lawful}
use Rattle.journal_audit.proofs.WorkerCases.{pushes_is, refused_rise}

has_places : (o : Options) (answers : List Answer) → All (CanBeJudged o) answers → All (HasPlaces o) (map parts_of answers)
unfolding parts_of
has_places o answers all = All-map (HasPlaces o) parts_of answers (λ k d lt.
    record { front = (all k d lt).fits.front; shown = (all k d lt).fits.shown })

pub has_form : (j : Journal) → IsReadable j → HasForm j.options (content_of j)
unfolding content_of
has_form j h = record {
  options = refl;
  refused = length-map j.lists.refused.items marked ∙ h.workers.refused;
  rising = λ w lt. refused_rise j w (omega (arith, lt, h.workers.refused));
  pushes = h.workers.pushes;
  places = h.places;
  answers = has_places j.options j.lists.answers.items h.answers;
}

abbrev places_from : ℕ → ℕ → ℕ → List (ℕ × ℕ)
places_from asks first readers = flat_map (λ q. map (λ n. (q, n)) (range_with_len 0 asks)) (range_with_len first readers)

places_long : (asks first readers : ℕ) → length (places_from asks first readers) ≡ readers * asks
places_long asks first zero = omega arith
places_long asks first (suc readers) =
    let row : List (ℕ × ℕ) = map (λ (n : ℕ). (first, n)) (range_with_len 0 asks) in
    let rest : List (ℕ × ℕ) = places_from asks (first + 1) readers in
    let long : length row ≡ asks = length-map-range_with_len (λ n. (first, n)) 0 asks in
    let later = places_long asks (first + 1) readers in
    let block : (readers + 1) * asks ≡ readers * asks + asks = grind arith in
    omega (arith, length-append row rest, long, later, block)

product_few : (a b : ℕ) → a ≤ 4 → b ≤ 1024 → a * b ≤ 4096
product_few a b le le' = let most : a * b ≤ 4 * 1024 = mul-le a b 4 1024 le le' in omega (arith, most)

pub answers_few : (j : Journal) → IsReadable j → length j.lists.answers.items ≤ 4096
answers_few j h =
    let o = j.options in
    let places : length (places_of (map parts_of j.lists.answers.items)) ≡ length (places_from o.asks 0 o.readers) = ap (λ (ps : List (ℕ × ℕ)). length ps) h.places in
    let parts = length-map (map parts_of j.lists.answers.items) (λ (a : AnswerParts). (a.reader, a.number)) in
    let long : length j.lists.answers.items ≡ o.readers * o.asks =
    sym (length-map j.lists.answers.items parts_of) ∙ sym parts ∙ places ∙ places_long o.asks 0 o.readers in
    omega (arith, long, product_few o.readers o.asks h.lawful.readers h.lawful.asks)

-- what lawful workers sent can be told
module _ (packets : List Packet) (o : Options) (lawful : IsLawful o) (small : All (λ p. p.amount < 2 ^ 32) packets) where
  sent_for : (w : ℕ) → w < o.workers → (S : List Push) (F : List ℕ) → LawfulPushes (rules_in o) w o.threshold o.lane o.full (updates_by_options packets o w) S F
      → All (FitsFor (rules_in o) (size_of o.shape) w) S
  unfolding terms_of
  sent_for w lt S F h =
      let t = terms_of packets o in
      let U : List Update = updates_by t w in
      let x : Worker = record { counted = length U; sent = S; refused = F; taken = 0 } in
      let same : updates_by_options packets o w ≡ take (length U) U = sym (updates_there packets o w lt) ∙ sym (take_all (length U) U (omega arith)) in
      let is : IsLawfulWorker t w x = record {
        counted = omega arith;
        lawful = subst (λ (us : List Update). LawfulPushes (rules_in o) w o.threshold o.lane o.full us S F) same h;
        taken = omega arith;
      } in
      sent_fits t (rules_lawful o.sketch) (size_of o.shape) w x (own_updates_fit packets o lawful (small_values (rules_in o) (rules_lawful o.sketch) o.shape packets small) w lt) is

  pub given_sent : (j : Told) → HasForm o j → first_failing (all_worker_tests packets o j) ≡ None → AreSent (rules_in o) o.shape (all_given packets o j)
  given_sent j form none w lt =
      let h = workers_lawful packets o j form (record { none = none }) in
      let within : w < o.workers = omega (arith, lt, h.sent) in
      sent_for w within (sent_by (all_given packets o j) w) _ (h.each w within).lawful

pub given_few : (packets : List Packet) (j : Journal) (lists : List (Vec Push)) → IsReadable j → first_failing (all_worker_tests packets j.options (content_of j)) ≡ None
    → lists_of lists ≡ all_given packets j.options (content_of j) → AreFew lists
given_few packets j lists h none are =
    let o = j.options in
    let workers = workers_lawful packets o (content_of j) (has_form j h) (record { none = none }) in
    let len : length lists ≡ o.workers = sym (length-map lists (λ v. v.items)) ∙ ap length are ∙ workers.sent in (
      omega (arith, len, h.lawful.workers),
      λ k d lt.
          let within : k < o.workers = omega (arith, lt, len) in
          let sent : sent_by (all_given packets o (content_of j)) k ≡ (get_or lists k d).items =
          ap (λ (t : List (List Push)). sent_by t k) (sym are) ∙ get_or-map (λ v. v.items) lists k d [] lt in
          let pushes = sym (pushes_is j k) ∙ (workers.each k within).pushes ∙ ap length sent in
          let most = h.pushes k 0 (omega (arith, within, h.workers.pushes)) in
          omega (arith, pushes, most),
    )

pub given_long : (packets : List Packet) (o : Options) (j : Told) (lists : List (Vec Push)) → lists_of lists ≡ all_given packets o j → length lists ≡ o.workers
given_long packets o j lists are = sym (length-map lists (λ v. v.items)) ∙ ap length are ∙ all_given_length packets o j

-- the first line behind the workers, and that behind the answers
pub first_answer : (j : Journal) (line : ℕ) → IsReadable j → line ≡ worker_line (content_of j) j.options.workers → line ≡ answer_line (content_of j) 0
unfolding answer_line content_of
first_answer j line h is =
    let len : length (map marked j.lists.refused.items) ≡ j.options.workers = length-map j.lists.refused.items marked ∙ h.workers.refused in
    is ∙ ap (worker_line (content_of j)) (sym len) ∙ (let more : worker_line (content_of j) (length (map marked j.lists.refused.items)) ≡ worker_line (content_of j) (length (map marked j.lists.refused.items)) + 0 = omega arith in more)

pub first_live : (j : Journal) (line : ℕ) → line ≡ answer_line (content_of j) 0 → line + length j.lists.answers.items ≡ live_line (content_of j) 0
unfolding live_line answer_line content_of
first_live j line is = omega (arith, is, length-map j.lists.answers.items parts_of)

-- no test fails exactly where the journal is lawful
pub tests_lawful : (packets : List Packet) (j : Journal) → IsReadable j → j.options.mode ≡ Threads
    → (first_failing (tests_of packets j.options (content_of j)) ≡ None) ↔ LawfulJournal packets j.options (content_of j)
unfolding content_of
tests_lawful packets j h threads = (
  (λ none. record {
    options = refl;
    by_mode = subst (λ (m : Mode). IsJournalIn m packets j.options (content_of j)) (sym threads)
        (lawful_where_none packets j.options (content_of j) (has_form j h) (record { none = none }));
  }),
  (λ lawful. (none_where_lawful packets j.options (content_of j) (has_form j h)
      (subst (λ (m : Mode). IsJournalIn m packets j.options (content_of j)) threads lawful.by_mode)).none),
)

is_lawful : (failure : Option Failure) → verdict_of failure ≡ Lawful → failure ≡ None
is_lawful None is = refl
is_lawful (Some f) is = absurd (cc)

pub lawful_verdict : {P : Type 0} (failure : Option Failure) (verdict : Verdict) (tests : List Test) → verdict ≡ verdict_of failure → failure ≡ first_failing tests
    → (first_failing tests ≡ None) ↔ P → (verdict ≡ Lawful) ↔ P
lawful_verdict failure verdict tests is first law = (
  (λ lawful. law.0 (sym first ∙ is_lawful failure (sym is ∙ lawful))),
  (λ p. is ∙ ap verdict_of (first ∙ law.1 p)),
)
