-- None of the tests of a worker fails exactly where what the journal says of it is lawful.
use Rattle.push_history.specs.LagRun.{is_wait}
use Rattle.std.proofs.Common.{◌≡◌, ◌<◌, ◌≤◌, ℕ, ◌==◌, ◌||◌, List, [], ◌∷◌, length, get_or, Bool, true, false, not, refl, sym, ap, ◌∙◌, subst, arith}
use Rattle.std.specs.Prelude.{All}
use Rattle.std.specs.List.Sorted.{IsStrictlyIncreasing}
use Rattle.std.proofs.lemmas.Bool.{eqb-true, eq-eqb, leb-true, le-leb, ltb-true, lt-ltb}
use Rattle.std.proofs.lemmas.List.{nil_from_length}
use Rattle.std.proofs.lemmas.List.Elements.{All-nil, All-cons, All-head, All-tail}
use Rattle.std.proofs.lemmas.List.FromFn.{get_or-map-range_with_len, length-map-range_with_len, fill_by_all}
use Rattle.hash_rows.specs.declared.options.Full.{Full}
use Rattle.hash_rows.specs.declared.options.Full.TheVariants.{Leave, Wait}
use Rattle.hash_rows.specs.declared.options.Options.{Options}
use Rattle.hash_rows.specs.declared.shape.Packet.{Packet}
use Rattle.hash_rows.specs.declared.shape.Push.{Push}
use Rattle.hash_rows.specs.declared.shape.Update.{Update}
use Rattle.push_history.specs.Journal.{Journal, rules_in, updates_by_options}
use Rattle.push_history.specs.LawfulJournal.{sent_by, LawfulWorkers}
use Rattle.push_history.specs.Pushes.{distance_at, is_refused, LawfulPushes}
use Rattle.push_history.specs.Told.{messages_before}
use Rattle.given_law.specs.Given.{given_messages, MayRefuse}
use Rattle.given_law.proofs.Determined.{given_lawful, lawful_given}
use Rattle.audit_law.specs.Forms.{HasForm}
use Rattle.audit_law.specs.LineNumbers.{refused_line}
use Rattle.audit_law.specs.WorkerTests.{refused_by, given_by, all_given, refused_tests, all_refused_tests, worker_tests, all_worker_tests}
use Rattle.audit_law.proofs.Holding.{Hold, hold_head, hold_tail, hold_cons, hold_nil, hold_each, hold_range, hold_all, hold_list, unless}

-- what holds of each refused update
refused_has : (P : ℕ → Type 0) (F : List ℕ) (k : ℕ) → All P F → is_refused k F ≡ true → P k
refused_has P [] k all is = absurd (cc)
refused_has P (x ∷ xs) k all is = by (x == k) refl is (refused_has P xs k (All-tail P x xs all))
  where
    by : (b : Bool) → (x == k) ≡ b → (b || is_refused k xs) ≡ true → (is_refused k xs ≡ true → P k) → P k
    by true same is rest = subst P (eqb-true x k same) (All-head P x xs all)
    by false other is rest = rest is

refused_all : (P : ℕ → Type 0) (F : List ℕ) → ((k : ℕ) → is_refused k F ≡ true → P k) → All P F
refused_all P [] has = All-nil P
refused_all P (x ∷ xs) has = All-cons P x xs
    (has x (ap (λ (b : Bool). b || is_refused x xs) (eq-eqb x x refl)))
    (refused_all P xs (λ k is. has k (later (x == k) is)))
  where
    later : {c : Bool} (b : Bool) → c ≡ true → (b || c) ≡ true
    later true is = refl
    later false is = is

-- the parts of a refused update's tests
record MayBe (o : Options) (updates : List Update) (sent : List Push) (k : ℕ) : Type 0 where
  within : k < length updates
  far : o.threshold ≤ distance_at (rules_in o) updates sent k
  full_lane : o.lane ≤ length (messages_before k sent)

module _ (o : Options) (updates : List Update) (sent : List Push) (line : ℕ → ℕ) where
  may_be : (k : ℕ) → Hold (refused_tests o updates sent line k) → MayBe o updates sent k
  unfolding refused_tests
  may_be k h =
      let second = hold_tail _ _ h in
      let third = hold_tail _ _ second in
      record {
        within = ltb-true k (length updates) (hold_head _ _ h);
        far = leb-true o.threshold (distance_at (rules_in o) updates sent k) (hold_head _ _ second);
        full_lane = leb-true o.lane (length (messages_before k sent)) (hold_head _ _ third);
      }

  is_tested : (k : ℕ) → MayBe o updates sent k → Hold (refused_tests o updates sent line k)
  unfolding refused_tests
  is_tested k may =
      hold_cons _ _ (lt-ltb k (length updates) may.within)
      (hold_cons _ _ (le-leb o.threshold (distance_at (rules_in o) updates sent k) may.far)
      (hold_cons _ _ (le-leb o.lane (length (messages_before k sent)) may.full_lane) hold_nil))

none_waits : (full : Full) (F : List ℕ) → (not (is_wait full) || (length F == 0)) ≡ true → full ≡ Wait → F ≡ []
none_waits full F is waits =
    nil_from_length F (eqb-true (length F) 0 (unless (not (is_wait full)) (length F == 0) is (ap (λ f. not (is_wait f)) waits)))

waits_none : (full : Full) (F : List ℕ) → (full ≡ Wait → F ≡ []) → (not (is_wait full) || (length F == 0)) ≡ true
waits_none Leave F none = refl
waits_none Wait F none = ap (λ (t : List ℕ). length t == 0) (none refl)

module _ (packets : List Packet) (o : Options) (j : Journal) (w : ℕ) where
  abbrev Fitting : Type 0
  Fitting = MayRefuse (rules_in o) w o.threshold o.lane o.full (updates_by_options packets o w) (refused_by j w)
      × (get_or j.pushes w 0 ≡ length (given_by packets o j w))

  fitting : IsStrictlyIncreasing (refused_by j w) → Hold (worker_tests packets o j w) → Fitting
  unfolding worker_tests all_refused_tests given_by
  fitting rising h =
      let F = refused_by j w in
      let U = updates_by_options packets o w in
      let S : List Push = given_messages (rules_in o) w o.threshold U F in
      let second = hold_tail _ _ h in
      let each = hold_all (refused_tests o U S (refused_line j w)) F (hold_tail _ _ second) in
      let all : All (MayBe o U S) F = λ k d lt. may_be o U S (refused_line j w) (get_or F k d) (each k d lt) in (
        record {
          rising = rising;
          within = λ k d lt. (all k d lt).within;
          far = λ k is. (refused_has (MayBe o U S) F k all is).far;
          full_lane = λ k is. (refused_has (MayBe o U S) F k all is).full_lane;
          waiting = none_waits o.full F (hold_head _ _ second);
        },
        eqb-true (get_or j.pushes w 0) (length S) (hold_head _ _ h),
      )

  tested : Fitting → Hold (worker_tests packets o j w)
  unfolding worker_tests all_refused_tests given_by
  tested fit =
      let F = refused_by j w in
      let U = updates_by_options packets o w in
      let S : List Push = given_messages (rules_in o) w o.threshold U F in
      let all : All (MayBe o U S) F = refused_all (MayBe o U S) F (λ k is. record { within = refused_has (λ i. i < length U) F k fit.0.within is; far = fit.0.far k is; full_lane = fit.0.full_lane k is }) in
      hold_cons _ _ (eq-eqb (get_or j.pushes w 0) (length S) fit.1)
      (hold_cons _ _ (waits_none o.full F fit.0.waiting)
      (hold_list (refused_tests o U S (refused_line j w)) F (λ k d lt. is_tested o U S (refused_line j w) (get_or F k d) (all k d lt))))

-- the messages of a worker among all
pub given_at : (packets : List Packet) (o : Options) (j : Journal) (w : ℕ) → w < o.workers → sent_by (all_given packets o j) w ≡ given_by packets o j w
unfolding all_given
given_at packets o j w lt = get_or-map-range_with_len (given_by packets o j) 0 o.workers w w [] lt (omega arith)

pub all_given_length : (packets : List Packet) (o : Options) (j : Journal) → length (all_given packets o j) ≡ o.workers
unfolding all_given
all_given_length packets o j = length-map-range_with_len (given_by packets o j) 0 o.workers

-- lawful messages are those that are given
pub lawful_all : (packets : List Packet) (o : Options) (j : Journal) (messages : List (List Push)) → LawfulWorkers packets o j messages → messages ≡ all_given packets o j
unfolding all_given given_by
lawful_all packets o j messages h =
    fill_by_all (given_by packets o j) messages o.workers [] h.sent
    (λ w lt. (lawful_given (rules_in o) w o.threshold o.lane o.full (updates_by_options packets o w) (sent_by messages w) (refused_by j w) (h.each w lt).lawful).0)

lawful_by : (packets : List Packet) (o : Options) (j : Journal) (w : ℕ) → MayRefuse (rules_in o) w o.threshold o.lane o.full (updates_by_options packets o w) (refused_by j w)
    → LawfulPushes (rules_in o) w o.threshold o.lane o.full (updates_by_options packets o w) (given_by packets o j w) (refused_by j w)
unfolding given_by
lawful_by packets o j w may = given_lawful (rules_in o) w o.threshold (updates_by_options packets o w) (refused_by j w) o.lane o.full may

pub workers_lawful : (packets : List Packet) (o : Options) (j : Journal) → HasForm o j → Hold (all_worker_tests packets o j) → LawfulWorkers packets o j (all_given packets o j)
workers_lawful packets o j form h = record {
  refused = form.refused;
  pushes = form.pushes;
  sent = all_given_length packets o j;
  each = λ w lt.
      let fit = fitting packets o j w (form.rising w lt) (hold_each (worker_tests packets o j) 0 o.workers h w (omega arith) (omega (arith, lt))) in
      let at = given_at packets o j w lt in
      record {
        lawful = subst (λ (S : List Push). LawfulPushes (rules_in o) w o.threshold o.lane o.full (updates_by_options packets o w) S (refused_by j w)) (sym at) (lawful_by packets o j w fit.0);
        pushes = fit.1 ∙ ap length (sym at);
      };
}

pub workers_tested : (packets : List Packet) (o : Options) (j : Journal) → LawfulWorkers packets o j (all_given packets o j) → Hold (all_worker_tests packets o j)
workers_tested packets o j h =
    hold_range (worker_tests packets o j) 0 o.workers
    (λ w low lt.
    let within : w < o.workers = omega (arith, lt) in
    let mine = h.each w within in
    tested packets o j w (
      (lawful_given (rules_in o) w o.threshold o.lane o.full (updates_by_options packets o w) (sent_by (all_given packets o j) w) (refused_by j w) mine.lawful).1,
      mine.pushes ∙ ap length (given_at packets o j w within),
    ))
