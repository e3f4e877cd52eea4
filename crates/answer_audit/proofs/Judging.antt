-- The tests of an answer, from those of its parts.
use Rattle.std.proofs.Common.{◌≡◌, ◌<◌, ◌≤◌, ◌-◌, ◌==◌, ℕ, ℤ, pos, List, [], ◌∷◌, ◌++◌, length, map, get_or, Bool, true, false, if◌then◌else◌, sym, ap, ap₂, ◌∙◌, subst, arith, append_assoc, inl, inr}
use Rattle.std.specs.Prelude.{All, Some, None, Option, IfNone, sum, slice_get, is_some}
use Rattle.std.specs.List.{range_with_len}
use Rattle.std.specs.Ordering.{int_eq}
use Rattle.std.proofs.lemmas.List.{get_or-map, get_or_past, length-map}
use Rattle.std.proofs.lemmas.Option.{get_or_from_slice_get, slice_get_within}
use Rattle.hash_rows.specs.declared.answer.Answer.{Answer}
use Rattle.hash_rows.specs.declared.options.Options.{Options}
use Rattle.hash_rows.specs.declared.shape.Push.{Push}
use Rattle.hash_rows.specs.Rules.{Rules}
use Rattle.hash_rows.specs.declared.shape.Shape.{Shape}
use Rattle.hash_rows.specs.Tables.{TableView}
use Rattle.push_history.specs.Share.{zero_key}
use Rattle.push_history.specs.Answers.{AnswerParts, parts_of}
use Rattle.push_history.specs.Journal.{Journal as Told, keys_of, rules_in}
use Rattle.push_history.specs.LawfulJournal.{sent_by}
use Rattle.push_history.specs.Shown.{shown_cells}
use Rattle.push_history.proofs.Notes.{map_range_same}
use Rattle.octo_text.specs.Content.{content_of}
use Rattle.octo_text.specs.declared.journal.Journal.{Journal}
use Rattle.audit_law.specs.declared.failure.Failure.{Failure}
use Rattle.audit_law.specs.LineNumbers.{answer_line}
use Rattle.audit_law.specs.declared.failure.Value.TheVariants.{Number, Signed}
use Rattle.audit_law.specs.Tests.{Test, test, first_failing}
use Rattle.audit_law.specs.AnswerTests.{answer_at, place_in, answer_tests, estimate_shown, estimate_test, no_answer, order_test, rising_test, rising_tests, within_test}
use Rattle.std.specs.Global.{Vec}
use Rattle.told_table.specs.Tables.{lists_of}
use Rattle.audit_law.specs.Firsts.{first_of}
use Rattle.std.proofs.lemmas.Bool.{cases_lt, leb-true}
use Rattle.audit_law.proofs.Failing.{first_alone, first_of_both}
use Rattle.audit_law.proofs.Holding.{Hold, hold_back, hold_front, hold_tail, holds_each}
use Rattle.answer_audit.proofs.Reaching.{zero_front}
use Rattle.octo_text.specs.Readable.{CanBeJudged}
use Rattle.answer_audit.specs.Answered.{BeginsAt, front_tests, shown_test}

-- what stands in an answer's place
pub answer_is : (j : Journal) (k : ℕ) (a : Answer) → slice_get j.lists.answers.items k ≡ Some a → answer_at (content_of j) k ≡ parts_of a
unfolding content_of
answer_is j k a is =
    get_or-map parts_of j.lists.answers.items k a no_answer (slice_get_within j.lists.answers.items k a is) ∙ ap parts_of (get_or_from_slice_get j.lists.answers.items k a a is)

pub front_is : (j : Journal) (k : ℕ) (a : Answer) → slice_get j.lists.answers.items k ≡ Some a → (answer_at (content_of j) k).front ≡ a.front.items
unfolding parts_of
front_is j k a is = ap (λ (p : AnswerParts). p.front) (answer_is j k a is)

pub number_is : (j : Journal) (k : ℕ) (a : Answer) → slice_get j.lists.answers.items k ≡ Some a → (answer_at (content_of j) k).number ≡ a.number
unfolding parts_of
number_is j k a is = ap (λ (p : AnswerParts). p.number) (answer_is j k a is)

pub folded_is : (j : Journal) (k : ℕ) (a : Answer) → slice_get j.lists.answers.items k ≡ Some a → (answer_at (content_of j) k).folded ≡ a.folded
unfolding parts_of
folded_is j k a is = ap (λ (p : AnswerParts). p.folded) (answer_is j k a is)

pub shown_is : (j : Journal) (k : ℕ) (a : Answer) → slice_get j.lists.answers.items k ≡ Some a → (answer_at (content_of j) k).shown ≡ a.shown.items
unfolding parts_of
shown_is j k a is = ap (λ (p : AnswerParts). p.shown) (answer_is j k a is)

pub judged_at : (o : Options) (answers : List Answer) (k : ℕ) (a : Answer) → All (CanBeJudged o) answers → slice_get answers k ≡ Some a → CanBeJudged o a
judged_at o answers k a all is = subst (CanBeJudged o) (get_or_from_slice_get answers k a a is) (all k a (slice_get_within answers k a is))

-- an answer's front beside the one before of its reader
pub rising_first : (line : ℕ) (j : Journal) (k : ℕ) (a : Answer) → slice_get j.lists.answers.items k ≡ Some a → (a.number == 0) ≡ true → None ≡ first_failing (rising_tests line (content_of j) k)
unfolding rising_tests
rising_first line j k a is first =
    let at : ((answer_at (content_of j) k).number == 0) ≡ true = ap (λ (n : ℕ). n == 0) (number_is j k a is) ∙ first in
    let later : List Test = map (rising_test line (answer_at (content_of j) (k - 1)).front (answer_at (content_of j) k).front) (range_with_len 0 (length (answer_at (content_of j) k).front)) in
    sym (ap (λ (b : Bool). first_failing (if b then [] else later)) at)

pub rising_later : (line : ℕ) (j : Journal) (k : ℕ) (a b : Answer) → slice_get j.lists.answers.items k ≡ Some a → slice_get j.lists.answers.items (k - 1) ≡ Some b → (a.number == 0) ≡ false
    → first_failing (map (rising_test line b.front.items a.front.items) (range_with_len 0 (length a.front.items))) ≡ first_failing (rising_tests line (content_of j) k)
unfolding rising_tests
rising_later line j k a b is before later =
    let at : ((answer_at (content_of j) k).number == 0) ≡ false = ap (λ (n : ℕ). n == 0) (number_is j k a is) ∙ later in
    let all : List ℕ → List ℕ → List Test = λ p q. map (rising_test line p q) (range_with_len 0 (length q)) in
    ap₂ (λ p q. first_failing (all p q)) (sym (front_is j (k - 1) b before)) (sym (front_is j k a is))
    ∙ sym (ap (λ (x : Bool). first_failing (if x then [] else all (answer_at (content_of j) (k - 1)).front (answer_at (content_of j) k).front)) at)

abbrev front_test : ℕ → AnswerParts → Test
front_test line a = test line (Number a.folded) (Number (sum a.front)) (a.folded == sum a.front)

-- the test of estimate k beside another one
abbrev told_test : ℕ → List ℤ → ℕ → ℤ → Test
told_test line shown k lawful = test line (Signed (get_or shown k (pos 0))) (Signed lawful) (int_eq (get_or shown k (pos 0)) lawful)

-- the tests of an answer are those of its front and those of its estimates
pub tests_parted : (o : Options) (j : Told) (messages : List (List Push)) (i : ℕ)
    → answer_tests o j messages i ≡ front_tests (answer_line j i) j messages i ++ map (estimate_test (answer_line j i) o messages (answer_at j i)) (range_with_len 0 (length (keys_of o)))
unfolding answer_tests
tests_parted o j messages i =
    let line = answer_line j i in
    let a = answer_at j i in
    let withins = map (within_test line messages a.front) (range_with_len 0 (length messages)) in
    let risings = rising_tests line j i in
    let orders = map (λ e. order_test line a.front (answer_at j e).front) (range_with_len 0 i) in
    let estimates = map (estimate_test line o messages a) (range_with_len 0 (length (keys_of o))) in
    ap (λ (t : List Test). front_test line a ∷ t)
    (sym (append_assoc withins (risings ++ orders) estimates ∙ ap (λ (t : List Test). withins ++ t) (append_assoc risings orders estimates)))

-- what a table of the messages up to the front says is what should have been shown
pub estimates_are : (o : Options) (messages : List (List Push)) (line : ℕ) (a : AnswerParts) (r : Rules) (table : TableView) → r ≡ rules_in o → table.shape ≡ o.shape
    → table.cells ≡ shown_cells r table.shape messages a.front
    → map (shown_test line r table (keys_of o) a.shown) (range_with_len 0 (length (keys_of o))) ≡ map (estimate_test line o messages a) (range_with_len 0 (length (keys_of o)))
unfolding estimate_test estimate_shown
estimates_are o messages line a r table same shape cells =
    map_range_same (shown_test line r table (keys_of o) a.shown) (estimate_test line o messages a) 0 (length (keys_of o))
    (λ k _ _. ap (λ (z : ℤ). told_test line a.shown k z) (said k))
  where
    said : (k : ℕ) → r.estimate table.shape table.cells (get_or (keys_of o) k zero_key) ≡ estimate_shown o messages a.front k
    said k =
        ap (λ (t : List ℤ). r.estimate table.shape t (get_or (keys_of o) k zero_key)) cells
        ∙ ap₂ (λ (s : Rules) (x : Shape). s.estimate x (shown_cells s x messages a.front) (get_or (keys_of o) k zero_key)) same shape

-- the tests of a front, from those of its parts
pub front_parts : (line : ℕ) (j : Told) (messages : List (List Push)) (i : ℕ) (folded within rising order : Option Failure)
    → folded ≡ first_failing (front_test line (answer_at j i) ∷ [])
    → within ≡ first_failing (map (within_test line messages (answer_at j i).front) (range_with_len 0 (length messages)))
    → rising ≡ first_failing (rising_tests line j i)
    → order ≡ first_failing (map (λ e. order_test line (answer_at j i).front (answer_at j e).front) (range_with_len 0 i))
    → first_of folded (first_of within (first_of rising order)) ≡ first_failing (front_tests line j messages i)
front_parts line j messages i folded within rising order a b c d =
    let withins = map (within_test line messages (answer_at j i).front) (range_with_len 0 (length messages)) in
    let risings = rising_tests line j i in
    let orders = map (λ e. order_test line (answer_at j i).front (answer_at j e).front) (range_with_len 0 i) in
    ap₂ first_of a (ap₂ first_of b (ap₂ first_of c d ∙ sym (first_of_both risings orders)) ∙ sym (first_of_both withins (risings ++ orders)))
    ∙ sym (first_of_both (front_test line (answer_at j i) ∷ []) (withins ++ (risings ++ orders)))

pub lists_long : (lists : List (Vec Push)) → length lists ≡ length (lists_of lists)
lists_long lists = sym (length-map lists (λ (v : Vec Push). v.items))

module _ (line : ℕ) (j : Told) (messages : List (List Push)) (i : ℕ) (none : first_failing (front_tests line j messages i) ≡ None) where
  abbrev front : List ℕ
  front = (answer_at j i).front

  abbrev before : List ℕ
  before = (answer_at j (i - 1)).front

  abbrev withins : List Test
  withins = map (within_test line messages front) (range_with_len 0 (length messages))

  abbrev orders : List Test
  orders = map (λ e. order_test line front (answer_at j e).front) (range_with_len 0 i)

  rest : Hold (withins ++ (rising_tests line j i ++ orders))
  rest = hold_tail (front_test line (answer_at j i)) (withins ++ (rising_tests line j i ++ orders)) (record { none = none })

  -- no worker sent fewer messages than the front says
  pub within_of : (w : ℕ) → w < length messages → place_in front w ≤ length (sent_by messages w)
  unfolding within_test
  within_of w lt =
      leb-true (place_in front w) (length (sent_by messages w))
      (holds_each (within_test line messages front) 0 (length messages) (hold_front withins (rising_tests line j i ++ orders) rest) w (omega arith) (omega (arith, lt)))

  pub later_rises : ((answer_at j i).number == 0) ≡ false → length before ≡ length front → (w : ℕ) → place_in before w ≤ place_in front w
  unfolding rising_tests rising_test
  later_rises later len w =
      let all : List Test = map (rising_test line before front) (range_with_len 0 (length front)) in
      let risings : Hold (rising_tests line j i) = hold_front (rising_tests line j i) orders (hold_back withins (rising_tests line j i ++ orders) rest) in
      let here : Hold all = subst (λ (b : Bool). Hold (if b then [] else all)) later risings in
      elim (cases_lt w (length front)) [
        | inl inside ↦ leb-true (place_in before w) (place_in front w) (holds_each (rising_test line before front) 0 (length front) here w (omega arith) (omega (arith, inside)))
        | inr past ↦ (let zero : get_or before w 0 ≡ 0 = get_or_past before w 0 (omega (arith, past, len)) in omega (arith, zero))
      ]

  -- the front rises from where it began
  pub begun_rises : (start : List ℕ) → length start ≡ length front → BeginsAt j i start → (w : ℕ) → get_or start w 0 ≤ place_in front w
  begun_rises start len (inl zeros) w = (let zero = zero_front start (length start) w zeros in omega (arith, zero))
  begun_rises start len (inr later) w =
      let rises = later_rises later.0 (sym (ap length later.1) ∙ len) w in
      let here : get_or start w 0 ≡ place_in before w = ap (λ (t : List ℕ). get_or t w 0) later.1 in
      omega (arith, rises, here)

pub front_fails : (o : Options) (line : ℕ) (j : Told) (messages : List (List Push)) (i : ℕ) (failure : Option Failure) → line ≡ answer_line j i
    → failure ≡ first_failing (front_tests line j messages i) → is_some failure ≡ true → failure ≡ first_failing (answer_tests o j messages i)
front_fails o line j messages i failure at is some =
    let estimates = map (estimate_test (answer_line j i) o messages (answer_at j i)) (range_with_len 0 (length (keys_of o))) in
    first_alone failure (first_failing estimates) some
    ∙ ap (λ (f : Option Failure). first_of f (first_failing estimates)) (is ∙ ap (λ (n : ℕ). first_failing (front_tests n j messages i)) at)
    ∙ sym (ap first_failing (tests_parted o j messages i) ∙ first_of_both (front_tests (answer_line j i) j messages i) estimates)

pub front_holds : (o : Options) (line : ℕ) (j : Told) (messages : List (List Push)) (i : ℕ) → line ≡ answer_line j i → first_failing (front_tests line j messages i) ≡ None
    → first_failing (map (estimate_test line o messages (answer_at j i)) (range_with_len 0 (length (keys_of o)))) ≡ first_failing (answer_tests o j messages i)
front_holds o line j messages i at none =
    let estimates : ℕ → List Test = λ n. map (estimate_test n o messages (answer_at j i)) (range_with_len 0 (length (keys_of o))) in
    ap (λ (n : ℕ). first_failing (estimates n)) at
    ∙ sym (ap first_failing (tests_parted o j messages i) ∙ first_of_both (front_tests (answer_line j i) j messages i) (estimates (answer_line j i))
    ∙ ap (λ (f : Option Failure). first_of f (first_failing (estimates (answer_line j i)))) (sym (ap (λ (n : ℕ). first_failing (front_tests n j messages i)) at) ∙ none))

pub if_none : {A P : Type 0} (o : Option A) → P → IfNone o P
if_none None p = p
if_none (Some x) p = tt
