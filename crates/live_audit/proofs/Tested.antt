-- The tests of a live key, and of how many were missed, from those of their parts.
use Rattle.std.proofs.Common.{◌≡◌, ◌+◌, ◌&&◌, ◌||◌, ◌==◌, ℕ, ℤ, zero, suc, List, [], ◌∷◌, ◌++◌, length, map, filter, count_by, Bool, true, false, not, nat_lt, nat_le, refl, sym, ap, ap₂, ◌∙◌, arith, subst}
use Rattle.std.specs.Prelude.{Option, None, Some, Result, Ok, Err, IfOk, int_le, slice_get}
use Rattle.std.specs.List.{flat_map, range_with_len}
use Rattle.std.specs.Global.{Vec}
use Rattle.std.proofs.lemmas.List.Sums.{length-filter}
use Rattle.packet_key.specs.declared.key.FlowKey.{FlowKey}
use Rattle.packet_key.proofs.EqualKeys.{eq-same_key}
use Rattle.hash_rows.specs.declared.options.Options.{Options}
use Rattle.hash_rows.specs.declared.shape.Flow.{Flow}
use Rattle.hash_rows.specs.declared.shape.Push.{Push}
use Rattle.hash_rows.specs.declared.shape.Shape.{Shape}
use Rattle.hash_rows.specs.Rules.{Rules}
use Rattle.hash_rows.specs.Tables.{TableView}
use Rattle.push_history.specs.Journal.{Journal, rules_in}
use Rattle.push_history.specs.LawfulJournal.{all_of, estimate_on_all, not_live, possible_missed, sure_missed}
use Rattle.push_history.specs.LiveHeavy.{distinct_keys, is_among, live_keys, missed_keys, notes_of, same_key}
use Rattle.push_history.specs.Shown.{told_cells}
use Rattle.push_history.proofs.Notes.{map_range_same}
use Rattle.octo_text.specs.Content.{content_of}
use Rattle.octo_text.specs.declared.journal.Journal.{Journal as Kept}
use Rattle.told_table.specs.Tables.{IsTableOf, all_messages, lists_of}
use Rattle.audit_law.specs.declared.failure.Failure.{Failure}
use Rattle.audit_law.specs.declared.failure.Value.TheVariants.{Number, Signed, Key, Absent}
use Rattle.audit_law.specs.LineNumbers.{live_line, missed_line}
use Rattle.audit_law.specs.Firsts.{first_of}
use Rattle.audit_law.specs.Tests.{Test, test, first_failing}
use Rattle.audit_law.specs.LiveTests.{is_count_min, is_loglog, is_lone, is_sent_key, key_at, key_there, live_alone, missed_alone, live_tests, missed_tests, place_tests, twice_test}
use Rattle.audit_law.proofs.Failing.{first_of_both}
use Rattle.live_state.specs.Fold.{StateView}
use Rattle.live_audit.specs.Alone.{IsAlone}
use Rattle.live_audit.specs.Bounds.{bounds_tests}
use Rattle.live_audit.specs.Counted.{has_key, is_missed, is_possible, is_sure}
use Rattle.live_audit.proofs.Counting.{all_are, among_distinct, count_same, filter_twice, flat_lists}

pub live_line_at : (j : Journal) (first i : ℕ) → first ≡ live_line j 0 → first + i ≡ live_line j i
unfolding live_line
live_line_at j first i is = omega (arith, is)

pub missed_line_at : (j : Journal) (first : ℕ) → first ≡ live_line j 0 → first + length j.live ≡ missed_line j
unfolding live_line missed_line
missed_line_at j first is = omega (arith, is)

module _ (o : Options) (j : Journal) (messages : List (List Push)) (i : ℕ) where
  abbrev line : ℕ
  line = live_line j i

  abbrev key : FlowKey
  key = key_at j.live i

  abbrev sent_test : Test
  sent_test = test line (Key key) Absent (not (is_loglog o.sketch) && is_sent_key messages key)

  abbrev room_test : Test
  room_test = test line (Number (i + 1)) (Number o.heavy) (nat_lt i o.heavy)

  abbrev reach_test : Test
  reach_test = test line (Signed (estimate_on_all o messages key)) (Signed o.least) (not (is_count_min o.sketch) || int_le o.least (estimate_on_all o messages key))

  abbrev alone_test : Test
  alone_test = test line (Key key) (key_there (live_alone o messages) i)
      (not (is_lone messages) || (nat_lt i (length (live_alone o messages)) && same_key (key_at (live_alone o messages) i) key))

  pub key_parts : (absent twice room reach alone : Option Failure) → absent ≡ first_failing (sent_test ∷ []) → twice ≡ first_failing (map (twice_test j i) (range_with_len 0 i))
      → room ≡ first_failing (room_test ∷ []) → reach ≡ first_failing (reach_test ∷ []) → alone ≡ first_failing (alone_test ∷ [])
      → first_of absent (first_of twice (first_of room (first_of reach alone))) ≡ first_failing (live_tests o j messages i)
  unfolding live_tests place_tests
  key_parts absent twice room reach alone a b c d e =
      let twices = map (twice_test j i) (range_with_len 0 i) in
      ap₂ first_of a
      (ap₂ first_of b
      (ap₂ first_of c (ap₂ first_of d e ∙ sym (first_of_both (reach_test ∷ []) (alone_test ∷ []))) ∙ sym (first_of_both (room_test ∷ []) (reach_test ∷ alone_test ∷ [])))
      ∙ sym (first_of_both twices (room_test ∷ reach_test ∷ alone_test ∷ [])))
      ∙ sym (first_of_both (sent_test ∷ []) (twices ++ (room_test ∷ reach_test ∷ alone_test ∷ [])))

  pub twice_are : (at first : ℕ) → at ≡ line → first ≡ live_line j 0
      → map (λ e. test at (Key (key_at j.live i)) (Number (first + e)) (not (same_key (key_at j.live e) (key_at j.live i)))) (range_with_len 0 i) ≡ map (twice_test j i) (range_with_len 0 i)
  unfolding twice_test
  twice_are at first here is =
      map_range_same (λ e. test at (Key (key_at j.live i)) (Number (first + e)) (not (same_key (key_at j.live e) (key_at j.live i)))) (twice_test j i) 0 i
      (λ e _ _. ap₂ (λ (a b : ℕ). test a (Key (key_at j.live i)) (Number b) (not (same_key (key_at j.live e) (key_at j.live i)))) here (live_line_at j first e is))

-- a live key, from what is known of it
module _ (o : Options) (j : Journal) (messages : List (List Push)) (i at first : ℕ) (here : at ≡ live_line j i) (first_is : first ≡ live_line j 0) (k : FlowKey) (key_is : k ≡ key_at j.live i) where
  pub key_joined : (heard : Bool) (estimate : ℤ) (absent twice room reach alone : Option Failure)
      → heard ≡ (not (is_loglog o.sketch) && is_sent_key messages (key_at j.live i)) → estimate ≡ estimate_on_all o messages (key_at j.live i)
      → absent ≡ first_failing (test at (Key k) Absent heard ∷ [])
      → twice ≡ first_failing (map (λ e. test at (Key (key_at j.live i)) (Number (first + e)) (not (same_key (key_at j.live e) (key_at j.live i)))) (range_with_len 0 i))
      → room ≡ first_failing (test at (Number (i + 1)) (Number o.heavy) (nat_lt i o.heavy) ∷ [])
      → reach ≡ first_failing (test at (Signed estimate) (Signed o.least) (not (is_count_min o.sketch) || int_le o.least estimate) ∷ [])
      → alone ≡ first_failing (test at (Key k) (key_there (live_alone o messages) i)
      (not (is_lone messages) || (nat_lt i (length (live_alone o messages)) && same_key (key_at (live_alone o messages) i) k)) ∷ [])
      → first_of absent (first_of twice (first_of room (first_of reach alone))) ≡ first_failing (live_tests o j messages i)
  key_joined heard estimate absent twice room reach alone hears says a b c d e =
      let lone : ℕ → FlowKey → Option Failure = λ l x. first_failing (test l (Key x) (key_there (live_alone o messages) i)
      (not (is_lone messages) || (nat_lt i (length (live_alone o messages)) && same_key (key_at (live_alone o messages) i) x)) ∷ []) in
      key_parts o j messages i absent twice room reach alone
      (a ∙ ap₂ (λ (l : ℕ) (x : FlowKey). first_failing (test l (Key x) Absent heard ∷ [])) here key_is
      ∙ ap (λ (x : Bool). first_failing (test (live_line j i) (Key (key_at j.live i)) Absent x ∷ [])) hears)
      (b ∙ ap first_failing (twice_are o j messages i at first here first_is))
      (c ∙ ap (λ (l : ℕ). first_failing (test l (Number (i + 1)) (Number o.heavy) (nat_lt i o.heavy) ∷ [])) here)
      (d ∙ ap₂ (λ (l : ℕ) (z : ℤ). first_failing (test l (Signed z) (Signed o.least) (not (is_count_min o.sketch) || int_le o.least z) ∷ [])) here says)
      (e ∙ ap₂ lone here key_is)

-- what is known of all messages
module _ (r : Rules) (o : Options) (same : r ≡ rules_in o) (lists : List (Vec Push)) where
  abbrev sent : List (List Push)
  sent = lists_of lists

  pub sent_key_is : (key : FlowKey) → has_key (all_messages lists) key ≡ is_sent_key sent key
  unfolding is_sent_key
  sent_key_is key = ap (λ (ms : List Push). has_key ms key) (all_are lists)

  pub estimate_is : (table : TableView) (key : FlowKey) → table.shape ≡ o.shape → IsTableOf r table (all_messages lists)
      → r.estimate table.shape table.cells key ≡ estimate_on_all o sent key
  estimate_is table key shape told =
      ap (λ (t : List ℤ). r.estimate table.shape t key) told
      ∙ ap (λ (ms : List Push). r.estimate table.shape (told_cells r table.shape ms) key) (all_are lists)
      ∙ ap₂ (λ (s : Rules) (x : Shape). s.estimate x (told_cells s x (all_of sent)) key) same shape

  pub keys_are : live_keys r o.shape o.heavy o.least (all_messages lists) ≡ live_alone o sent
  unfolding live_alone
  keys_are = ap₂ (λ (s : Rules) (ms : List Push). live_keys s o.shape o.heavy o.least ms) same (all_are lists)

  pub missed_are : missed_keys r o.shape o.heavy o.least (all_messages lists) ≡ missed_alone o sent
  unfolding missed_alone
  missed_are = ap₂ (λ (s : Rules) (ms : List Push). missed_keys s o.shape o.heavy o.least ms) same (all_are lists)

  -- counted messages
  pub others_are : (live : List FlowKey) → count_by (is_missed (distinct_keys live)) (all_messages lists) ≡ length (not_live live (all_of sent))
  others_are live =
      count_same (is_missed (distinct_keys live)) (is_missed live) (all_messages lists) (λ m. ap not (among_distinct live m.key))
      ∙ sym (length-filter (is_missed live) (all_messages lists))
      ∙ ap (λ (ms : List Push). length (not_live live ms)) (all_are lists)

  pub sure_are : (live : List FlowKey) → count_by (is_sure o.least (distinct_keys live)) (flat_map (λ list. notes_of r o.shape list.items) lists) ≡ length (sure_missed o sent live)
  sure_are live =
      let notes : List Flow = flat_map (λ list. notes_of r o.shape list.items) lists in
      count_same (is_sure o.least (distinct_keys live)) (is_sure o.least live) notes (λ n. ap (λ (b : Bool). int_le o.least n.estimate && not b) (among_distinct live n.key))
      ∙ sym (length-filter (is_sure o.least live) notes)
      ∙ ap (λ (ns : List Flow). length (filter (is_sure o.least live) ns)) (flat_lists (notes_of r o.shape) lists ∙ ap (λ (s : Rules). flat_map (notes_of s o.shape) sent) same)

  pub possible_are : (live : List FlowKey) (table : TableView) → table.shape ≡ o.shape → IsTableOf r table (all_messages lists)
      → count_by (is_possible r table o.least (distinct_keys live)) (all_messages lists) ≡ length (possible_missed o sent live)
  possible_are live table shape told =
      let far : Push → Bool = λ m. int_le o.least (estimate_on_all o sent m.key) in
      let both : Push → Bool = λ m. is_missed live m && far m in
      count_same (is_possible r table o.least (distinct_keys live)) both (all_messages lists)
      (λ m. ap₂ (λ (a b : Bool). a && b) (ap not (among_distinct live m.key)) (ap (int_le o.least) (estimate_is table m.key shape told)))
      ∙ sym (length-filter both (all_messages lists))
      ∙ ap length (sym (filter_twice (is_missed live) far (all_messages lists)))
      ∙ ap (λ (ms : List Push). length (filter far (filter (is_missed live) ms))) (all_are lists)

-- how many were missed
module _ (o : Options) (j : Journal) (messages : List (List Push)) where
  abbrev at : ℕ
  at = missed_line j

  abbrev full_test : Test
  full_test = test at (Number j.missed) (Number 0) ((j.missed == 0) || (not (is_loglog o.sketch) && nat_le o.heavy (length j.live)))

  abbrev most_test : Test
  most_test = test at (Number j.missed) (Number (length (not_live j.live (all_of messages)))) (nat_le j.missed (length (not_live j.live (all_of messages))))

  abbrev alone_tests : List Test
  alone_tests =
      test at (Number (length j.live)) (Number (length (live_alone o messages))) (not (is_lone messages) || (length j.live == length (live_alone o messages)))
      ∷ test at (Number j.missed) (Number (missed_alone o messages)) (not (is_lone messages) || (j.missed == missed_alone o messages)) ∷ []

  pub missed_parts : (full most bounds alone : Option Failure) → full ≡ first_failing (full_test ∷ []) → most ≡ first_failing (most_test ∷ [])
      → bounds ≡ first_failing (bounds_tests at o j messages) → alone ≡ first_failing alone_tests
      → first_of full (first_of most (first_of bounds alone)) ≡ first_failing (missed_tests o j messages)
  unfolding missed_tests
  missed_parts full most bounds alone a b c d =
      let bounding = bounds_tests at o j messages in
      ap₂ first_of a
      (ap₂ first_of b (ap₂ first_of c d ∙ sym (first_of_both bounding alone_tests)) ∙ sym (first_of_both (most_test ∷ []) (bounding ++ alone_tests)))
      ∙ sym (first_of_both (full_test ∷ []) (most_test ∷ (bounding ++ alone_tests)))

pub alone_as : (r : Rules) (o : Options) (same : r ≡ rules_in o) (lists : List (Vec Push)) (alone : Option StateView)
    → IsAlone (is_lone (lists_of lists)) (live_keys r o.shape o.heavy o.least (all_messages lists)) (missed_keys r o.shape o.heavy o.least (all_messages lists)) alone
    → IsAlone (is_lone (lists_of lists)) (live_alone o (lists_of lists)) (missed_alone o (lists_of lists)) alone
alone_as r o same lists alone is =
    subst (λ (keys : List FlowKey). IsAlone (is_lone (lists_of lists)) keys (missed_alone o (lists_of lists)) alone) (keys_are r o same lists)
    (subst (λ (missed : ℕ). IsAlone (is_lone (lists_of lists)) (live_keys r o.shape o.heavy o.least (all_messages lists)) missed alone) (missed_are r o same lists) is)

pub missed_joined : (o : Options) (j : Journal) (messages : List (List Push)) (line live others : ℕ) (full most bounds alone : Option Failure)
    → line ≡ missed_line j → live ≡ length j.live → others ≡ length (not_live j.live (all_of messages))
    → full ≡ first_failing (test line (Number j.missed) (Number 0) ((j.missed == 0) || (not (is_loglog o.sketch) && nat_le o.heavy live)) ∷ [])
    → most ≡ first_failing (test line (Number j.missed) (Number others) (nat_le j.missed others) ∷ [])
    → bounds ≡ first_failing (bounds_tests line o j messages)
    → alone ≡ first_failing (test line (Number live) (Number (length (live_alone o messages))) (not (is_lone messages) || (live == length (live_alone o messages)))
    ∷ test line (Number j.missed) (Number (missed_alone o messages)) (not (is_lone messages) || (j.missed == missed_alone o messages)) ∷ [])
    → first_of full (first_of most (first_of bounds alone)) ≡ first_failing (missed_tests o j messages)
missed_joined o j messages line live others full most bounds alone at long are a b c d =
    missed_parts o j messages full most bounds alone
    (a ∙ ap₂ (λ (l n : ℕ). first_failing (test l (Number j.missed) (Number 0) ((j.missed == 0) || (not (is_loglog o.sketch) && nat_le o.heavy n)) ∷ [])) at long)
    (b ∙ ap₂ (λ (l n : ℕ). first_failing (test l (Number j.missed) (Number n) (nat_le j.missed n) ∷ [])) at are)
    (c ∙ ap (λ (l : ℕ). first_failing (bounds_tests l o j messages)) at)
    (d ∙ ap₂ (λ (l n : ℕ). first_failing (test l (Number n) (Number (length (live_alone o messages))) (not (is_lone messages) || (n == length (live_alone o messages)))
    ∷ test l (Number j.missed) (Number (missed_alone o messages)) (not (is_lone messages) || (j.missed == missed_alone o messages)) ∷ [])) at long)

-- with Count-Min, the two tests of the bounds
pub bounds_parts : (line : ℕ) (o : Options) (j : Journal) (messages : List (List Push)) (sure possible : ℕ) (few many : Option Failure) → is_count_min o.sketch ≡ true
    → sure ≡ length (sure_missed o messages j.live) → possible ≡ length (possible_missed o messages j.live)
    → few ≡ first_failing (test line (Number j.missed) (Number sure) (nat_le sure j.missed) ∷ [])
    → many ≡ first_failing (test line (Number j.missed) (Number possible) (nat_le j.missed possible) ∷ [])
    → first_of few many ≡ first_failing (bounds_tests line o j messages)
bounds_parts line o j messages sure possible few many cm a b c d =
    let far : ℕ → Bool → Test = λ n x. test line (Number j.missed) (Number n) (not x || nat_le n j.missed) in
    let near : ℕ → Bool → Test = λ n x. test line (Number j.missed) (Number n) (not x || nat_le j.missed n) in
    let sures = length (sure_missed o messages j.live) in
    let possibles = length (possible_missed o messages j.live) in
    ap₂ first_of (c ∙ ap₂ (λ (n : ℕ) (x : Bool). first_failing (far n x ∷ [])) a (sym cm)) (d ∙ ap₂ (λ (n : ℕ) (x : Bool). first_failing (near n x ∷ [])) b (sym cm))
    ∙ sym (first_of_both (far sures (is_count_min o.sketch) ∷ []) (near possibles (is_count_min o.sketch) ∷ []))

pub keys_line : (j : Kept) (first : ℕ) → first ≡ live_line (content_of j) 0 → first + length j.lists.live.items ≡ missed_line (content_of j)
unfolding content_of
keys_line j first is = missed_line_at (content_of j) first is

some_is : (x k : FlowKey) → Some x ≡ Some k → x ≡ k
some_is x k is = ap (λ (f : Option FlowKey). elim f [ None ↦ x | Some y ↦ y ]) is

either : (a b : Bool) → b ≡ true → (a || b) ≡ true
either true b is = refl
either false b is = is

among_at : (keys : List FlowKey) (i : ℕ) (k : FlowKey) → slice_get keys i ≡ Some k → is_among keys k ≡ true
among_at [] i k at = absurd (cc)
among_at (x ∷ keys) zero k at = ap (λ (b : Bool). b || is_among keys k) (eq-same_key x k (some_is x k at))
among_at (x ∷ keys) (suc i) k at = either (same_key x k) (is_among keys k) (among_at keys i k at)

-- a live key is heard of where it is that of a message
pub heard_is : (r : Rules) (o : Options) (same : r ≡ rules_in o) (lists : List (Vec Push)) (live sent : List FlowKey) (i : ℕ) (k : FlowKey) → slice_get live i ≡ Some k
    → is_among sent k ≡ (is_among (distinct_keys live) k && has_key (all_messages lists) k) → is_among sent k ≡ is_sent_key (lists_of lists) k
heard_is r o same lists live sent i k at is =
    is ∙ ap (λ (b : Bool). b && has_key (all_messages lists) k) (among_distinct live k ∙ among_at live i k at) ∙ sent_key_is r o same lists k

-- what holds of a result that is equal to another value
pub if_ok : {E : Type 0} (result : Result (Option Failure) E) (a b : Option Failure) → a ≡ b → IfOk result (λ f. f ≡ a) → IfOk result (λ f. f ≡ b)
if_ok (Ok f) a b same is = is ∙ same
if_ok (Err e) a b same is = tt
