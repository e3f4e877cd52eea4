-- What a lawful journal says of the live keys of a fold.
use Rattle.std.proofs.Common.{◌≡◌, ◌<◌, ◌≤◌, ◌≤ℤ◌, ℕ, ℤ, zero, suc, ◌==◌, pos, List, [], ◌∷◌, length, get_or, take, Bool, true, false, not, ◌&&◌, ◌||◌, if◌then◌else◌, refl, sym, ap, ◌∙◌, subst, arith, inl, inr}
use Rattle.std.specs.Prelude.{filter, map, int_le, All, Contains}
use Rattle.std.specs.List.{list_any, AllByRecursion, IsDistinct}
use Rattle.std.proofs.lemmas.Bool.{cases_lt}
use Rattle.std.proofs.lemmas.List.{take_all, take_more, get_or_past, get_or-map, length-map}
use Rattle.std.proofs.lemmas.List.Elements.{All-from_recursion, filter_passes}
use Rattle.std.proofs.lemmas.List.FromFn.{get_or-map-range_with_len, length-map-range_with_len}
use Rattle.packet_key.specs.declared.key.FlowKey.{FlowKey}
use Rattle.packet_key.specs.contracts.key.FlowKeyEq.TheImpl.Laws.{laws-law}
use Rattle.hash_rows.specs.declared.options.Options.{Options}
use Rattle.hash_rows.specs.declared.options.Sketch.{Sketch}
use Rattle.hash_rows.specs.declared.shape.Flow.{Flow}
use Rattle.hash_rows.specs.declared.shape.Push.{Push}
use Rattle.hash_rows.specs.declared.shape.Shape.{Shape}
use Rattle.packet_key.specs.Keys.{same_key}
use Rattle.hash_rows.specs.Rules.{Rules, rules_of}
use Rattle.packet_key.proofs.EqualKeys.{same_key-eq}
use Rattle.push_history.specs.Share.{zero_key}
use Rattle.push_history.specs.Front.{message_at, messages_of}
use Rattle.push_history.specs.Journal.{rules_in}
use Rattle.push_history.specs.LawfulJournal.{all_of, sent_by, not_live, IsLiveTable, IsGrowingTable, OnlyOf, estimate_on_all}
use Rattle.push_history.specs.LiveHeavy.{is_among, live_of, missed_of, note_at, notes_of}
use Rattle.push_history.specs.Shown.{told_cells}
use Rattle.push_history.proofs.Lists.{filter_kept, some_passes}
use Rattle.push_history.proofs.Notes.{note_by}
use Rattle.fold_law.specs.Folds.{IsFoldOf}
use Rattle.fold_law.proofs.Steps.{count, steps, steps_le}
use Rattle.fold_law.proofs.Live.{live_distinct, live_most, live_room, live_all, missed_count, count_all, count_own, count_notes}

get_or_any : (xs : List Push) (k : ℕ) (d : Push) → k < length xs → message_at xs k ≡ get_or xs k d
get_or_any [] k d lt = absurd (omega (arith, lt))
get_or_any (x ∷ xs) zero d lt = refl
get_or_any (x ∷ xs) (suc k) d lt = get_or_any xs k d (omega (arith, lt))

none_distinct : IsDistinct same_key []
unfolding IsDistinct
none_distinct = tt

-- one that passes is counted
steps_some : (q : List Push → Push → Bool) (H : List Push) (k i : ℕ) → i < k → q (take i H) (message_at H i) ≡ true → 1 ≤ steps q H k
steps_some q H zero i lt is = absurd (omega (arith, lt))
steps_some q H (suc k) i lt is = elim (cases_lt i k) [
  | inl early ↦ (let before = steps_some q H k i early is in omega arith)
  | inr last ↦ (let at : k ≡ i = omega (arith, lt, last) in
      let here : q (take k H) (message_at H k) ≡ true = ap (λ (n : ℕ). q (take n H) (message_at H n)) at ∙ is in
      rw here (omega arith))
]

any_counted : {X : Type 0} (p : X → Bool) (xs : List X) → 1 ≤ count p xs → list_any p xs ≡ true
any_counted p [] some = absurd (omega (arith, some))
any_counted p (x ∷ xs) some = by (p x) some (any_counted p xs)
  where
    by : (b : Bool) → 1 ≤ length (if b then x ∷ filter p xs else filter p xs) → (1 ≤ count p xs → list_any p xs ≡ true) → (b || list_any p xs) ≡ true
    by true some rest = refl
    by false some rest = rest some

none_counted : {X : Type 0} (p : X → Bool) (xs : List X) → All (λ x. p x ≡ false) xs → count p xs ≡ 0
none_counted p [] none = refl
none_counted p (x ∷ xs) none =
    let fails : p x ≡ false = none 0 x (omega arith) in
    rw fails (none_counted p xs (λ k d lt. none (suc k) d (omega (arith, lt))))

key_there : (xs : List Push) (key : FlowKey) → 1 ≤ count (λ m. same_key m.key key) xs → Contains (map (λ m. m.key) xs) key
key_there xs key some =
    let at = some_passes (λ m. same_key m.key key) xs (any_counted (λ m. same_key m.key key) xs some) in
    let d : Push = record { worker = 0; packet = 0; update = 0; key = key; cell = 0; amount = pos 0 } in
    (at.0, omega (arith, at.1, length-map xs (λ m. m.key)), get_or-map (λ m. m.key) xs at.0 d key at.1 ∙ same_key-eq (get_or xs at.0 d).key key (at.2 d))

-- note k of a fold
note_is : (r : Rules) (shape : Shape) (H : List Push) (k : ℕ) (d : Flow) → k < length H → get_or (notes_of r shape H) k d ≡ note_by r shape (take k H) (message_at H k)
unfolding notes_of note_at
note_is r shape H k d lt =
    get_or-map-range_with_len (note_at r shape H) 0 (length H) k k d lt (omega arith)
    ∙ ap (λ (t : List Push). record { key = (message_at H k).key; estimate = r.estimate shape (told_cells r shape t) (message_at H k).key })
    (take_more H k (record { worker = 0; packet = 0; update = 0; key = zero_key; cell = 0; amount = pos 0 }) lt)

notes_length : (r : Rules) (shape : Shape) (H : List Push) → length (notes_of r shape H) ≡ length H
unfolding notes_of
notes_length r shape H = length-map-range_with_len (note_at r shape H) 0 (length H)

and_right : (a b : Bool) → (a && b) ≡ true → b ≡ true
and_right true b is = is
and_right false b is = absurd (cc)

and_left : (a b : Bool) → (a && b) ≡ true → a ≡ true
and_left true b is = refl
and_left false b is = absurd (cc)

and_both : (a b : Bool) → a ≡ true → b ≡ true → (a && b) ≡ true
and_both true b first second = second
and_both false b first second = absurd (cc)

-- the missed ones, message by message
missed_steps : (r : Rules) (shape : Shape) (limit : ℕ) (least : ℤ) (H : List Push)
    → missed_of limit least (notes_of r shape H)
    ≡ steps (λ T m. int_le least (note_by r shape T m).estimate && not (is_among (live_of limit least (notes_of r shape H)) (note_by r shape T m).key)) H (length H)
unfolding missed_of
missed_steps r shape limit least H =
    let live : List FlowKey = live_of limit least (notes_of r shape H) in
    missed_count live least (notes_of r shape H)
    ∙ ap (λ (t : List Push). count (λ note. int_le least note.estimate && not (is_among live note.key)) (notes_of r shape t)) (sym (take_all (length H) H (omega arith)))
    ∙ count_notes r shape (λ note. int_le least note.estimate && not (is_among live note.key)) H (length H) (omega arith)

module _ (o : Options) (messages : List (List Push)) (H : List Push) (h : IsFoldOf messages H) where
  live : List FlowKey
  live = live_of o.heavy o.least (notes_of (rules_in o) o.shape H)

  missed : ℕ
  missed = missed_of o.heavy o.least (notes_of (rules_in o) o.shape H)

  live_there : AllByRecursion (λ key. Contains (map (λ m. m.key) (all_of messages)) key) (live_of o.heavy o.least (notes_of (rules_in o) o.shape H))
  live_there =
      live_all (λ key. Contains (map (λ m. m.key) (all_of messages)) key) o.heavy o.least (notes_of (rules_in o) o.shape H)
      (λ k d lt is.
      let within : k < length H = omega (arith, lt, notes_length (rules_in o) o.shape H) in
      let key : FlowKey = (message_at H k).key in
      let some : 1 ≤ steps (λ T m. same_key m.key key) H (length H) = steps_some (λ T m. same_key m.key key) H (length H) k within (laws-law.refl key) in
      let counted = count_all messages H h (λ m. same_key m.key key) in
      subst (λ (f : Flow). Contains (map (λ m. m.key) (all_of messages)) f.key) (sym (note_is (rules_in o) o.shape H k d within)) (key_there (all_of messages) key (omega (arith, some, counted))))

  missed_few : missed_of o.heavy o.least (notes_of (rules_in o) o.shape H) ≤ length (not_live (live_of o.heavy o.least (notes_of (rules_in o) o.shape H)) (all_of messages))
  missed_few =
      let L : List FlowKey = live_of o.heavy o.least (notes_of (rules_in o) o.shape H) in
      let by_steps = missed_steps (rules_in o) o.shape o.heavy o.least H in
      let fewer = steps_le (λ T m. int_le o.least (note_by (rules_in o) o.shape T m).estimate && not (is_among L (note_by (rules_in o) o.shape T m).key)) (λ T m. not (is_among L m.key)) H (length H) (omega arith)
      (λ i lt is. and_right (int_le o.least (note_by (rules_in o) o.shape (take i H) (message_at H i)).estimate) (not (is_among L (message_at H i).key)) is) in
      let counted = count_all messages H h (λ m. not (is_among L m.key)) in
      omega (arith, by_steps, fewer, counted)

  -- the clauses on every kind of sketch
  pub live_table : (b : Bool) → (rules_in o).keyed ≡ b
      → IsLiveTable o messages (if b then live_of o.heavy o.least (notes_of (rules_in o) o.shape H) else []) (if b then missed_of o.heavy o.least (notes_of (rules_in o) o.shape H) else 0)
  live_table true keyed = record {
    distinct = live_distinct o.heavy o.least (notes_of (rules_in o) o.shape H);
    most = live_most o.heavy o.least (notes_of (rules_in o) o.shape H);
    keys = All-from_recursion (λ key. Contains (map (λ m. m.key) (all_of messages)) key) (live_of o.heavy o.least (notes_of (rules_in o) o.shape H)) live_there;
    room = live_room o.heavy o.least (notes_of (rules_in o) o.shape H);
    few = missed_few;
    none_of_loglog = λ is. absurd (let no : false ≡ true = sym (ap (λ (s : Sketch). (rules_of s).keyed) is) ∙ keyed in cc);
  }
  live_table false keyed = record {
    distinct = none_distinct;
    most = omega arith;
    keys = λ k d lt. absurd (omega (arith, lt));
    room = λ lt. refl;
    few = omega arith;
    none_of_loglog = λ is. (refl, refl);
  }

  -- where one worker alone has messages, the fold is its list
  pub only_fold : (w : ℕ) → OnlyOf messages w → H ≡ sent_by messages w
  only_fold w only = elim (cases_lt w (length messages)) [
    | inl inside ↦ (let own : messages_of w H ≡ sent_by messages w = h.in_order w inside in
        let none : count (λ m. not (m.worker == w)) (all_of messages) ≡ 0 = ap (count (λ m. not (m.worker == w))) (only ∙ sym own)
        ∙ none_counted (λ m. not (m.worker == w)) (messages_of w H) (λ k d lt. let is = filter_passes (λ m. m.worker == w) H k d lt in ap not is) in
        let counted = count_all messages H h (λ m. not (m.worker == w)) in
        sym (filter_kept (λ m. m.worker == w) H (each_of H (λ m. m.worker == w) (omega (arith, none, counted)))) ∙ own)
    | inr past ↦ (let nothing : sent_by messages w ≡ [] = get_or_past messages w [] past in
        let counted = count_all messages H h (λ m. true) in
        let none : count (λ m. true) (all_of messages) ≡ 0 = ap (count (λ m. true)) (only ∙ nothing) in
        no_steps H (omega (arith, none, counted)) ∙ sym nothing)
  ]
    where
      each_of : (H : List Push) (p : Push → Bool) → steps (λ T m. not (p m)) H (length H) ≡ 0 → All (λ m. p m ≡ true) H
      each_of H p none = λ k d lt. by k d lt (p (get_or H k d)) refl
        where
          by : (k : ℕ) (d : Push) → k < length H → (b : Bool) → p (get_or H k d) ≡ b → p (get_or H k d) ≡ true
          by k d lt true is = is
          by k d lt false is =
              let same : message_at H k ≡ get_or H k d = get_or_any H k d lt in
              let passes : not (p (message_at H k)) ≡ true = ap (λ (m : Push). not (p m)) same ∙ ap not is in
              let some = steps_some (λ T m. not (p m)) H (length H) k lt passes in
              absurd (omega (arith, some, none))

      no_steps : (H : List Push) → steps (λ T m. true) H (length H) ≡ 0 → H ≡ []
      no_steps [] none = refl
      no_steps (x ∷ xs) none = absurd (let some = steps_some (λ T m. true) (x ∷ xs) (length (x ∷ xs)) 0 (omega arith) refl in omega (arith, some, none))

  -- for a sketch whose estimates only grow as messages come
  pub growing : (rules_in o).keyed ≡ true
      → ((i : ℕ) → i < length H → (note_by (rules_in o) o.shape (messages_of (message_at H i).worker (take i H)) (message_at H i)).estimate ≤ℤ (note_by (rules_in o) o.shape (take i H) (message_at H i)).estimate)
      → ((i : ℕ) → i < length H → (note_by (rules_in o) o.shape (take i H) (message_at H i)).estimate ≤ℤ estimate_on_all o messages (message_at H i).key)
      → IsGrowingTable o messages (live_of o.heavy o.least (notes_of (rules_in o) o.shape H)) (missed_of o.heavy o.least (notes_of (rules_in o) o.shape H))
  growing keyed own all =
      let r : Rules = rules_in o in
      let L : List FlowKey = live_of o.heavy o.least (notes_of r o.shape H) in
      let by_steps = missed_steps r o.shape o.heavy o.least H in
      let sure_counted = count_own messages H h r o.shape (λ note. int_le o.least note.estimate && not (is_among L note.key)) in
      let sure_less = steps_le
      (λ T m. int_le o.least (note_by r o.shape (messages_of m.worker T) m).estimate && not (is_among L m.key))
      (λ T m. int_le o.least (note_by r o.shape T m).estimate && not (is_among L m.key)) H (length H) (omega arith)
      (λ i lt is. and_both (int_le o.least (note_by r o.shape (take i H) (message_at H i)).estimate) (not (is_among L (message_at H i).key))
      (int_le_more o.least _ _ (and_left (int_le o.least (note_by r o.shape (messages_of (message_at H i).worker (take i H)) (message_at H i)).estimate) (not (is_among L (message_at H i).key)) is) (own i lt))
      (and_right (int_le o.least (note_by r o.shape (messages_of (message_at H i).worker (take i H)) (message_at H i)).estimate) (not (is_among L (message_at H i).key)) is)) in
      let possible_counted = count_all messages H h (λ m. not (is_among L m.key) && int_le o.least (estimate_on_all o messages m.key)) in
      let possible_more = steps_le
      (λ T m. int_le o.least (note_by r o.shape T m).estimate && not (is_among L m.key))
      (λ T m. not (is_among L m.key) && int_le o.least (estimate_on_all o messages m.key)) H (length H) (omega arith)
      (λ i lt is. and_both (not (is_among L (message_at H i).key)) (int_le o.least (estimate_on_all o messages (message_at H i).key))
      (and_right (int_le o.least (note_by r o.shape (take i H) (message_at H i)).estimate) (not (is_among L (message_at H i).key)) is)
      (int_le_more o.least _ _ (and_left (int_le o.least (note_by r o.shape (take i H) (message_at H i)).estimate) (not (is_among L (message_at H i).key)) is) (all i lt))) in
      record {
        reach = All-from_recursion (λ key. o.least ≤ℤ estimate_on_all o messages key) L
            (live_all (λ key. o.least ≤ℤ estimate_on_all o messages key) o.heavy o.least (notes_of r o.shape H)
            (λ k d lt is.
            let within : k < length H = omega (arith, lt, notes_length r o.shape H) in
            let same : get_or (notes_of r o.shape H) k d ≡ note_by r o.shape (take k H) (message_at H k) = note_is r o.shape H k d within in
            subst (λ (f : Flow). o.least ≤ℤ estimate_on_all o messages f.key) (sym same)
            (int_le_is o.least _ (int_le_more o.least _ _ (ap (λ (f : Flow). int_le o.least f.estimate) (sym same) ∙ is) (all k within)))));
        sure = omega (arith, by_steps, sure_counted, sure_less);
        possible = omega (arith, by_steps, possible_counted, possible_more, ap length (filter_twice (λ m. int_le o.least (estimate_on_all o messages m.key)) (λ m. not (is_among L m.key)) (all_of messages)));
      }
    where
      int_le_is : (a b : ℤ) → int_le a b ≡ true → a ≤ℤ b
      int_le_is a b is = grind arith

      int_le_more : (a b c : ℤ) → int_le a b ≡ true → b ≤ℤ c → int_le a c ≡ true
      int_le_more a b c is le = let first : a ≤ℤ b = int_le_is a b is in grind arith

      filter_twice : (q p : Push → Bool) (xs : List Push) → filter q (filter p xs) ≡ filter (λ m. p m && q m) xs
      filter_twice q p [] = refl
      filter_twice q p (x ∷ xs) = by (p x) (filter_twice q p xs)
        where
          by : (b : Bool) → filter q (filter p xs) ≡ filter (λ m. p m && q m) xs
              → filter q (if b then x ∷ filter p xs else filter p xs) ≡ (if b && q x then x ∷ filter (λ m. p m && q m) xs else filter (λ m. p m && q m) xs)
          by true rest = ap (λ t. if q x then x ∷ t else t) rest
          by false rest = rest
