-- Counts over lists of lists.
use Rattle.std.proofs.Common.{◌≡◌, ◌<◌, ◌≤◌, ◌*◌, ◌+◌, ◌&&◌, ◌||◌, ℕ, ℤ, subst, List, [], ◌∷◌, ◌++◌, length, map, filter, get_or, Bool, true, false, if◌then◌else◌, count_by, refl, sym, ap, ap₂, ◌∙◌, arith, length-append}
use Rattle.std.specs.Prelude.{fold}
use Rattle.std.specs.List.{flat_map}
use Rattle.std.specs.Global.{Vec}
use Rattle.std.proofs.lemmas.List.{map-append}
use Rattle.std.proofs.lemmas.List.Elements.{filter-append}
use Rattle.std.proofs.lemmas.List.Folds.{list_any-append}
use Rattle.std.proofs.lemmas.List.Sums.{length-filter}
use Rattle.packet_key.specs.declared.key.FlowKey.{FlowKey}
use Rattle.packet_key.specs.Keys.{same_key}
use Rattle.packet_key.proofs.EqualKeys.{same_key-eq}
use Rattle.hash_rows.specs.declared.shape.Push.{Push}
use Rattle.push_history.specs.LawfulJournal.{all_of}
use Rattle.push_history.specs.LiveHeavy.{is_among, with_key, distinct_keys}
use Rattle.push_history.proofs.Lists.{filter_same}
use Rattle.push_history.proofs.LiveLists.{with_key_cases}
use Rattle.told_table.specs.Tables.{all_messages, lists_of}
use Rattle.told_table.specs.Tables.{AreSent, FitsIn, IsMessageFor}
use Rattle.std.specs.Prelude.{All, nat_lt}
use Rattle.std.proofs.lemmas.Bool.{and_from, lt-ltb}
use Rattle.std.proofs.lemmas.List.{get_or-map, length-map}
use Rattle.std.proofs.lemmas.List.Elements.{All-append, All-head, All-nil, All-tail}
use Rattle.hash_rows.specs.declared.options.Options.{Options}
use Rattle.hash_rows.specs.declared.shape.Flow.{Flow}
use Rattle.hash_rows.specs.declared.shape.Shape.{Shape}
use Rattle.hash_rows.specs.Rules.{Rules}
use Rattle.hash_rows.specs.Shapes.{size_of}
use Rattle.push_history.specs.LawfulJournal.{sent_by}
use Rattle.push_history.specs.Share.{zero_key}
use Rattle.std.specs.Prelude.{pos}
use Rattle.push_history.specs.LiveHeavy.{notes_of}
use Rattle.push_history.specs.Shown.{told_cells}
use Rattle.push_history.proofs.Notes.{notes_none, notes_push}
use Rattle.live_state.specs.Fold.{Fit, fits, layout_in}
use Rattle.live_audit.specs.Counted.{AreFew, has_key, is_sure}

pub count_both : {X : Type 0} (p : X → Bool) (xs ys : List X) → count_by p (xs ++ ys) ≡ count_by p xs + count_by p ys
count_both p xs ys =
    sym (length-filter p (xs ++ ys)) ∙ ap length (filter-append p xs ys) ∙ length-append (filter p xs) (filter p ys)
    ∙ ap₂ (λ (a b : ℕ). a + b) (length-filter p xs) (length-filter p ys)

pub count_same : {X : Type 0} (p q : X → Bool) (xs : List X) → ((x : X) → p x ≡ q x) → count_by p xs ≡ count_by q xs
count_same p q xs same =
    sym (length-filter p xs) ∙ ap length (filter_same p q xs (λ k d lt. same (get_or xs k d))) ∙ length-filter q xs

pub filter_twice : {X : Type 0} (p q : X → Bool) (xs : List X) → filter q (filter p xs) ≡ filter (λ x. p x && q x) xs
filter_twice p q [] = refl
filter_twice {X} p q (x ∷ xs) = by (p x) (filter_twice p q xs)
  where
    by : (b : Bool) → filter q (filter p xs) ≡ filter (λ y. p y && q y) xs
        → filter q (if b then x ∷ filter p xs else filter p xs) ≡ (if b && q x then x ∷ filter (λ y. p y && q y) xs else filter (λ y. p y && q y) xs)
    by true rest = ap (λ (t : List X). if q x then x ∷ t else t) rest
    by false rest = rest

-- of lists of messages
pub all_are : (lists : List (Vec Push)) → all_messages lists ≡ all_of (lists_of lists)
all_are [] = refl
all_are (list ∷ lists) = ap (λ (t : List Push). list.items ++ t) (all_are lists)

pub flat_lists : {X : Type 0} (f : List Push → List X) (lists : List (Vec Push)) → flat_map (λ list. f list.items) lists ≡ flat_map f (lists_of lists)
flat_lists f [] = refl
flat_lists {X} f (list ∷ lists) = ap (λ (t : List X). f list.items ++ t) (flat_lists f lists)

-- keys among others

or_assoc : (a b c : Bool) → ((a || b) || c) ≡ (a || (b || c))
or_assoc true b c = refl
or_assoc false b c = refl

pub key_both : (xs ys : List Push) (key : FlowKey) → has_key (xs ++ ys) key ≡ (has_key xs key || has_key ys key)
key_both xs ys key =
    ap (λ (ks : List FlowKey). is_among ks key) (map-append (λ m. m.key) xs ys) ∙ list_any-append (λ k. same_key k key) (map (λ m. m.key) xs) (map (λ m. m.key) ys)

or_no : (b : Bool) → (b || false) ≡ b
or_no true = refl
or_no false = refl

key_last : (keys : List FlowKey) (k key : FlowKey) → is_among (keys ++ k ∷ []) key ≡ (is_among keys key || same_key k key)
key_last keys k key = list_any-append (λ x. same_key x key) keys (k ∷ []) ∙ ap (λ (b : Bool). is_among keys key || b) (or_no (same_key k key))

or_there : (a b : Bool) → (b ≡ true → a ≡ true) → a ≡ (a || b)
or_there true b h = refl
or_there false true h = h refl
or_there false false h = refl

pub among_with : (keys : List FlowKey) (k key : FlowKey) → is_among (with_key keys k) key ≡ (is_among keys key || same_key k key)
among_with keys k key = with_key_cases (λ ys. is_among ys key ≡ (is_among keys key || same_key k key)) keys k
    (λ there. or_there (is_among keys key) (same_key k key) (λ same. ap (is_among keys) (sym (same_key-eq k key same)) ∙ there))
    (λ new. key_last keys k key)

pub among_distinct : (keys : List FlowKey) (key : FlowKey) → is_among (distinct_keys keys) key ≡ is_among keys key
among_distinct keys key = from keys [] key
  where
    from : (qs xs : List FlowKey) (key : FlowKey) → is_among (fold with_key xs qs) key ≡ (is_among xs key || is_among qs key)
    from [] xs key = sym (or_no (is_among xs key))
    from (q ∷ qs) xs key =
        from qs (with_key xs q) key ∙ ap (λ (b : Bool). b || is_among qs key) (among_with xs q key) ∙ or_assoc (is_among xs key) (same_key q key) (is_among qs key)

step : (a l t x lx : Bool) → (x ≡ true → l ≡ lx) → (if lx then ((a || (l && t)) || x) else (a || (l && t))) ≡ (a || (l && (t || x)))
step true l t x true h = refl
step true l t x false h = refl
step false true true x true h = refl
step false true true x false h = refl
step false true false false true h = refl
step false true false true true h = refl
step false true false false false h = refl
step false true false true false h = sym (h refl)
step false false t false true h = refl
step false false t true true h = sym (h refl)
step false false t x false h = refl

-- one message more
pub sent_more : (live sent : List FlowKey) (before : List Push) (m : Push) (key : FlowKey) (a : Bool) → is_among sent key ≡ (a || (is_among live key && has_key before key))
    → is_among (if is_among live m.key then with_key sent m.key else sent) key ≡ (a || (is_among live key && has_key (before ++ m ∷ []) key))
sent_more live sent before m key a is =
    chosen (is_among live m.key)
    ∙ ap (λ (b : Bool). if is_among live m.key then (b || same_key m.key key) else b) is
    ∙ step a (is_among live key) (has_key before key) (same_key m.key key) (is_among live m.key) (λ same. sym (ap (is_among live) (same_key-eq m.key key same)))
    ∙ ap (λ (b : Bool). a || (is_among live key && b)) (sym (key_both before (m ∷ []) key ∙ ap (λ (b : Bool). has_key before key || b) (or_no (same_key m.key key))))
  where
    chosen : (b : Bool) → is_among (if b then with_key sent m.key else sent) key ≡ (if b then (is_among sent key || same_key m.key key) else is_among sent key)
    chosen true = among_with sent m.key key
    chosen false = refl

and_or : (l a b : Bool) → ((l && a) || (l && b)) ≡ (l && (a || b))
and_or true a b = refl
and_or false a b = refl

-- one list more
pub lists_more : (live sent now : List FlowKey) (before list : List Push) (key : FlowKey) → is_among sent key ≡ (is_among live key && has_key before key)
    → is_among now key ≡ (is_among sent key || (is_among live key && has_key list key)) → is_among now key ≡ (is_among live key && has_key (before ++ list) key)
lists_more live sent now before list key is more =
    more ∙ ap (λ (b : Bool). b || (is_among live key && has_key list key)) is
    ∙ and_or (is_among live key) (has_key before key) (has_key list key)
    ∙ ap (λ (b : Bool). is_among live key && b) (sym (key_both before list key))

and_no : (b : Bool) → (b && false) ≡ false
and_no true = refl
and_no false = refl

pub none_sent : (live sent : List FlowKey) (key : FlowKey) → sent ≡ [] → is_among sent key ≡ (is_among live key && has_key [] key)
none_sent live sent key is = ap (λ (ks : List FlowKey). is_among ks key) is ∙ sym (and_no (is_among live key))

-- what the workers sent, among all messages
pub list_is : (lists : List (Vec Push)) (w : ℕ) (d : Vec Push) → w < length lists → sent_by (lists_of lists) w ≡ (get_or lists w d).items
list_is lists w d lt = get_or-map (λ (v : Vec Push). v.items) lists w d [] lt

pub lists_fit : (r : Rules) (shape : Shape) (lists : List (Vec Push)) → AreSent r shape (lists_of lists) → All (λ list. All (FitsIn r shape) list.items) lists
lists_fit r shape lists sent = λ w d lt.
    let own = sent w (omega (arith, lt, length-map lists (λ v. v.items))) in
    let here : All (IsMessageFor r shape w) (get_or lists w d).items = subst (λ (ms : List Push). All (IsMessageFor r shape w) ms) (list_is lists w d lt) own in
    λ k e below. ((here k e below).1, (here k e below).2)

flat_all : (P : Push → Type 0) (lists : List (Vec Push)) → All (λ list. All P list.items) lists → All P (all_messages lists)
flat_all P [] all = All-nil P
flat_all P (list ∷ lists) all =
    All-append P list.items (all_messages lists) (All-head (λ (v : Vec Push). All P v.items) list lists all) (flat_all P lists (All-tail (λ (v : Vec Push). All P v.items) list lists all))

pub all_fit : (r : Rules) (o : Options) (lists : List (Vec Push)) → length lists ≡ o.workers → AreSent r o.shape (lists_of lists) → Fit r (layout_in o) (all_messages lists)
all_fit r o lists workers sent = flat_all (λ m. fits r (layout_in o) m ≡ true) lists (λ w d lt.
    let own = sent w (omega (arith, lt, length-map lists (λ v. v.items))) in
    let here : All (IsMessageFor r o.shape w) (get_or lists w d).items = subst (λ (ms : List Push). All (IsMessageFor r o.shape w) ms) (list_is lists w d lt) own in
    λ k e below.
    let m : Push = get_or (get_or lists w d).items k e in
    let is = here k e below in
    let worker : nat_lt m.worker o.workers ≡ true = lt-ltb m.worker o.workers (omega (arith, is.0, lt, workers)) in
    let cell : nat_lt m.cell (size_of o.shape) ≡ true = lt-ltb m.cell (size_of o.shape) is.1 in
    and_from (nat_lt m.worker o.workers) (nat_lt m.cell (size_of o.shape) && r.is_value m.amount) worker
    (and_from (nat_lt m.cell (size_of o.shape)) (r.is_value m.amount) cell is.2))

flat_long : (lists : List (Vec Push)) → All (λ list. length list.items ≤ 134217728) lists → length (all_messages lists) ≤ 134217728 * length lists
flat_long [] few = omega arith
flat_long (list ∷ lists) few =
    omega (
      arith,
      length-append list.items (all_messages lists),
      All-head (λ (v : Vec Push). length v.items ≤ 134217728) list lists few,
      flat_long lists (All-tail (λ (v : Vec Push). length v.items ≤ 134217728) list lists few),
    )

pub all_few : (lists : List (Vec Push)) → AreFew lists → length (all_messages lists) ≤ 2147483648
all_few lists few = omega (arith, flat_long lists few.1, few.0)

-- what a list of messages shows past its end
abbrev pub no_message : Push
no_message = record { worker = 0; packet = 0; update = 0; key = zero_key; cell = 0; amount = pos 0 }

-- one note more
pub sure_more : (r : Rules) (shape : Shape) (least : ℤ) (live : List FlowKey) (before : List Push) (m : Push) (count one : ℕ) (estimate : ℤ)
    → count ≡ count_by (is_sure least live) (notes_of r shape before) → estimate ≡ r.estimate shape (told_cells r shape (before ++ m ∷ [])) m.key
    → one ≡ (if is_sure least live (record { key = m.key; estimate = estimate }) then 1 else 0)
    → count + one ≡ count_by (is_sure least live) (notes_of r shape (before ++ m ∷ []))
sure_more r shape least live before m count one estimate was said is =
    let p = is_sure least live in
    let note : Flow = record { key = m.key; estimate = r.estimate shape (told_cells r shape (before ++ m ∷ [])) m.key } in
    ap₂ (λ (a b : ℕ). a + b) was (is ∙ ap (λ (z : ℤ). if p (record { key = m.key; estimate = z }) then 1 else 0) said ∙ single (p note))
    ∙ sym (count_both p (notes_of r shape before) (note ∷ []))
    ∙ ap (count_by p) (sym (notes_push r shape before m))
  where
    single : (b : Bool) → (if b then 1 else 0) ≡ 0 + (if b then 1 else 0)
    single true = refl
    single false = refl

pub sure_none : (r : Rules) (shape : Shape) (least : ℤ) (live : List FlowKey) → 0 ≡ count_by (is_sure least live) (notes_of r shape [])
sure_none r shape least live = ap (count_by (is_sure least live)) (sym (notes_none r shape))
