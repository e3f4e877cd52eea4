-- What the parse of a command says of a line of the grammar.
use Rattle.std.proofs.Common.{◌≡◌, ◌∙◌, ◌&&◌, ◌||◌, ◌⊎◌, ℕ, Bool, cond, true, false, not, refl, sym, ap, ap₂, subst, List, [], ◌∷◌, ◌++◌, map, Option, Some, None, inl, inr, true≢false, codes}
use Rattle.std.specs.Prelude.{find, fold, option_map, option_and_then, is_some, slice_get, ⊤}
use Rattle.std.specs.Option.{option_map_or}
use Rattle.std.specs.List.{list_all, list_any}
use Rattle.std.specs.Str.{bytes_eq}
use Rattle.clap.specs.Kinds.{Kinds, or_else}
use Rattle.clap.specs.Walk.{Row, Rule, first_of, has_row, is_early_multiple, nothing_held, one_of, row_text, settled, walk, walk_from, with_default, default_rows, reading_by, more_values}
use Rattle.clap.specs.Simple.{App, built, filled_from, is_simple, matches_of}
use Rattle.clap.specs.Faults.{built_fault, check_fault, default_fault, defaults_fault, fault_of, is_simple_and_free, level_fault, settle_fault, walk_fault}
use Rattle.clap.specs.Takes.{is_given}
use Rattle.clap.specs.Walk.{rows_of}
use Rattle.clap.specs.Kinds.{IsAmong}
use Rattle.clap.specs.Matches.{found_of}
use Rattle.clap.specs.declared.error.kind.ErrorKind.{ErrorKind}
use Rattle.clap.specs.declared.error.kind.ErrorKind.TheVariants.{OutOfMemory}
use Rattle.clap.specs.declared.parser.matches.ArgMatches.{ArgMatches}
use Rattle.clap.proofs.WalkLemmas.{first_value-rows, one_text-rows}
use Rattle.clap.proofs.FaultLemmas.{leaf_fault}
use Rattle.words.specs.Matches.{HasLine, IsFlagKept, flag_text}
use Rattle.words.specs.Names.{is_flag}
use Rattle.words.specs.Forms.{is_form}
use Rattle.words.specs.Grammar.{IsNoLine, kind_by, AreOnce, AreParts, IsCommandLine, IsPart, Name, Part, Text, is_in, name_of, value_in}
use Rattle.words.specs.Rules.{app_of_names, rule_at, rule_by, rules, rule_told, top}
use Rattle.words.proofs.Texts.{and_both, bool_cases, both_pass, bytes_same, not_true, or_neither, same_bytes}
use Rattle.clap.specs.declared.builder.value_parser.Reading.TheVariants.{AsWritten}
use Rattle.clap.specs.declared.parser.matches.ValueSource.TheVariants.{DefaultValue}
use Rattle.words.proofs.Walks.{at_missing_row, part_row, text_for}
use Rattle.words.proofs.Lines.{Fresh, are_names, complete, sound}

-- ---- no row yet, and no name twice

abbrev Free : List Row → List Part → Type 0
Free rows [] = ⊤
Free rows (p ∷ ps) = (has_row p.name rows ≡ false) × Free rows ps

has_row_last : (id : Text) (rows : List Row) (r : Row) → has_row id (rows ++ r ∷ []) ≡ (has_row id rows || bytes_eq r.id id)
has_row_last id [] r = go (bytes_eq r.id id)
  where
    go : (b : Bool) → (b || false) ≡ b
    go true = refl
    go false = refl
has_row_last id (x ∷ xs) r = go (bytes_eq x.id id) (has_row_last id xs r)
  where
    go : (b : Bool) → has_row id (xs ++ r ∷ []) ≡ (has_row id xs || bytes_eq r.id id) → (b || has_row id (xs ++ r ∷ [])) ≡ ((b || has_row id xs) || bytes_eq r.id id)
    go true e = refl
    go false e = e

neither_or : (a b : Bool) → a ≡ false → b ≡ false → (a || b) ≡ false
neither_or a b e f = ap₂ (λ (x y : Bool). x || y) e f

free_last : (rows : List Row) (p : Part) (ps : List Part) → Free (rows ++ part_row p ∷ []) ps → Free rows ps × (list_any (λ q. bytes_eq p.name q.name) ps ≡ false)
free_last rows p [] f = (tt, refl)
free_last rows p (q ∷ qs) f =
    let both = or_neither _ _ (sym (has_row_last q.name rows (part_row p)) ∙ f.0) in
    let more = free_last rows p qs f.1 in
    ((both.0, more.0), neither_or _ _ both.1 more.1)

last_free : (rows : List Row) (p : Part) (ps : List Part) → Free rows ps → list_any (λ q. bytes_eq p.name q.name) ps ≡ false → Free (rows ++ part_row p ∷ []) ps
last_free rows p [] f e = tt
last_free rows p (q ∷ qs) f e =
    let both = or_neither _ _ e in
    (has_row_last q.name rows (part_row p) ∙ neither_or _ _ f.0 both.0, last_free rows p qs f.1 both.1)

once_of : (rows : List Row) (parts : List Part) → Fresh rows parts → Free rows parts × AreOnce parts
once_of rows [] f = (tt, tt)
once_of rows (p ∷ ps) f =
    let ih = once_of (rows ++ part_row p ∷ []) ps f.1 in
    let split = free_last rows p ps ih.0 in
    ((f.0, split.0), (split.1, ih.1))

of_once : (rows : List Row) (parts : List Part) → Free rows parts → AreOnce parts → Fresh rows parts
of_once rows [] f o = tt
of_once rows (p ∷ ps) f o = (f.0, of_once (rows ++ part_row p ∷ []) ps (last_free rows p ps f.1 o.0) o.1)

none_free : (parts : List Part) → Free [] parts
none_free [] = tt
none_free (p ∷ ps) = (refl, none_free ps)

-- ---- the command that is built

filled_rules : (names : List Name) → filled_from 1 (map rule_told names) ≡ rules names
filled_rules [] = refl
filled_rules (n ∷ ns) = ap (λ (rs : List Rule). rule_by n ∷ rs) (filled_rules ns)

built_app : (names : List Name) → built (app_of_names names) ≡ record { top = top names; subs = [] }
built_app names = ap (λ (rs : List Rule). record { top = record (top []) { rules = rs }; subs = [] }) (filled_rules names)

told_simple : (names : List Name) → list_all (λ (a : Rule). a.is_simple) (map rule_told names) ≡ true
told_simple [] = refl
told_simple (n ∷ ns) = told_simple ns

rules_simple : (names : List Name) → list_all (λ (a : Rule). a.is_simple) (rules names) ≡ true
rules_simple [] = refl
rules_simple (n ∷ ns) = rules_simple ns

rules_free : (names : List Name) → list_all (λ (a : Rule). a.is_free) (rules names) ≡ true
rules_free [] = refl
rules_free (n ∷ ns) = rules_free ns

no_early : (k : ℕ) (names : List Name) → list_any (is_early_multiple k) (rules names) ≡ false
no_early k [] = refl
no_early k (n ∷ ns) = no_early k ns

simple_by : (a b c : Bool) → a ≡ true → b ≡ true → c ≡ false → ((a && true) && ((b && not c) && true)) ≡ true
simple_by a b c p q r = λ i. (p i && true) && ((q i && not (r i)) && true)

free_by : (a b : Bool) → a ≡ true → b ≡ true → (a && (b && true)) ≡ true
free_by a b p q = λ i. p i && (q i && true)

pub app_is_simple : (names : List Name) → is_simple (app_of_names names) ≡ true
app_is_simple names = simple_by _ _ _ (told_simple names) (ap (list_all (λ (a : Rule). a.is_simple)) (filled_rules names) ∙ rules_simple names)
    (ap (list_any (is_early_multiple _)) (filled_rules names) ∙ no_early _ names)

pub app_is_free : (names : List Name) → is_simple_and_free (app_of_names names) ≡ true
app_is_free names = free_by _ _ (app_is_simple names) (ap (list_all (λ (a : Rule). a.is_free)) (filled_rules names) ∙ rules_free names)

-- ---- after the walk

default_passes : (rows : List Row) (n : Name) → default_fault rows (rule_by n) ≡ []
default_passes rows n = go n.text n.has_value (has_row n.text rows)
  where
    go : (t : Text) (b has : Bool) → cond (has || Rattle.clap.specs.Walk.is_empty (rule_at t b).defaults) [] (Rattle.clap.specs.Faults.given_default_fault (rule_at t b) (rule_at t b).defaults) ≡ []
    go t b true = refl
    go t true false = refl
    go t false false = refl

defaults_pass : (names : List Name) (rows : List Row) → defaults_fault rows (rules names) ≡ []
unfolding defaults_fault
defaults_pass [] rows = refl
defaults_pass (n ∷ ns) rows = ap₂ or_else (default_passes rows n) (defaults_pass ns (with_default rows (rule_by n)))

none_required : (names : List Name) (rows : List Row) → list_any (λ (a : Rule). a.required && not (is_given a.id rows)) (rules names) ≡ false
none_required [] rows = refl
none_required (n ∷ ns) rows = none_required ns rows

check_passes : (names : List Name) (rows : List Row) → check_fault (top names) rows false ≡ []
check_passes names rows = ap (Rattle.clap.specs.Kinds.check_kinds false false) (none_required names rows)

-- ---- both ways

fault_is : (names : List Name) (words : List Text) → fault_of (app_of_names names) words ≡ level_fault (top names) [] nothing_held words false []
fault_is names words = ap (λ (a : App). built_fault a nothing_held words) (built_app names) ∙ leaf_fault _ nothing_held words refl

-- the words of a parse that no fault stops are a line, and the parse has a row for each part
pub line_of_parse : (names : List Name) (words : List Text) → list_all is_form words ≡ true → fault_of (app_of_names names) words ≡ []
    → (parts : List Part) × IsCommandLine names parts words
line_of_parse names words forms e =
    let ws = words in
    let level = sym (fault_is names words) ∙ e in
    let walked_all = both_pass (walk_fault (top names) [] (walk_from nothing_held) ws) _ level in
    let settled_all = both_pass (settle_fault (rules names) false (walk (rules names) [] nothing_held ws).held) _ walked_all.1 in
    let r = (sound names ws _ nothing_held forms (record { walks = walked_all.0; settles = settled_all.0; ends = refl })).1 in
    (r.parts, record { spelled = r.spelled; known = r.known; once = (once_of [] r.parts r.fresh).1 })

pub record Parses (names : List Name) (words : List Text) (parts : List Part) : Type 0 where
  pub forms : list_all is_form words ≡ true
  pub faultless : fault_of (app_of_names names) words ≡ []
  pub matches : matches_of (app_of_names names) words ≡ fold with_default (map part_row parts) (rules names)

-- a line is parsed without fault, and leaves a row for each part
pub parse_of_line : (names : List Name) (words : List Text) (parts : List Part) → are_names names ≡ true → IsCommandLine names parts words → Parses names words parts
parse_of_line names words parts all line =
    let ws = words in
    let got = complete names parts all nothing_held ws line.spelled line.known refl (of_once [] parts (none_free parts) line.once) in
    let end = (walk (rules names) [] nothing_held ws).held in
    record {
      forms = got.0;
      faultless = fault_is names words ∙ ap₂ or_else got.1.walks (ap₂ or_else got.1.settles (ap₂ or_else (defaults_pass names (settled (rules names) end).rows) (check_passes names _)));
      matches = ap (λ (a : App). Rattle.clap.specs.Walk.rows_after a.top.rules (Rattle.clap.specs.Simple.names_of a) ws) (built_app names)
          ∙ ap (λ (rs : List Row). fold with_default rs (rules names)) got.1.ends;
    }

-- ---- the values

-- the name is a flag or an option, as it is in every command
abbrev pub fits_kind : Name → Bool
fits_kind n = (n.has_value || is_flag n.text) && not (n.has_value && is_flag n.text)

abbrev is_option_only : Text → List Name → Bool
is_option_only t = list_all (λ n. n.has_value || not (bytes_eq n.text t))

and_true : (a b : Bool) → a ≡ true → b ≡ true → (a && b) ≡ true
and_true a b p q = λ i. p i && q i

or_right : (a b : Bool) → b ≡ true → (a || b) ≡ true
or_right true b e = refl
or_right false b e = e

-- a text that is no flag is a flag's in no name
option_only : (t : Text) (names : List Name) → list_all fits_kind names ≡ true → is_flag t ≡ false → is_option_only t names ≡ true
option_only t [] fit e = refl
option_only t (n ∷ ns) fit e =
    let p = and_both _ _ fit in
    and_true _ _ (go (bytes_eq n.text t) refl n.has_value (is_flag n.text) (and_both _ _ p.0).0 refl) (option_only t ns p.1 e)
  where
    go : (hit : Bool) → bytes_eq n.text t ≡ hit → (b f : Bool) → (b || f) ≡ true → is_flag n.text ≡ f → (b || not hit) ≡ true
    go hit is true f either same = refl
    go false is false f either same = refl
    go true is false true either same = absurd (true≢false (sym same ∙ ap is_flag (same_bytes n.text t is) ∙ e))
    go true is false false either same = absurd (true≢false (sym either))

some_is : (a b : Bool) → Some a ≡ Some b → a ≡ b
some_is a b got = ap (λ (o : Option Bool). option_map_or (λ x. x) o a) got

-- so where it is a name's, the name stands with a value
option_kind : (t : Text) (names : List Name) (b : Bool) → is_option_only t names ≡ true → kind_by names t ≡ Some b → b ≡ true
option_kind t [] b only e = absurd (true≢false (sym (ap is_some e)))
option_kind t (n ∷ ns) b only e = go (bytes_eq n.text t) (and_both _ _ only) (option_kind t ns b) e
  where
    valued : (h : Bool) → (h || false) ≡ true → h ≡ true
    valued true is = refl
    valued false is = is

    go : (hit : Bool) → ((n.has_value || not hit) ≡ true) × (is_option_only t ns ≡ true) → (is_option_only t ns ≡ true → kind_by ns t ≡ Some b → b ≡ true)
        → option_map (λ (m : Name). m.has_value) (cond hit (Some n) (name_of ns t)) ≡ Some b → b ≡ true
    go true p ih got = sym (some_is _ _ got) ∙ valued n.has_value p.0
    go false p ih got = ih p.1 got

-- a flag's text is no option's
flag_kind : (t : Text) (names : List Name) (b : Bool) → list_all fits_kind names ≡ true → is_flag t ≡ true → kind_by names t ≡ Some b → b ≡ false
flag_kind t [] b fit e got = absurd (true≢false (sym (ap is_some got)))
flag_kind t (n ∷ ns) b fit e got = go (bytes_eq n.text t) refl (flag_kind t ns b p.1 e) got
  where
    p : (fits_kind n ≡ true) × (list_all fits_kind ns ≡ true)
    p = and_both _ _ fit

    unvalued : (h f : Bool) → f ≡ true → not (h && f) ≡ true → h ≡ false
    unvalued true f is none = absurd (true≢false (sym (sym (ap not is) ∙ none)))
    unvalued false f is none = refl

    go : (hit : Bool) → bytes_eq n.text t ≡ hit → (kind_by ns t ≡ Some b → b ≡ false) → option_map (λ (m : Name). m.has_value) (cond hit (Some n) (name_of ns t)) ≡ Some b → b ≡ false
    go true is ih found = sym (some_is _ _ found) ∙ unvalued n.has_value (is_flag n.text) (ap is_flag (same_bytes n.text t is) ∙ e) (and_both _ _ p.0).1
    go false is ih found = ih found

abbrev row_at : Text → List Row → Option Row
row_at t = find (λ r. bytes_eq r.id t)

row_at_last : (t : Text) (rows : List Row) (r : Row) → bytes_eq r.id t ≡ false → row_at t (rows ++ r ∷ []) ≡ row_at t rows
row_at_last t [] r e = rw e refl
row_at_last t (x ∷ xs) r e = ap (λ (o : Option Row). cond (bytes_eq x.id t) (Some x) o) (row_at_last t xs r e)

abbrev default_row : Text → Row
default_row t = record {
  id = t;
  values = codes "false" ∷ [];
  count = None;
  source = Some DefaultValue;
  reading = AsWritten;
}

-- what a default adds: nothing, or a last row
abbrev Added : List Row → Name → List Row → Type 0
Added rows n new = ((new ≡ rows) × ((has_row n.text rows ≡ true) ⊎ (n.has_value ≡ true)))
    ⊎ ((new ≡ rows ++ default_row n.text ∷ []) × (n.has_value ≡ false) × (has_row n.text rows ≡ false))

added : (rows : List Row) (n : Name) → Added rows n (with_default rows (rule_by n))
added rows n = go (has_row n.text rows) refl n.has_value refl
  where
    go : (has : Bool) → has_row n.text rows ≡ has → (b : Bool) → n.has_value ≡ b
        → Added rows n (cond has rows (default_rows n.text (reading_by (rule_at n.text b)) (rule_at n.text b).defaults rows))
    go true h b e = inl (refl, inl h)
    go false h true e = inl (refl, inr e)
    go false h false e = inr (at_missing_row n.text (more_values DefaultValue (codes "false" ∷ [])) (default_row n.text ∷ []) rows h, e, h)

row_at_more : (t : Text) (rows : List Row) (r x : Row) → row_at t rows ≡ Some r → row_at t (rows ++ x ∷ []) ≡ Some r
row_at_more t [] r x e = absurd (true≢false (sym (ap is_some e)))
row_at_more t (y ∷ ys) r x e = go (bytes_eq y.id t) (row_at_more t ys r x) e
  where
    go : (b : Bool) → (row_at t ys ≡ Some r → row_at t (ys ++ x ∷ []) ≡ Some r) → cond b (Some y) (row_at t ys) ≡ Some r → cond b (Some y) (row_at t (ys ++ x ∷ [])) ≡ Some r
    go true ih got = got
    go false ih got = ih got

row_at_new : (t : Text) (rows : List Row) (r : Row) → has_row t rows ≡ false → bytes_eq r.id t ≡ true → row_at t (rows ++ r ∷ []) ≡ Some r
row_at_new t [] r none is = rw is refl
row_at_new t (y ∷ ys) r none is = let p = or_neither _ _ none in ap (λ (b : Bool). cond b (Some y) (row_at t (ys ++ r ∷ []))) p.0 ∙ row_at_new t ys r p.1 is

-- the row of an option is that of the words
fold_option : (t : Text) (names : List Name) (rows : List Row) → is_option_only t names ≡ true → row_at t (fold with_default rows (rules names)) ≡ row_at t rows
fold_option t [] rows e = refl
fold_option t (n ∷ ns) rows e =
    let p = and_both _ _ e in
    let ih = fold_option t ns (with_default rows (rule_by n)) p.1 in
    elim (added rows n) [
      | inl k ↦ ih ∙ ap (row_at t) k.0
      | inr k ↦
          let miss : bytes_eq n.text t ≡ false = not_true _ (sym (ap (λ (b : Bool). b || not (bytes_eq n.text t)) k.1) ∙ p.0) in
          ih ∙ ap (row_at t) k.0 ∙ row_at_last t rows (default_row n.text) miss
    ]

fold_stays : (t : Text) (names : List Name) (rows : List Row) (r : Row) → row_at t rows ≡ Some r → row_at t (fold with_default rows (rules names)) ≡ Some r
fold_stays t [] rows r e = e
fold_stays t (n ∷ ns) rows r e = elim (added rows n) [
  | inl k ↦ fold_stays t ns (with_default rows (rule_by n)) r (ap (row_at t) k.0 ∙ e)
  | inr k ↦ fold_stays t ns (with_default rows (rule_by n)) r (ap (row_at t) k.0 ∙ row_at_more t rows r (default_row n.text) e)
]

-- the row of a flag that the words lack is its default
fold_flag : (t : Text) (names : List Name) (rows : List Row) → kind_by names t ≡ Some false → has_row t rows ≡ false
    → row_at t (fold with_default rows (rules names)) ≡ Some (default_row t)
fold_flag t [] rows e none = absurd (true≢false (sym (ap is_some e)))
fold_flag t (n ∷ ns) rows e none = go (bytes_eq n.text t) refl e (fold_flag t ns (with_default rows (rule_by n)))
  where
    next : List Row
    next = with_default rows (rule_by n)

    go : (hit : Bool) → bytes_eq n.text t ≡ hit → option_map (λ (m : Name). m.has_value) (cond hit (Some n) (name_of ns t)) ≡ Some false
        → (kind_by ns t ≡ Some false → has_row t (with_default rows (rule_by n)) ≡ false → row_at t (fold with_default (with_default rows (rule_by n)) (rules ns)) ≡ Some (default_row t))
        → row_at t (fold with_default (with_default rows (rule_by n)) (rules ns)) ≡ Some (default_row t)
    go true is got ih =
        let same = same_bytes n.text t is in
        let flag = some_is _ _ got in
        elim (added rows n) [
          | inl k ↦ elim k.1 [
            | inl has ↦ absurd (true≢false (sym has ∙ ap (λ (u : Text). has_row u rows) same ∙ none))
            | inr val ↦ absurd (true≢false (sym val ∙ flag))
          ]
          | inr k ↦ fold_stays t ns _ (default_row t) (ap (row_at t) (k.0 ∙ ap (λ (u : Text). rows ++ default_row u ∷ []) same) ∙ row_at_new t rows (default_row t) none (bytes_same t))
        ]
    go false is got ih = ih got (elim (added rows n) [
      | inl k ↦ ap (has_row t) k.0 ∙ none
      | inr k ↦ ap (has_row t) k.0 ∙ has_row_last t rows (default_row n.text) ∙ neither_or _ _ none is
    ])

-- ---- the values of a line

abbrev first_text : Option Row → Option Text
first_text = option_and_then (λ r. slice_get r.values 0)

option_part : (names : List Name) (t : Text) (p : Part) → IsPart names p → is_option_only t names ≡ true → p.name ≡ t → Some (text_for p.value) ≡ p.value
option_part names t p known only same = go p.value (option_kind t names (is_some p.value) only (sym (ap (kind_by names) same) ∙ known))
  where
    go : (v : Option Text) → is_some v ≡ true → Some (text_for v) ≡ v
    go None e = absurd (true≢false (sym e))
    go (Some v) e = refl

first_parts : (names : List Name) (t : Text) (parts : List Part) → AreParts names parts → is_option_only t names ≡ true
    → first_text (row_at t (map part_row parts)) ≡ value_in t parts
first_parts names t [] known only = refl
first_parts names t (p ∷ ps) known only = go (bytes_eq p.name t) refl (first_parts names t ps known.1 only)
  where
    go : (hit : Bool) → bytes_eq p.name t ≡ hit → first_text (row_at t (map part_row ps)) ≡ value_in t ps
        → first_text (cond hit (Some (part_row p)) (row_at t (map part_row ps))) ≡ option_and_then (λ (q : Part). q.value) (cond hit (Some p) (find (λ q. bytes_eq q.name t) ps))
    go true e ih = option_part names t p known.0 only (same_bytes p.name t e)
    go false e ih = ih

pub value_of_line : (names : List Name) (t : Text) (parts : List Part) → list_all fits_kind names ≡ true → AreParts names parts → is_flag t ≡ false
    → first_of t (fold with_default (map part_row parts) (rules names)) ≡ value_in t parts
value_of_line names t parts fit known none =
    let only = option_only t names fit none in
    ap first_text (fold_option t names (map part_row parts) only) ∙ first_parts names t parts known only

has_part_row : (t : Text) (parts : List Part) → has_row t (map part_row parts) ≡ is_in t parts
has_part_row t [] = refl
has_part_row t (p ∷ ps) = ap (λ (b : Bool). bytes_eq p.name t || b) (has_part_row t ps)

flag_part : (names : List Name) (t : Text) (p : Part) → IsPart names p → kind_by names t ≡ Some false → p.name ≡ t → text_for p.value ≡ codes "true"
flag_part names t p known is same = go p.value (some_is _ _ (sym known ∙ ap (kind_by names) same ∙ is))
  where
    go : (v : Option Text) → is_some v ≡ false → text_for v ≡ codes "true"
    go None e = refl
    go (Some v) e = absurd (true≢false e)

flag_row : (names : List Name) (t : Text) (parts : List Part) → AreParts names parts → kind_by names t ≡ Some false → is_in t parts ≡ true
    → (r : Row) × (row_at t (map part_row parts) ≡ Some r) × (row_text r ≡ Some (codes "true"))
flag_row names t [] known is e = absurd (true≢false (sym e))
flag_row names t (p ∷ ps) known is e = go (bytes_eq p.name t) refl e (flag_row names t ps known.1 is)
  where
    go : (hit : Bool) → bytes_eq p.name t ≡ hit → (hit || is_in t ps) ≡ true
        → (is_in t ps ≡ true → (r : Row) × (row_at t (map part_row ps) ≡ Some r) × (row_text r ≡ Some (codes "true")))
        → (r : Row) × (cond hit (Some (part_row p)) (row_at t (map part_row ps)) ≡ Some r) × (row_text r ≡ Some (codes "true"))
    go true same h ih = (part_row p, refl, ap (λ (v : Text). Some v) (flag_part names t p known.0 is (same_bytes p.name t same)))
    go false same h ih = ih h

pub flag_of_line : (names : List Name) (t : Text) (parts : List Part) → AreParts names parts → kind_by names t ≡ Some false
    → one_of t (fold with_default (map part_row parts) (rules names)) ≡ Some (flag_text (is_in t parts))
flag_of_line names t parts known is = elim (bool_cases (is_in t parts)) [
  | inl e ↦
      let f = flag_row names t parts known is e in
      ap (option_and_then row_text) (fold_stays t names (map part_row parts) f.0 f.1) ∙ f.2 ∙ ap (λ (b : Bool). Some (flag_text b)) (sym e)
  | inr e ↦
      ap (option_and_then row_text) (fold_flag t names (map part_row parts) is (has_part_row t parts ∙ e)) ∙ ap (λ (b : Bool). Some (flag_text b)) (sym e)
]

-- a text of no name is in no part, and nothing is kept of it
absent_only : (t : Text) (names : List Name) → kind_by names t ≡ None → is_option_only t names ≡ true
absent_only t [] e = refl
absent_only t (n ∷ ns) e = go (bytes_eq n.text t) (absent_only t ns) e
  where
    go : (hit : Bool) → (kind_by ns t ≡ None → is_option_only t ns ≡ true) → option_map (λ (m : Name). m.has_value) (cond hit (Some n) (name_of ns t)) ≡ None
        → ((n.has_value || not hit) && is_option_only t ns) ≡ true
    go true ih got = absurd (true≢false (ap is_some got))
    go false ih got = and_true _ _ (or_right n.has_value true refl) (ih got)

absent_parts : (names : List Name) (t : Text) (parts : List Part) → AreParts names parts → kind_by names t ≡ None
    → (row_at t (map part_row parts) ≡ None) × (is_in t parts ≡ false)
absent_parts names t [] known e = (refl, refl)
absent_parts names t (p ∷ ps) known e = go (bytes_eq p.name t) refl (absent_parts names t ps known.1 e)
  where
    go : (hit : Bool) → bytes_eq p.name t ≡ hit → (row_at t (map part_row ps) ≡ None) × (is_in t ps ≡ false)
        → (cond hit (Some (part_row p)) (row_at t (map part_row ps)) ≡ None) × ((hit || is_in t ps) ≡ false)
    go true is ih = absurd (true≢false (ap is_some (sym known.0 ∙ ap (kind_by names) (same_bytes p.name t is) ∙ e)))
    go false is ih = ih

-- what is kept of a flag, in a command that has it or hasn't
pub flag_is_kept : (names : List Name) (t : Text) (parts : List Part) → list_all fits_kind names ≡ true → AreParts names parts → is_flag t ≡ true
    → IsFlagKept (is_in t parts) (one_of t (fold with_default (map part_row parts) (rules names)))
flag_is_kept names t parts fit known flag = go (kind_by names t) refl
  where
    kept : List Row
    kept = fold with_default (map part_row parts) (rules names)

    go : (kind : Option Bool) → kind_by names t ≡ kind → IsFlagKept (is_in t parts) (one_of t kept)
    go None is =
        let none = absent_parts names t parts known is in
        let nothing : one_of t kept ≡ None = ap (option_and_then row_text) (fold_option t names (map part_row parts) (absent_only t names is) ∙ none.0) in
        subst (IsFlagKept (is_in t parts)) (sym nothing) none.1
    go (Some b) is =
        let valueless = is ∙ ap (λ (v : Bool). Some v) (flag_kind t names b fit flag is) in
        subst (IsFlagKept (is_in t parts)) (sym (flag_of_line names t parts known valueless)) refl

-- ---- the parse

-- an `Ok` comes only at a line, and its matches are those of the line's parts
pub ok_is_line : (names : List Name) (words : List Text) (m : ArgMatches) → are_names names ≡ true → list_all fits_kind names ≡ true → list_all is_form words ≡ true
    → fault_of (app_of_names names) words ≡ [] → rows_of (found_of m) ≡ matches_of (app_of_names names) words
    → HasLine names words m
ok_is_line names words m named fitted forms none rows = record {
  line = line_of_parse names words forms none;
  matches = λ parts line.
      let all = rows ∙ (parse_of_line names words parts named line).matches in
      record {
        values = λ t is. first_value-rows (found_of m) t ∙ ap (first_of t) all ∙ value_of_line names t parts fitted line.known is;
        flags = λ t is. subst (IsFlagKept (is_in t parts)) (sym (one_text-rows (found_of m) t ∙ ap (one_of t) all)) (flag_is_kept names t parts fitted line.known is);
      };
}

-- at a line a parse fails only for want of memory
pub fault_is_no_line : (names : List Name) (words : List Text) (k : ErrorKind) → are_names names ≡ true → (k ≡ OutOfMemory → ⊥)
    → (k ≡ OutOfMemory) ⊎ IsAmong k (fault_of (app_of_names names) words) → IsNoLine names words
fault_is_no_line names words k named other has parts line = elim has [
  | inl memory ↦ other memory
  | inr among ↦ subst (IsAmong k) (parse_of_line names words parts named line).faultless among
]

-- a word that no part has
pub form_is_no_line : (names : List Name) (words : List Text) → are_names names ≡ true → list_all is_form words ≡ false → IsNoLine names words
form_is_no_line names words named bad parts line = true≢false (sym (parse_of_line names words parts named line).forms ∙ bad)
