-- A walk fails nowhere exactly where the words are a line of the grammar.
use Rattle.std.proofs.Common.{◌≡◌, ◌∙◌, ◌&&◌, ℕ, Bool, cond, true, false, not, refl, sym, ap, ap₂, subst, List, [], ◌∷◌, ◌++◌, map, Option, Some, None, inl, inr, true≢false, append-nil, append_assoc}
use Rattle.std.specs.Prelude.{option_map, is_some, ⊤}
use Rattle.std.specs.Option.{option_map_or}
use Rattle.std.specs.List.{list_all}
use Rattle.std.specs.Str.{bytes_eq}
use Rattle.clap.specs.Lexer.{has_byte, name_and_value}
use Rattle.clap.specs.Kinds.{Kinds, or_else}
use Rattle.clap.specs.Walk.{Held, Row, Rule, Walk, idle, option, has_row, settled, used, used_by_id, walked}
use Rattle.clap.specs.Faults.{settle_fault, use_fault, walk_fault}
use Rattle.clap.specs.declared.error.kind.ErrorKind.TheVariants as kind
use Rattle.words.specs.Forms.{is_form}
use Rattle.words.specs.Grammar.{kind_by, AreParts, Name, Part, SpellsAll, Text, dashed, is_bare}
use Rattle.words.specs.Rules.{rule_at, rules, top}
use Rattle.words.proofs.Texts.{IsCut, and_both, both_pass, cons_not_nil, form_cases, name_alone, name_parts, name_valued, not_true, same_bytes}
use Rattle.words.proofs.Walks.{Goes, at, bare_idle, bare_waits, flag_fault, goes_bare, goes_long, id_found, long_idle, long_waiting, no_conflict, part_row, row_for, taken, used_flag, used_value, value_fault}

abbrev pub Fresh : List Row → List Part → Type 0
Fresh rows [] = ⊤
Fresh rows (p ∷ ps) = (has_row p.name rows ≡ false) × Fresh (rows ++ part_row p ∷ []) ps

-- the words are parts, of names with no row yet, and leave these rows
pub record Reads (names : List Name) (rows : List Row) (words : List Text) (final : List Row) : Type 0 where
  pub parts : List Part
  pub spelled : SpellsAll parts words
  pub known : AreParts names parts
  pub fresh : Fresh rows parts
  pub ends : rows ++ map part_row parts ≡ final

-- one part before the others
reads_more : (names : List Name) (rows : List Row) (front rest : List Text) (final : List Row) (n : Text) (v : Option Text)
    → Rattle.words.specs.Grammar.SpellsBy n v front → kind_by names n ≡ Some (is_some v) → has_row n rows ≡ false
    → Reads names (rows ++ row_for n v ∷ []) rest final → Reads names rows (front ++ rest) final
reads_more names rows front rest final n v spells is fresh r = record {
  parts = (record { name = n; value = v }) ∷ r.parts;
  spelled = (front, rest, refl, spells, r.spelled);
  known = (is, r.known);
  fresh = (fresh, r.fresh);
  ends = sym (append_assoc rows (row_for n v ∷ []) (map part_row r.parts)) ∙ r.ends;
}

abbrev are_forms : List Text → Bool
are_forms = list_all is_form

-- between two parts
abbrev Between : List Name → List Text → List Row → Type 0
Between names ws final = (h : Held) → are_forms ws ≡ true → Goes names (at h idle) ws final
    → (settle_fault (rules names) false h ≡ []) × Reads names (settled (rules names) h).rows ws final

abbrev held_for : List Row → ℕ → Text → List Text → Held
held_for rows skip t vs = record { rows = rows; pending = Some (t, vs); skip = skip }

-- after an option whose value is the next word
pub record Valued (names : List Name) (t : Text) (rows : List Row) (ws : List Text) (final : List Row) : Type 0 where
  pub value : Text
  pub rest : List Text
  pub words : ws ≡ value ∷ rest
  pub bare : is_bare value ≡ true
  pub free : has_row t rows ≡ false
  pub reads : Reads names (rows ++ row_for t (Some value) ∷ []) rest final

abbrev Awaits : List Name → List Text → List Row → Type 0
Awaits names ws final = (rows : List Row) (skip : ℕ) (t : Text) → kind_by names t ≡ Some true → are_forms ws ≡ true
    → Goes names (at (held_for rows skip t []) (option t)) ws final → Valued names t rows ws final

-- an option that waits for its value cannot be left so
wants : (names : List Name) (rows : List Row) (skip : ℕ) (t : Text) → kind_by names t ≡ Some true → settle_fault (rules names) false (held_for rows skip t []) ≡ [] → ⊥
wants names rows skip t is e =
    let found = ap (λ (o : Option Rule). option_map_or (λ a. use_fault false a [] rows) o []) (id_found names t (Some true) is) in
    cons_not_nil _ _ (sym found ∙ e)

-- the option's value has been read
settled_value : (names : List Name) (rows : List Row) (skip : ℕ) (t v : Text) → kind_by names t ≡ Some true
    → (settle_fault (rules names) false (held_for rows skip t (v ∷ [])) ≡ cond (has_row t rows) (kind.ArgumentConflict ∷ []) [])
    × ((settled (rules names) (held_for rows skip t (v ∷ []))).rows ≡ used (rule_at t true) (v ∷ []) rows)
settled_value names rows skip t v is = (
  ap (λ (o : Option Rule). option_map_or (λ a. use_fault false a (v ∷ []) rows) o []) (id_found names t (Some true) is) ∙ value_fault t v rows,
  ap (λ (o : Option Rule). used_by_id o (v ∷ []) rows) (id_found names t (Some true) is),
)

awaits_bare : (names : List Name) (w : Text) (rest : List Text) (final : List Row) → Between names rest final → is_bare w ≡ true
    → (rows : List Row) (skip : ℕ) (t : Text) → kind_by names t ≡ Some true → are_forms rest ≡ true
    → Goes names (at (held_for rows skip t []) (option t)) (w ∷ rest) final → Valued names t rows (w ∷ rest) final
unfolding walk_fault
awaits_bare names w rest final ih b rows skip t is forms g =
    let turn = bare_waits names (held_for rows skip t []) t w b in
    let next = turn.1 ∙ taken names rows skip t w is in
    let walks = (both_pass _ _ g.walks).1 in
    let moved = subst (λ (x : Walk). Goes names x rest final) next (record { walks = walks; settles = g.settles; ends = g.ends }) in
    let got = ih (held_for rows skip t (w ∷ [])) forms moved in
    let s = settled_value names rows skip t w is in
    let free = no_conflict (has_row t rows) (sym s.0 ∙ got.0) in
    record {
      value = w;
      rest = rest;
      words = refl;
      bare = b;
      free = free;
      reads = subst (λ (rs : List Row). Reads names rs rest final) (s.1 ∙ used_value t w rows free) got.1;
    }

-- a word that begins with two hyphens, cut into name and value, of a name found so
between_long : (names : List Name) (h : Held) (x : ℕ) (xs : Text) (rest : List Text) (final : List Row) → Between names rest final → Awaits names rest final
    → (n : Text) (v : Option Text) (o : Option Bool) → name_and_value (x ∷ xs) ≡ (n, v) → IsCut n v (x ∷ xs) → kind_by names n ≡ o → are_forms rest ≡ true
    → Goes names (at h idle) ((45 ∷ 45 ∷ x ∷ xs) ∷ rest) final
    → (settle_fault (rules names) false h ≡ []) × Reads names (settled (rules names) h).rows ((45 ∷ 45 ∷ x ∷ xs) ∷ rest) final
between_long names h x xs rest final ih wait n v None cut is_cut is forms g =
    absurd (cons_not_nil _ _ (long_idle names h x xs rest final n v None cut is g).0)
between_long names h x xs rest final ih wait n (Some v) (Some false) cut is_cut is forms g =
    absurd (cons_not_nil _ _ (long_idle names h x xs rest final n (Some v) (Some false) cut is g).0)
between_long names h x xs rest final ih wait n (Some v) (Some true) cut is_cut is forms g =
    let l = long_idle names h x xs rest final n (Some v) (Some true) cut is g in
    let rows = (settled (rules names) h).rows in
    let f = both_pass (settle_fault (rules names) false h) _ (both_pass (or_else (settle_fault (rules names) false h) (use_fault false (rule_at n true) (v ∷ []) rows)) _ l.0).0 in
    let free = no_conflict (has_row n rows) (sym (value_fault n v rows) ∙ f.1) in
    let got = ih _ forms l.1 in
    let reads = subst (λ (rs : List Row). Reads names rs rest final) (used_value n v rows free) got.1 in
    let word = ap (λ (t : Text). dashed t) is_cut in (
      f.0,
      subst (λ (w : Text). Reads names rows (w ∷ rest) final) (sym word)
          (reads_more names rows (dashed (n ++ 61 ∷ v) ∷ []) rest final n (Some v) (inr refl) is free reads),
    )
between_long names h x xs rest final ih wait n None (Some false) cut is_cut is forms g =
    let l = long_idle names h x xs rest final n None (Some false) cut is g in
    let rows = (settled (rules names) h).rows in
    let f = both_pass (settle_fault (rules names) false h) _ (both_pass (or_else (settle_fault (rules names) false h) (use_fault false (rule_at n false) [] rows)) _ l.0).0 in
    let free = no_conflict (has_row n rows) (sym (flag_fault n rows) ∙ f.1) in
    let got = ih _ forms l.1 in
    let reads = subst (λ (rs : List Row). Reads names rs rest final) (used_flag n rows free) got.1 in
    let word = ap (λ (t : Text). dashed t) is_cut in (
      f.0,
      subst (λ (w : Text). Reads names rows (w ∷ rest) final) (sym word)
          (reads_more names rows (dashed n ∷ []) rest final n None refl is free reads),
    )
between_long names h x xs rest final ih wait n None (Some true) cut is_cut is forms g =
    let l = long_idle names h x xs rest final n None (Some true) cut is g in
    let rows = (settled (rules names) h).rows in
    let f = (both_pass (settle_fault (rules names) false h) _ l.0).0 in
    let got = wait rows h.skip n is forms l.1 in
    let word = ap (λ (t : Text). dashed t) is_cut in (
      f,
      subst (λ (w : Text). Reads names rows (w ∷ rest) final) (sym word)
          (subst (λ (ws : List Text). Reads names rows (dashed n ∷ ws) final) (sym got.words)
          (reads_more names rows (dashed n ∷ got.value ∷ []) got.rest final n (Some got.value) (inl (got.bare, refl)) is got.free got.reads)),
    )

between_word : (names : List Name) (w : Text) (rest : List Text) (final : List Row) → Between names rest final → Awaits names rest final → Between names (w ∷ rest) final
between_word names w rest final ih wait h forms g =
    let p = and_both _ _ forms in
    elim (form_cases w p.0) [
      | inl b ↦ absurd (bare_idle names h w rest b g.walks)
      | inr l ↦
          subst (λ (u : Text). (settle_fault (rules names) false h ≡ []) × Reads names (settled (rules names) h).rows (u ∷ rest) final) (sym l.2)
          (between_long names h l.0 l.1 rest final ih wait _ _ _ refl (name_parts (l.0 ∷ l.1)) refl p.1 (subst (λ (u : Text). Goes names (at h idle) (u ∷ rest) final) l.2 g))
    ]

awaits_word : (names : List Name) (w : Text) (rest : List Text) (final : List Row) → Between names rest final → Awaits names (w ∷ rest) final
awaits_word names w rest final ih rows skip t is forms g =
    let p = and_both _ _ forms in
    elim (form_cases w p.0) [
      | inl b ↦ awaits_bare names w rest final ih b rows skip t is p.1 g
      | inr l ↦
          absurd (long_waiting names (held_for rows skip t []) t l.0 l.1 rest (wants names rows skip t is)
          (subst (λ (u : Text). walk_fault (top names) [] (at (held_for rows skip t []) (option t)) (u ∷ rest) ≡ []) l.2 g.walks))
    ]

sound_both : (names : List Name) (ws : List Text) (final : List Row) → Between names ws final × Awaits names ws final
unfolding walked
sound_both names [] final = (
  λ h forms g. (g.settles, record { parts = []; spelled = refl; known = tt; fresh = tt; ends = append-nil _ ∙ g.ends }),
  λ rows skip t is forms g. absurd (wants names rows skip t is g.settles),
)
sound_both names (w ∷ rest) final =
    let ih = sound_both names rest final in
    (between_word names w rest final ih.0 ih.1, awaits_word names w rest final ih.0)

-- where the walk fails nowhere the words are parts of the grammar
pub sound : (names : List Name) (ws : List Text) (final : List Row) (h : Held) → list_all is_form ws ≡ true → Goes names (at h idle) ws final
    → (settle_fault (rules names) false h ≡ []) × Reads names (settled (rules names) h).rows ws final
sound names ws final h = (sound_both names ws final).0 h

-- ---- the other way

-- a name is not empty and has no `=`
abbrev pub is_name : Text → Bool
is_name [] = false
is_name (x ∷ xs) = not (has_byte 61 (x ∷ xs))

abbrev pub are_names : List Name → Bool
are_names = list_all (λ n. is_name n.text)

known_is_name : (names : List Name) (t : Text) (b : Bool) → are_names names ≡ true → kind_by names t ≡ Some b → is_name t ≡ true
known_is_name [] t b all e = absurd (true≢false (sym (ap is_some e)))
known_is_name (n ∷ ns) t b all e = go (bytes_eq n.text t) refl (known_is_name ns t b (and_both _ _ all).1) e
  where
    go : (hit : Bool) → bytes_eq n.text t ≡ hit → (kind_by ns t ≡ Some b → is_name t ≡ true)
        → option_map (λ (m : Name). m.has_value) (cond hit (Some n) (Rattle.words.specs.Grammar.name_of ns t)) ≡ Some b → is_name t ≡ true
    go true is ih got = subst (λ (u : Text). is_name u ≡ true) (same_bytes n.text t is) (and_both (is_name n.text) _ all).0
    go false is ih got = ih got

-- what holds of a line, from where the walk stands
abbrev Reached : List Name → Held → List Text → List Part → Type 0
Reached names h ws parts = (are_forms ws ≡ true) × Goes names (at h idle) ws ((settled (rules names) h).rows ++ map part_row parts)

abbrev Reaches : List Name → List Part → Type 0
Reaches names parts = (h : Held) (ws : List Text) → SpellsAll parts ws → AreParts names parts → settle_fault (rules names) false h ≡ []
    → Fresh (settled (rules names) h).rows parts → Reached names h ws parts

joined_forms : (b c : Bool) → b ≡ true → c ≡ true → (b && c) ≡ true
joined_forms true true e f = refl
joined_forms true false e f = f
joined_forms false c e f = e

bare_form : (w : Text) → is_bare w ≡ true → is_form w ≡ true
bare_form [] e = refl
bare_form (x ∷ xs) e = rw e refl

reach_one : (names : List Name) (h : Held) (n : Text) (v : Option Text) (ps : List Part) (front rest : List Text) → is_name n ≡ true → Reaches names ps
    → Rattle.words.specs.Grammar.SpellsBy n v front → SpellsAll ps rest → kind_by names n ≡ Some (is_some v) → AreParts names ps
    → settle_fault (rules names) false h ≡ [] → has_row n (settled (rules names) h).rows ≡ false → Fresh ((settled (rules names) h).rows ++ row_for n v ∷ []) ps
    → Reached names h (front ++ rest) (record { name = n; value = v } ∷ ps)
reach_one names h [] v ps front rest nm ih spells more is known calm free fresh = absurd (true≢false (sym nm))
reach_one names h (x ∷ xs) None ps front rest nm ih spells more is known calm free fresh =
    let n = x ∷ xs in
    let rows = (settled (rules names) h).rows in
    let after = used_flag n rows free in
    let k : Held = record { rows = used (rule_at n false) [] rows; pending = None; skip = h.skip } in
    let got = ih k rest more known refl (subst (λ (rs : List Row). Fresh rs ps) (sym after) fresh) in
    let final : used (rule_at n false) [] rows ++ map part_row ps ≡ rows ++ (row_for n None ∷ map part_row ps) =
    ap (λ (rs : List Row). rs ++ map part_row ps) after ∙ append_assoc rows (row_for n None ∷ []) (map part_row ps) in
    let next = subst (λ (f : List Row). Goes names (at k idle) rest f) final got.1 in
    let fault : or_else (or_else (settle_fault (rules names) false h) (use_fault false (rule_at n false) [] rows)) [] ≡ [] =
    ap₂ (λ (a b : Kinds). or_else (or_else a b) []) calm (flag_fault n rows ∙ ap (λ (b : Bool). cond b (kind.ArgumentConflict ∷ []) []) free) in
    let here = goes_long names h x xs rest _ n None (Some false) (name_alone n (not_true _ nm)) is fault next in
    subst (λ (f : List Text). Reached names h (f ++ rest) (record { name = n; value = None } ∷ ps)) (sym spells) (got.0, here)
reach_one names h (x ∷ xs) (Some v) ps front rest nm ih (inr spells) more is known calm free fresh =
    let n = x ∷ xs in
    let rows = (settled (rules names) h).rows in
    let after = used_value n v rows free in
    let k : Held = record { rows = used (rule_at n true) (v ∷ []) rows; pending = None; skip = h.skip } in
    let got = ih k rest more known refl (subst (λ (rs : List Row). Fresh rs ps) (sym after) fresh) in
    let final : used (rule_at n true) (v ∷ []) rows ++ map part_row ps ≡ rows ++ (row_for n (Some v) ∷ map part_row ps) =
    ap (λ (rs : List Row). rs ++ map part_row ps) after ∙ append_assoc rows (row_for n (Some v) ∷ []) (map part_row ps) in
    let next = subst (λ (f : List Row). Goes names (at k idle) rest f) final got.1 in
    let fault : or_else (or_else (settle_fault (rules names) false h) (use_fault false (rule_at n true) (v ∷ []) rows)) [] ≡ [] =
    ap₂ (λ (a b : Kinds). or_else (or_else a b) []) calm (value_fault n v rows ∙ ap (λ (b : Bool). cond b (kind.ArgumentConflict ∷ []) []) free) in
    let here = goes_long names h x (xs ++ 61 ∷ v) rest _ n (Some v) (Some true) (name_valued n v (not_true _ nm)) is fault next in
    subst (λ (f : List Text). Reached names h (f ++ rest) (record { name = n; value = Some v } ∷ ps)) (sym spells) (got.0, here)
reach_one names h (x ∷ xs) (Some v) ps front rest nm ih (inl spells) more is known calm free fresh =
    let n = x ∷ xs in
    let rows = (settled (rules names) h).rows in
    let s = settled_value names rows h.skip n v is in
    let after = s.1 ∙ used_value n v rows free in
    let k : Held = held_for rows h.skip n (v ∷ []) in
    let still = s.0 ∙ ap (λ (b : Bool). cond b (kind.ArgumentConflict ∷ []) []) free in
    let got = ih k rest more known still (subst (λ (rs : List Row). Fresh rs ps) (sym after) fresh) in
    let final : (settled (rules names) k).rows ++ map part_row ps ≡ rows ++ (row_for n (Some v) ∷ map part_row ps) =
    ap (λ (rs : List Row). rs ++ map part_row ps) after ∙ append_assoc rows (row_for n (Some v) ∷ []) (map part_row ps) in
    let next = subst (λ (f : List Row). Goes names (at k idle) rest f) final got.1 in
    let valued = goes_bare names rows h.skip n v rest _ spells.0 is next in
    let fault : or_else (settle_fault (rules names) false h) [] ≡ [] = ap (λ (a : Kinds). or_else a []) calm in
    let here = goes_long names h x xs (v ∷ rest) _ n None (Some true) (name_alone n (not_true _ nm)) is fault valued in
    subst (λ (f : List Text). Reached names h (f ++ rest) (record { name = n; value = Some v } ∷ ps)) (sym spells.1) (joined_forms _ _ (bare_form v spells.0) got.0, here)

pub complete : (names : List Name) (parts : List Part) → are_names names ≡ true → Reaches names parts
unfolding walked walk_fault
complete names [] all h ws spells known calm fresh =
    subst (λ (w : List Text). Reached names h w []) (sym spells) (refl, record { walks = refl; settles = calm; ends = sym (append-nil _) })
complete names (p ∷ ps) all h ws spells known calm fresh =
    subst (λ (w : List Text). Reached names h w (p ∷ ps)) (sym spells.2)
    (reach_one names h p.name p.value ps spells.0 spells.1 (known_is_name names p.name _ all known.0) (complete names ps all) spells.3 spells.4 known.0 known.1 calm fresh.0 fresh.1)
