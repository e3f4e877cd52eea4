-- The descent, a length at a time, and that it misses no network that reaches the number.
use Rattle.std.proofs.Common.{◌≡◌, ◌∙◌, ◌<◌, ◌≤◌, ◌+◌, ◌*◌, ◌^◌, ◌≤ℤ◌, ℕ, ℤ, pos, zero, suc, Bool, true, false, List, [], ◌∷◌, ◌++◌, length, map, filter, take, drop, get_or, set, refl, sym, ap, subst, inl, inr, arith, All, append_assoc, length-append}
use Rattle.std.specs.Prelude.{int_le, slice_index_or}
use Rattle.std.specs.List.{Contains, flat_map}
use Rattle.std.proofs.lemmas.Bool.{ltb-false}
use Rattle.std.proofs.lemmas.Int.{ints}
use Rattle.std.proofs.lemmas.List.{append-nil, drop_all, drop_more, get_or-map, length-map, map-append, take_all, take_more_set, length-take}
use Rattle.std.proofs.lemmas.List.Concat.{flat_map-append}
use Rattle.std.proofs.lemmas.List.Elements.{All-append, All-filter, All-nil, All-take, All-weaker, Contains-append_left, Contains-append_right}
use Rattle.hash_rows.specs.Amounts.{total_amount}
use Rattle.hash_rows.specs.declared.shape.Packet.{Packet}
use Rattle.hash_rows.specs.declared.shape.Shape.{Shape}
use Rattle.hash_rows.specs.Shapes.{IsShape}
use Rattle.hash_rows.specs.Tables.{TableView}
use Rattle.prefixes.specs.declared.network.Prefix.{Prefix}
use Rattle.prefixes.specs.Networks.{IsLength, IsNetwork, addresses_in, network_of}
use Rattle.prefix_stack.specs.declared.hit.Hit.{Hit}
use Rattle.prefix_stack.specs.declared.hit.Reached.{Reached}
use Rattle.prefix_stack.specs.Descent.{IsFound, IsLevelOf, IsParent, Level, MissesNone, candidates_of, children_of, everything, has_more, hit_by, hits_of, level_below, levels_below, levels_of, prefixes_of, qualified_of}
use Rattle.prefix_stack.specs.Levels.{level_table, level_tables, network_amount}
use Rattle.prefix_stack.proofs.Amounts.{level_never_below, parent_least}
use Rattle.prefix_stack.proofs.Candidates.{IsOfLength, child_of_parent, children_are, parent_is_everything, parent_is_network, parent_of}
use Rattle.prefix_stack.proofs.Members.{in_filter, in_flat_map, in_map}

-- candidates of parents are of the length
pub candidates_are : (length : ℕ) (parents : List Prefix) → All (IsParent length) parents → All (IsOfLength length) (candidates_of parents)
unfolding candidates_of
candidates_are length [] are = All-nil (IsOfLength length)
candidates_are length (p ∷ parents) are =
    All-append (IsOfLength length) (children_of p) (flat_map children_of parents) (children_are length p (are 0 p (omega arith)))
    (candidates_are length parents (λ i d lt. are (suc i) d (omega (arith, lt))))

-- and so are hits
hits_are : (table : TableView) (limit : ℕ) (least : ℤ) (bits : ℕ) (cs : List Prefix) → All (IsOfLength bits) cs
    → All (λ hit. IsOfLength bits hit.prefix) (hits_of table limit least cs)
unfolding qualified_of
hits_are table limit least bits cs are =
    let hits : All (λ hit. IsOfLength bits hit.prefix) (map (hit_by table) cs) = λ i d lt.
    let within : i < length cs = omega (arith, lt, length-map cs (hit_by table)) in
    subst (λ hit. IsOfLength bits hit.prefix) (sym (get_or-map (hit_by table) cs i d.prefix d within)) (are i d.prefix within) in
    All-take (λ hit. IsOfLength bits hit.prefix) limit (filter (λ hit. int_le least hit.estimate) (map (hit_by table) cs))
    (All-filter (λ hit. int_le least hit.estimate) (λ hit. IsOfLength bits hit.prefix) (map (hit_by table) cs) hits)

-- networks of a length are parents of those that are 8 bits longer
next_parent : (length longer : ℕ) → length + 8 ≡ longer → IsLength longer → (p : Prefix) → IsOfLength length p → IsParent longer p
next_parent length longer next lawful p is = record {
  lawful = lawful;
  shorter = ap (λ n. n + 8) is.at_length ∙ next;
  fits = is.network.fits;
  rest = is.network.rest;
}

-- the descent has come so far
pub record Descends (tables : List TableView) (limit : ℕ) (least : ℤ) (place : ℕ) (parents hits : List Hit) (more : List Bool) : Type 0 where
  pub done : List Level
  pub whole : levels_of tables limit least ≡ done ++ levels_below limit least (prefixes_of parents) (drop place tables)
  pub len : length done ≡ place
  pub hits_are : hits ≡ flat_map (λ level. level.hits) done
  pub more_is : take place more ≡ map (λ level. level.more) done
  pub few : length hits ≤ place * limit
  pub are_networks : All (λ hit. IsNetwork hit.prefix) hits
  pub are_parents : place < 4 → All (IsParent (8 * (place + 1))) (prefixes_of parents)

pub length_at : (place : ℕ) → place < 4 → IsLength (8 * (place + 1))
length_at place lt = grind arith

pub descent_begins : (tables : List TableView) (limit : ℕ) (least : ℤ) (parents : List Hit) (more : List Bool) → prefixes_of parents ≡ everything ∷ []
    → Descends tables limit least 0 parents [] more
unfolding levels_of addresses_in
descent_begins tables limit least parents more is = record {
  done = [];
  whole = ap (λ (ps : List Prefix). levels_below limit least ps tables) (sym is);
  len = refl;
  hits_are = refl;
  more_is = refl;
  few = omega arith;
  are_networks = All-nil (λ (hit : Hit). IsNetwork hit.prefix);
  are_parents = λ lt. rw is (λ i d within. first i d within);
} where
  first : (i : ℕ) (d : Prefix) → i < 1 → IsParent 8 (get_or (everything ∷ []) i d)
  first zero d within = record { lawful = inl refl; shorter = refl; fits = omega arith; rest = refl }
  first (suc i) d within = absurd (omega (arith, within))

pub one_level_more : (tables : List TableView) (limit : ℕ) (least : ℤ) (place : ℕ) (parents hits : List Hit) (more : List Bool) → Descends tables limit least place parents hits more
    → place < 4 → length tables ≡ 4 → length more ≡ 4 → (table : TableView) → get_or tables place table ≡ table
    → (r : Reached) → IsLevelOf table limit least (candidates_of (prefixes_of parents)) r
    → Descends tables limit least (place + 1) r.hits.items (hits ++ r.hits.items) (set more place r.more)
unfolding level_below
one_level_more tables limit least place parents hits more h lt four many table at r found =
    let level = level_below limit least (prefixes_of parents) table in
    let rest : drop place tables ≡ table ∷ drop (place + 1) tables = drop_more tables place table (omega (arith, lt, four)) ∙ ap (λ (t : TableView). t ∷ drop (place + 1) tables) at in
    let below = levels_below limit least (prefixes_of r.hits.items) (drop (place + 1) tables) in
    let step : levels_below limit least (prefixes_of parents) (drop place tables) ≡ level ∷ below =
    ap (levels_below limit least (prefixes_of parents)) rest ∙ ap (λ (ps : List Hit). level ∷ levels_below limit least (prefixes_of ps) (drop (place + 1) tables)) (sym found.hits) in
    let taken : length r.hits.items ≤ limit = omega (arith, ap length found.hits, length-take limit (qualified_of table least (candidates_of (prefixes_of parents)))) in
    let now = hits_are table limit least (8 * (place + 1)) (candidates_of (prefixes_of parents)) (candidates_are (8 * (place + 1)) (prefixes_of parents) (h.are_parents lt)) in
    record {
      done = h.done ++ level ∷ [];
      whole = h.whole ∙ ap (λ (l : List Level). h.done ++ l) step ∙ sym (append_assoc h.done (level ∷ []) below);
      len = length-append h.done (level ∷ []) ∙ ap (λ n. n + 1) h.len;
      hits_are = ap (λ (l : List Hit). l ++ r.hits.items) h.hits_are ∙ ap (λ (l : List Hit). flat_map (λ l. l.hits) h.done ++ l) (found.hits ∙ sym (append-nil level.hits)) ∙ sym (flat_map-append (λ l. l.hits) h.done (level ∷ []));
      more_is = take_more_set more place r.more (omega (arith, lt, many)) ∙ ap (λ (l : List Bool). l ++ r.more ∷ []) h.more_is ∙ ap (λ b. map (λ l. l.more) h.done ++ b ∷ []) found.more ∙ sym (map-append (λ l. l.more) h.done (level ∷ []));
      few = omega (arith, length-append hits r.hits.items, h.few, taken);
      are_networks = All-append (λ (hit : Hit). IsNetwork hit.prefix) hits r.hits.items h.are_networks
          (rw found.hits (All-weaker (λ (hit : Hit). IsOfLength (8 * (place + 1)) hit.prefix) (λ (hit : Hit). IsNetwork hit.prefix) (λ hit is. is.network) _ now));
      are_parents = λ later i d within.
          let inside : i < length r.hits.items = omega (arith, within, length-map r.hits.items (λ (hit : Hit). hit.prefix)) in
          let is : IsOfLength (8 * (place + 1)) (get_or r.hits.items i (record { prefix = d; estimate = pos 0 })).prefix = rw found.hits (now i (record { prefix = d; estimate = pos 0 }) (omega (arith, inside, ap length found.hits))) in
          rw (get_or-map (λ (hit : Hit). hit.prefix) r.hits.items i (record { prefix = d; estimate = pos 0 }) d inside) (next_parent (8 * (place + 1)) (8 * (place + 1 + 1)) (omega arith) (length_at (place + 1) later) _ is);
    }

pub descent_ends : (tables : List TableView) (limit : ℕ) (least : ℤ) (parents hits : List Hit) (more : List Bool) → length tables ≡ 4 → length more ≡ 4 → Descends tables limit least 4 parents hits more
    → IsFound tables limit least hits more
descent_ends tables limit least parents hits more four many h =
    let none : drop 4 tables ≡ [] = drop_all 4 tables (omega (arith, four)) in
    let whole : levels_of tables limit least ≡ h.done = h.whole ∙ ap (λ (l : List TableView). h.done ++ levels_below limit least (prefixes_of parents) l) none ∙ append-nil h.done in
    record {
      hits_are = h.hits_are ∙ ap (λ (l : List Level). flat_map (λ l. l.hits) l) (sym whole);
      more_is = sym (take_all 4 more (omega (arith, many))) ∙ h.more_is ∙ ap (λ (l : List Level). map (λ l. l.more) l) (sym whole);
    }

int_reaches : (a b c : ℤ) → a ≤ℤ b → b ≤ℤ c → int_le a c ≡ true
int_reaches a b c low high = let whole : a ≤ℤ c = omega (arith, ints, low, high) in grind (arith, whole)

in_first : (a b : List Hit) (p : Prefix) → Contains (prefixes_of a) p → Contains (prefixes_of (a ++ b)) p
in_first a b p at = subst (λ (l : List Prefix). Contains l p) (sym (map-append (λ (hit : Hit). hit.prefix) a b)) (Contains-append_left (prefixes_of a) (prefixes_of b) p at)

in_second : (a b : List Hit) (p : Prefix) → Contains (prefixes_of b) p → Contains (prefixes_of (a ++ b)) p
in_second a b p at = subst (λ (l : List Prefix). Contains l p) (sym (map-append (λ (hit : Hit). hit.prefix) a b)) (Contains-append_right (prefixes_of a) (prefixes_of b) p at)

-- nothing was cut off, and so a network that reaches the number is a hit where its parent is one
module _ (shape : Shape) (lawful : IsShape shape) (packets : List Packet) (total : total_amount packets < 2 ^ 63) (limit : ℕ) (least : ℤ) where
  found_below : (length shorter : ℕ) (parents : List Prefix) (p : Prefix) → IsNetwork p → p.length ≡ length → shorter + 8 ≡ length
      → least ≤ℤ pos (network_amount packets p) → Contains parents (parent_of shorter p)
      → has_more (level_table shape packets length) limit least (candidates_of parents) ≡ false
      → Contains (prefixes_of (hits_of (level_table shape packets length) limit least (candidates_of parents))) p
  unfolding qualified_of candidates_of
  found_below length shorter parents p is at next enough above all =
      let table = level_table shape packets length in
      let cs = candidates_of parents in
      let candidate : Contains cs p = in_flat_map children_of parents (parent_of shorter p) p above (child_of_parent length shorter p is at next) in
      let hit = in_map (hit_by table) cs p candidate in
      let reaches : int_le least (hit_by table p).estimate ≡ true = int_reaches least (pos (network_amount packets p)) _ enough (level_never_below shape lawful packets total length p at) in
      let qualified = in_filter (λ hit. int_le least hit.estimate) (map (hit_by table) cs) (hit_by table p) hit reaches in
      let cut = take_all limit (qualified_of table least cs) (ltb-false limit _ all) in
      rw cut (in_map (λ (hit : Hit). hit.prefix) (qualified_of table least cs) (hit_by table p) qualified)

  -- the parents of each length, and what is found below them
  abbrev level_under : List Prefix → ℕ → Level
  level_under parents length = level_below limit least parents (level_table shape packets length)

  abbrev under : List Prefix → ℕ → List Prefix
  under parents length = prefixes_of (level_under parents length).hits

  abbrev parents_8 : List Prefix
  parents_8 = everything ∷ []

  abbrev parents_16 : List Prefix
  parents_16 = under parents_8 8

  abbrev parents_24 : List Prefix
  parents_24 = under parents_16 16

  abbrev parents_32 : List Prefix
  parents_32 = under parents_24 24

  -- the network is one that reaches the number, of this length
  record Reaches (length : ℕ) (p : Prefix) : Type 0 where
    network : IsNetwork p
    at_length : p.length ≡ length
    enough : least ≤ℤ pos (network_amount packets p)

  parent_reaches : (length shorter : ℕ) (p : Prefix) → shorter + 8 ≡ length → IsLength shorter → Reaches length p → Reaches shorter (parent_of shorter p)
  unfolding network_of
  parent_reaches length shorter p next lawful r = record {
    network = parent_is_network length shorter p r.network r.at_length next lawful;
    at_length = refl;
    enough = omega (arith, ints, r.enough, parent_least length shorter packets p (subst IsLength r.at_length r.network.length) r.at_length next);
  }

  found_under : (length shorter : ℕ) (parents : List Prefix) (p : Prefix) → shorter + 8 ≡ length → Reaches length p → Contains parents (parent_of shorter p)
      → (level_under parents length).more ≡ false → Contains (under parents length) p
  unfolding level_below
  found_under length shorter parents p next r above all = found_below length shorter parents p r.network r.at_length next r.enough above all

  at_8 : (p : Prefix) → Reaches 8 p → (level_under parents_8 8).more ≡ false → Contains parents_16 p
  at_8 p r all = found_under 8 0 parents_8 p refl r (0, omega arith, sym (parent_is_everything p r.network)) all

  at_16 : (p : Prefix) → Reaches 16 p → (level_under parents_8 8).more ≡ false → (level_under parents_16 16).more ≡ false → Contains parents_24 p
  at_16 p r all₁ all = found_under 16 8 parents_16 p refl r (at_8 (parent_of 8 p) (parent_reaches 16 8 p refl (inl refl) r) all₁) all

  at_24 : (p : Prefix) → Reaches 24 p → (level_under parents_8 8).more ≡ false → (level_under parents_16 16).more ≡ false → (level_under parents_24 24).more ≡ false → Contains parents_32 p
  at_24 p r all₁ all₂ all = found_under 24 16 parents_24 p refl r (at_16 (parent_of 16 p) (parent_reaches 24 16 p refl (inr (inl refl)) r) all₁ all₂) all

  at_32 : (p : Prefix) → Reaches 32 p → (level_under parents_8 8).more ≡ false → (level_under parents_16 16).more ≡ false → (level_under parents_24 24).more ≡ false → (level_under parents_32 32).more ≡ false
      → Contains (under parents_32 32) p
  at_32 p r all₁ all₂ all₃ all = found_under 32 24 parents_32 p refl r (at_24 (parent_of 24 p) (parent_reaches 32 24 p refl (inr (inr (inl refl))) r) all₁ all₂ all₃) all

  abbrev hits_at : List Prefix → ℕ → List Hit
  hits_at parents length = (level_under parents length).hits

  pub misses_none : (hits : List Hit) (more : List Bool) → IsFound (level_tables shape packets) limit least hits more → MissesNone packets least hits more
  unfolding level_tables levels_of
  misses_none hits more found p is none enough =
      let cut : (k : ℕ) → 8 * (k + 1) ≤ p.length → slice_index_or (map (λ level. level.more) (levels_of (level_tables shape packets) limit least)) k true ≡ false = λ k le. ap (λ (l : List Bool). slice_index_or l k true) (sym found.more_is) ∙ none k le in
      subst (λ (l : List Hit). Contains (prefixes_of l) p) (sym found.hits_are) (by_length is.length cut) where
        by_length : IsLength p.length → ((k : ℕ) → 8 * (k + 1) ≤ p.length → slice_index_or (map (λ level. level.more) (levels_of (level_tables shape packets) limit least)) k true ≡ false)
            → Contains (prefixes_of (hits_at parents_8 8 ++ (hits_at parents_16 16 ++ (hits_at parents_24 24 ++ (hits_at parents_32 32 ++ []))))) p
        by_length (inl at) cut = in_first (hits_at parents_8 8) _ p (at_8 p (record { network = is; at_length = at; enough = enough }) (cut 0 (omega (arith, at))))
        by_length (inr (inl at)) cut = in_second (hits_at parents_8 8) _ p (in_first (hits_at parents_16 16) _ p (at_16 p (record { network = is; at_length = at; enough = enough }) (cut 0 (omega (arith, at))) (cut 1 (omega (arith, at)))))
        by_length (inr (inr (inl at))) cut = in_second (hits_at parents_8 8) _ p (in_second (hits_at parents_16 16) _ p (in_first (hits_at parents_24 24) _ p (at_24 p (record { network = is; at_length = at; enough = enough }) (cut 0 (omega (arith, at))) (cut 1 (omega (arith, at))) (cut 2 (omega (arith, at))))))
        by_length (inr (inr (inr at))) cut = in_second (hits_at parents_8 8) _ p (in_second (hits_at parents_16 16) _ p (in_second (hits_at parents_24 24) _ p (in_first (hits_at parents_32 32) _ p (at_32 p (record { network = is; at_length = at; enough = enough }) (cut 0 (omega (arith, at))) (cut 1 (omega (arith, at))) (cut 2 (omega (arith, at))) (cut 3 (omega (arith, at)))))))
