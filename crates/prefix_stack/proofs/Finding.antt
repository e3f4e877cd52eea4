-- What is found among one candidate more.
use Rattle.std.proofs.Common.{◌≡◌, ◌∙◌, ◌<◌, ◌≤◌, ◌+◌, ◌≤ℤ◌, ◌<ℤ◌, All, ℕ, ℤ, true, false, cond, List, [], ◌∷◌, ◌++◌, length, map, filter, take, get_or, sym, ap, subst, arith, append_assoc, length-append}
use Rattle.std.specs.Prelude.{nat_lt, int_le, int_lt}
use Rattle.std.specs.List.{flat_map, range_with_len}
use Rattle.std.proofs.lemmas.Bool.{lt-ltb, le-ltb}
use Rattle.std.proofs.lemmas.List.{append-nil, get_or-map, length-map, length-take, map-append, take_all, take_more, take-append-le}
use Rattle.std.proofs.lemmas.List.Concat.{flat_map-append}
use Rattle.std.proofs.lemmas.List.Elements.{filter-append}
use Rattle.std.proofs.lemmas.List.FromFn.{map-range_with_len_more}
use Rattle.hash_rows.specs.Tables.{TableView}
use Rattle.hash_rows.specs.Sketches.{count_min_estimate}
use Rattle.packet_key.specs.declared.key.FlowKey.{FlowKey}
use Rattle.prefixes.specs.declared.network.Prefix.{Prefix}
use Rattle.prefixes.specs.Networks.{prefix_key}
use Rattle.prefix_stack.specs.declared.hit.Hit.{Hit}
use Rattle.prefix_stack.specs.declared.hit.Reached.{Reached}
use Rattle.prefix_stack.specs.Descent.{IsLevelOf, IsParent, candidates_of, child_of, children_of, hit_by, prefixes_of, qualified_of}

qualified_more : (table : TableView) (least : ℤ) (cs : List Prefix) (c : Prefix)
    → qualified_of table least (cs ++ c ∷ []) ≡ qualified_of table least cs ++ cond (int_le least (hit_by table c).estimate) (hit_by table c ∷ []) []
unfolding qualified_of
qualified_more table least cs c =
    ap (filter (λ hit. int_le least hit.estimate)) (map-append (hit_by table) cs (c ∷ []))
    ∙ filter-append (λ hit. int_le least hit.estimate) (map (hit_by table) cs) (hit_by table c ∷ [])

module _ (table : TableView) (limit : ℕ) (least : ℤ) (cs : List Prefix) (c : Prefix) where
  -- it doesn't qualify
  pub left_out : int_le least (hit_by table c).estimate ≡ false → (r : Reached) → IsLevelOf table limit least cs r → IsLevelOf table limit least (cs ++ c ∷ []) r
  left_out fails r h =
      let same : qualified_of table least (cs ++ c ∷ []) ≡ qualified_of table least cs =
      qualified_more table least cs c ∙ ap (λ b. qualified_of table least cs ++ cond b (hit_by table c ∷ []) []) fails ∙ append-nil (qualified_of table least cs) in
      record {
        hits = h.hits ∙ ap (take limit) (sym same);
        more = h.more ∙ ap (λ (q : List Hit). nat_lt limit (length q)) (sym same);
        room = h.room;
      }

  with_it : int_le least (hit_by table c).estimate ≡ true → qualified_of table least (cs ++ c ∷ []) ≡ qualified_of table least cs ++ hit_by table c ∷ []
  with_it passes = qualified_more table least cs c ∙ ap (λ b. qualified_of table least cs ++ cond b (hit_by table c ∷ []) []) passes

  -- it qualifies, and there is room
  pub taken_in : int_le least (hit_by table c).estimate ≡ true → (r new : Reached) → IsLevelOf table limit least cs r → length r.hits.items < r.hits.room
      → new.hits.items ≡ r.hits.items ++ hit_by table c ∷ [] → new.hits.room ≡ r.hits.room → new.more ≡ r.more
      → IsLevelOf table limit least (cs ++ c ∷ []) new
  taken_in passes r new h space items room more =
      let q = qualified_of table least cs in
      let cut : length (take limit q) < limit = omega (arith, space, ap length h.hits, h.room) in
      let short : length q < limit = omega (arith, cut, length-take limit q) in
      let longer = length-append q (hit_by table c ∷ []) in
      let fits : length (q ++ hit_by table c ∷ []) ≤ limit = omega (arith, short, longer) in
      record {
        hits = items ∙ ap (λ (l : List Hit). l ++ hit_by table c ∷ []) (h.hits ∙ take_all limit q (omega (arith, short))) ∙ sym (take_all limit (q ++ hit_by table c ∷ []) fits) ∙ ap (take limit) (sym (with_it passes));
        more = more ∙ h.more ∙ le-ltb limit (length q) (omega (arith, short)) ∙ sym (le-ltb limit (length (q ++ hit_by table c ∷ [])) fits) ∙ ap (λ (l : List Hit). nat_lt limit (length l)) (sym (with_it passes));
        room = room ∙ h.room;
      }

  -- it qualifies, and there is no room
  pub left_over : int_le least (hit_by table c).estimate ≡ true → (r new : Reached) → IsLevelOf table limit least cs r → r.hits.room ≤ length r.hits.items
      → new.hits ≡ r.hits → new.more ≡ true
      → IsLevelOf table limit least (cs ++ c ∷ []) new
  left_over passes r new h full hits more =
      let q = qualified_of table least cs in
      let cut : limit ≤ length (take limit q) = omega (arith, full, ap length h.hits, h.room) in
      let long : limit ≤ length q = omega (arith, cut, length-take limit q) in
      let longer = length-append q (hit_by table c ∷ []) in
      record {
        hits = ap (λ l. l.items) hits ∙ h.hits ∙ sym (take-append-le limit q (hit_by table c ∷ []) long) ∙ ap (take limit) (sym (with_it passes));
        more = more ∙ sym (lt-ltb limit (length (q ++ hit_by table c ∷ [])) (omega (arith, long, longer))) ∙ ap (λ (l : List Hit). nat_lt limit (length l)) (sym (with_it passes));
        room = ap (λ l. l.room) hits ∙ h.room;
      }

-- one child more
pub child_more : (cs : List Prefix) (p : Prefix) (k : ℕ)
    → (cs ++ map (child_of p) (range_with_len 0 k)) ++ child_of p k ∷ [] ≡ cs ++ map (child_of p) (range_with_len 0 (k + 1))
child_more cs p k = append_assoc cs (map (child_of p) (range_with_len 0 k)) (child_of p k ∷ []) ∙ ap (λ (l : List Prefix). cs ++ l) (sym (map-range_with_len_more (child_of p) 0 k k (omega arith)))

-- one parent more
pub parent_more : (hits : List Hit) (k : ℕ) (d : Hit) → k < length hits
    → candidates_of (prefixes_of (take k hits)) ++ children_of (get_or hits k d).prefix ≡ candidates_of (prefixes_of (take (k + 1) hits))
unfolding candidates_of
parent_more hits k d lt =
    let more = take_more hits k d lt in
    let mapped = map-append (λ (hit : Hit). hit.prefix) (take k hits) (get_or hits k d ∷ []) in
    let joined = flat_map-append children_of (prefixes_of (take k hits)) ((get_or hits k d).prefix ∷ []) in
    sym (ap (λ (l : List Hit). flat_map children_of (prefixes_of l)) more ∙ ap (flat_map children_of) mapped ∙ joined ∙ ap (λ (l : List Prefix). flat_map children_of (prefixes_of (take k hits)) ++ l) (append-nil (children_of (get_or hits k d).prefix)))

-- nothing is found among no candidates
pub nothing_yet : (table : TableView) (limit : ℕ) (least : ℤ) (r : Reached) → r.hits.items ≡ [] → r.more ≡ false → r.hits.room ≡ limit → IsLevelOf table limit least (candidates_of []) r
unfolding candidates_of qualified_of
nothing_yet table limit least r none more room = record {
  hits = none ∙ sym (take_all limit [] (omega arith));
  more = more ∙ sym (le-ltb limit 0 (omega arith));
  room = room;
}

-- what the table says of a candidate
pub estimate_is : (table : TableView) (c : Prefix) (key : FlowKey) (e : ℤ) → key ≡ prefix_key c → e ≡ count_min_estimate table.shape table.cells key → e ≡ (hit_by table c).estimate
estimate_is table c key e same is = is ∙ ap (count_min_estimate table.shape table.cells) same

is_below : (a b : ℤ) → int_lt a b ≡ true → a <ℤ b
is_below a b is = grind arith

not_below : (a b : ℤ) → int_lt a b ≡ false → b ≤ℤ a
not_below a b is = grind arith

pub too_low : (least e f : ℤ) → e ≡ f → int_lt e least ≡ true → int_le least f ≡ false
too_low least e f same low = let lower : f <ℤ least = subst (λ z. z <ℤ least) same (is_below e least low) in grind (arith, lower)

pub high_enough : (least e f : ℤ) → e ≡ f → int_lt e least ≡ false → int_le least f ≡ true
high_enough least e f same high = let higher : least ≤ℤ f = subst (λ z. least ≤ℤ z) same (not_below e least high) in grind (arith, higher)

pub parent_at : (bits : ℕ) (hits : List Hit) → All (IsParent bits) (prefixes_of hits) → (i : ℕ) (d : Hit) → i < length hits → IsParent bits (get_or hits i d).prefix
parent_at bits hits are i d lt =
    subst (IsParent bits) (get_or-map (λ (hit : Hit). hit.prefix) hits i d d.prefix lt) (are i d.prefix (omega (arith, lt, length-map hits (λ (hit : Hit). hit.prefix))))
