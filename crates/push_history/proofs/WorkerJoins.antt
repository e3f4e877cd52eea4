-- Joins over workers: of two numbers of each, and of what many lists of messages tell.
use Rattle.std.proofs.Common.{◌≡◌, ◌<◌, ◌≤◌, ℕ, ℤ, zero, suc, ◌+◌, ◌==◌, pos, List, [], ◌∷◌, true, refl, sym, ap, ap₂, ◌∙◌, arith}
use Rattle.std.specs.Prelude.{All, filter, map}
use Rattle.std.specs.List.{flat_map, range_with_len}
use Rattle.std.proofs.lemmas.List.{map-append}
use Rattle.std.proofs.lemmas.List.Elements.{All-append, All-cons, All-filter, All-map, All-nil, filter-append}
use Rattle.hash_rows.specs.Rules.{Rules, AreLaws, AreValues}
use Rattle.hash_rows.specs.Sequential.{joined_of}
use Rattle.hash_rows.specs.declared.shape.Push.{Push}
use Rattle.push_history.specs.Told.{amounts_for, told_of}
use Rattle.push_history.proofs.Joins.{joined_value}
use Rattle.push_history.proofs.Parts.{joined_append, joined_cons}

module _ (r : Rules) (laws : AreLaws r) where
  -- two joins of two, the other way round
  four : (a b c d : ℤ) → r.is_value a ≡ true → r.is_value b ≡ true → r.is_value c ≡ true → r.is_value d ≡ true → r.join (r.join a b) (r.join c d) ≡ r.join (r.join a c) (r.join b d)
  four a b c d a_is b_is c_is d_is =
      laws.join_assoc a b (r.join c d) a_is b_is (laws.join_value c d c_is d_is)
      ∙ ap (r.join a) (sym (laws.join_assoc b c d b_is c_is d_is) ∙ ap (λ (z : ℤ). r.join z d) (laws.join_comm b c b_is c_is) ∙ laws.join_assoc c b d c_is b_is d_is)
      ∙ sym (laws.join_assoc a c (r.join b d) a_is c_is (laws.join_value b d b_is d_is))

  -- values for each of some numbers
  abbrev pub AreEach : (ℕ → ℤ) → ℕ → ℕ → Type 0
  AreEach f first n = (w : ℕ) → first ≤ w → w < first + n → r.is_value (f w) ≡ true

  each_later : (f : ℕ → ℤ) (first n : ℕ) → AreEach f first (suc n) → AreEach f (first + 1) n
  each_later f first n are w low high = are w (omega (arith, low)) (omega (arith, high))

  pub range_values : (f : ℕ → ℤ) (first n : ℕ) → AreEach f first n → AreValues r (map f (range_with_len first n))
  range_values f first zero are = All-nil (λ y. r.is_value y ≡ true)
  range_values f first (suc n) are =
      All-cons (λ y. r.is_value y ≡ true) (f first) (map f (range_with_len (first + 1) n)) (are first (omega arith) (omega arith)) (range_values f (first + 1) n (each_later f first n are))

  -- the join of joins of two is the join of the two joins
  pub joined_both : (f g : ℕ → ℤ) (first n : ℕ) → AreEach f first n → AreEach g first n
      → joined_of r (map (λ w. r.join (f w) (g w)) (range_with_len first n)) ≡ r.join (joined_of r (map f (range_with_len first n))) (joined_of r (map g (range_with_len first n)))
  joined_both f g first zero fs gs = sym (laws.join_zero (pos 0) laws.zero_value)
  joined_both f g first (suc n) fs gs =
      let rest = range_with_len (first + 1) n in
      let f_is = fs first (omega arith) (omega arith) in
      let g_is = gs first (omega arith) (omega arith) in
      let fs_are = range_values f (first + 1) n (each_later f first n fs) in
      let gs_are = range_values g (first + 1) n (each_later g first n gs) in
      let both : AreValues r (map (λ w. r.join (f w) (g w)) rest) =
      range_values (λ w. r.join (f w) (g w)) (first + 1) n (λ w low high. laws.join_value (f w) (g w) (each_later f first n fs w low high) (each_later g first n gs w low high)) in
      joined_cons r laws (r.join (f first) (g first)) (map (λ w. r.join (f w) (g w)) rest) (laws.join_value (f first) (g first) f_is g_is) both
      ∙ ap (r.join (r.join (f first) (g first))) (joined_both f g (first + 1) n (each_later f first n fs) (each_later g first n gs))
      ∙ four (f first) (g first) (joined_of r (map f rest)) (joined_of r (map g rest)) f_is g_is (joined_value r laws (map f rest) fs_are) (joined_value r laws (map g rest) gs_are)
      ∙ ap₂ r.join (sym (joined_cons r laws (f first) (map f rest) f_is fs_are)) (sym (joined_cons r laws (g first) (map g rest) g_is gs_are))

  abbrev pub TellValues : List Push → Type 0
  TellValues ms = All (λ m. r.is_value m.amount ≡ true) ms

  amounts_values : (cell : ℕ) (ms : List Push) → TellValues ms → AreValues r (amounts_for cell ms)
  amounts_values cell ms all =
      All-map (λ y. r.is_value y ≡ true) (λ m. m.amount) (filter (λ m. m.cell == cell) ms) (All-filter (λ m. m.cell == cell) (λ m. r.is_value m.amount ≡ true) ms all)

  flat_values : (f : ℕ → List Push) → ((w : ℕ) → TellValues (f w)) → (ws : List ℕ) → TellValues (flat_map f ws)
  flat_values f all [] = All-nil (λ m. r.is_value m.amount ≡ true)
  flat_values f all (w ∷ ws) = All-append (λ m. r.is_value m.amount ≡ true) (f w) (flat_map f ws) (all w) (flat_values f all ws)

  -- what many lists of messages tell
  pub told_flat : (cell : ℕ) (f : ℕ → List Push) → ((w : ℕ) → TellValues (f w)) → (ws : List ℕ) → told_of r cell (flat_map f ws) ≡ joined_of r (map (λ w. told_of r cell (f w)) ws)
  unfolding told_of
  told_flat cell f all [] = refl
  told_flat cell f all (w ∷ ws) =
      ap (joined_of r) (ap (map (λ m. m.amount)) (filter-append (λ m. m.cell == cell) (f w) (flat_map f ws))
      ∙ map-append (λ m. m.amount) (filter (λ m. m.cell == cell) (f w)) (filter (λ m. m.cell == cell) (flat_map f ws)))
      ∙ joined_append r laws (amounts_for cell (f w)) (amounts_for cell (flat_map f ws)) (amounts_values cell (f w) (all w)) (amounts_values cell (flat_map f ws) (flat_values f all ws))
      ∙ ap (r.join (joined_of r (amounts_for cell (f w)))) (told_flat cell f all ws)
      ∙ sym (joined_cons r laws (joined_of r (amounts_for cell (f w))) (map (λ v. joined_of r (amounts_for cell (f v))) ws)
      (joined_value r laws (amounts_for cell (f w)) (amounts_values cell (f w) (all w))) (made ws))
    where
      made : (ws : List ℕ) → AreValues r (map (λ v. joined_of r (amounts_for cell (f v))) ws)
      made [] = All-nil (λ y. r.is_value y ≡ true)
      made (w ∷ ws) = All-cons (λ y. r.is_value y ≡ true) (joined_of r (amounts_for cell (f w))) (map (λ v. joined_of r (amounts_for cell (f v))) ws) (joined_value r laws (amounts_for cell (f w)) (amounts_values cell (f w) (all w))) (made ws)
