-- The distinct keys of a list and the first of them, with one key more.
use Rattle.std.proofs.Common.{◌≡◌, ℕ, ◌<◌, ◌≤◌, Bool, true, false, not, ◌||◌, List, [], ◌∷◌, ◌++◌, length, take, drop, filter, refl, sym, ◌∙◌, ap, subst, arith}
use Rattle.std.specs.Prelude.{fold, if◌then◌else◌}
use Rattle.std.proofs.lemmas.List.{take-append-le, take-append-drop, take_all, length-take, length-append}
use Rattle.std.proofs.lemmas.List.Folds.{list_any-append}
use Rattle.std.proofs.lemmas.List.Sums.{fold-append}
use Rattle.packet_key.specs.declared.key.FlowKey.{FlowKey}
use Rattle.packet_key.specs.contracts.key.FlowKeyEq.TheImpl.Laws.{laws-law}
use Rattle.push_history.specs.LiveHeavy.{same_key, is_among, with_key, distinct_keys}

-- a key among a list is among each longer one
pub among_more : (xs ys : List FlowKey) (k : FlowKey) → is_among xs k ≡ true → is_among (xs ++ ys) k ≡ true
among_more xs ys k h = list_any-append (λ x. same_key x k) xs ys ∙ ap (λ b. b || is_among ys k) h

-- the last of some keys is among them
among_last : (xs : List FlowKey) (k : FlowKey) → is_among (xs ++ k ∷ []) k ≡ true
among_last [] k = ap (λ b. b || false) (laws-law.refl k)
among_last (x ∷ xs) k = by (same_key x k) (among_last xs k)
  where
    by : (b : Bool) {r : Bool} → r ≡ true → (b || r) ≡ true
    by true h = refl
    by false h = h

-- a key that was put behind some keys, unless it was one of them
pub with_key_there : (xs : List FlowKey) (k : FlowKey) → is_among xs k ≡ true → with_key xs k ≡ xs
with_key_there xs k h = ap (λ b. if b then xs else xs ++ k ∷ []) h

pub with_key_new : (xs : List FlowKey) (k : FlowKey) → is_among xs k ≡ false → with_key xs k ≡ xs ++ k ∷ []
with_key_new xs k h = ap (λ b. if b then xs else xs ++ k ∷ []) h

-- what holds of both lists that a further key makes holds of the one that it makes
pub with_key_cases : (P : List FlowKey → Type 0) (xs : List FlowKey) (k : FlowKey) → (is_among xs k ≡ true → P xs) → (is_among xs k ≡ false → P (xs ++ k ∷ [])) → P (with_key xs k)
with_key_cases P xs k there new = by (is_among xs k) refl
  where
    by : (b : Bool) → is_among xs k ≡ b → P (with_key xs k)
    by true h = subst P (sym (with_key_there xs k h)) (there h)
    by false h = subst P (sym (with_key_new xs k h)) (new h)

among_with_key : (xs : List FlowKey) (x k : FlowKey) → is_among xs k ≡ true → is_among (with_key xs x) k ≡ true
among_with_key xs x k h = with_key_cases (λ ys. is_among ys k ≡ true) xs x (λ _. h) (λ _. among_more xs (x ∷ []) k h)

among_itself : (xs : List FlowKey) (k : FlowKey) → is_among (with_key xs k) k ≡ true
among_itself xs k = with_key_cases (λ ys. is_among ys k ≡ true) xs k (λ h. h) (λ _. among_last xs k)

among_all : (qs xs : List FlowKey) (k : FlowKey) → is_among xs k ≡ true → is_among (fold with_key xs qs) k ≡ true
among_all [] xs k h = h
among_all (q ∷ qs) xs k h = among_all qs (with_key xs q) k (among_with_key xs q k h)

-- the keys that aren't among these
abbrev pub missing : List FlowKey → List FlowKey → List FlowKey
missing live qs = filter (λ key. not (is_among live key)) qs

-- no key is missing among all of them
none_missing : (live qs xs : List FlowKey) → ((k : FlowKey) → is_among (fold with_key xs qs) k ≡ true → is_among live k ≡ true) → missing live qs ≡ []
none_missing live [] xs h = refl
none_missing live (q ∷ qs) xs h =
    let first : is_among live q ≡ true = h q (among_all qs (with_key xs q) q (among_itself xs q)) in
    ap (λ b. if not b then q ∷ missing live qs else missing live qs) first ∙ none_missing live qs (with_key xs q) h

pub distinct_push : (qs : List FlowKey) (k : FlowKey) → distinct_keys (qs ++ k ∷ []) ≡ with_key (distinct_keys qs) k
distinct_push qs k = fold-append with_key [] qs (k ∷ [])

-- a front of a longer list is that of the list, where the list is long enough
take_with_key : (n : ℕ) (xs : List FlowKey) (k : FlowKey) → n ≤ length xs → take n (with_key xs k) ≡ take n xs
take_with_key n xs k long = with_key_cases (λ ys. take n ys ≡ take n xs) xs k (λ _. refl) (λ _. take-append-le n xs (k ∷ []) long)

-- a further key among the first n
module _ (n : ℕ) (qs : List FlowKey) (k : FlowKey) where
  pub there_live : is_among (take n (distinct_keys qs)) k ≡ true → take n (distinct_keys (qs ++ k ∷ [])) ≡ take n (distinct_keys qs)
  there_live h =
      let all : is_among (distinct_keys qs) k ≡ true = subst (λ xs. is_among xs k ≡ true) (take-append-drop n (distinct_keys qs)) (among_more (take n (distinct_keys qs)) (drop n (distinct_keys qs)) k h) in
      ap (take n) (distinct_push qs k ∙ with_key_there (distinct_keys qs) k all)

  pub new_live : is_among (take n (distinct_keys qs)) k ≡ false → length (take n (distinct_keys qs)) < n → take n (distinct_keys (qs ++ k ∷ [])) ≡ take n (distinct_keys qs) ++ k ∷ []
  new_live h short =
      let few : length (distinct_keys qs) < n = omega (arith, length-take n (distinct_keys qs)) in
      let all : take n (distinct_keys qs) ≡ distinct_keys qs = take_all n (distinct_keys qs) (omega arith) in
      let absent : is_among (distinct_keys qs) k ≡ false = subst (λ xs. is_among xs k ≡ false) all h in
      let fits : length (distinct_keys qs ++ k ∷ []) ≤ n = omega (arith, length-append (distinct_keys qs) (k ∷ [])) in
      ap (take n) (distinct_push qs k ∙ with_key_new (distinct_keys qs) k absent) ∙ take_all n (distinct_keys qs ++ k ∷ []) fits ∙ ap (λ xs. xs ++ k ∷ []) (sym all)

  pub full_live : n ≤ length (take n (distinct_keys qs)) → take n (distinct_keys (qs ++ k ∷ [])) ≡ take n (distinct_keys qs)
  full_live full =
      let long : n ≤ length (distinct_keys qs) = omega (arith, length-take n (distinct_keys qs)) in
      ap (take n) (distinct_push qs k) ∙ take_with_key n (distinct_keys qs) k long

-- a further key makes at most one key more
pub length_with_key : (n : ℕ) (xs : List FlowKey) (k : FlowKey) → length xs < n → length (with_key xs k) ≤ n
length_with_key n xs k few = with_key_cases (λ ys. length ys ≤ n) xs k (λ _. omega arith) (λ _. omega (arith, length-append xs (k ∷ [])))

-- where all distinct keys have room, none is missing
pub none_missing_live : (n : ℕ) (qs : List FlowKey) → length (distinct_keys qs) ≤ n → missing (take n (distinct_keys qs)) qs ≡ []
none_missing_live n qs fits = subst (λ live. missing live qs ≡ []) (sym (take_all n (distinct_keys qs) fits)) (none_missing (distinct_keys qs) qs [] (λ k h. h))
