-- Candidates parted by whether their bits are shared.
use Rattle.std.proofs.Common.{◌≡◌, ℕ, ◌<◌, ◌+◌, Bool, true, false, not, cond, List, [], ◌∷◌, ◌++◌, length, get_or, take, filter, sym, ◌∙◌, ap}
use Rattle.std.specs.List.{count_by}
use Rattle.std.proofs.lemmas.List.{append-nil}
use Rattle.std.proofs.lemmas.List.Elements.{filter_more}
use Rattle.std.proofs.lemmas.List.Sums.{count_by_more_no, count_by_more_yes}
use Rattle.heavy_keys.specs.SharedBits.{is_shared}
use Rattle.heavy_keys.specs.declared.candidates.Candidate.{Candidate}

-- what is known of so many candidates that were parted
pub record AreParted (bits : List Bool) (candidates : List Candidate) (lone : ℕ) (rest : List Candidate) : Type 0 where
  pub lone_are : lone ≡ count_by (λ c. not (is_shared bits c)) candidates
  pub rest_are : rest ≡ filter (is_shared bits) candidates

module _ (bits : List Bool) (xs : List Candidate) (i : ℕ) (d : Candidate) (lone more : ℕ) (rest longer : List Candidate) (below : i < length xs) (h : AreParted bits (take i xs) lone rest) where
  filtered : (t : Bool) → is_shared bits (get_or xs i d) ≡ t → filter (is_shared bits) (take (i + 1) xs) ≡ rest ++ cond t (get_or xs i d ∷ []) []
  filtered t is = filter_more (is_shared bits) xs i d below ∙ ap (λ (u : Bool). filter (is_shared bits) (take i xs) ++ cond u (get_or xs i d ∷ []) []) is
      ∙ ap (λ l. l ++ cond t (get_or xs i d ∷ []) []) (sym h.rest_are)

  -- one whose bit is shared
  pub one_shared : is_shared bits (get_or xs i d) ≡ true → more ≡ lone → longer ≡ rest ++ get_or xs i d ∷ [] → AreParted bits (take (i + 1) xs) more longer
  one_shared is same put = record {
    lone_are = same ∙ h.lone_are ∙ sym (count_by_more_no (λ c. not (is_shared bits c)) xs i d below (ap not is));
    rest_are = put ∙ sym (filtered true is);
  }

  -- one whose bit is its own
  pub one_lone : is_shared bits (get_or xs i d) ≡ false → more ≡ lone + 1 → longer ≡ rest → AreParted bits (take (i + 1) xs) more longer
  one_lone is next same = record {
    lone_are = next ∙ ap (λ n. n + 1) h.lone_are ∙ sym (count_by_more_yes (λ c. not (is_shared bits c)) xs i d below (ap not is));
    rest_are = same ∙ sym (append-nil rest) ∙ sym (filtered false is);
  }
