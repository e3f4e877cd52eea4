-- What a private register stands for: the laws of a kind on held values.
use Rattle.std.proofs.Common.{◌≡◌, ◌≤◌, ◌+◌, ◌/◌, ◌%◌, ℕ, ℤ, pos, true, Some, refl, sym, ap₂, subst, arith}
use Rattle.std.specs.Prelude.{unsigned_abs, int_le}
use Rattle.hash_rows.specs.Sketches.{is_rank, rank_small}
use Rattle.hash_rows.proofs.RankLaws.{ranks_are, ranks_back}
use Rattle.hash_rows.specs.declared.ranks.RankHeld.{RankHeld}
use Rattle.hash_rows.specs.Ranks.{StandsForRanks}

pub fresh_ranks : StandsForRanks (record { told = 0; whole = 0 }) (pos 0) (pos 0)
fresh_ranks = record { told_is = refl; whole_is = refl; most = omega arith; behind = omega arith }

pub ranks_for_values : (h : RankHeld) (told whole : ℤ) → StandsForRanks h told whole
    → (is_rank told ≡ true) × (is_rank whole ≡ true) × (int_le told whole ≡ true)
ranks_for_values h told whole stands =
    let ranks = ranks_are h.told h.whole stands.most stands.behind in
    subst (λ t. (is_rank t ≡ true) × (is_rank whole ≡ true) × (int_le t whole ≡ true)) (sym stands.told_is)
    (subst (λ w. (is_rank (pos h.told) ≡ true) × (is_rank w ≡ true) × (int_le (pos h.told) w ≡ true)) (sym stands.whole_is) ranks)

pub small_ranks : (h : RankHeld) (told whole : ℤ) → StandsForRanks h told whole → rank_small (pos h.told) (pos h.whole) ≡ rank_small told whole
small_ranks h told whole stands = ap₂ rank_small (sym stands.told_is) (sym stands.whole_is)

pub small_ranks_back : (h : RankHeld) (told whole b : ℤ) → StandsForRanks h told whole → rank_small (pos h.told) (pos h.whole) ≡ Some b
    → record { told = unsigned_abs b % 33; whole = unsigned_abs b % 33 + unsigned_abs b / 33 } ≡ h
small_ranks_back h told whole b stands small =
    let most : h.told ≤ 32 = omega (arith, stands.most, stands.behind) in
    let both = ranks_back h.told h.whole b most stands.behind small in
    let P : ℕ → ℕ → RankHeld = λ t w. record { told = t; whole = w } in
    ap₂ P both.0 both.1
