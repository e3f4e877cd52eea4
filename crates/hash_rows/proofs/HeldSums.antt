-- What a private cell of a sum stands for: the laws of a kind on held values.
use Rattle.std.proofs.Common.{◌≡◌, ℤ, pos, true, Some, refl, sym, ap}
use Rattle.hash_rows.specs.declared.sums.SumHeld.{SumHeld}
use Rattle.hash_rows.specs.Sketches.{is_sum, small_gap, sum_small}
use Rattle.hash_rows.specs.Sums.{StandsForSums}
use Rattle.hash_rows.proofs.SumLaws.{small_gap_is}

pub fresh_sums : StandsForSums (record { gap = pos 0 }) (pos 0) (pos 0)
fresh_sums = record { told_value = refl; whole_value = refl; gap = refl }

pub sums_for_values : (h : SumHeld) (told whole : ℤ) → StandsForSums h told whole
    → (is_sum told ≡ true) × (is_sum whole ≡ true) × (true ≡ true)
sums_for_values h told whole stands = (stands.told_value, stands.whole_value, refl)

pub small_sums : (h : SumHeld) (told whole : ℤ) → StandsForSums h told whole → small_gap h.gap ≡ sum_small told whole
small_sums h told whole stands = ap small_gap stands.gap

pub small_sums_back : (h : SumHeld) (told whole b : ℤ) → StandsForSums h told whole → small_gap h.gap ≡ Some b → record { gap = b } ≡ h
small_sums_back h told whole b stands small =
    let P : ℤ → SumHeld = λ gap. record { gap = gap } in
    ap P (sym (small_gap_is h.gap b small).1)
