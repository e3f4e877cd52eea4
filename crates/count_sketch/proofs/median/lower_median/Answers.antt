use Rattle.std.proofs.Common.{◌∙◌, ◌-◌, ◌/◌, ℕ, ℤ, List, pos, length, get_or, ap₂, w64, FitsSigned, rules}
use Rattle.std.proofs.lemmas.Int.{to_z-of_z}
use Rattle.hash_rows.specs.Sketches.{lower_median_of}
use Rattle.count_sketch.proofs.Sorting.{sorted_permutation}
use Rattle.count_sketch.proofs.median.lower_median.Goals as goal

pub returns-clause-order : goal.returns-clause-order
returns-clause-order c = sorted_permutation c.args.values.now c.sort_unstable.new.self c.sort_unstable.ensures.permutation c.sort_unstable.ensures.sorted

pub returns-clause-median : goal.returns-clause-median
unfolding lower_median_of
returns-clause-median c =
    let ys = c.sort_unstable.new.self in
    let fits : FitsSigned w64 (get_or ys ((length ys - 1) / 2) (pos 0)) = search rules in
    to_z-of_z w64 (get_or ys ((length ys - 1) / 2) (pos 0)) fits
    ∙ ap₂ (λ (zs : List ℤ) (n : ℕ). get_or zs ((n - 1) / 2) (pos 0)) (returns-clause-order c) c.sort_unstable.ensures.len
