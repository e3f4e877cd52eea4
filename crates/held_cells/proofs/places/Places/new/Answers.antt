use Rattle.std.proofs.Common.{◌∙◌, ap, length, List, ℕ}
use Rattle.std.proofs.lemmas.List.{length-replicate}
use Rattle.held_cells.proofs.places.Places.new.Goals as goal

pub invariant_of-result : goal.invariant_of-result
invariant_of-result c = record { sized = ap (λ (items : List ℕ). length items) c.in_ok-places.ensures.items ∙ length-replicate {A = ℕ} 16384 0 }
