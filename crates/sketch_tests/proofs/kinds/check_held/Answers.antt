use Rattle.std.proofs.Common.{rules, pos, ◌≡◌, ◌∙◌, sym, Some, ap, w8, to_z, of_z, ℤ, true, FitsSigned}
use Rattle.std.proofs.lemmas.Int.{to_z-of_z}
use Rattle.sketch_tests.proofs.kinds.check_held.Goals as goal

pub from_small-requires : goal.from_small-requires
from_small-requires g c =
    let kind = g.K.Kind in
    let held = c.counted-held.result in
    let value = c.args.row.now.value in
    let fits : FitsSigned w8 c.in-Some.byte = search rules in
    let is_value : kind.rules.is_value value ≡ true = search rules in
    let begun = (g.met.K.Kind g.world.𝓛 g.world.𝓜 g.world.𝓡 ((λ s x. x), (λ x. x), (λ x. x), (λ x. x))).fresh_stands in
    let stands : kind.stands held (pos 0) (kind.rules.join (pos 0) value) = search rules in
    let byte : kind.small_of held ≡ Some (to_z w8 (of_z w8 c.in-Some.byte)) =
    sym c.in-Some.ensures ∙ ap (λ (b : ℤ). Some b) (sym (to_z-of_z w8 c.in-Some.byte fits)) in
    (held, pos 0, kind.rules.join (pos 0) value, stands, byte)
