use Rattle.std.proofs.Common.{◌≡◌, ◌∙◌, ◌*◌, ap, ℕ, List, Bool, count_by, length, arith}
use Rattle.std.proofs.lemmas.Grind.{div_ceil_times}
use Rattle.hash_rows.proofs.WordCounts.{set_before, set_before_le, set_in_all}
use Rattle.hash_rows.proofs.bits.Bits.count.Goals as goal

pub set_in-requires : goal.set_in-requires
set_in-requires c =
    let few = div_ceil_times c.self.inside.len 64 (omega arith) in
    omega (arith, c.self.invariant.words_needed, ap length c.as_slice.ensures)

counted : (c : goal.After-set_in) → c.set_in.result ≡ set_before c.self.inside.words.items c.self.inside.len
counted c =
    c.set_in.ensures
    ∙ ap (λ (words : List ℕ). set_before words (length words * 64)) c.as_slice.ensures
    ∙ set_in_all c.self.inside.words.items c.self.inside.len c.self.invariant

pub overflow_cast-result : goal.overflow_cast-result
overflow_cast-result c = omega (arith, counted c, set_before_le c.self.inside.words.items c.self.inside.len)

pub returns : goal.returns
returns c = counted c ∙ ap (λ (bits : List Bool). count_by (λ mark. mark) bits) c.self.view_is
