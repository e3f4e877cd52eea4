use Rattle.std.proofs.Common.{◌∙◌, ap, sym, subst, ℕ, List, Bool, false, length, replicate}
use Rattle.hash_rows.specs.Words.{HaveBits, bits_in}
use Rattle.hash_rows.proofs.Words.{bits_in-zeros, have_bits-zeros, length-bits_in}
use Rattle.hash_rows.proofs.bits.Bits.clear.Goals as goal

pub invariant_of-self : goal.invariant_of-self
invariant_of-self c = subst (λ (words : List ℕ). HaveBits words c.self.inside.len) (sym c.clear_words.ensures.items)
    (have_bits-zeros (length c.self.inside.words.items) c.self.inside.len c.self.invariant.words_needed)

pub returns : goal.returns
returns c =
    ap (λ words. bits_in words c.self.inside.len) c.clear_words.ensures.items ∙ bits_in-zeros (length c.self.inside.words.items) c.self.inside.len
    ∙ ap (λ (n : ℕ). replicate n false) (sym (length-bits_in c.self.inside.words.items c.self.inside.len) ∙ ap (λ (bits : List Bool). length bits) c.self.view_is)
