use Rattle.std.proofs.Common.{◌∙◌, ap, sym, subst, ℕ, List}
use Rattle.hash_rows.specs.Words.{HaveBits, bits_in}
use Rattle.hash_rows.proofs.Words.{bits_in-zeros, have_bits-zeros}
use Rattle.hash_rows.proofs.bits.Bits.new.Goals as goal

pub invariant_of-result : goal.invariant_of-result
invariant_of-result c = subst (λ (words : List ℕ). HaveBits words c.args.len) (sym c.in_ok-words.ensures.items) (have_bits-zeros c.div_ceil.result c.args.len c.div_ceil.ensures)

pub returns : goal.returns
returns c = ap (λ words. bits_in words c.args.len) c.in_ok-words.ensures.items ∙ bits_in-zeros c.div_ceil.result c.args.len
