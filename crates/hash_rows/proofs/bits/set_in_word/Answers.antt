use Rattle.std.proofs.Common.{◌∙◌, ◌/◌, ◌%◌, ◌-◌, ◌^◌, ◌*◌, ℕ, List, ap, set, bit_and, bit_or, arith}
use Rattle.std.proofs.lemmas.Option.{get_or_from_slice_get}
use Rattle.hash_rows.specs.Words.{is_set_in}
use Rattle.hash_rows.proofs.WordRanges.{set_more}
use Rattle.hash_rows.proofs.bits.set_in_word.Goals as goal

pub returns-clause-bits : goal.returns-clause-bits
returns-clause-bits c = λ k.
    let words : List ℕ = c.args.words.now.items in
    let place : ℕ = c.args.place in
    let high : ℕ → ℕ = λ (n : ℕ). bit_and ((2 ^ 64 - 1) * 2 ^ (place % 64) % 2 ^ 64) ((2 ^ 64 - 1) / 2 ^ n) in
    ap (λ (ws : List ℕ). is_set_in ws k) (c.set.ensures.items ∙ ap (λ (n : ℕ). set words (place / 64) (bit_or c.get-word.result.now (high n))) (omega arith))
    ∙ set_more words place c.args.count c.get-word.result.now c.requires.some c.requires.one_word c.requires.within
    (get_or_from_slice_get words (place / 64) _ 0 c.get-word.ensures) k
