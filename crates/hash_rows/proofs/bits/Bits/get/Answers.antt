use Rattle.std.proofs.Common.{◌/◌, ◌%◌, ◌∙◌, sym, ap, ℕ, List, Bool, false, get_or, eqb}
use Rattle.std.specs.Int.{bit_at}
use Rattle.std.proofs.lemmas.Nat.Bits.{shr_and_one}
use Rattle.std.proofs.lemmas.Option.{get_or_from_slice_get}
use Rattle.hash_rows.proofs.Words.{get_or-bits_in, place_within, word_within}
use Rattle.hash_rows.proofs.bits.Bits.get.Goals as goal

pub get-word-requires : goal.get-word-requires
get-word-requires c = word_within _ _ _ _ c.self.view_is c.self.invariant c.requires

pub returns : goal.returns
returns c =
    let words : List ℕ = c.self.inside.words.items in
    let place : ℕ = c.args.place in
    ap (λ n. eqb n 1) (shr_and_one c.get-word.result.now (place % 64))
    ∙ ap (λ n. eqb (bit_at n (place % 64)) 1) (sym (get_or_from_slice_get words (place / 64) _ 0 c.get-word.ensures))
    ∙ sym (get_or-bits_in words _ place (place_within words _ place _ c.self.view_is c.requires))
    ∙ ap (λ (bits : List Bool). get_or bits place false) c.self.view_is
