use Rattle.std.proofs.Common.{◌/◌, ◌∙◌, ap, sym, subst, ℕ, List, Bool, true, set}
use Rattle.std.proofs.lemmas.Option.{get_or_from_slice_get}
use Rattle.hash_rows.specs.Words.{HaveBits, bits_in}
use Rattle.hash_rows.proofs.Words.{bits_in-set, have_bits-set, place_within, word_within}
use Rattle.hash_rows.proofs.bits.Bits.set.Goals as goal

pub get-word-requires : goal.get-word-requires
get-word-requires c = word_within _ _ _ _ c.self.view_is c.self.invariant c.requires

pub set-requires : goal.set-requires
set-requires c = word_within _ _ _ _ c.self.view_is c.self.invariant c.requires

pub invariant_of-self : goal.invariant_of-self
invariant_of-self c =
    let words : List ℕ = c.self.inside.words.items in
    let len : ℕ = c.self.inside.len in
    let place : ℕ = c.args.place in
    subst (λ (xs : List ℕ). HaveBits xs len) (sym c.set.ensures.items)
    (have_bits-set words place c.get-word.result.now
    (word_within words len place _ c.self.view_is c.self.invariant c.requires)
    (get_or_from_slice_get words (place / 64) _ 0 c.get-word.ensures)
    len (place_within words len place _ c.self.view_is c.requires) c.self.invariant)

pub returns : goal.returns
returns c =
    let words : List ℕ = c.self.inside.words.items in
    let len : ℕ = c.self.inside.len in
    let place : ℕ = c.args.place in
    ap (λ items. bits_in items len) c.set.ensures.items
    ∙ bits_in-set words place c.get-word.result.now
    (word_within words len place _ c.self.view_is c.self.invariant c.requires)
    (get_or_from_slice_get words (place / 64) _ 0 c.get-word.ensures)
    len (place_within words len place _ c.self.view_is c.requires)
    ∙ ap (λ (bits : List Bool). set bits place true) c.self.view_is
