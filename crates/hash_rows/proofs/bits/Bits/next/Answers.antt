use Rattle.std.proofs.Common.{◌≡◌, ◌∙◌, ◌*◌, ◌<◌, ℕ, List, Bool, false, ap, sym, length, get_or, arith}
use Rattle.std.proofs.lemmas.Grind.{div_ceil_times}
use Rattle.hash_rows.specs.Words.{is_set_in}
use Rattle.hash_rows.proofs.Words.{length-bits_in, room_of, get_or-bits_in}
use Rattle.hash_rows.proofs.bits.Bits.next.Goals as goal

pub set_from-place-requires-clause-few : goal.set_from-place-requires-clause-few
set_from-place-requires-clause-few c =
    let few = div_ceil_times c.self.inside.len 64 (omega arith) in
    omega (arith, c.self.invariant.words_needed, ap length c.as_slice.ensures)

pub set_from-place-requires-clause-within : goal.set_from-place-requires-clause-within
set_from-place-requires-clause-within c =
    omega (arith, room_of c.self.inside.words.items c.self.inside.len c.self.invariant, ap length c.as_slice.ensures, c.requires, ap length c.self.view_is, length-bits_in c.self.inside.words.items c.self.inside.len)

pub returns-clause-low : goal.returns-clause-low
returns-clause-low c =
    omega (arith, c.min.ensures, c.set_from-place.ensures.low, c.requires, ap length c.self.view_is, length-bits_in c.self.inside.words.items c.self.inside.len)

pub returns-clause-high : goal.returns-clause-high
returns-clause-high c =
    omega (arith, c.min.ensures, ap length c.self.view_is, length-bits_in c.self.inside.words.items c.self.inside.len)

pub returns-clause-before : goal.returns-clause-before
returns-clause-before c = λ k low early.
    let words : List ℕ = c.self.inside.words.items in
    let len : ℕ = c.self.inside.len in
    let within : k < len = omega (arith, c.min.ensures) in
    sym (ap (λ (bits : List Bool). get_or bits k false) c.self.view_is)
    ∙ get_or-bits_in words len k within
    ∙ sym (ap (λ (ws : List ℕ). is_set_in ws k) c.as_slice.ensures)
    ∙ c.set_from-place.ensures.before k low (omega (arith, c.min.ensures))

pub returns-clause-found : goal.returns-clause-found
returns-clause-found c = λ short.
    let words : List ℕ = c.self.inside.words.items in
    let len : ℕ = c.self.inside.len in
    let within : c.min.result < len = omega (arith, short, ap length c.self.view_is, length-bits_in words len) in
    let same : c.min.result ≡ c.set_from-place.result = omega (arith, c.min.ensures) in
    let inside : c.set_from-place.result < length c.as_slice.result.now * 64 =
    omega (arith, same, within, room_of words len c.self.invariant, ap length c.as_slice.ensures) in
    sym (ap (λ (bits : List Bool). get_or bits c.min.result false) c.self.view_is)
    ∙ get_or-bits_in words len c.min.result within
    ∙ sym (ap (λ (ws : List ℕ). is_set_in ws c.min.result) c.as_slice.ensures)
    ∙ ap (is_set_in c.as_slice.result.now) same
    ∙ c.set_from-place.ensures.found inside
