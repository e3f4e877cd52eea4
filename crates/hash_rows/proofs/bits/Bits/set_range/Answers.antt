use Rattle.std.proofs.Common.{◌∙◌, ◌-◌, ◌++◌, ◌≤◌, ℕ, List, Bool, true, ap, length, take, drop, replicate, arith}
use Rattle.hash_rows.proofs.Words.{length-bits_in, room_of}
use Rattle.hash_rows.proofs.WordRanges.{bits_in-ranged, have_bits-ranged}
use Rattle.hash_rows.proofs.bits.Bits.set_range.Goals as goal

pub set_between-requires : goal.set_between-requires
set_between-requires c =
    let room = room_of c.self.inside.words.items c.self.inside.len c.self.invariant in
    (c.requires.0, omega (arith, room, c.requires.1, ap length c.self.view_is, length-bits_in c.self.inside.words.items c.self.inside.len))

pub invariant_of-self : goal.invariant_of-self
invariant_of-self c =
    let words : List ℕ = c.self.inside.words.items in
    let len : ℕ = c.self.inside.len in
    let within : c.args.end ≤ len = omega (arith, c.requires.1, ap length c.self.view_is, length-bits_in words len) in
    have_bits-ranged words c.set_between.new.words.items len c.args.start c.args.end within c.set_between.ensures.len c.set_between.ensures.bits c.self.invariant

pub returns : goal.returns
returns c =
    let words : List ℕ = c.self.inside.words.items in
    let len : ℕ = c.self.inside.len in
    let within : c.args.end ≤ len = omega (arith, c.requires.1, ap length c.self.view_is, length-bits_in words len) in
    bits_in-ranged words c.set_between.new.words.items len c.args.start c.args.end c.requires.0 within c.set_between.ensures.bits
    ∙ ap (λ (bits : List Bool). take c.args.start bits ++ replicate (c.args.end - c.args.start) true ++ drop c.args.end bits) c.self.view_is
