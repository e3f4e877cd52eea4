use Rattle.std.proofs.Common.{◌≡◌, ◌∙◌, ap, sym, ℕ, get_or, nat_lt, arith}
use Rattle.std.specs.Map.{keys_of}
use Rattle.std.proofs.lemmas.Option.{get_or_from_slice_get}
use Rattle.push_history.specs.LiveHeavy.{is_among}
use Rattle.heavy_keys.specs.Noted.{HeavyTable}
use Rattle.heavy_keys.specs.Slots.{slot_number}
use Rattle.heavy_keys.proofs.Slotted.{none_slotted}
use Rattle.heavy_keys.proofs.heavy.Heavy.has_key.Goals as goal

pub returns-else-behind-gt0 : goal.returns-else-behind-gt0
returns-else-behind-gt0 c =
    let behind : ℕ = c.get-behind.result.now in
    let none : behind ≡ 0 = omega (arith, c.if-behind-gt0.false) in
    let slots = c.self.inside.slots.items in
    let empty : get_or slots (slot_number c.args.key.now) 0 ≡ 0 =
    ap (λ (place : ℕ). get_or slots place 0) (sym c.slot_of.ensures.slot) ∙ get_or_from_slice_get slots c.slot_of.result behind 0 c.get-behind.ensures ∙ none in
    ap (λ (n : ℕ). nat_lt 0 n) none
    ∙ sym (none_slotted slots (keys_of c.self.inside.keys.entries) c.args.key.now c.self.invariant.3 empty)
    ∙ ap (λ (t : HeavyTable). is_among t.keys c.args.key.now) c.self.view_is
