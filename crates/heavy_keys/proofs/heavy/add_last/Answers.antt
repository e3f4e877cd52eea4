use Rattle.std.proofs.Common.{◌≡◌, ◌<◌, ◌∙◌, ap, None, ℕ, List, length, set, sym, subst, arith}
use Rattle.std.specs.Map.{keys_of}
use Rattle.packet_key.specs.declared.key.FlowKey.{FlowKey}
use Rattle.indexmap.specs.IndexMap.{get}
use Rattle.indexmap.proofs.CallerLemmas.{insert_entry-new}
use Rattle.push_history.specs.LiveHeavy.{same_key}
use Rattle.heavy_keys.specs.Slots.{AreSlotted, slot_number}
use Rattle.heavy_keys.proofs.Slotted.{slotted_more}
use Rattle.heavy_keys.proofs.Tables.{looked_up}
use Rattle.heavy_keys.proofs.Keys.{nothing_found, from_ok, keys_pushed}
use Rattle.heavy_keys.proofs.heavy.add_last.Goals as goal

pub returns-clause-keys : goal.returns-clause-keys
returns-clause-keys c =
    let none : get same_key c.args.keys.now c.args.key ≡ None =
    nothing_found (get same_key c.args.keys.now c.args.key) (looked_up c.args.key c.args.keys.now.entries ∙ c.requires.absent) in
    let entries = from_ok c.insert.result (c.insert.ensures.succeeds c.requires.room) c.insert.ensures.entries in
    ap keys_of (entries ∙ insert_entry-new same_key c.args.keys.now c.args.key _ none) ∙ keys_pushed c.args.keys.now.entries c.args.key _

pub returns-clause-slotted : goal.returns-clause-slotted
returns-clause-slotted c =
    let slots : List ℕ = c.args.slots.now.items in
    let n : ℕ = c.saturating_add-behind.result in
    let inside : slot_number c.args.key < length slots = omega (arith, c.slot_of.ensures.slot, c.slot_of.ensures.within, c.requires.slots) in
    let filled : c.set.new.self.items ≡ set slots (slot_number c.args.key) n = c.set.ensures.items ∙ ap (λ (place : ℕ). set slots place n) c.slot_of.ensures.slot in
    subst (λ (items : List ℕ). AreSlotted items (keys_of c.insert.new.self.entries)) (sym filled)
    (subst (λ (keys : List FlowKey). AreSlotted (set slots (slot_number c.args.key) n) keys) (sym (returns-clause-keys c))
    (slotted_more slots (keys_of c.args.keys.now.entries) c.args.key n inside (omega (arith, c.saturating_add-behind.ensures)) c.requires.slotted))
