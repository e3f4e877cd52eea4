-- Slots as keys come.
use Rattle.std.proofs.Common.{◌≡◌, ℕ, ◌<◌, Bool, true, false, List, [], ◌∷◌, ◌++◌, length, get_or, set, refl, sym, ap₂, ◌||◌, subst, arith, zero, suc}
use Rattle.std.proofs.lemmas.List.{get_or-set_same}
use Rattle.std.proofs.lemmas.List.Elements.{All-push, All-weaker, All-head, All-tail}
use Rattle.packet_key.specs.declared.key.FlowKey.{FlowKey}
use Rattle.packet_key.proofs.EqualKeys.{same_key-eq}
use Rattle.push_history.specs.LiveHeavy.{same_key, is_among}
use Rattle.heavy_keys.specs.Slots.{AreSlotted, slot_number}

abbrev Filled : List ℕ → FlowKey → Type 0
Filled slots key = 0 < get_or slots (slot_number key) 0

-- a key whose slot is empty isn't among them
pub none_slotted : (slots : List ℕ) (keys : List FlowKey) (key : FlowKey) → AreSlotted slots keys → get_or slots (slot_number key) 0 ≡ 0 → is_among keys key ≡ false
none_slotted slots [] key each empty = refl
none_slotted slots (k ∷ ks) key each empty = by (same_key k key) refl (none_slotted slots ks key (All-tail (Filled slots) k ks each) empty)
  where
    by : (b : Bool) → same_key k key ≡ b → is_among ks key ≡ false → is_among (k ∷ ks) key ≡ false
    by false differs rest = ap₂ (λ a b. a || b) differs rest
    by true same rest =
        let here : 0 < get_or slots (slot_number k) 0 = All-head (Filled slots) k ks each in
        let there : 0 < get_or slots (slot_number key) 0 = subst (Filled slots) (same_key-eq k key same) here in
        absurd (omega (arith, there, empty))

-- a slot that is filled isn't empty when another is
stays_filled : (slots : List ℕ) (i n p : ℕ) → 0 < n → 0 < get_or slots p 0 → 0 < get_or (set slots i n) p 0
stays_filled [] i n p some h = h
stays_filled (x ∷ xs) zero n zero some h = some
stays_filled (x ∷ xs) zero n (suc p) some h = h
stays_filled (x ∷ xs) (suc i) n zero some h = h
stays_filled (x ∷ xs) (suc i) n (suc p) some h = stays_filled xs i n p some h

-- one key more
pub slotted_more : (slots : List ℕ) (keys : List FlowKey) (key : FlowKey) (n : ℕ) → slot_number key < length slots → 0 < n → AreSlotted slots keys
    → AreSlotted (set slots (slot_number key) n) (keys ++ key ∷ [])
slotted_more slots keys key n inside some each =
    All-push (Filled (set slots (slot_number key) n)) keys key
    (All-weaker (Filled slots) (Filled (set slots (slot_number key) n)) (λ k h. stays_filled slots (slot_number key) n (slot_number k) some h) keys each)
    (subst (λ (m : ℕ). 0 < m) (sym (get_or-set_same slots (slot_number key) n 0 inside)) some)
