-- Slots of keys, which tell at once that a key isn't among those of a table.
use Rattle.std.specs.Prelude.{ℕ, ◌<◌, ◌/◌, ◌^◌, List, All, slice_index_or}
use Rattle.packet_key.specs.declared.key.FlowKey.{FlowKey}
use Rattle.heavy_keys.specs.Fingerprints.{fingerprint_of}

-- the slot of a key: the top 14 bits of its fingerprint
abbrev pub slot_number : FlowKey → ℕ
slot_number key = fingerprint_of key / 2 ^ 50

-- the slots of these keys aren't empty
abbrev pub AreSlotted : List ℕ → List FlowKey → Type 0
AreSlotted slots keys = All (λ key. 0 < slice_index_or slots (slot_number key) 0) keys
