use Rattle.std.proofs.Common.{◌≡◌, ◌≤◌, ◌+◌, length, take}
use Rattle.indexmap.specs.IndexMap.{keys as keys_of_map, spare}
use Rattle.heavy_keys.specs.Slots.{AreSlotted}
use Rattle.heavy_keys.proofs.heavy.copy_keys.Given as goal

abbrev pub invariant-loop-place : goal.invariant-loop-place
invariant-loop-place l = (keys_of_map l.keys ≡ take l.place (keys_of_map l.other)) × (spare l.initial.keys ≤ spare l.keys + l.place)
    × (length l.slots.items ≡ 16384) × AreSlotted l.slots.items (keys_of_map l.keys)
