-- What stands so far, and the groups that are left, each behind a colon, are the whole.
use Rattle.std.proofs.Common.{◌≡◌, ◌+◌, ◌*◌, ◌≤◌, ◌∷◌, ◌++◌, take, drop, flat_map}
use Rattle.std.specs.Net.Text.{hex, groups_text}
use Rattle.packet_key.proofs.text.put_groups.Given as goal

abbrev pub invariant-loop-place : goal.invariant-loop-place
invariant-loop-place l = record {
  near : l.end + 1 ≤ l.at + 5 * l.place;
  told : take l.end l.into ++ flat_map (λ t. 58 ∷ hex t) (drop l.place l.groups) ≡ take l.at l.fn.into ++ groups_text l.groups;
}
