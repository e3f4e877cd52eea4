-- The tags passed so far change nothing: what is left of the frame has the key of the whole.
use Rattle.std.proofs.Common.{◌≡◌, ◌+◌, ◌*◌, ◌≤◌, length}
use Rattle.packet_key.specs.Frame.{key_behind, u16_of}
use Rattle.packet_key.proofs.frame.read_frame.Given as goal

abbrev pub invariant-loop-at : goal.invariant-loop-at
invariant-loop-at l = record {
  inside : l.at + 2 ≤ length l.frame;
  near : l.at + 4 * l.tags_left ≡ 20;
  told : l.ethertype ≡ u16_of l.frame l.at;
  same : key_behind l.tags_left l.frame l.at ≡ key_behind 2 l.frame 12;
}

abbrev pub decreases-loop-at : goal.decreases-loop-at
decreases-loop-at l = l.tags_left
