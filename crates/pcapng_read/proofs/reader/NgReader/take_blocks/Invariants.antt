use Rattle.std.proofs.Common.{◌≡◌, ◌≤◌, ◌<◌, ◌+◌, ◌-◌, ◌++◌, ℕ, List, length, take, None}
use Rattle.pcap_read.specs.Records.{Framed}
use Rattle.pcapng_read.specs.View.{Stands}
use Rattle.pcapng_read.specs.Takes.{IsGoing, most_bytes, taken_by}
use Rattle.pcapng_read.proofs.reader.NgReader.take_blocks.Given as goal

abbrev pub invariant-loop-at : goal.invariant-loop-at
invariant-loop-at l = record {
  within : l.at ≤ length l.piece;
  going : IsGoing l.self.judged;
  lent : l.self.lent ≡ None;
  stands : (bytes : List ℕ) (frames : List Framed) → Stands l.initial.self bytes frames → Stands l.self (bytes ++ take l.at l.piece) frames;
  limit : l.self.limit ≡ l.initial.self.limit;
  count : l.self.walk.packets ≡ l.initial.self.walk.packets;
  bytes : taken_by l.self ≡ taken_by l.initial.self + l.at;
  few : 0 < l.at → l.self.walk.packets ≤ l.self.limit;
  most : 0 < l.at → taken_by l.self ≤ most_bytes l.self.limit;
}

abbrev pub decreases-loop-at : goal.decreases-loop-at
decreases-loop-at l = length l.piece - l.at
