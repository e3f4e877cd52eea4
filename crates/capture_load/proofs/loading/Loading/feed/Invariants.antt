use Rattle.std.proofs.Common.{◌≡◌, ◌≤◌, ◌+◌, ◌-◌, ◌<◌, ◌++◌, ℕ, List, length, take}
use Rattle.pcap_read.specs.Records.{Framed}
use Rattle.capture_load.specs.Loads.{Loads, Counts, bytes_taken, most_bytes}
use Rattle.capture_load.proofs.loading.Loading.feed.Given as goal

abbrev pub invariant-loop-at : goal.invariant-loop-at
invariant-loop-at l =
    Counts l.self
    × ((bytes : List ℕ) (frames : List Framed) → Loads l.initial.self bytes frames → (more : List Framed) × Loads l.self (bytes ++ take l.at l.piece) (frames ++ more))
    × (l.at ≤ length l.piece)
    × (bytes_taken l.self.format ≡ bytes_taken l.initial.self.format + l.at)
    × (0 < l.at → bytes_taken l.self.format ≤ most_bytes)
    × (l.self.notes.amount ≡ l.initial.self.notes.amount)

abbrev pub decreases-loop-at : goal.decreases-loop-at
decreases-loop-at l = length l.piece - l.at
