use Rattle.std.proofs.Common.{◌≡◌, ◌≤◌, ◌+◌, ◌-◌, ◌<◌, ◌++◌, ℕ, List, length, take}
use Rattle.pcap_read.specs.Records.{Framed}
use Rattle.capture_load.specs.Loads.{most_bytes}
use Rattle.capture_load.specs.Notes.{number_of}
use Rattle.capture_load.proofs.steps.take_all.Given as goal

abbrev pub invariant-loop-at : goal.invariant-loop-at
invariant-loop-at g l =
    g.F.Frames.counted l.reader (number_of l.notes)
    × ((bytes : List ℕ) (frames : List Framed) → g.F.Frames.noted l.initial.reader l.initial.notes bytes frames
    → (more : List Framed) × g.F.Frames.noted l.reader l.notes (bytes ++ take l.at l.piece) (frames ++ more))
    × (l.at ≤ length l.piece)
    × (g.F.Frames.bytes l.reader ≡ g.F.Frames.bytes l.initial.reader + l.at)
    × (0 < l.at → g.F.Frames.bytes l.reader ≤ most_bytes)
    × (l.notes.amount ≡ l.initial.notes.amount)

abbrev pub decreases-loop-at : goal.decreases-loop-at
decreases-loop-at g l = length l.piece - l.at
