use Rattle.std.proofs.Common.{◌≡◌, ◌≤◌, ◌-◌, ℕ, List}
use Rattle.flow_base.specs.Flow.{behind}
use Rattle.flow_base.specs.LinesRead.{left_of}
use Rattle.pcap_read.specs.Records.{Framed}
use Rattle.capture_load.specs.Loads.{Counts, Loads, bytes_taken, most_bytes}
use Rattle.capture_load.proofs.load.load_behind.Given as goal

abbrev pub invariant-reads : goal.invariant-reads
invariant-reads g l =
    Counts l.loading
    × (g.S.Source.faults l.fn.source.source.now ≤ g.S.Source.faults l.source.source.now)
    × ((given : List ℕ) × (frames : List Framed) × (left_of g.S.Source.left l.fn.source ≡ behind given (left_of g.S.Source.left l.source)) × Loads l.loading given frames)
    × (l.loading.notes.amount ≡ l.fn.amount)
    × (l.source.source.ghost_name ≡ l.fn.source.source.ghost_name)

abbrev pub decreases-reads : goal.decreases-reads
decreases-reads g l = most_bytes - bytes_taken l.loading.format
