use Rattle.std.proofs.Common.{[]}
use Rattle.pcap_read.proofs.Once.{short_fine}
use Rattle.capture_load.proofs.Formats.{open_short}
use Rattle.capture_load.proofs.format.pcap_reader.Goals as goal

pub unreachable-requires : goal.unreachable-requires
unreachable-requires c = short_fine _ _ [] _ (open_short c.args.matched c.requires) (c.in-Err.ensures.takes [] [] c.in_ok-reader.ensures.start)
