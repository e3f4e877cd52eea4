-- Limits that several crates name.
use Rattle.std.specs.Prelude.{ℕ}

-- the greatest number of records of a capture; in pcapng, of packet blocks, and of other blocks
abbrev pub most_records : ℕ
most_records = 16777216
