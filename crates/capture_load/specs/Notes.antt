-- One frame more.
use Rattle.std.specs.Prelude.{ℕ, ◌+◌, length, Result, Ok, Err}
use Rattle.packet_key.specs.declared.key.FlowKey.{FlowKey}
use Rattle.packet_key.specs.declared.key.Skip.{Skip}
use Rattle.packet_key.specs.declared.key.Skip.TheVariants.{ShortFrame, NotIp, BadIp, ManyTags}
use Rattle.hash_rows.specs.declared.shape.Tallies.{Tallies}
use Rattle.capture_load.specs.declared.notes.Notes.{Notes}

-- one more is counted, by why it has no key
abbrev pub tallied : Tallies → Result FlowKey Skip → Tallies
tallied t (Ok key) = t
tallied t (Err ShortFrame) = record { short = t.short + 1; not_ip = t.not_ip; bad_ip = t.bad_ip; tags = t.tags }
tallied t (Err (NotIp ethertype)) = record { short = t.short; not_ip = t.not_ip + 1; bad_ip = t.bad_ip; tags = t.tags }
tallied t (Err BadIp) = record { short = t.short; not_ip = t.not_ip; bad_ip = t.bad_ip + 1; tags = t.tags }
tallied t (Err ManyTags) = record { short = t.short; not_ip = t.not_ip; bad_ip = t.bad_ip; tags = t.tags + 1 }

-- how many frames were noted: those that were skipped, and those with a packet
abbrev pub number_of : Notes → ℕ
number_of notes = notes.skipped.short + notes.skipped.not_ip + notes.skipped.bad_ip + notes.skipped.tags + length notes.packets.items
