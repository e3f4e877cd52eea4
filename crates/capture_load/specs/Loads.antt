-- What is loaded of the bytes that a source gives.
use Rattle.std.specs.Prelude.{◌≡◌, ◌<◌, ◌≤◌, ◌⊎◌, ◌++◌, ℕ, List, [], length, take, Result, Ok, Err}
use Rattle.pcap_read.specs.Records.{Framed}
use Rattle.pcap_read.specs.Capture.{RefusesNext as PcapRefusesNext}
use Rattle.pcap_read.specs.Place.{Place, Stands}
use Rattle.hash_rows.specs.Limits.{most_records}
use Rattle.pcapng_read.specs.Capture.{RefusesNext as NgRefusesNext}
use Rattle.pcapng_read.specs.Takes.{taken_by, most_bytes as most_of}
use Rattle.pcapng_read.specs.View.{NgReaderView, Stands as NgStands}
use Rattle.hash_rows.specs.declared.options.Amount.{Amount}
use Rattle.capture_load.specs.Capture.{CaptureOf, IsNg, RefusesNext, Refused, Whole, ng_magic}
use Rattle.capture_load.specs.Notes.{number_of}
use Rattle.capture_load.specs.Packets.{packets_of, tallies_of}
use Rattle.capture_load.specs.declared.capture.Capture.{Capture}
use Rattle.capture_load.specs.declared.capture.Refusal.{Refusal}
use Rattle.capture_load.specs.declared.capture.Refusal.TheVariants.{Pcap as PcapRefusal, Ng as NgRefusal}
use Rattle.capture_load.specs.declared.capture.LoadStop.{LoadStop}
use Rattle.capture_load.specs.declared.capture.LoadStop.TheVariants.{ReadFault, Bad as BadStop, Ng as NgStop, NoMemory}
use Rattle.capture_load.specs.declared.format.Format.{Format}
use Rattle.capture_load.specs.declared.format.Format.TheVariants.{Open, Pcap, Ng}
use Rattle.capture_load.specs.declared.loading.Loading.{Loading}
use Rattle.capture_load.specs.declared.notes.Notes.{Notes}

-- the bytes given hold this refusal; one of a beginning that isn't whole stands at the end of input alone
abbrev pub HoldsRefusal : List ℕ → List ℕ → Refusal → Type 0
HoldsRefusal given rest refusal = ((frames : List Framed) × RefusesNext most_records given frames refusal)
    ⊎ ((rest ≡ []) × CaptureOf most_records given (Refused refusal))

-- the bytes are a capture, and this is what was loaded of it
pub record IsLoaded (amount : Amount) (bytes : List ℕ) (capture : Capture) : Type 0 where
  pub frames : List Framed
  pub whole : CaptureOf most_records bytes (Whole frames capture.cut)
  pub packets : capture.packets.items ≡ packets_of amount frames
  pub records : capture.records ≡ length frames
  pub skipped : capture.skipped ≡ tallies_of frames

-- the packets of these frames are kept, and the others are counted
pub record KeepsPackets (notes : Notes) (frames : List Framed) : Type 0 where
  pub packets : notes.packets.items ≡ packets_of notes.amount frames
  pub skipped : notes.skipped ≡ tallies_of frames

-- a reader has taken these bytes, and the frames that it lent are noted
pub record PcapNoted (reader : Place) (notes : Notes) (bytes : List ℕ) (frames : List Framed) : Type 0 where
  pub stands : Stands reader bytes frames
  pub keeps : KeepsPackets notes frames

-- the pcapng reader has taken these bytes, and the packets of the frames that it lent are kept
pub record NgNoted (reader : NgReaderView) (notes : Notes) (bytes : List ℕ) (frames : List Framed) : Type 0 where
  pub stands : NgStands reader bytes frames
  pub keeps : KeepsPackets notes frames

-- whatever follows, the capture isn't pcapng
abbrev pub IsOther : List ℕ → Type 0
IsOther bytes = (more : List ℕ) → IsNg (bytes ++ more) → ⊥

-- these bytes have come, and these frames were lent
abbrev pub StandsIn : Format → List ℕ → List Framed → Type 0
StandsIn (Open matched) bytes frames = (bytes ≡ take matched ng_magic) × (frames ≡ [])
StandsIn (Pcap reader) bytes frames = IsOther bytes × Stands reader bytes frames
StandsIn (Ng reader) bytes frames = IsNg bytes × NgStands reader bytes frames

-- the same, and the frames are noted
pub record Loads (loading : Loading) (bytes : List ℕ) (frames : List Framed) : Type 0 where
  pub stands : StandsIn loading.format bytes frames
  pub keeps : KeepsPackets loading.notes frames

-- as many frames were noted as records or packets are whole
abbrev pub IsCounted : Format → ℕ → Type 0
IsCounted (Open matched) number = (matched < 4) × (number ≡ 0)
IsCounted (Pcap reader) number = (reader.limit ≡ most_records) × (number ≡ reader.count) × (reader.count ≤ most_records)
IsCounted (Ng reader) number = (reader.limit ≡ most_records) × (number ≡ reader.walk.packets) × (reader.walk.packets ≤ most_records)

-- the frames that were noted are those that the reader counted
abbrev pub Counts : Loading → Type 0
Counts loading = IsCounted loading.format (number_of loading.notes)

-- how many bytes came
abbrev pub bytes_taken : Format → ℕ
bytes_taken (Open matched) = matched
bytes_taken (Pcap reader) = reader.bytes
bytes_taken (Ng reader) = taken_by reader

-- the most bytes that are read of a capture
abbrev pub most_bytes : ℕ
most_bytes = most_of most_records

-- why a reader stopped in these bytes
abbrev pub PcapStops : List ℕ → LoadStop → Type 0
PcapStops bytes ReadFault = ⊥
PcapStops bytes (BadStop bad) = (frames : List Framed) × PcapRefusesNext most_records bytes frames bad
PcapStops bytes (NgStop bad) = ⊥
PcapStops bytes NoMemory = Unit {0}

-- why a load of pcapng bytes stops
abbrev pub NgStops : List ℕ → LoadStop → Type 0
NgStops bytes ReadFault = ⊥
NgStops bytes (BadStop bad) = ⊥
NgStops bytes (NgStop bad) = (frames : List Framed) × NgRefusesNext most_records bytes frames bad
NgStops bytes NoMemory = Unit {0}

-- why loading stopped in these bytes
abbrev pub StopsIn : List ℕ → LoadStop → Type 0
StopsIn bytes ReadFault = ⊥
StopsIn bytes (BadStop bad) = (frames : List Framed) × RefusesNext most_records bytes frames (PcapRefusal bad)
StopsIn bytes (NgStop bad) = (frames : List Framed) × RefusesNext most_records bytes frames (NgRefusal bad)
StopsIn bytes NoMemory = Unit {0}

-- what the whole input was, where it ended with this answer
abbrev pub EndsAs : List ℕ → List Framed → Result ℕ LoadStop → Type 0
EndsAs bytes frames (Ok cut) = CaptureOf most_records bytes (Whole frames cut)
EndsAs bytes frames (Err ReadFault) = ⊥
EndsAs bytes frames (Err (BadStop bad)) = CaptureOf most_records bytes (Refused (PcapRefusal bad))
EndsAs bytes frames (Err (NgStop bad)) = CaptureOf most_records bytes (Refused (NgRefusal bad))
EndsAs bytes frames (Err NoMemory) = ⊥

-- why loading stopped at the end of these bytes
abbrev pub EndsIn : List ℕ → LoadStop → Type 0
EndsIn bytes stop = EndsAs bytes [] (Err stop)
