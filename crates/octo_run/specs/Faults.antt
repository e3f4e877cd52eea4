-- The fault lines, and the statuses that they come with.
use Rattle.std.specs.Prelude.{◌≡◌, ◌⊎◌, ℕ, ◌/◌, ◌%◌, ◌∷◌, [], ◌++◌, List, Option, codes, decimal}
use Rattle.std.specs.Char.{digit_char}
use Rattle.flow_base.specs.Causes.{Rose}
use Rattle.flow_base.specs.Flow.{grown, TookFront}
use Rattle.flow_base.specs.declared.status.Status.{Status}
use Rattle.flow_base.specs.declared.status.Status.TheVariants.{Usage, ReadFault, WriteFault, BadCapture, TooMany, NoMemory, Differs}
use Rattle.pcap_read.specs.declared.bad.Bad.{Bad}
use Rattle.pcap_read.specs.declared.bad.Bad.TheVariants.{ShortHeader, UnknownMagic, PcapNg, BadVersion, NotEthernet, TooLong}
use Rattle.pcap_read.specs.declared.bad.Bad.TheVariants.{TooMany as TooManyRecords}
use Rattle.pcapng_read.specs.declared.bad.NgBad.{NgBad}
use Rattle.pcapng_read.specs.declared.bad.NgBad.TheVariants.{ShortSection, BadOrder, BadBlock, NoInterface}
use Rattle.pcapng_read.specs.declared.bad.NgBad.TheVariants.{BadVersion as NgVersion, NotEthernet as NgLink, TooLong as NgLong, TooMany as TooManyBlocks}
use Rattle.capture_load.specs.declared.capture.Refusal.{Refusal}
use Rattle.capture_load.specs.declared.capture.Refusal.TheVariants.{Pcap, Ng}
use Rattle.capture_load.specs.declared.capture.LoadStop.{LoadStop}
use Rattle.capture_load.specs.declared.capture.LoadStop.TheVariants.{ReadFault as SourceStop, Bad as BadStop, Ng as NgStop, NoMemory as MemoryStop}
use Rattle.octo_run.specs.declared.faults.Fault.{Fault}
use Rattle.octo_run.specs.declared.faults.Fault.TheVariants.{Usage as UsageFault, ReadFault as SourceFault, WriteFault as SinkFault}
use Rattle.octo_run.specs.declared.faults.Fault.TheVariants.{Bad as BadFault, BadLine as LineFault, NoMemory as MemoryFault, Differs as JournalFault}

-- the exit status of a refusal
abbrev pub status_of_bad : Refusal → Status
status_of_bad (Pcap TooManyRecords) = TooMany
status_of_bad (Ng TooManyBlocks) = TooMany
status_of_bad _ = BadCapture

-- the exit status of a fault
abbrev pub status_of : Fault → Status
status_of UsageFault = Usage
status_of SourceFault = ReadFault
status_of SinkFault = WriteFault
status_of (BadFault bad) = status_of_bad bad
status_of (LineFault line) = BadCapture
status_of MemoryFault = NoMemory
status_of (JournalFault line kept lawful) = Differs

-- the fault with which a run ends where its capture wasn't loaded
abbrev pub fault_of : LoadStop → Fault
fault_of SourceStop = SourceFault
fault_of (BadStop bad) = BadFault (Pcap bad)
fault_of (NgStop bad) = BadFault (Ng bad)
fault_of MemoryStop = MemoryFault

-- a number in 8 lower-case hexadecimal digits
unfoldable pub hex8 : ℕ → List ℕ
hex8 n =
    digit_char (n / 0x10000000 % 16) ∷ digit_char (n / 0x1000000 % 16) ∷ digit_char (n / 0x100000 % 16) ∷ digit_char (n / 0x10000 % 16)
    ∷ digit_char (n / 0x1000 % 16) ∷ digit_char (n / 0x100 % 16) ∷ digit_char (n / 0x10 % 16) ∷ digit_char (n % 16) ∷ []

-- why a libpcap capture is refused, with its numbers
unfoldable pub pcap_text : Bad → List ℕ
pcap_text (ShortHeader len) = codes "octo: bad capture 1 length " ++ decimal len
pcap_text (UnknownMagic magic) = codes "octo: bad capture 2 magic " ++ hex8 magic
pcap_text PcapNg = codes "octo: bad capture 3 pcapng"
pcap_text (BadVersion major minor) = codes "octo: bad capture 4 version " ++ decimal major ++ codes "." ++ decimal minor
pcap_text (NotEthernet link) = codes "octo: bad capture 5 link " ++ decimal link
pcap_text (TooLong offset length) = codes "octo: bad capture 6 offset " ++ decimal offset ++ codes " length " ++ decimal length
pcap_text TooManyRecords = codes "octo: too many records"

-- why a pcapng capture is refused; what both formats are refused for has one text
unfoldable pub ng_text : NgBad → List ℕ
ng_text (ShortSection len) = codes "octo: bad capture 8 length " ++ decimal len
ng_text (BadOrder magic) = codes "octo: bad capture 9 magic " ++ hex8 magic
ng_text (BadBlock offset length) = codes "octo: bad capture 10 offset " ++ decimal offset ++ codes " length " ++ decimal length
ng_text (NoInterface offset number) = codes "octo: bad capture 11 offset " ++ decimal offset ++ codes " interface " ++ decimal number
ng_text (NgVersion major minor) = pcap_text (BadVersion major minor)
ng_text (NgLink link) = pcap_text (NotEthernet link)
ng_text (NgLong offset length) = pcap_text (TooLong offset length)
ng_text TooManyBlocks = pcap_text TooManyRecords

-- what a refusal is told as
unfoldable pub bad_text : Refusal → List ℕ
bad_text (Pcap bad) = pcap_text bad
bad_text (Ng bad) = ng_text bad

-- what a fault is told as
unfoldable pub fault_text : Fault → List ℕ
fault_text UsageFault = codes "octo: usage"
fault_text SourceFault = codes "octo: read fault"
fault_text SinkFault = codes "octo: write fault"
fault_text (BadFault bad) = bad_text bad
fault_text (LineFault line) = codes "octo: bad capture 12 line " ++ decimal line
fault_text MemoryFault = codes "octo: no memory"
fault_text (JournalFault line kept lawful) =
    codes "octo: differs line " ++ decimal line ++ codes " kept " ++ kept ++ codes " lawful " ++ lawful

-- one line is written; a fault of the sink cuts it, and changes nothing else
unfoldable pub fault_line : Fault → List ℕ
fault_line fault = fault_text fault ++ codes "\n"

-- the sink took the line, or a front of it where its count of faults rose
abbrev pub TellsLine : Option (List ℕ) → Option (List ℕ) → ℕ → ℕ → List ℕ → Type 0
TellsLine old new before now line = (new ≡ grown old line) ⊎ (TookFront old new line × Rose before now)
