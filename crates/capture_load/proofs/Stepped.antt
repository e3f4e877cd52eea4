-- What a step of a format's reader makes of a capture that is loaded.
use Rattle.std.proofs.Common.{◌<◌, ℕ, List, ◌++◌, take}
use Rattle.std.specs.Prelude.{Result, Ok, Err, IfOk, MatchResult}
use Rattle.pcap_read.specs.Place.{Place}
use Rattle.pcap_read.specs.Records.{Framed}
use Rattle.pcapng_read.specs.View.{NgReaderView}
use Rattle.capture_load.specs.Capture.{IsNg}
use Rattle.capture_load.specs.Loads.{IsOther, Loads, NgNoted, NgStops, PcapNoted, PcapStops, StopsIn}
use Rattle.capture_load.specs.declared.capture.LoadStop.{LoadStop}
use Rattle.capture_load.specs.declared.capture.LoadStop.TheVariants.{ReadFault, Bad as BadStop, Ng as NgStop, NoMemory}
use Rattle.capture_load.specs.declared.format.Format.TheVariants.{Pcap, Ng}
use Rattle.capture_load.specs.declared.notes.Notes.{Notes}
use Rattle.capture_load.proofs.Formats.{ng_stays, other_now}

-- a libpcap capture goes on
pub pcap_goes_on : (reader : Place) (notes : Notes) (bytes piece : List ℕ) (frames : List Framed) → ((n : ℕ) → 0 < n → IsOther (bytes ++ take n piece)) → IsOther (bytes ++ piece)
    → (r : Result ℕ LoadStop) → IfOk r (λ used. 0 < used)
    → MatchResult r (λ used. (more : List Framed) × PcapNoted reader notes (bytes ++ take used piece) (frames ++ more)) (PcapStops (bytes ++ piece))
    → MatchResult r (λ used. (more : List Framed) × Loads (record { format = Pcap reader; notes = notes }) (bytes ++ take used piece) (frames ++ more)) (StopsIn (bytes ++ piece))
pcap_goes_on reader notes bytes piece frames others other (Ok used) some noted =
    (noted.0, record { stands = (others used some, noted.1.stands); keeps = noted.1.keeps })
pcap_goes_on reader notes bytes piece frames others other (Err ReadFault) some stops = stops
pcap_goes_on reader notes bytes piece frames others other (Err (BadStop bad)) some stops = (stops.0, (other_now (bytes ++ piece) other, stops.1))
pcap_goes_on reader notes bytes piece frames others other (Err (NgStop bad)) some stops = absurd stops
pcap_goes_on reader notes bytes piece frames others other (Err NoMemory) some stops = stops

-- and a pcapng capture
pub ng_goes_on : (reader : NgReaderView) (notes : Notes) (bytes piece : List ℕ) (frames : List Framed) → IsNg bytes
    → (r : Result ℕ LoadStop)
    → MatchResult r (λ used. (more : List Framed) × NgNoted reader notes (bytes ++ take used piece) (frames ++ more)) (NgStops (bytes ++ piece))
    → MatchResult r (λ used. (more : List Framed) × Loads (record { format = Ng reader; notes = notes }) (bytes ++ take used piece) (frames ++ more)) (StopsIn (bytes ++ piece))
ng_goes_on reader notes bytes piece frames is (Ok used) noted =
    (noted.0, record { stands = (ng_stays bytes (take used piece) is, noted.1.stands); keeps = noted.1.keeps })
ng_goes_on reader notes bytes piece frames is (Err ReadFault) stops = stops
ng_goes_on reader notes bytes piece frames is (Err (BadStop bad)) stops = absurd stops
ng_goes_on reader notes bytes piece frames is (Err (NgStop bad)) stops = (stops.0, (ng_stays bytes piece is, stops.1))
ng_goes_on reader notes bytes piece frames is (Err NoMemory) stops = stops
