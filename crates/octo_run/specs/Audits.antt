-- What `audit` reads, and how it judges it.
use Rattle.std.specs.Prelude.{◌≡◌, ◌↔◌, ℕ, List, codes}
use Rattle.capture_load.specs.Capture.{CaptureOf, Whole}
use Rattle.capture_load.specs.Packets.{packets_of}
use Rattle.pcap_read.specs.Records.{Framed}
use Rattle.hash_rows.specs.Limits.{most_records}
use Rattle.hash_rows.specs.declared.shape.Packet.{Packet}
use Rattle.push_history.specs.Journal.{Journal}
use Rattle.push_history.specs.LawfulJournal.{LawfulJournal}
use Rattle.journal_read.specs.Reading.{IsReadText}
use Rattle.journal_audit.specs.Verdicts.{IsVerdict}
use Rattle.rounds_audit.specs.declared.verdict.Verdict.{Verdict}
use Rattle.rounds_audit.specs.declared.verdict.Verdict.TheVariants.{Lawful, Unlawful}

-- the bytes are the text of a journal with this content, and directly behind it a capture with these packets, as the journal's options
-- count them
pub record AreAudited (bytes : List ℕ) (content : Journal) (packets : List Packet) : Type 0 where
  pub behind : List ℕ
  pub read : IsReadText bytes content behind
  pub frames : List Framed
  pub cut : ℕ
  pub whole : CaptureOf most_records behind (Whole frames cut)
  pub packets_are : packets ≡ packets_of content.options.amount frames

-- the bytes are a journal that is lawful for the capture behind it, and the text is the one line that says so
pub record IsAuditText (bytes text : List ℕ) : Type 0 where
  pub content : Journal
  pub packets : List Packet
  pub audited : AreAudited bytes content packets
  pub lawful : LawfulJournal packets content.options content
  pub text_is : text ≡ codes "octosketch audit lawful\n"

-- the bytes are a journal that isn't lawful for the capture behind it, and this line of it is the first that fails: it keeps the one
-- word where the other would be lawful
pub record DiffersAt (bytes : List ℕ) (line : ℕ) (kept lawful : List ℕ) : Type 0 where
  pub content : Journal
  pub packets : List Packet
  pub audited : AreAudited bytes content packets
  pub unlawful : LawfulJournal packets content.options content → ⊥
  pub verdict : IsVerdict packets content.options content (Unlawful line kept lawful)

-- the bytes are a journal and the capture behind it, and this is the verdict on the journal
pub record IsJudged (bytes : List ℕ) (verdict : Verdict) : Type 0 where
  pub content : Journal
  pub packets : List Packet
  pub audited : AreAudited bytes content packets
  pub lawful : (verdict ≡ Lawful) ↔ LawfulJournal packets content.options content
  pub verdict_is : IsVerdict packets content.options content verdict
