-- Bytes are one journal and one capture at most.
use Rattle.std.proofs.Common.{◌≡◌, ◌∙◌, ℕ, List, sym, ap, ap₂, subst}
use Rattle.capture_load.specs.Capture.{CaptureOf, Whole}
use Rattle.capture_load.specs.Packets.{packets_of}
use Rattle.pcap_read.specs.Records.{Framed}
use Rattle.hash_rows.specs.Limits.{most_records}
use Rattle.hash_rows.specs.declared.options.Amount.{Amount}
use Rattle.hash_rows.specs.declared.shape.Packet.{Packet}
use Rattle.journal_whole.proofs.OneJournal.{one_front}
use Rattle.push_history.specs.Journal.{Journal}
use Rattle.push_history.specs.LawfulJournal.{LawfulJournal}
use Rattle.octo_run.specs.Audits.{AreAudited, DiffersAt, IsAuditText}
use Rattle.octo_run.proofs.OneText.{one_capture}

pub one_audit : (bytes : List ℕ) (c d : Journal) (ps qs : List Packet) → AreAudited bytes c ps → AreAudited bytes d qs → (c ≡ d) × (ps ≡ qs)
one_audit bytes c d ps qs a b =
    let front = one_front a.read.0 b.read.0 a.behind b.behind c d a.read.2 b.read.2 (sym a.read.1 ∙ b.read.1) in
    let whole = subst (λ (g : List ℕ). CaptureOf most_records g (Whole b.frames b.cut)) (sym front.1) b.whole in
    let frames = (one_capture a.behind a.frames b.frames a.cut b.cut a.whole whole).0 in
    let packets = ap₂ (λ (amount : Amount) (fs : List Framed). packets_of amount fs) (ap (λ (j : Journal). j.options.amount) front.0) frames in
    (front.0, a.packets_are ∙ packets ∙ sym b.packets_are)

pub one_verdict : (bytes text : List ℕ) (line : ℕ) (kept lawful : List ℕ) → IsAuditText bytes text → DiffersAt bytes line kept lawful → ⊥
one_verdict bytes text line kept lawful a b =
    let same = one_audit bytes a.content b.content a.packets b.packets a.audited b.audited in
    b.unlawful (subst (λ (j : Journal). LawfulJournal b.packets j.options j) same.0 (subst (λ (ps : List Packet). LawfulJournal ps a.content.options a.content) same.1 a.lawful))
