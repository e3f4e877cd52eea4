-- A journal that is read and judged, and the capture behind it.
use Rattle.std.proofs.Common.{◌≡◌, ◌≤◌, ◌∙◌, refl, sym, ap, subst, arith, true, List, [], ◌++◌, ℕ}
use Rattle.std.specs.Prelude.{Option, Some, ◌↔◌, codes}
use Rattle.std.proofs.lemmas.List.Elements.{All-weaker}
use Rattle.flow_base.specs.Causes.{Rose}
use Rattle.flow_base.specs.Flow.{behind, Given}
use Rattle.flow_base.proofs.FlowLemmas.{behind-append, behind-nil, given_is}
use Rattle.hash_rows.specs.Lawful.{IsLawful}
use Rattle.hash_rows.specs.declared.answer.Answer.{Answer}
use Rattle.hash_rows.specs.declared.options.Options.{Options}
use Rattle.hash_rows.specs.declared.shape.Packet.{Packet}
use Rattle.pcap_read.specs.Records.{Framed}
use Rattle.hash_rows.specs.Limits.{most_records}
use Rattle.capture_load.specs.Capture.{CaptureOf, Whole}
use Rattle.capture_load.specs.Packets.{packets_of}
use Rattle.push_history.specs.Journal.{Journal as Content, with_journal}
use Rattle.push_history.specs.LawfulJournal.{LawfulJournal}
use Rattle.octo_text.specs.Content.{content_of}
use Rattle.octo_text.specs.Readable.{CanBeJudged, IsReadable}
use Rattle.octo_text.specs.declared.journal.Journal.{Journal}
use Rattle.journal_read.specs.Reading.{BreaksOff, HoldsBadLine, IsBadLine, IsJournal, IsReadText}
use Rattle.journal_whole.specs.Taken.{TakesBadLine, TakesBreak, TakesJournal}
use Rattle.rounds_audit.specs.declared.verdict.Verdict.{Verdict}
use Rattle.rounds_audit.specs.declared.verdict.Verdict.TheVariants.{Lawful, Unlawful}
use Rattle.journal_audit.specs.Verdicts.{IsVerdict}
use Rattle.octo_run.specs.Audits.{DiffersAt, IsAuditText, IsJudged}
use Rattle.octo_run.specs.Ends.{HasReason, Side, side}
use Rattle.octo_run.specs.Refusals.{OfJournal}
use Rattle.octo_run.specs.declared.faults.Fault.{Fault}

-- a count that rose later rose
pub rose_later : (before between now : ℕ) → before ≤ between → Rose between now → Rose before now
rose_later before between now le rose = omega (arith, le, rose)

-- where no bytes are ahead
pub none_ahead : (left : Option (List ℕ)) (ahead : List ℕ) → ahead ≡ [] → behind ahead left ≡ left
none_ahead left ahead none = ap (λ (bytes : List ℕ). behind bytes left) none ∙ behind-nil left

module _ (old new : Option (List ℕ)) (ahead ahead' : List ℕ) (none : ahead ≡ []) where
  pub broke_given : ahead' ≡ [] → TakesBreak (behind ahead old) (behind ahead' new) → (given rest : List ℕ) → old ≡ Some (given ++ rest) → new ≡ Some rest → BreaksOff given
  broke_given none' took given rest told left =
      let was : old ≡ behind took.bytes new = sym (none_ahead old ahead none) ∙ took.taken ∙ ap (behind took.bytes) (none_ahead new ahead' none') in
      subst BreaksOff (given_is old new took.bytes given rest was told left) took.breaks

  pub bad_given : (line : ℕ) → TakesBadLine (behind ahead old) (behind ahead' new) line → (given rest : List ℕ) → old ≡ Some (given ++ rest) → new ≡ Some rest → HoldsBadLine given rest line
  bad_given line took given rest told left =
      let was : old ≡ behind (took.bytes ++ ahead') new = sym (none_ahead old ahead none) ∙ took.taken ∙ behind-append took.bytes ahead' new in (
        took.bytes,
        ahead',
        sym (given_is old new (took.bytes ++ ahead') given rest was told left),
        subst (λ (l : Option (List ℕ)). IsBadLine took.bytes (behind ahead' l) line) left took.bad,
      )

-- a journal was taken, and then all bytes behind it were given
pub read_given : (old mid new : Option (List ℕ)) (content : Content) (took : TakesJournal old mid content) (front : (g : List ℕ) × (mid ≡ behind g new))
    → (given rest : List ℕ) → old ≡ Some (given ++ rest) → new ≡ Some rest → IsReadText given content front.0 × (mid ≡ Some (front.0 ++ rest))
read_given old mid new content took front given rest told left =
    let was : old ≡ behind (took.text ++ front.0) new = took.taken ∙ ap (behind took.text) front.1 ∙ behind-append took.text front.0 new in
    ((took.text, sym (given_is old new (took.text ++ front.0) given rest was told left), took.journal), front.1 ∙ ap (behind front.0) left)

-- the journal was asked for
abbrev asked : Journal → Journal
asked j = record { options = record j.options { journal = true }; lists = j.lists }

lawful_asked : (o : Options) → IsLawful o → IsLawful (record o { journal = true })
lawful_asked o l = record {
  shape = l.shape;
  some_workers = l.some_workers;
  workers = l.workers;
  some_threshold = l.some_threshold;
  threshold = l.threshold;
  some_lane = l.some_lane;
  lane = l.lane;
  some_batch = l.some_batch;
  batch = l.batch;
  some_round = l.some_round;
  round = l.round;
  readers = l.readers;
  asks = l.asks;
  watch = l.watch;
  distinct = l.distinct;
  some_heavy = l.some_heavy;
  heavy = l.heavy;
  some_least = l.some_least;
  least = l.least;
  suits = l.suits;
}

judged_asked : (o : Options) (a : Answer) → CanBeJudged o a → CanBeJudged (record o { journal = true }) a
judged_asked o a c = record { fits = record { front = c.fits.front; shown = c.fits.shown }; short = c.short }

pub readable_asked : (j : Journal) → IsReadable j → IsReadable (asked j)
readable_asked j r = record {
  lawful = lawful_asked j.options r.lawful;
  short = record { watched = r.short.watched; workers = r.short.workers; refused = r.short.refused };
  workers = record { refused = r.workers.refused; pushes = r.workers.pushes };
  pushes = r.pushes;
  places = r.places;
  answers = All-weaker (CanBeJudged j.options) (CanBeJudged (record j.options { journal = true })) (judged_asked j.options) j.lists.answers.items r.answers;
  live = r.live;
}

module _ (j : Journal) where
  content_asked : content_of (asked j) ≡ content_of j
  unfolding content_of with_journal
  content_asked = refl

  pub told_asked : (content_of (asked j)).options ≡ (asked j).options
  unfolding content_of with_journal
  told_asked = refl

-- what was taken tells the same
pub took_asked : (old mid : Option (List ℕ)) (ahead : List ℕ) (j : Journal) → ahead ≡ [] → TakesJournal (behind ahead old) mid (content_of j) → TakesJournal old mid (content_of (asked j))
took_asked old mid ahead j none took = record {
  text = took.text;
  taken = sym (none_ahead old ahead none) ∙ took.taken;
  journal = subst (IsJournal took.text) (sym (content_asked j)) took.journal;
}

-- the same of a source that is reached through another reference
pub same_reason : {S : Type 0} (left : S → Option (List ℕ)) (faults : S → ℕ) (a b a' b' : S) → a ≡ b → a' ≡ b' → (out out' : Side) (fault : Fault)
    → HasReason OfJournal (Given (left a) (left a')) IsAuditText (side (left a) (faults a)) (side (left a') (faults a')) out out' fault
    → HasReason OfJournal (Given (left b) (left b')) IsAuditText (side (left b) (faults b)) (side (left b') (faults b')) out out' fault
same_reason {S} left faults a b a' b' e e' out out' fault reason =
    subst (λ (x : S). HasReason OfJournal (Given (left b) (left x)) IsAuditText (side (left b) (faults b)) (side (left x) (faults x)) out out' fault) e'
    (subst (λ (x : S). HasReason OfJournal (Given (left x) (left a')) IsAuditText (side (left x) (faults x)) (side (left a') (faults a')) out out' fault) e reason)

-- the verdict on a journal that was read
pub judged : (given behind : List ℕ) (j : Journal) (packets : List Packet) (verdict : Verdict) (frames : List Framed) (cut : ℕ) → (content_of j).options ≡ j.options
    → IsReadText given (content_of j) behind → CaptureOf most_records behind (Whole frames cut) → packets ≡ packets_of j.options.amount frames
    → ((verdict ≡ Lawful) ↔ LawfulJournal packets j.options (content_of j)) → IsVerdict packets j.options (content_of j) verdict → IsJudged given verdict
judged given behind j packets verdict frames cut told read whole packets_are lawful is = record {
  content = content_of j;
  packets = packets;
  audited = record {
    behind = behind;
    read = read;
    frames = frames;
    cut = cut;
    whole = whole;
    packets_are = packets_are ∙ ap (λ (o : Options). packets_of o.amount frames) (sym told);
  };
  lawful = subst (λ (o : Options). (verdict ≡ Lawful) ↔ LawfulJournal packets o (content_of j)) (sym told) lawful;
  verdict_is = subst (λ (o : Options). IsVerdict packets o (content_of j) verdict) (sym told) is;
}

pub judged_lawful : (given : List ℕ) → IsJudged given Lawful → IsAuditText given (codes "octosketch audit lawful\n")
judged_lawful given j = record { content = j.content; packets = j.packets; audited = j.audited; lawful = j.lawful.0 refl; text_is = refl }

pub judged_unlawful : (given : List ℕ) (line : ℕ) (kept lawful : List ℕ) → IsJudged given (Unlawful line kept lawful) → DiffersAt given line kept lawful
judged_unlawful given line kept lawful j = record {
  content = j.content;
  packets = j.packets;
  audited = j.audited;
  unlawful = λ is. let e : Unlawful line kept lawful ≡ Lawful = j.lawful.1 is in absurd (cc);
  verdict = j.verdict_is;
}
