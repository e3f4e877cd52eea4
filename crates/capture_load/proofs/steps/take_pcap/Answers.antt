use Rattle.capture_load.proofs.Noted.{keeps_more, pcap_part, pcap_whole, when_not, when_so}
use Rattle.capture_load.proofs.steps.take_pcap.Goals as goal

pub returns-then-not-taken-clause-stepped : goal.returns-then-not-taken-clause-stepped
returns-then-not-taken-clause-stepped c = λ bytes frames noted.
    pcap_part _ _ _ frames (when_not _ _ c.in-Ok.taken.whole c.if-not-taken.true (c.in-Ok.ensures.takes bytes frames noted.stands)) noted.keeps

pub returns-in-Ok-note-clause-stepped : goal.returns-in-Ok-note-clause-stepped
returns-in-Ok-note-clause-stepped c = λ bytes frames noted.
    let whole = when_so _ _ c.in-Ok.taken.whole c.if-not-taken.false (c.in-Ok.ensures.takes bytes frames noted.stands) in (
      _,
      record {
        stands = pcap_whole _ _ frames _ whole c.lent-frame.ensures;
        keeps = keeps_more c.args.notes.now _ frames _ noted.keeps c.note.ensures.amount c.in-Ok-note.ensures.packets c.in-Ok-note.ensures.skipped;
      },
    )
