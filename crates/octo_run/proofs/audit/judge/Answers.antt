use Rattle.std.proofs.Common.{◌∙◌, ap, sym, subst}
use Rattle.std.specs.Prelude.{Result, Err}
use Rattle.flow_base.proofs.FlowLemmas.{behind-append}
use Rattle.flow_base.specs.Flow.{behind, Given}
use Rattle.flow_base.specs.LinesRead.{left_of}
use Rattle.capture_load.specs.declared.capture.Capture.{Capture}
use Rattle.capture_load.specs.declared.capture.LoadStop.{LoadStop}
use Rattle.capture_load.specs.declared.capture.Refusal.TheVariants.{Pcap, Ng}
use Rattle.octo_text.specs.Content.{content_of}
use Rattle.octo_run.specs.Audits.{IsAuditText}
use Rattle.octo_run.specs.Ends.{HasReason, side}
use Rattle.octo_run.specs.Refusals.{OfJournal}
use Rattle.octo_run.proofs.Audited.{judged, read_given, rose_later}
use Rattle.octo_run.proofs.Reasons.{accepted_journal, refuses_behind, stop_reason, unrefused_journal}
use Rattle.octo_run.proofs.audit.judge.Goals as goal

pub returns-in-Err-load_behind-clause-reason : goal.returns-in-Err-load_behind-clause-reason
returns-in-Err-load_behind-clause-reason g c = λ out out'.
    let f : LoadStop → Result Capture LoadStop = λ s. Err s in
    let by = c.in-Err-load_behind.ensures in
    let read = read_given (g.S.Source.left c.args.source.now.source.now) (left_of g.S.Source.left c.take_journal.new.source) (g.S.Source.left c.load_behind.new.source.source.now)
    (content_of c.in-Ok.journal) c.in-Ok.ensures.journal c.load_behind.ensures.front in
    subst (HasReason OfJournal (Given (g.S.Source.left c.args.source.now.source.now) (g.S.Source.left c.load_behind.new.source.source.now)) IsAuditText
    (side (g.S.Source.left c.args.source.now.source.now) (g.S.Source.faults c.args.source.now.source.now))
    (side (g.S.Source.left c.load_behind.new.source.source.now) (g.S.Source.faults c.load_behind.new.source.source.now)) out out') (sym c.fault_of.ensures)
    (stop_reason OfJournal (Given (g.S.Source.left c.args.source.now.source.now) (g.S.Source.left c.load_behind.new.source.source.now)) IsAuditText
    (side (g.S.Source.left c.args.source.now.source.now) (g.S.Source.faults c.args.source.now.source.now))
    (side (g.S.Source.left c.load_behind.new.source.source.now) (g.S.Source.faults c.load_behind.new.source.source.now)) out out' c.in-Err-load_behind.stop
    (λ is. rose_later _ _ _ c.take_journal.ensures.later (by.read (ap f is)))
    (λ is given rest told left.
    let r = read given rest told left in
    unrefused_journal given c.load_behind.ensures.front.0 (content_of c.in-Ok.journal) r.0 rest (λ frames bad. by.unrefused (ap f is) frames bad c.load_behind.ensures.front.0 rest r.1 left))
    (λ bad is given rest told left.
    let r = read given rest told left in
    refuses_behind given c.load_behind.ensures.front.0 (content_of c.in-Ok.journal) r.0 rest (Pcap bad) (by.bad bad (ap f is) c.load_behind.ensures.front.0 rest r.1 left))
    (λ bad is given rest told left.
    let r = read given rest told left in
    refuses_behind given c.load_behind.ensures.front.0 (content_of c.in-Ok.journal) r.0 rest (Ng bad) (by.ng bad (ap f is) c.load_behind.ensures.front.0 rest r.1 left)))

pub returns-in-Ok-audit_by_sketch-clause-judged : goal.returns-in-Ok-audit_by_sketch-clause-judged
returns-in-Ok-audit_by_sketch-clause-judged g c = λ given rest told left.
    let j = c.in-Ok.journal in
    let by = c.in-Ok-load_behind.ensures in
    let r = read_given (g.S.Source.left c.args.source.now.source.now) (left_of g.S.Source.left c.take_journal.new.source) (g.S.Source.left c.load_behind.new.source.source.now)
    (content_of j) c.in-Ok.ensures.journal c.load_behind.ensures.front given rest told left in
    let loaded = by.whole c.load_behind.ensures.front.0 rest r.1 left in (
      loaded.0,
      judged given c.load_behind.ensures.front.0 j c.in-Ok-load_behind.capture.packets.items c.in-Ok-audit_by_sketch.verdict loaded.1.frames c.in-Ok-load_behind.capture.cut
          c.in-Ok.ensures.asked r.0 loaded.1.whole loaded.1.packets (rw c.as_slice.ensures at c.in-Ok-audit_by_sketch.ensures.lawful) (rw c.as_slice.ensures at c.in-Ok-audit_by_sketch.ensures.differs),
    )

pub returns-in-Ok-audit_by_sketch-clause-accepted : goal.returns-in-Ok-audit_by_sketch-clause-accepted
returns-in-Ok-audit_by_sketch-clause-accepted g c = λ given rest told left.
    let j = c.in-Ok.journal in
    let by = c.in-Ok-load_behind.ensures in
    let r = read_given (g.S.Source.left c.args.source.now.source.now) (left_of g.S.Source.left c.take_journal.new.source) (g.S.Source.left c.load_behind.new.source.source.now)
    (content_of j) c.in-Ok.ensures.journal c.load_behind.ensures.front given rest told left in
    ((by.whole c.load_behind.ensures.front.0 rest r.1 left).0, accepted_journal given c.load_behind.ensures.front.0 (content_of j) r.0 rest (λ bad. by.fine bad c.load_behind.ensures.front.0 rest r.1 left))

pub returns-in-Err-clause-front : goal.returns-in-Err-clause-front
returns-in-Err-clause-front g c =
    let front = c.take_journal.ensures.front in
    (_, front.1 ∙ behind-append front.0 c.take_journal.new.source.window (g.S.Source.left c.take_journal.new.source.source.now))

pub returns-in-Err-load_behind-clause-front : goal.returns-in-Err-load_behind-clause-front
returns-in-Err-load_behind-clause-front g c =
    let front = c.take_journal.ensures.front in
    let more = c.load_behind.ensures.front in
    (_, front.1 ∙ ap (behind front.0) more.1 ∙ behind-append front.0 more.0 (g.S.Source.left c.load_behind.new.source.source.now))

pub returns-in-Ok-audit_by_sketch-clause-front : goal.returns-in-Ok-audit_by_sketch-clause-front
returns-in-Ok-audit_by_sketch-clause-front g c =
    let front = c.take_journal.ensures.front in
    let more = c.load_behind.ensures.front in
    (_, front.1 ∙ ap (behind front.0) more.1 ∙ behind-append front.0 more.0 (g.S.Source.left c.load_behind.new.source.source.now))

pub returns-clause-front : goal.returns-clause-front
returns-clause-front g c =
    let front = c.take_journal.ensures.front in
    let more = c.load_behind.ensures.front in
    (_, front.1 ∙ ap (behind front.0) more.1 ∙ behind-append front.0 more.0 (g.S.Source.left c.load_behind.new.source.source.now))
