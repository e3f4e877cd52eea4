use Rattle.std.proofs.Common.{◌∙◌}
use Rattle.rounds_audit.proofs.Judging.{compared, judged, told_of}
use Rattle.rounds_audit.proofs.audit.audit_rounds.Goals as goal

pub returns-clause-lawful : goal.returns-clause-lawful
returns-clause-lawful g c =
    let run = c.in_ok-settled.ensures in
    let told = told_of c.compare_texts.result _ _ _ _ (c.deref.ensures.value ∙ c.in_ok-kept.ensures.text) (c.deref-2.ensures.value ∙ c.in_ok-lawful.ensures.text) c.compare_texts.ensures in
    judged c.args.packets.now c.args.journal.now c.in_ok-settled.settled.lists c.compare_texts.result told run.journal c.requires.rounds c.requires.readable run.whole c.lists_fit.ensures c.lists_fit-2.ensures

pub returns-clause-differs : goal.returns-clause-differs
returns-clause-differs g c =
    let run = c.in_ok-settled.ensures in
    let told = told_of c.compare_texts.result _ _ _ _ (c.deref.ensures.value ∙ c.in_ok-kept.ensures.text) (c.deref-2.ensures.value ∙ c.in_ok-lawful.ensures.text) c.compare_texts.ensures in
    compared c.args.packets.now c.args.journal.now c.in_ok-settled.settled.lists c.compare_texts.result told run.journal
