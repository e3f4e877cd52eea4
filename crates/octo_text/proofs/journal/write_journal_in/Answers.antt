use Rattle.flow_base.proofs.WritingLemmas.{writes_front, writes_then, stop, then_stop}
use Rattle.octo_text.specs.JournalText.{journal_text}
use Rattle.octo_text.proofs.journal.write_journal_in.Goals as goal

pub returns-in_err-write_words-clause-writes : goal.returns-in_err-write_words-clause-writes
unfolding journal_text
returns-in_err-write_words-clause-writes g c =
    writes_front _ _ _ _ c.from_residual.ensures.0
    (stop _ (stop _ (stop _ (stop _ (stop _ c.in_err-write_words.ensures.writes.err)))))

pub returns-in_err-write_terms-clause-writes : goal.returns-in_err-write_terms-clause-writes
unfolding journal_text
returns-in_err-write_terms-clause-writes g c =
    writes_front _ _ _ _ c.from_residual-in_err-write_terms.ensures.0
    (stop _ (stop _ (stop _ (stop _ (then_stop c.in_ok-write_words.ensures.writes c.in_err-write_terms.ensures.writes.err)))))

pub returns-in_err-write_workers-clause-writes : goal.returns-in_err-write_workers-clause-writes
unfolding journal_text
returns-in_err-write_workers-clause-writes g c =
    writes_front _ _ _ _ c.from_residual-in_err-write_workers.ensures.0
    (stop _ (stop _ (stop _ (then_stop (writes_then _ c.in_ok-write_words.ensures.writes c.in_ok-write_terms.ensures.writes) (rw (c.as_slice.ensures, c.as_slice-2.ensures) at c.in_err-write_workers.ensures.writes).err))))

pub returns-in_err-write_answers-clause-writes : goal.returns-in_err-write_answers-clause-writes
unfolding journal_text
returns-in_err-write_answers-clause-writes g c =
    writes_front _ _ _ _ c.from_residual-in_err-write_answers.ensures.0
    (stop _ (stop _ (then_stop (writes_then _ (writes_then _ c.in_ok-write_words.ensures.writes c.in_ok-write_terms.ensures.writes) (rw (c.as_slice.ensures, c.as_slice-2.ensures) at c.in_ok-write_workers.ensures.writes)) (rw c.as_slice-3.ensures at c.in_err-write_answers.ensures.writes).err)))

pub returns-in_err-write_live-clause-writes : goal.returns-in_err-write_live-clause-writes
unfolding journal_text
returns-in_err-write_live-clause-writes g c =
    writes_front _ _ _ _ c.from_residual-in_err-write_live.ensures.0
    (stop _ (then_stop (writes_then _ (writes_then _ (writes_then _ c.in_ok-write_words.ensures.writes c.in_ok-write_terms.ensures.writes) (rw (c.as_slice.ensures, c.as_slice-2.ensures) at c.in_ok-write_workers.ensures.writes)) (rw c.as_slice-3.ensures at c.in_ok-write_answers.ensures.writes)) c.in_err-write_live.ensures.writes.err))

pub returns-clause-writes : goal.returns-clause-writes
unfolding journal_text
returns-clause-writes g c =
    writes_then _ (writes_then _ (writes_then _ (writes_then _ (writes_then _ c.in_ok-write_words.ensures.writes c.in_ok-write_terms.ensures.writes) (rw (c.as_slice.ensures, c.as_slice-2.ensures) at c.in_ok-write_workers.ensures.writes)) (rw c.as_slice-3.ensures at c.in_ok-write_answers.ensures.writes)) c.in_ok-write_live.ensures.writes) c.write_words-2.ensures.writes
