use Rattle.flow_base.proofs.WritingLemmas.{writes_front, writes_then, stop}
use Rattle.push_history.specs.Journal.{with_journal}
use Rattle.octo_text.specs.JournalText.{terms_lines}
use Rattle.octo_text.proofs.OptionLemmas.{same_options}
use Rattle.octo_text.proofs.journal.write_terms.Goals as goal

pub returns-in_err-write_options-clause-writes : goal.returns-in_err-write_options-clause-writes
unfolding terms_lines with_journal
returns-in_err-write_options-clause-writes g c =
    writes_front _ _ _ _ c.from_residual.ensures.0
    (stop _ (rw (same_options c.args.options.now) at c.in_err-write_options.ensures.writes).err)

pub returns-clause-writes : goal.returns-clause-writes
unfolding terms_lines with_journal
returns-clause-writes g c =
    writes_then _ (rw (same_options c.args.options.now) at c.in_ok-write_options.ensures.writes) (rw c.as_slice.ensures at c.write_keys.ensures.writes)
