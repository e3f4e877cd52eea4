-- What the texts of two journals say of them.
use Rattle.std.proofs.Common.{◌≡◌, List, ℕ, refl, sym, ap, slice_get, subst}
use Rattle.std.specs.Prelude.{◌↔◌}
use Rattle.hash_rows.specs.declared.options.Mode.{Mode}
use Rattle.hash_rows.specs.declared.options.Mode.TheVariants.{Rounds}
use Rattle.hash_rows.specs.declared.options.Options.{Options}
use Rattle.hash_rows.specs.declared.shape.Packet.{Packet}
use Rattle.hash_rows.specs.Lawful.{IsLawful}
use Rattle.push_history.specs.Journal.{Journal as Content, journal_of_lists}
use Rattle.push_history.specs.LawfulJournal.{IsJournalIn, LawfulJournal}
use Rattle.push_history.specs.Rounds.{IsRoundsJournal}
use Rattle.push_history.specs.declared.run_lists.RunLists.{RunLists}
use Rattle.round_law.specs.Outcome.{IsWholeRun}
use Rattle.octo_text.specs.Content.{AreComplete, IsComplete, content_of}
use Rattle.octo_text.specs.JournalText.{journal_text}
use Rattle.octo_text.specs.Readable.{IsReadable}
use Rattle.octo_text.specs.declared.journal.Journal.{Journal}
use Rattle.octo_engine.proofs.OneSchedule.{one_journal}
use Rattle.rounds_audit.specs.declared.verdict.Verdict.{Verdict}
use Rattle.rounds_audit.specs.declared.verdict.Verdict.TheVariants.{Lawful, Unlawful}
use Rattle.rounds_audit.specs.Differences.{IsTextVerdict, lines_of}
use Rattle.rounds_audit.specs.Ranges.{AreInRange}
use Rattle.rounds_audit.specs.Verdicts.{IsRoundsVerdict}
use Rattle.rounds_audit.proofs.OneContent.{one_content}

-- what was read, and what a run comes to, can be written
read_complete : (j : Journal) → IsReadable j → IsComplete j
read_complete j readable = record {
  lawful = readable.lawful;
  refused_len = readable.workers.refused;
  pushes_len = readable.workers.pushes;
  answers_fit = λ k d lt. (readable.answers k d lt).fits;
}

run_complete : (o : Options) (lists : RunLists) → IsLawful o → IsWholeRun o lists → AreComplete o lists
run_complete o lists lawful whole = record {
  lawful = lawful;
  refused_len = whole.refused;
  pushes_len = whole.pushes_len;
  answers_fit = λ k d lt. record { front = whole.fronts k d lt; shown = whole.shown k d lt };
}

-- what is told of two texts is told of texts that are the same as these
pub told_of : (v : Verdict) (s t x y : List ℕ) → s ≡ x → t ≡ y → IsTextVerdict s t v → IsTextVerdict x y v
told_of v s t x y left right told = subst (λ (u : List ℕ). IsTextVerdict u y v) left (subst (λ (u : List ℕ). IsTextVerdict s u v) right told)

-- texts that are the same have no first difference
same_texts : (v : Verdict) (s t : List ℕ) → IsTextVerdict s t v → s ≡ t → v ≡ Lawful
same_texts Lawful s t told is = refl
same_texts (Unlawful line x y) s t told is = absurd (told.lines.other (ap (λ (u : List ℕ). slice_get (lines_of u) told.row) is))

-- the texts of what was kept and of the run are the same exactly where what was kept is lawful
module _ (packets : List Packet) (j : Journal) (lists : RunLists) (verdict : Verdict)
    (told : IsTextVerdict (journal_text (journal_of_lists j.options j.lists)) (journal_text (journal_of_lists j.options lists)) verdict)
    (run : IsRoundsJournal packets j.options (journal_of_lists j.options lists)) where
  pub judged : j.options.mode ≡ Rounds → IsReadable j → IsWholeRun j.options lists → AreInRange j.lists → AreInRange lists → (verdict ≡ Lawful) ↔ LawfulJournal packets j.options (content_of j)
  unfolding content_of
  judged rounds readable whole range₁ range₂ = (
    (λ is.
        let texts = subst (λ (v : Verdict). IsTextVerdict (journal_text (journal_of_lists j.options j.lists)) (journal_text (journal_of_lists j.options lists)) v) is told in
        let same = one_content j.options j.lists lists (read_complete j readable) (run_complete j.options lists readable.lawful whole) range₁ range₂ texts in
        let kept = subst (λ (c : Content). IsRoundsJournal packets j.options c) (sym same) run in
        record { options = refl; by_mode = subst (λ (m : Mode). IsJournalIn m packets j.options (content_of j)) (sym rounds) kept }),
    (λ lawful.
        let kept = subst (λ (m : Mode). IsJournalIn m packets j.options (content_of j)) rounds lawful.by_mode in
        same_texts verdict _ _ told (ap journal_text (one_journal packets j.options (content_of j) (journal_of_lists j.options lists) kept run))),
  )

  pub compared : IsRoundsVerdict packets j.options (content_of j) verdict
  unfolding content_of
  compared = record { journal = journal_of_lists j.options lists; lawful = run; told = told }
