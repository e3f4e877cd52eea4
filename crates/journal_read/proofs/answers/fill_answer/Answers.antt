use Rattle.std.proofs.Common.{◌∙◌, ◌++◌, refl, sym, ap, codes, drop, arith}
use Rattle.std.specs.Fmt.{decimal}
use Rattle.push_history.specs.Answers.{parts_of}
use Rattle.journal_read.proofs.Grouped.{answer_grouped, behind_reader, behind_folded, behind_front, same_parts}
use Rattle.journal_read.proofs.answers.fill_answer.Goals as goal

pub returns-clause-parts : goal.returns-clause-parts
unfolding parts_of
returns-clause-parts c = λ a told is.
    let reader = c.number_behind-reader.ensures a.reader (behind_reader a) (omega (arith, told.reader_fits)) refl (is ∙ answer_grouped a) in
    let number = c.number_behind-number.ensures a.number (codes " folded " ++ (decimal a.folded ++ behind_folded a)) (omega (arith, told.number_fits)) refl reader.1 in
    let folded = c.number_behind-folded.ensures a.folded (behind_folded a) told.folded refl number.1 in
    let front = c.fill_numbers-rest.ensures.numbers a.front (behind_front a) (told.front_len ∙ sym c.fill_numbers-rest.ensures.len) told.front refl (c.skip.ensures ∙ ap (drop 6) folded.1) in
    let shown = c.fill_estimates.ensures.numbers a.shown (codes "\n") (told.shown_len ∙ sym c.fill_estimates.ensures.len) told.shown refl (c.skip-2.ensures ∙ ap (drop 6) front.1) in
    same_parts _ _ _ _ _ a (sym told.reader) (sym told.number) folded.0 front.0 shown.0
