-- The lengths that a report tells of, one after another.
use Rattle.std.proofs.Common.{◌≡◌, ◌<◌, ◌+◌, ◌*◌, ℕ, zero, suc, Bool, false, length, get_or, zip, refl, sym, ap, ◌∙◌, arith}
use Rattle.std.proofs.lemmas.Slice.Zip.{get_or-zip, length-zip}
use Rattle.listed.specs.Listed.{Listed}
use Rattle.hash_rows.specs.declared.answer.Answer.{Answer}
use Rattle.prefix_stack.specs.Levels.{lengths}
use Rattle.prefix_report.specs.declared.report.PrefixReport.{PrefixReport}
use Rattle.prefix_report.specs.PrefixText.{levels_in}

abbrev pub no_level : Listed Answer → ℕ × (Listed Answer × Bool)
no_level row = (0, (row, false))

length_at : (place : ℕ) → place < 4 → get_or lengths place 0 ≡ 8 * (place + 1)
length_at zero lt = refl
length_at (suc zero) lt = refl
length_at (suc (suc zero)) lt = refl
length_at (suc (suc (suc zero))) lt = refl
length_at (suc (suc (suc (suc more)))) lt = absurd (omega (arith, lt))

pub four_levels : (r : PrefixReport) → length r.answers.items ≡ 4 → length r.found.more ≡ 4 → length (levels_in r) ≡ 4
four_levels r answers more = omega (arith, length-zip lengths (zip r.answers.items r.found.more), length-zip r.answers.items r.found.more, answers, more)

pub level_at : (r : PrefixReport) (place : ℕ) (row : Listed Answer) → length r.answers.items ≡ 4 → length r.found.more ≡ 4 → place < 4 → row ≡ get_or r.answers.items place row
    → (8 * (place + 1), (row, get_or r.found.more place false)) ≡ get_or (levels_in r) place (no_level row)
level_at r place row answers more lt is =
    let rows = r.answers.items in
    let others = r.found.more in
    let both : place < length (zip rows others) = omega (arith, length-zip rows others, answers, more, lt) in
    let pair : get_or (zip rows others) place (row, false) ≡ (row, get_or others place false) =
    get_or-zip rows others place (row, false) (omega (arith, answers, lt)) (omega (arith, more, lt)) ∙ ap (λ (a : Listed Answer). (a, get_or others place false)) (sym is) in
    sym (get_or-zip lengths (zip rows others) place (no_level row) (omega (arith, lt)) both
    ∙ (λ i. (length_at place lt i, pair i)))
