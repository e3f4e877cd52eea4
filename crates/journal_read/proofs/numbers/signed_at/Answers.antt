use Rattle.std.proofs.Common.{rules, ◌∙◌, suc, sym, w64, arith}
use mir.Val.{SFits}
use Rattle.std.proofs.lemmas.Int.{to_z-of_z}
use Rattle.journal_read.proofs.NumberTexts.{minus_is}
use Rattle.journal_read.proofs.numbers.signed_at.Goals as goal

pub returns-then-byte_at-eq45 : goal.returns-then-byte_at-eq45
returns-then-byte_at-eq45 c = λ x rest small stop is.
    let minus = minus_is c.args.text.now x rest small is (omega (arith, c.byte_at.ensures)) in
    let read = c.number_behind-number.ensures (suc minus.0) rest (omega (arith, minus.2)) stop minus.3 in
    let fits : SFits w64 c.negative.result = search rules in
    (to_z-of_z w64 c.negative.result fits ∙ c.negative.ensures minus.0 minus.2 read.0 ∙ sym minus.1, read.1)
