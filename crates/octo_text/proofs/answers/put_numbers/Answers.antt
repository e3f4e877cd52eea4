use Rattle.std.proofs.Common.{arith, refl, codes, decimal, get_or}
use Rattle.octo_text.specs.JournalText.{spaced}
use Rattle.octo_text.proofs.NumberLemmas.{one_number_more}
use Rattle.octo_text.proofs.answers.put_numbers.Goals as goal

pub loop-number-preserved : goal.loop-number-preserved
unfolding spaced
loop-number-preserved c = (
  one_number_more spaced c.args.line.now c.loop-number.line c.named.new.self (codes " ") (decimal (get_or c.args.numbers.now c.loop-number.number-index 0)) c.args.numbers.now c.loop-number.number-index 0
      c.loop-number-test.true c.loop-number.invariant.0 c.named.ensures.text refl,
  omega (arith, c.named.ensures.room, c.loop-number.invariant.1),
)
