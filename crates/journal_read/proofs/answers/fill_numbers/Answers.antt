use Rattle.std.proofs.Common.{rules, ◌<◌, ◌^◌, refl, arith}
use Rattle.std.specs.Fmt.{decimal}
use Rattle.octo_text.specs.JournalText.{spaced}
use Rattle.journal_read.proofs.NumberLists.{filled_none, filled_more, filled_all, spaced_is}
use Rattle.journal_read.proofs.answers.fill_numbers.Goals as goal

pub loop-place-init : goal.loop-place-init
loop-place-init c = record { len = refl; filled = filled_none spaced decimal (λ n. n < 2 ^ 64) spaced_is c.args.text.now c.args.into.now.items }

pub loop-place-preserved : goal.loop-place-preserved
loop-place-preserved c = record {
  len = search rules;
  filled =
      filled_more spaced decimal (λ n. n < 2 ^ 64) spaced_is c.args.text.now c.loop-place.into.items _ c.loop-place.rest.now c.number_behind-number.result.1.now c.number_behind-number.result.0 0
      c.loop-place.place _ c.loop-place.invariant.filled (omega arith) refl c.set.ensures.items c.number_behind-number.ensures;
}

pub returns-clause-numbers : goal.returns-clause-numbers
returns-clause-numbers c =
    filled_all spaced decimal (λ n. n < 2 ^ 64) spaced_is c.args.text.now c.loop-place.into.items c.loop-place.rest.now _ c.loop-place.invariant.filled (omega arith)
