use Rattle.std.proofs.Common.{rules, ◌∙◌, pos, ◌<◌, ◌^◌, refl, arith, ap, set, w64}
use mir.Val.{SFits}
use Rattle.std.proofs.lemmas.Int.{to_z-of_z}
use Rattle.std.specs.Fmt.{signed_decimal}
use lib.Signed.{mag}
use Rattle.octo_text.specs.JournalText.{spaced_signed}
use Rattle.journal_read.proofs.NumberLists.{filled_none, filled_more, filled_all, spaced_signed_is}
use Rattle.journal_read.proofs.answers.fill_estimates.Goals as goal

pub loop-place-init : goal.loop-place-init
loop-place-init c = record { len = refl; filled = filled_none spaced_signed signed_decimal (λ x. mag x < 2 ^ 63) spaced_signed_is c.args.text.now c.args.into.now.items }

pub loop-place-preserved : goal.loop-place-preserved
loop-place-preserved c =
    let fits : SFits w64 c.signed_behind-number.result.0 = search rules in
    record {
      len = search rules;
      filled =
          filled_more spaced_signed signed_decimal (λ x. mag x < 2 ^ 63) spaced_signed_is c.args.text.now c.loop-place.into.items _ c.loop-place.rest.now c.signed_behind-number.result.1.now c.signed_behind-number.result.0 (pos 0)
          c.loop-place.place _ c.loop-place.invariant.filled (omega arith) refl
          (c.set.ensures.items ∙ ap (set c.loop-place.into.items c.loop-place.place) (to_z-of_z w64 c.signed_behind-number.result.0 fits)) c.signed_behind-number.ensures;
    }

pub returns-clause-numbers : goal.returns-clause-numbers
returns-clause-numbers c =
    filled_all spaced_signed signed_decimal (λ x. mag x < 2 ^ 63) spaced_signed_is c.args.text.now c.loop-place.into.items c.loop-place.rest.now _ c.loop-place.invariant.filled (omega arith)
