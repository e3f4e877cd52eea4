use Rattle.std.proofs.Common.{rules, ◌∙◌, ◌++◌, refl, codes, w64, arith}
use mir.Val.{SFits}
use Rattle.std.proofs.lemmas.Int.{to_z-of_z}
use Rattle.std.specs.Fmt.{decimal, signed_decimal}
use Rattle.journal_read.proofs.Grouped.{queries_grouped, behind_mode, behind_asks, least_small}
use Rattle.journal_read.proofs.options.queries_in.Goals as goal

pub returns : goal.returns
returns c = λ o rest law stop is.
    let mode = c.mode_behind-mode.ensures o.mode (behind_mode o rest) (is ∙ queries_grouped o rest) in
    let readers = c.small_behind-readers.ensures o.readers (codes " asks " ++ (decimal o.asks ++ behind_asks o rest)) (omega (arith, law.readers)) refl mode.1 in
    let asks = c.small_behind-asks.ensures o.asks (behind_asks o rest) (omega (arith, law.asks)) refl readers.1 in
    let heavy = c.small_behind-heavy.ensures o.heavy (codes " least " ++ (signed_decimal o.least ++ rest)) (omega (arith, law.heavy)) refl asks.1 in
    let least = c.signed_behind-least.ensures o.least rest (least_small o.least law.some_least law.least) stop heavy.1 in
    let fits : SFits w64 c.signed_behind-least.result.0 = search rules in
    record { mode = mode.0; readers = readers.0; asks = asks.0; heavy = heavy.0; least = to_z-of_z w64 c.signed_behind-least.result.0 fits ∙ least.0 }
