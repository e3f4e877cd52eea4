use Rattle.std.proofs.Common.{◌∙◌, ◌++◌, ap, drop, length}
use Rattle.std.specs.Fmt.{signed_decimal}
use Rattle.std.proofs.Math.Seq.{drop-append_seam}
use Rattle.journal_read.proofs.numbers.signed_behind.Goals as goal

pub returns : goal.returns
returns c = λ x rest small stop is.
    c.signed_at.ensures x rest small stop
    (c.skip.ensures ∙ ap (drop (length c.args.words.now)) is ∙ drop-append_seam c.args.words.now (signed_decimal x ++ rest))
