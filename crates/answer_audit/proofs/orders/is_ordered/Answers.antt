use Rattle.std.proofs.Common.{◌≤◌, length, arith}
use Rattle.octo_text.specs.Content.{content_of}
use Rattle.answer_audit.proofs.Ordered.{answers_len, ordered_more}
use Rattle.answer_audit.proofs.orders.is_ordered.Goals as goal

pub loop-reader-preserved : goal.loop-reader-preserved
loop-reader-preserved c =
    let j = c.args.journal.now in
    let within : c.args.place ≤ length (content_of j).answers = omega (arith, c.requires.place, answers_len j) in
    ordered_more (content_of j) c.args.front.now j.options.asks c.loop-reader.reader c.args.place c.min-start.result c.min-end.result within
    c.min-start.ensures c.min-end.ensures (c.is_ordered_in.ensures c.if-not-is_ordered_in.false) c.loop-reader.invariant
