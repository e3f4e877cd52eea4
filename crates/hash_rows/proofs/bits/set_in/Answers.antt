use Rattle.std.proofs.Common.{◌<◌, ◌*◌, ◌^◌, get_or, arith}
use Rattle.std.proofs.lemmas.Nat.{ones-le}
use Rattle.hash_rows.proofs.WordCounts.{set_before_le, word_more}
use Rattle.hash_rows.proofs.bits.set_in.Goals as goal

pub overflow_add-count : goal.overflow_add-count
overflow_add-count c =
    let row = c.loop-word.word-index in
    let fits : get_or c.args.words.now row 0 < 2 ^ 64 = omega (arith, c.type_inv.words row) in
    omega (arith, ones-le 64 (get_or c.args.words.now row 0) fits, set_before_le c.args.words.now (row * 64))

pub loop-word-preserved : goal.loop-word-preserved
loop-word-preserved c =
    let row = c.loop-word.word-index in
    let fits : get_or c.args.words.now row 0 < 2 ^ 64 = omega (arith, c.type_inv.words row) in
    omega (arith, word_more c.args.words.now row fits)
