use Rattle.std.specs.Int.{trailing_zeros, w32}
use Rattle.hash_rows.proofs.Columns.{masked}
use Rattle.hash_rows.proofs.hash.column_of.Goals as goal

pub returns-then-columns-bits : goal.returns-then-columns-bits
returns-then-columns-bits c =
    masked c.args.hash c.args.columns c.from.result (trailing_zeros w32 c.args.columns) c.if-bits-lt32.true c.if-columns-bits.true c.from.ensures
