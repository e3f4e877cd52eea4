use Rattle.std.proofs.Common.{arith}
use Rattle.hash_rows.proofs.WordRanges.{no_bit, lowest_bit}
use Rattle.hash_rows.proofs.bits.bit_from.Goals as goal

pub returns-then-rest-eq0-clause-before : goal.returns-then-rest-eq0-clause-before
returns-then-rest-eq0-clause-before c = λ k above below. no_bit c.args.word c.args.low k (omega arith) above below

pub returns-else-rest-eq0-clause-low : goal.returns-else-rest-eq0-clause-low
returns-else-rest-eq0-clause-low c = (lowest_bit c.args.word c.args.low c.requires (omega arith) (λ e. omega arith)).above

pub returns-else-rest-eq0-clause-before : goal.returns-else-rest-eq0-clause-before
returns-else-rest-eq0-clause-before c = (lowest_bit c.args.word c.args.low c.requires (omega arith) (λ e. omega arith)).before

pub returns-else-rest-eq0-clause-found : goal.returns-else-rest-eq0-clause-found
returns-else-rest-eq0-clause-found c = λ below. (lowest_bit c.args.word c.args.low c.requires (omega arith) (λ e. omega arith)).found
