use Rattle.std.proofs.Common.{◌≤◌, ◌+◌, ◌*◌, ◌/◌, arith}
use Rattle.std.proofs.Math.Nat.{div-le_of_le-mul, mul-le-mul_left}
use Rattle.loglog_regs.proofs.registers.estimate_raw.Goals as goal

-- at most m * 2 ^ 32, since there are at least m registers of at least 1
pub returns-clause-fits : goal.returns-clause-fits
returns-clause-fits c =
    let m = c.from-m.result in
    let z = c.from.result in
    let below = (10000 * m + 10790) * z in
    let square : m * m ≤ m * z = mul-le-mul_left m (omega arith) in
    let cube : m * (m * m) ≤ m * (m * z) = mul-le-mul_left m square in
    let whole : 7213 * (m * m * m) * 4294967296 ≤ below * (m * 4294967296) = omega arith in
    let quotient : 7213 * (m * m * m) * 4294967296 / below ≤ m * 4294967296 = div-le_of_le-mul below whole in
    omega arith
