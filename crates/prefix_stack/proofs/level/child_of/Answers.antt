use Rattle.std.proofs.Common.{arith}
use Rattle.prefix_stack.proofs.Candidates.{child_numbers}
use Rattle.prefix_stack.proofs.level.child_of.Goals as goal

pub overflow_mul-result : goal.overflow_mul-result
overflow_mul-result c = let numbers = child_numbers c.args.length c.args.parent.now c.args.number c.requires.parent c.requires.number in rw c.addresses_in.ensures (omega (arith, numbers.0))

pub overflow_add-result : goal.overflow_add-result
overflow_add-result c = let numbers = child_numbers c.args.length c.args.parent.now c.args.number c.requires.parent c.requires.number in rw c.addresses_in.ensures (omega (arith, numbers.0))

pub returns-clause-lawful : goal.returns-clause-lawful
returns-clause-lawful c =
    let numbers = child_numbers c.args.length c.args.parent.now c.args.number c.requires.parent c.requires.number in
    rw c.addresses_in.ensures (record { length = c.requires.parent.lawful; fits = numbers.0; rest = numbers.1 })
