use Rattle.std.proofs.Common.{rules, ◌∙◌, ◌++◌, ◌∷◌, [], ℤ, FitsSigned, w64, ap, refl, arith}
use Rattle.std.proofs.lemmas.Int.{to_z-of_z}
use Rattle.prefix_stack.proofs.Finding.{estimate_is, high_enough, left_out, left_over, taken_in, too_low}
use Rattle.prefix_stack.proofs.level.consider.Goals as goal

pub returns-then-estimate-least : goal.returns-then-estimate-least
returns-then-estimate-least c limit cs h =
    let fits : FitsSigned w64 c.estimate-estimate.result = search rules in
    let fits_least : FitsSigned w64 c.args.least = c.ranges.least in
    let low = simp to_z-of_z at c.if-estimate-least.true in
    let same = estimate_is c.args.table.now c.args.candidate c.prefix_key.result c.estimate-estimate.result c.prefix_key.ensures c.estimate-estimate.ensures in
    left_out c.args.table.now limit c.args.least cs c.args.candidate (too_low c.args.least c.estimate-estimate.result _ same low) c.args.reached.now h

pub returns-then-len-room : goal.returns-then-len-room
returns-then-len-room c limit cs h =
    let fits : FitsSigned w64 c.estimate-estimate.result = search rules in
    let fits_least : FitsSigned w64 c.args.least = c.ranges.least in
    let high = simp to_z-of_z at c.if-estimate-least.false in
    let same = estimate_is c.args.table.now c.args.candidate c.prefix_key.result c.estimate-estimate.result c.prefix_key.ensures c.estimate-estimate.ensures in
    let exact = to_z-of_z w64 c.estimate-estimate.result fits ∙ same in
    let items = c.push.ensures.items ∙ ap (λ (z : ℤ). c.args.reached.now.hits.items ++ record { prefix = c.args.candidate; estimate = z } ∷ []) exact in
    taken_in c.args.table.now limit c.args.least cs c.args.candidate (high_enough c.args.least c.estimate-estimate.result _ same high) c.args.reached.now
    (record { hits = c.push.new.self; more = c.args.reached.now.more }) h (omega (arith, c.len.ensures, c.room.ensures, c.if-len-room.true)) items c.push.ensures.room refl

pub returns-else-len-room : goal.returns-else-len-room
returns-else-len-room c limit cs h =
    let fits : FitsSigned w64 c.estimate-estimate.result = search rules in
    let fits_least : FitsSigned w64 c.args.least = c.ranges.least in
    let high = simp to_z-of_z at c.if-estimate-least.false in
    let same = estimate_is c.args.table.now c.args.candidate c.prefix_key.result c.estimate-estimate.result c.prefix_key.ensures c.estimate-estimate.ensures in
    left_over c.args.table.now limit c.args.least cs c.args.candidate (high_enough c.args.least c.estimate-estimate.result _ same high) c.args.reached.now _ h
    (omega (arith, c.len.ensures, c.room.ensures, c.if-len-room.false)) refl refl
