use Rattle.std.proofs.Common.{◌≡◌, ◌∙◌, ◌++◌, ◌∷◌, [], List, w64, to_z, of_z, ap, arith, map, subst, sym}
use Rattle.std.specs.List.{range_with_len}
use Rattle.std.proofs.lemmas.Int.{to_z-of_z}
use Rattle.prefixes.specs.declared.network.Prefix.{Prefix}
use Rattle.prefix_stack.specs.Descent.{IsLevelOf, child_of, children_of}
use Rattle.prefix_stack.proofs.Finding.{child_more}
use Rattle.prefix_stack.proofs.level.consider_children.Goals as goal

pub loop-number-preserved : goal.loop-number-preserved
loop-number-preserved c limit cs h =
    let parent = c.args.parent.now in
    let done = cs ++ map (child_of parent) (range_with_len 0 c.loop-number.number) in
    let next = c.consider.ensures limit done (c.loop-number.invariant limit cs h) in
    subst (λ (l : List Prefix). IsLevelOf c.args.table.now limit (to_z w64 (of_z w64 c.args.least)) l c.consider.new.reached)
    (ap (λ (p : Prefix). done ++ p ∷ []) c.child_of.ensures.child ∙ child_more cs parent c.loop-number.number) next

pub returns : goal.returns
unfolding children_of
returns c limit cs h =
    let exact = to_z-of_z w64 c.args.least c.ranges.least in
    let all : c.loop-number.number ≡ 256 = omega (arith, c.loop-number-test.false, c.loop-number.auto.number-end) in
    let before = subst (λ z. IsLevelOf c.args.table.now limit z cs c.args.reached.now) (sym exact) h in
    let after = c.loop-number.invariant limit cs before in
    let now = subst (λ z. IsLevelOf c.args.table.now limit z (cs ++ map (child_of c.args.parent.now) (range_with_len 0 c.loop-number.number)) c.loop-number.reached) exact after in
    subst (λ k. IsLevelOf c.args.table.now limit c.args.least (cs ++ map (child_of c.args.parent.now) (range_with_len 0 k)) c.loop-number.reached) all now
