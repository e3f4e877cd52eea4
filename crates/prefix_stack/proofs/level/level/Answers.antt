use Rattle.std.proofs.Common.{refl, false, List, w64, to_z, of_z, subst, take}
use Rattle.prefixes.specs.declared.network.Prefix.{Prefix}
use Rattle.prefix_stack.specs.Descent.{IsLevelOf, candidates_of, prefixes_of}
use Rattle.prefix_stack.proofs.Finding.{nothing_yet, parent_at, parent_more}
use Rattle.prefix_stack.proofs.level.level.Goals as goal

pub loop-parent-init : goal.loop-parent-init
loop-parent-init c =
    nothing_yet c.args.table.now c.args.limit (to_z w64 (of_z w64 c.args.least)) (record { hits = c.in_ok-new.field-0; more = false }) c.in_ok-new.ensures.empty refl c.in_ok-new.ensures.room

pub consider_children-requires : goal.consider_children-requires
consider_children-requires c = parent_at c.args.length c.args.parents.now c.requires c.loop-parent.parent-index _ c.loop-parent-test.true

pub loop-parent-preserved : goal.loop-parent-preserved
loop-parent-preserved c =
    let before = candidates_of (prefixes_of (take c.loop-parent.parent-index c.args.parents.now)) in
    let next = c.consider_children.ensures c.args.limit before c.loop-parent.invariant in
    subst (λ (l : List Prefix). IsLevelOf c.args.table.now c.args.limit (to_z w64 (of_z w64 c.args.least)) l c.consider_children.new.reached)
    (parent_more c.args.parents.now c.loop-parent.parent-index _ c.loop-parent-test.true) next
