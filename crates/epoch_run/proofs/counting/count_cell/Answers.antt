use Rattle.std.proofs.Common.{rules, ◌≡◌, ◌≤◌, ◌∙◌, List, ℕ, get_or, arith, ap, sym, subst, to_z, of_z, w64}
use Rattle.std.proofs.lemmas.Int.{to_z-of_z}
use Rattle.std.proofs.lemmas.Option.{get_or_from_slice_get}
use mir.Val.{SFits}
use Rattle.hash_rows.specs.Tables.{value_at}
use Rattle.epoch_run.specs.Places.{HaveUsed, mark_of}
use Rattle.epoch_run.proofs.Using.{cell_there, mark_most, used_at, used_joined, used_most, used_some, used_within}
use Rattle.epoch_run.proofs.counting.count_cell.Goals as goal

pub get-requires : goal.get-requires
get-requires c = used_within c.args.table.now c.args.used.now.items c.args.row c.requires.used c.requires.row

pub overflow_add-get : goal.overflow_add-get
overflow_add-get c =
    let was : get_or c.args.used.now.items c.args.row 0 ≡ c.get.result.now = get_or_from_slice_get c.args.used.now.items c.args.row c.get.result.now 0 c.get.ensures in
    let after : c.mark-after.result ≤ 1 = mark_most c.mark-after.result (to_z w64 (of_z w64 c.cell-2.result)) c.mark-after.ensures in
    omega (arith, was, after, used_at c.args.table.now c.args.used.now.items c.args.row c.requires.used c.requires.row, used_most c.args.table.now c.args.row, c.requires.shape.columns)

pub overflow_sub-get : goal.overflow_sub-get
overflow_sub-get c =
    let table = c.args.table.now in
    let fits : SFits w64 c.cell.result = search rules in
    let was : get_or c.args.used.now.items c.args.row 0 ≡ c.get.result.now = get_or_from_slice_get c.args.used.now.items c.args.row c.get.result.now 0 c.get.ensures in
    let before : c.mark-before.result ≡ mark_of (value_at table.cells c.args.cell) = c.mark-before.ensures ∙ ap mark_of (to_z-of_z w64 c.cell.result fits ∙ c.cell.ensures.value) in
    let there = cell_there table c.args.row c.args.cell c.requires.cells c.requires.row c.requires.to in
    omega (arith, was, before, used_at table c.args.used.now.items c.args.row c.requires.used c.requires.row, used_some table c.args.row c.args.cell c.requires.from c.requires.to there)

pub set-requires : goal.set-requires
set-requires c = used_within c.args.table.now c.args.used.now.items c.args.row c.requires.used c.requires.row

pub returns-clause-used : goal.returns-clause-used
returns-clause-used c =
    let table = c.args.table.now in
    let first : SFits w64 c.cell.result = search rules in
    let second : SFits w64 c.cell-2.result = search rules in
    let before : c.mark-before.result ≡ mark_of (value_at table.cells c.args.cell) = c.mark-before.ensures ∙ ap mark_of (to_z-of_z w64 c.cell.result first ∙ c.cell.ensures.value) in
    let after : c.mark-after.result ≡ mark_of (value_at c.put.new.self.cells c.args.cell) = c.mark-after.ensures ∙ ap mark_of (to_z-of_z w64 c.cell-2.result second ∙ c.cell-2.ensures.value) in
    let was = get_or_from_slice_get c.args.used.now.items c.args.row c.get.result.now 0 c.get.ensures in
    let there = cell_there table c.args.row c.args.cell c.requires.cells c.requires.row c.requires.to in
    subst (λ (used : List ℕ). HaveUsed c.put.new.self used) (sym c.set.ensures.items)
    (used_joined table c.put.new.self c.args.used.now.items c.args.row c.args.cell c.mark-before.result c.mark-after.result c.get.result.now (to_z w64 (of_z w64 c.args.amount)) c.requires.used c.put.ensures c.requires.row c.requires.from c.requires.to there before after (sym was))
