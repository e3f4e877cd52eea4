use Rattle.std.proofs.Common.{rules, ◌≡◌, ◌∙◌, sym, to_z, of_z, w64, ap, set, pos, get_or}
use Rattle.std.proofs.lemmas.Int.{to_z-of_z}
use Rattle.std.proofs.lemmas.Option.{get_or_from_slice_get}
use mir.Val.{SFits}
use Rattle.hash_rows.proofs.table.join_at.Goals as goal

pub returns-clause-items : goal.returns-clause-items
returns-clause-items g c =
    let fits_sum : SFits w64 c.join-joined.result = search rules in
    let fits_cell : SFits w64 c.get.result.now = search rules in
    let at : get_or c.args.cells.now.items c.args.cell (pos 0) ≡ c.get.result.now = get_or_from_slice_get c.args.cells.now.items c.args.cell c.get.result.now (pos 0) c.get.ensures in
    let join = g.K.Kind.rules.join in
    let cell_is = to_z-of_z w64 c.get.result.now fits_cell ∙ sym at in
    let amount_is = to_z-of_z w64 c.args.amount c.ranges.amount in
    let joined : c.join-joined.result ≡ join (get_or c.args.cells.now.items c.args.cell (pos 0)) c.args.amount =
    c.join-joined.ensures ∙ ap (λ v. join v (to_z w64 (of_z w64 c.args.amount))) cell_is ∙ ap (λ v. join (get_or c.args.cells.now.items c.args.cell (pos 0)) v) amount_is in
    c.set.ensures.items ∙ ap (λ v. set c.args.cells.now.items c.args.cell v) (to_z-of_z w64 c.join-joined.result fits_sum ∙ joined)
