use Rattle.std.proofs.Common.{◌≡◌, ◌∙◌, sym, ap, arith, length, List, ℕ, ◌++◌, ◌∷◌, [], map}
use Rattle.std.specs.List.{range_with_len}
use Rattle.std.proofs.lemmas.List.FromFn.{map-range_with_len_more, length-map-range_with_len}
use Rattle.hash_rows.specs.Tables.{used_in}
use Rattle.reports.proofs.totals.used_of.Goals as goal

pub push-requires : goal.push-requires
push-requires g c =
    let len : length c.loop-row.used.items ≡ c.loop-row.row = ap length c.loop-row.invariant.0 ∙ length-map-range_with_len (used_in c.args.table.now) 0 c.loop-row.row in
    omega (arith, len, c.loop-row.invariant.1, c.loop-row-test.true)

pub loop-row-preserved : goal.loop-row-preserved
loop-row-preserved g c =
    let more = map-range_with_len_more (used_in c.args.table.now) 0 c.loop-row.row c.loop-row.row (omega arith) in
    let number : c.from.result ≡ used_in c.args.table.now c.loop-row.row = c.from.ensures ∙ c.used.ensures in
    (c.push.ensures.items ∙ ap (λ (xs : List ℕ). xs ++ c.from.result ∷ []) c.loop-row.invariant.0 ∙ ap (λ (n : ℕ). map (used_in c.args.table.now) (range_with_len 0 c.loop-row.row) ++ n ∷ []) number ∙ sym more, c.push.ensures.room ∙ c.loop-row.invariant.1)
