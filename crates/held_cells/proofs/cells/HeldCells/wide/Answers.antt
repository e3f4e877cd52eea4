use Rattle.std.proofs.Common.{option_map, arith, sym, ap, ◌≡◌, ◌<◌, ◌+◌, ◌∙◌, ℕ, true, false, length, take, count_by, is_none, get_or}
use Rattle.std.specs.Ordering.{int_eq}
use Rattle.std.proofs.lemmas.List.{take_all}
use Rattle.std.proofs.lemmas.Option.{get_or_from_slice_get}
use Rattle.indexmap.specs.IndexMap.{spare}
use Rattle.held_cells.specs.Held.{Forms, HeldView, Parts, held_of, mark}
use Rattle.held_cells.proofs.Holding.{forms_hold, held_len, none_wider, one_wider}
use Rattle.held_cells.proofs.cells.HeldCells.wide.Goals as goal
use Rattle.held_cells.proofs.cells.HeldCells.wide.Goals.{then-get, else-get}

pub loop-cell-preserved : goal.loop-cell-preserved
loop-cell-preserved g c =
    let f : Forms g.row.K-Held.Denot = record { small = g.K.Kind.small_of; from_small = g.K.Kind.held_of_small; fresh = g.K.Kind.fresh_held } in
    let p : Parts g.row.K-Held.Denot = record { bytes = c.self.inside.bytes.items; side = c.self.inside.side.entries; spare = spare c.self.inside.side; due = option_map (λ cell. (cell, c.self.inside.open)) c.self.inside.due; left = c.self.inside.left } in
    let kind = (g.met.K.Kind g.world.𝓛 g.world.𝓜 g.world.𝓡 ((λ s x. x), (λ x. x), (λ x. x), (λ x. x))) in
    let forms = forms_hold g.K.Kind.stands g.K.Kind.rules kind.laws kind.stands_for_values f kind.small_is kind.small_back in
    let cell = c.loop-cell.cell in
    let lt : cell < length p.bytes = omega (arith, c.loop-cell-test.true, c.loop-cell.auto.cell-end, c.len-cell-end.ensures) in
    let byte : get_or p.bytes cell mark ≡ c.get.result.now = get_or_from_slice_get p.bytes cell c.get.result.now mark c.get.ensures in
    let count : ℕ → ℕ = λ n. count_by (λ h. is_none (g.K.Kind.small_of h)) (take n c.args.self.now.held) in
    let whole : (n : ℕ) → count_by (λ h. is_none (g.K.Kind.small_of h)) (take n (held_of f p)) ≡ count n =
    λ n. ap (λ (v : HeldView g.row.K-Held.Denot). count_by (λ h. is_none (g.K.Kind.small_of h)) (take n v.held)) c.self.view_is in
    elim c.if-get.branch [
      | then-get w ↦ (let marked : int_eq c.get.result.now mark ≡ true = grind (arith, w.if-get.true) in
          let more = one_wider g.K.Kind.stands f forms p c.self.invariant cell lt (ap (λ b. int_eq b mark) byte ∙ marked) in
          (omega (arith, w.wide-is, c.loop-cell.invariant.0, more, whole cell, whole (cell + 1)), omega (arith, w.wide-is, c.loop-cell.invariant.1)))
      | else-get w ↦ (let small : int_eq c.get.result.now mark ≡ false = grind (arith, w.if-get.false) in
          let more = none_wider g.K.Kind.stands f forms p c.self.invariant cell lt (ap (λ b. int_eq b mark) byte ∙ small) in
          (omega (arith, w.wide-is, c.loop-cell.invariant.0, more, whole cell, whole (cell + 1)), omega (arith, w.wide-is, c.loop-cell.invariant.1)))
    ]

pub returns : goal.returns
returns g c =
    let f : Forms g.row.K-Held.Denot = record { small = g.K.Kind.small_of; from_small = g.K.Kind.held_of_small; fresh = g.K.Kind.fresh_held } in
    let p : Parts g.row.K-Held.Denot = record { bytes = c.self.inside.bytes.items; side = c.self.inside.side.entries; spare = spare c.self.inside.side; due = option_map (λ cell. (cell, c.self.inside.open)) c.self.inside.due; left = c.self.inside.left } in
    let long : length c.args.self.now.held ≡ length p.bytes = sym (ap (λ (v : HeldView g.row.K-Held.Denot). length v.held) c.self.view_is) ∙ held_len f p in
    c.loop-cell.invariant.0
    ∙ ap (count_by (λ h. is_none (g.K.Kind.small_of h))) (take_all c.loop-cell.cell c.args.self.now.held (omega (arith, long, c.loop-cell-test.false, c.loop-cell.auto.cell-end, c.len-cell-end.ensures)))
