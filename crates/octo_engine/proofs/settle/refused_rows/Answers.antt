use Rattle.std.proofs.Common.{◌≡◌, ◌∙◌, ◌+◌, ◌-◌, ◌++◌, ◌∷◌, [], ap, arith, length, length-append, length-set, set}
use Rattle.octo_engine.specs.Residues.{IsRow}
use Rattle.octo_engine.proofs.Settling.{popped, rows_more}
use Rattle.octo_engine.proofs.settle.refused_rows.Goals as goal

pub parts-preserved : goal.parts-preserved
parts-preserved g c =
    let was = c.parts.invariant in
    let all = c.args.parts.items in
    let old = c.parts.parts.items in
    let new = c.pop.new.self.items in
    let items : old ≡ new ++ c.in-Some.part ∷ [] = c.in-Some.ensures.items in
    let out = popped all old new c.in-Some.part was.0 items in
    let long = ap length items ∙ length-append new (c.in-Some.part ∷ []) in
    let count = was.1 in
    let rows = was.2 in
    let below = out.1 in
    let place : c.parts.place - 1 ≡ length new = omega (arith, count, long) in
    let next : c.parts.place ≡ length new + 1 = omega (arith, count, long) in
    let stored = c.set.ensures.items ∙ ap (λ k. set c.parts.rows.items k c.refused_of.result) place in (
      out.0,
      place,
      ap length stored ∙ length-set c.parts.rows.items (length new) c.refused_of.result ∙ rows,
      λ w p from to.
          rows_more (IsRow g.K.Kind.rules g.K.Kind.stands) all c.parts.rows.items c.set.new.self.items (length new) [] c.in-Some.part c.refused_of.result (omega (arith, rows, below)) stored out.2 c.refused_of.ensures
          (λ v q after inside. was.3 v q (omega (arith, after, next)) inside) w p (omega (arith, from, place)) to,
    )

pub returns : goal.returns
returns g c =
    let was = c.parts.invariant in
    let place = was.1 in
    let none : length c.parts.parts.items ≡ 0 = search (c.in_default.ensures, c.pop.ensures, c.in_default.not-Some, arith) in
    record { rows_len = was.2; each = λ w p lt. was.3 w p (omega (arith, place, none)) lt }
