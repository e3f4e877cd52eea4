use Rattle.std.proofs.Common.{option_map, arith, sym, ap, subst, ◌≡◌, ◌<◌, ◌∙◌, length, Some, slice_get, nat_eq, false}
use Rattle.std.proofs.lemmas.Bool.Decides.{nat_tests}
use Rattle.indexmap.specs.IndexMap.{spare}
use Rattle.held_cells.specs.Held.{Forms, HeldView, Parts, held_at, kept_at, shown_at}
use Rattle.held_cells.proofs.Holding.{held_get, held_len, shown_other, shown_same}
use Rattle.held_cells.proofs.cells.HeldCells.get.Goals as goal
use Rattle.held_cells.proofs.cells.HeldCells.get.Goals.{in_default-via-in-Some+else-due-cell, in_default-via-in_default}

pub kept-requires-clause-cell : goal.kept-requires-clause-cell
kept-requires-clause-cell g c κs within =
    let f : Forms g.row.K-Held.Denot = record { small = g.K.Kind.small_of; from_small = g.K.Kind.held_of_small; fresh = g.K.Kind.fresh_held } in
    let p : Parts g.row.K-Held.Denot = record { bytes = c.self.inside.bytes.items; side = c.self.inside.side.entries; spare = spare c.self.inside.side; due = option_map (λ cell. (cell, c.self.inside.open)) c.self.inside.due; left = c.self.inside.left } in
    omega (arith, c.requires, held_len f p, ap (λ (v : HeldView g.row.K-Held.Denot). length v.held) c.self.view_is)

pub kept-requires-clause-tells : goal.kept-requires-clause-tells
kept-requires-clause-tells g c κs within =
    let f : Forms g.row.K-Held.Denot = record { small = g.K.Kind.small_of; from_small = g.K.Kind.held_of_small; fresh = g.K.Kind.fresh_held } in
    let p : Parts g.row.K-Held.Denot = record { bytes = c.self.inside.bytes.items; side = c.self.inside.side.entries; spare = spare c.self.inside.side; due = option_map (λ cell. (cell, c.self.inside.open)) c.self.inside.due; left = c.self.inside.left } in
    let lt : c.args.cell < length p.bytes = omega (arith, c.requires, held_len f p, ap (λ (v : HeldView g.row.K-Held.Denot). length v.held) c.self.view_is) in
    (held_at f p c.args.cell, c.self.invariant.values c.args.cell lt)

pub returns-in-Some-clause-value : goal.returns-in-Some-clause-value
returns-in-Some-clause-value g c =
    let f : Forms g.row.K-Held.Denot = record { small = g.K.Kind.small_of; from_small = g.K.Kind.held_of_small; fresh = g.K.Kind.fresh_held } in
    let p : Parts g.row.K-Held.Denot = record { bytes = c.self.inside.bytes.items; side = c.self.inside.side.entries; spare = spare c.self.inside.side; due = option_map (λ cell. (cell, c.self.inside.open)) c.self.inside.due; left = c.self.inside.left } in
    let lt : c.args.cell < length p.bytes = omega (arith, c.requires, held_len f p, ap (λ (v : HeldView g.row.K-Held.Denot). length v.held) c.self.view_is) in
    let same : c.in-Some.due ≡ c.args.cell = grind (arith, nat_tests, c.if-due-cell.true) in
    ap (λ (v : HeldView g.row.K-Held.Denot). slice_get v.held c.args.cell) (sym c.self.view_is)
    ∙ held_get f p c.args.cell lt
    ∙ ap Some (ap (λ d. shown_at d c.args.cell (kept_at f p.bytes p.side c.args.cell)) (ap (option_map (λ cell. (cell, c.self.inside.open))) c.in-Some.is) ∙ shown_same c.in-Some.due c.args.cell c.self.inside.open _ same)

pub returns-in_default-clause-value : goal.returns-in_default-clause-value
returns-in_default-clause-value g c =
    let f : Forms g.row.K-Held.Denot = record { small = g.K.Kind.small_of; from_small = g.K.Kind.held_of_small; fresh = g.K.Kind.fresh_held } in
    let p : Parts g.row.K-Held.Denot = record { bytes = c.self.inside.bytes.items; side = c.self.inside.side.entries; spare = spare c.self.inside.side; due = option_map (λ cell. (cell, c.self.inside.open)) c.self.inside.due; left = c.self.inside.left } in
    let lt : c.args.cell < length p.bytes = omega (arith, c.requires, held_len f p, ap (λ (v : HeldView g.row.K-Held.Denot). length v.held) c.self.view_is) in
    let kept = kept_at f p.bytes p.side c.args.cell in
    let shown : held_at f p c.args.cell ≡ kept = elim c.in_default.branch [
      | in_default-via-in-Some+else-due-cell w ↦ (let other : nat_eq c.args.cell w.in-Some.due ≡ false = grind (arith, nat_tests, w.if-due-cell.false) in ap (λ d. shown_at d c.args.cell kept) (ap (option_map (λ cell. (cell, c.self.inside.open))) w.in-Some.is) ∙ shown_other w.in-Some.due c.args.cell c.self.inside.open kept other)
      | in_default-via-in_default w ↦ ap (λ d. shown_at d c.args.cell kept) (ap (option_map (λ cell. (cell, c.self.inside.open))) w.in_default.is)
    ] in
    ap (λ (v : HeldView g.row.K-Held.Denot). slice_get v.held c.args.cell) (sym c.self.view_is)
    ∙ held_get f p c.args.cell lt
    ∙ ap Some (shown ∙ sym {b = kept} c.kept.ensures)

pub returns-in-Some-clause-stands : goal.returns-in-Some-clause-stands
returns-in-Some-clause-stands g c =
    let f : Forms g.row.K-Held.Denot = record { small = g.K.Kind.small_of; from_small = g.K.Kind.held_of_small; fresh = g.K.Kind.fresh_held } in
    let p : Parts g.row.K-Held.Denot = record { bytes = c.self.inside.bytes.items; side = c.self.inside.side.entries; spare = spare c.self.inside.side; due = option_map (λ cell. (cell, c.self.inside.open)) c.self.inside.due; left = c.self.inside.left } in
    let lt : c.args.cell < length p.bytes = omega (arith, c.requires, held_len f p, ap (λ (v : HeldView g.row.K-Held.Denot). length v.held) c.self.view_is) in
    let same : c.in-Some.due ≡ c.args.cell = grind (arith, nat_tests, c.if-due-cell.true) in
    let at = c.self.invariant.values c.args.cell lt in
    let own : held_at f p c.args.cell ≡ c.self.inside.open =
    ap (λ d. shown_at d c.args.cell (kept_at f p.bytes p.side c.args.cell)) (ap (option_map (λ cell. (cell, c.self.inside.open))) c.in-Some.is) ∙ shown_same c.in-Some.due c.args.cell c.self.inside.open _ same in
    (at.told, at.whole, subst (λ h. g.K.Kind.stands h at.told at.whole) own at.stood)

pub returns-in_default-clause-stands : goal.returns-in_default-clause-stands
returns-in_default-clause-stands g c =
    let f : Forms g.row.K-Held.Denot = record { small = g.K.Kind.small_of; from_small = g.K.Kind.held_of_small; fresh = g.K.Kind.fresh_held } in
    let p : Parts g.row.K-Held.Denot = record { bytes = c.self.inside.bytes.items; side = c.self.inside.side.entries; spare = spare c.self.inside.side; due = option_map (λ cell. (cell, c.self.inside.open)) c.self.inside.due; left = c.self.inside.left } in
    let lt : c.args.cell < length p.bytes = omega (arith, c.requires, held_len f p, ap (λ (v : HeldView g.row.K-Held.Denot). length v.held) c.self.view_is) in
    let kept = kept_at f p.bytes p.side c.args.cell in
    let shown : held_at f p c.args.cell ≡ kept = elim c.in_default.branch [
      | in_default-via-in-Some+else-due-cell w ↦ (let other : nat_eq c.args.cell w.in-Some.due ≡ false = grind (arith, nat_tests, w.if-due-cell.false) in ap (λ d. shown_at d c.args.cell kept) (ap (option_map (λ cell. (cell, c.self.inside.open))) w.in-Some.is) ∙ shown_other w.in-Some.due c.args.cell c.self.inside.open kept other)
      | in_default-via-in_default w ↦ ap (λ d. shown_at d c.args.cell kept) (ap (option_map (λ cell. (cell, c.self.inside.open))) w.in_default.is)
    ] in
    let at = c.self.invariant.values c.args.cell lt in
    (at.told, at.whole, subst (λ h. g.K.Kind.stands h at.told at.whole) (shown ∙ sym {b = kept} c.kept.ensures) at.stood)
