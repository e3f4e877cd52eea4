use Rattle.std.proofs.Common.{◌≡◌, ◌∙◌, arith, get_or, sym, ap, List, ℕ}
use Rattle.std.proofs.lemmas.Option.{get_or_from_slice_get}
use Rattle.shares.specs.Positions.{positions_in}
use Rattle.shares.proofs.Turns.{turn_at, turn_fits}
use Rattle.shares.proofs.positions.Positions.at.Goals as goal

pub overflow_mul-result : goal.overflow_mul-result
overflow_mul-result c =
    let fits = turn_fits c.self.inside.form c.args.self.now c.in-Turns.first c.in-Turns.step c.in-Turns.count c.self.view_is c.in-Turns.is c.args.place c.requires c.self.invariant in
    omega (arith, fits)

pub overflow_add-result : goal.overflow_add-result
overflow_add-result c =
    let fits = turn_fits c.self.inside.form c.args.self.now c.in-Turns.first c.in-Turns.step c.in-Turns.count c.self.view_is c.in-Turns.is c.args.place c.requires c.self.invariant in
    omega (arith, fits)

pub returns-in-Turns : goal.returns-in-Turns
returns-in-Turns c = turn_at c.self.inside.form c.args.self.now c.in-Turns.first c.in-Turns.step c.in-Turns.count c.self.view_is c.in-Turns.is c.args.place c.requires

pub returns-in-Listed : goal.returns-in-Listed
returns-in-Listed c =
    let list = c.in-Listed.list.items in
    let items : list ≡ c.args.self.now = ap positions_in (sym c.in-Listed.is) ∙ c.self.view_is in
    sym (get_or_from_slice_get list c.args.place c.get.result.now 0 c.get.ensures) ∙ ap (λ (l : List ℕ). get_or l c.args.place 0) items
