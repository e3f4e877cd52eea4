use Rattle.std.proofs.Common.{◌≡◌, ◌<◌, sym, ◌∙◌, subst, length, length-set, ap, List, ℤ, w64}
use Rattle.std.proofs.lemmas.Int.{to_z-of_z}
use Rattle.hash_rows.specs.Shapes.{size_of}
use Rattle.hash_rows.specs.Rules.{AreValues}
use Rattle.hash_rows.specs.Tables.{joined_at, put_in, TableView}
use Rattle.hash_rows.proofs.Values.{values_joined}
use Rattle.hash_rows.proofs.table.Table.put.Goals as goal

pub invariant_of-self : goal.invariant_of-self
invariant_of-self g c =
    let rules = g.K.Kind.rules in
    let items = c.self.inside.cells.items in
    let now : c.join_at.new.cells.items ≡ joined_at rules.join items c.args.cell c.args.amount =
    c.join_at.ensures.items ∙ ap (λ a. joined_at rules.join items c.args.cell a) (to_z-of_z w64 c.args.amount c.ranges.amount) in
    let within : c.args.cell < length items = rw (c.self.invariant.1) (subst (λ (t : TableView). c.args.cell < size_of t.shape) (sym c.self.view_is) c.requires.cell) in
    let values : AreValues rules c.join_at.new.cells.items =
    subst (λ (xs : List ℤ). AreValues rules xs) (sym now) (values_joined rules (g.met.K.Kind g.world.𝓛 g.world.𝓜 g.world.𝓡 ((λ s x. x), (λ x. x), (λ x. x), (λ x. x))).laws items c.args.cell c.args.amount within c.self.invariant.2 c.requires.value) in
    (c.self.invariant.0, ap (λ (xs : List ℤ). length xs) now ∙ length-set items c.args.cell _ ∙ c.self.invariant.1, values)

pub returns : goal.returns
returns g c =
    let rules = g.K.Kind.rules in
    let now : c.join_at.new.cells.items ≡ joined_at rules.join c.self.inside.cells.items c.args.cell c.args.amount =
    c.join_at.ensures.items ∙ ap (λ a. joined_at rules.join c.self.inside.cells.items c.args.cell a) (to_z-of_z w64 c.args.amount c.ranges.amount) in
    let figures : List ℤ → TableView = λ xs. record { shape = c.self.inside.shape; cells = xs } in
    ap figures now ∙ ap (λ (t : TableView). put_in rules.join t c.args.cell c.args.amount) c.self.view_is
