use Rattle.std.proofs.Common.{◌≡◌, ◌<◌, ◌∙◌, sym, subst, ap, length, length-set, set, List, ℤ, pos, true}
use Rattle.std.proofs.lemmas.List.Elements.{All-set}
use Rattle.hash_rows.specs.Shapes.{size_of}
use Rattle.hash_rows.specs.Rules.{AreValues}
use Rattle.hash_rows.specs.Tables.{TableView}
use Rattle.hash_rows.proofs.table.Table.clear.Goals as goal

pub invariant_of-self : goal.invariant_of-self
invariant_of-self g c =
    let rules = g.K.Kind.rules in
    let items = c.self.inside.cells.items in
    let within : c.args.cell < length items = rw (c.self.invariant.1) (subst (λ (t : TableView). c.args.cell < size_of t.shape) (sym c.self.view_is) c.requires) in
    let laws = (g.met.K.Kind g.world.𝓛 g.world.𝓜 g.world.𝓡 ((λ s x. x), (λ x. x), (λ x. x), (λ x. x))).laws in
    let values : AreValues rules c.set.new.self.items =
    subst (λ (xs : List ℤ). AreValues rules xs) (sym c.set.ensures.items) (All-set (λ x. rules.is_value x ≡ true) items c.args.cell (pos 0) laws.zero_value c.self.invariant.2) in
    (c.self.invariant.0, ap (λ (xs : List ℤ). length xs) c.set.ensures.items ∙ length-set items c.args.cell (pos 0) ∙ c.self.invariant.1, values)

pub returns : goal.returns
returns g c =
    let cleared : List ℤ → TableView = λ xs. record { shape = c.self.inside.shape; cells = xs } in
    ap cleared c.set.ensures.items ∙ ap (λ (t : TableView). record { shape = t.shape; cells = set t.cells c.args.cell (pos 0) }) c.self.view_is
