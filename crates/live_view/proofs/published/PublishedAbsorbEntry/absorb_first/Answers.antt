use Rattle.std.proofs.Common.{rules, ◌≡◌, ◌<◌, length, List, ℤ, true, false, w64, ap, sym, ◌∙◌, subst, length-set}
use mir.Val.{SFits}
use Rattle.hash_rows.specs.Rules.{AreValues}
use Rattle.hash_rows.specs.Shapes.{size_of}
use Rattle.hash_rows.specs.Tables.{TableView}
use Rattle.hash_rows.proofs.Values.{values_joined}
use Rattle.live_view.specs.Rule.{turned}
use Rattle.live_state.specs.Tallies.{counted, key_noted_in, table_noted}
use Rattle.live_view.proofs.Turning.{noted_keyed, noted_not, turned_as, joined_cells}
use Rattle.live_view.proofs.published.PublishedAbsorbEntry.absorb_first.Goals as goal

pub estimate-estimate-requires-clause-values : goal.estimate-estimate-requires-clause-values
estimate-estimate-requires-clause-values g c =
    let rules_of_kind = g.K.Kind.rules in
    let m = c.args.operation.now.message in
    let items = c.self.inside.cells.items in
    let fits_got : SFits w64 c.get.result.now = search rules in
    let fits_sum : SFits w64 c.join-joined.result = search rules in
    let fits_amount : SFits w64 m.amount = search rules in
    let now = joined_cells rules_of_kind.join items c.set.new.self.items m.cell c.get.result.now c.join-joined.result m.amount c.get.ensures fits_got fits_sum fits_amount c.join-joined.ensures c.set.ensures.items in
    let within : m.cell < length items = search rules in
    let value : rules_of_kind.is_value m.amount ≡ true = search rules in
    let values : AreValues rules_of_kind c.set.new.self.items = subst (AreValues rules_of_kind) (sym now) (values_joined rules_of_kind g.met.K.Kind.laws items m.cell m.amount within c.self.invariant.2 value) in
    subst (AreValues rules_of_kind) (sym c.as_slice.ensures) values

pub invariant_of-self : goal.invariant_of-self
invariant_of-self g c =
    let rules_of_kind = g.K.Kind.rules in
    let m = c.args.operation.now.message in
    let items = c.self.inside.cells.items in
    let fits_got : SFits w64 c.get.result.now = search rules in
    let fits_sum : SFits w64 c.join-joined.result = search rules in
    let fits_amount : SFits w64 m.amount = search rules in
    let now = joined_cells rules_of_kind.join items c.set.new.self.items m.cell c.get.result.now c.join-joined.result m.amount c.get.ensures fits_got fits_sum fits_amount c.join-joined.ensures c.set.ensures.items in
    let within : m.cell < length items = search rules in
    let value : rules_of_kind.is_value m.amount ≡ true = search rules in
    let values : AreValues rules_of_kind c.set.new.self.items = subst (AreValues rules_of_kind) (sym now) (values_joined rules_of_kind g.met.K.Kind.laws items m.cell m.amount within c.self.invariant.2 value) in
    (c.self.invariant.0, ap (λ (xs : List ℤ). length xs) now ∙ (length-set items m.cell _ ∙ c.self.invariant.1), values)

pub invariant_of-self-else-KEYED : goal.invariant_of-self-else-KEYED
invariant_of-self-else-KEYED g c =
    let rules_of_kind = g.K.Kind.rules in
    let m = c.args.operation.now.message in
    let items = c.self.inside.cells.items in
    let fits_got : SFits w64 c.get.result.now = search rules in
    let fits_sum : SFits w64 c.join-joined.result = search rules in
    let fits_amount : SFits w64 m.amount = search rules in
    let now = joined_cells rules_of_kind.join items c.set.new.self.items m.cell c.get.result.now c.join-joined.result m.amount c.get.ensures fits_got fits_sum fits_amount c.join-joined.ensures c.set.ensures.items in
    let within : m.cell < length items = search rules in
    let value : rules_of_kind.is_value m.amount ≡ true = search rules in
    let values : AreValues rules_of_kind c.set.new.self.items = subst (AreValues rules_of_kind) (sym now) (values_joined rules_of_kind g.met.K.Kind.laws items m.cell m.amount within c.self.invariant.2 value) in
    (c.self.invariant.0, ap (λ (xs : List ℤ). length xs) now ∙ (length-set items m.cell _ ∙ c.self.invariant.1), values)

pub returns-then-KEYED-clause-absorbed : goal.returns-then-KEYED-clause-absorbed
returns-then-KEYED-clause-absorbed g c =
    let rules_of_kind = g.K.Kind.rules in
    let m = c.args.operation.now.message in
    let items = c.self.inside.cells.items in
    let fits_got : SFits w64 c.get.result.now = search rules in
    let fits_sum : SFits w64 c.join-joined.result = search rules in
    let fits_amount : SFits w64 m.amount = search rules in
    let now = joined_cells rules_of_kind.join items c.set.new.self.items m.cell c.get.result.now c.join-joined.result m.amount c.get.ensures fits_got fits_sum fits_amount c.join-joined.ensures c.set.ensures.items in
    let within : m.cell < length items = search rules in
    let value : rules_of_kind.is_value m.amount ≡ true = search rules in
    let t = c.self.inside.tally in
    let worker : m.worker < length t.front = search rules in
    let cell : m.cell < size_of c.self.inside.shape = subst (λ n. m.cell < n) c.self.invariant.1 within in
    let counted_is : c.count.new.self ≡ counted t m.worker m.update = c.count.ensures in
    let table : TableView = record { shape = c.self.inside.shape; cells = c.set.new.self.items } in
    let keyed : rules_of_kind.keyed ≡ true = sym g.met.K.Kind.is_keyed ∙ (sym c.KEYED.ensures ∙ c.if-KEYED.true) in
    let noted : c.note.new.self ≡ key_noted_in c.count.new.self m.key c.estimate-estimate.result = search rules in
    let found : c.estimate-estimate.result ≡ rules_of_kind.estimate c.self.inside.shape c.set.new.self.items m.key = c.estimate-estimate.ensures ∙ ap (λ cells. rules_of_kind.estimate c.self.inside.shape cells m.key) c.as_slice.ensures in
    let tally = noted_keyed rules_of_kind table c.count.new.self c.note.new.self m.key c.estimate-estimate.result keyed found noted ∙ ap (λ u. table_noted rules_of_kind table u m.key) counted_is in
    turned_as rules_of_kind c.self.inside.shape items c.set.new.self.items t c.note.new.self c.self.inside.prefix c.again.result c.args.operation.now worker cell value now tally c.again.ensures
    ∙ ap (λ p. turned rules_of_kind p c.args.operation.now) c.self.view_is

pub returns-else-KEYED-clause-absorbed : goal.returns-else-KEYED-clause-absorbed
returns-else-KEYED-clause-absorbed g c =
    let rules_of_kind = g.K.Kind.rules in
    let m = c.args.operation.now.message in
    let items = c.self.inside.cells.items in
    let fits_got : SFits w64 c.get.result.now = search rules in
    let fits_sum : SFits w64 c.join-joined.result = search rules in
    let fits_amount : SFits w64 m.amount = search rules in
    let now = joined_cells rules_of_kind.join items c.set.new.self.items m.cell c.get.result.now c.join-joined.result m.amount c.get.ensures fits_got fits_sum fits_amount c.join-joined.ensures c.set.ensures.items in
    let within : m.cell < length items = search rules in
    let value : rules_of_kind.is_value m.amount ≡ true = search rules in
    let t = c.self.inside.tally in
    let worker : m.worker < length t.front = search rules in
    let cell : m.cell < size_of c.self.inside.shape = subst (λ n. m.cell < n) c.self.invariant.1 within in
    let counted_is : c.count.new.self ≡ counted t m.worker m.update = c.count.ensures in
    let table : TableView = record { shape = c.self.inside.shape; cells = c.set.new.self.items } in
    let keyed : rules_of_kind.keyed ≡ false = sym g.met.K.Kind.is_keyed ∙ (sym c.KEYED.ensures ∙ c.if-KEYED.false) in
    let tally = noted_not rules_of_kind table c.count.new.self m.key keyed ∙ ap (λ u. table_noted rules_of_kind table u m.key) counted_is in
    turned_as rules_of_kind c.self.inside.shape items c.set.new.self.items t c.count.new.self c.self.inside.prefix c.again.result c.args.operation.now worker cell value now tally c.again.ensures
    ∙ ap (λ p. turned rules_of_kind p c.args.operation.now) c.self.view_is
