-- What an entry makes of a published state whose cells stand bare.
use Rattle.std.proofs.Common.{◌≡◌, ℕ, ℤ, ◌<◌, ◌&&◌, true, false, cond, List, length, get_or, set, pos, to_z, of_z, w64, sym, ap, ◌∙◌, arith}
use Rattle.std.specs.Prelude.{nat_lt, slice_get, Some}
use Rattle.std.proofs.lemmas.Int.{to_z-of_z}
use Rattle.std.proofs.lemmas.Option.{get_or_from_slice_get}
use mir.Val.{SFits}
use Rattle.std.proofs.lemmas.Bool.Decides.{nat_tests}
use Rattle.packet_key.specs.declared.key.FlowKey.{FlowKey}
use Rattle.hash_rows.specs.declared.shape.Push.{Push}
use Rattle.hash_rows.specs.declared.shape.Shape.{Shape}
use Rattle.hash_rows.specs.Rules.{Rules}
use Rattle.hash_rows.specs.Shapes.{size_of}
use Rattle.hash_rows.specs.Tables.{TableView, joined_at}
use Rattle.heavy_keys.specs.Noted.{noted}
use Rattle.live_view.specs.declared.history.Entry.{Entry}
use Rattle.live_state.specs.declared.layout.Layout.{Layout}
use Rattle.live_state.specs.Fold.{fits, added, layout_of}
use Rattle.live_state.specs.Tallies.{Tallied, counted, key_noted_in, table_noted}
use Rattle.live_view.specs.Views.{History, PublishedView}
use Rattle.live_view.specs.Rule.{turned}

abbrev pub published_of : Shape → List ℤ → Tallied → History → PublishedView
published_of shape cells t history = record {
  figures = record { table = record { shape = shape; cells = cells }; front = t.front; upto = t.upto; folded = t.folded; heavy = t.heavy };
  history = history;
}

fits_with : (r : Rules) (l : Layout) (m : Push) → m.worker < l.workers → m.cell < size_of l.shape → r.is_value m.amount ≡ true → fits r l m ≡ true
fits_with r l m worker cell value =
    let one : nat_lt m.worker l.workers ≡ true = grind (arith, nat_tests) in
    let two : nat_lt m.cell (size_of l.shape) ≡ true = grind (arith, nat_tests) in
    λ i. one i && (two i && value i)

pub noted_keyed : (r : Rules) (table : TableView) (t u : Tallied) (key : FlowKey) (estimate : ℤ) → r.keyed ≡ true → estimate ≡ r.estimate table.shape table.cells key
    → u ≡ key_noted_in t key estimate → u ≡ table_noted r table t key
noted_keyed r table t u key estimate keyed is now =
    let found = noted t.heavy key (r.estimate table.shape table.cells key) in
    now ∙ (ap (key_noted_in t key) is ∙ ap (λ b. record { front = t.front; upto = t.upto; folded = t.folded; heavy = cond b found t.heavy }) (sym keyed))

pub noted_not : (r : Rules) (table : TableView) (t : Tallied) (key : FlowKey) → r.keyed ≡ false → t ≡ table_noted r table t key
noted_not r table t key keyed =
    let found = noted t.heavy key (r.estimate table.shape table.cells key) in
    ap (λ b. record { front = t.front; upto = t.upto; folded = t.folded; heavy = cond b found t.heavy }) (sym keyed)

pub turned_as : (r : Rules) (shape : Shape) (cells after : List ℤ) (t u : Tallied) (history prefix : History) (e : Entry)
    → e.message.worker < length t.front → e.message.cell < size_of shape → r.is_value e.message.amount ≡ true
    → after ≡ joined_at r.join cells e.message.cell e.message.amount
    → u ≡ table_noted r (record { shape = shape; cells = after }) (counted t e.message.worker e.message.update) e.message.key → prefix ≡ e.prefix
    → published_of shape after u prefix ≡ turned r (published_of shape cells t history) e
turned_as r shape cells after t u history prefix e worker cell value joined is taken =
    let m = e.message in
    let figures = (published_of shape cells t history).figures in
    let fit = fits_with r (layout_of figures) m worker cell value in
    let tally = is ∙ ap (λ cs. table_noted r (record { shape = shape; cells = cs }) (counted t m.worker m.update) m.key) joined in
    (λ i. published_of shape (joined i) (tally i) (taken i)) ∙ ap (λ b. record { figures = cond b (added r figures m) figures; history = e.prefix }) (sym fit)

-- the cells with a joined value put into its place, read and written as numbers of 64 bits with sign
pub joined_cells : (join : ℤ → ℤ → ℤ) (items after : List ℤ) (cell : ℕ) (got result amount : ℤ) → slice_get items cell ≡ Some got
    → SFits w64 got → SFits w64 result → SFits w64 amount → result ≡ join (to_z w64 (of_z w64 got)) (to_z w64 (of_z w64 amount)) → after ≡ set items cell (to_z w64 (of_z w64 result))
    → after ≡ joined_at join items cell amount
joined_cells join items after cell got result amount at fits_got fits_result fits_amount is now =
    let got_is : to_z w64 (of_z w64 got) ≡ get_or items cell (pos 0) = to_z-of_z w64 got fits_got ∙ sym (get_or_from_slice_get items cell got (pos 0) at) in
    let amount_is = to_z-of_z w64 amount fits_amount in
    now ∙ ap (set items cell) (to_z-of_z w64 result fits_result ∙ (is ∙ (λ i. join (got_is i) (amount_is i))))
