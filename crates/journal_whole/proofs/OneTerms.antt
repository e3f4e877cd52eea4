-- Lines of options that begin one text say the same.
use Rattle.std.proofs.Common.{◌≡◌, ◌∙◌, ℕ, false, List, ◌++◌, refl, sym, ap, ap₂, drop, arith, append_assoc, codes}
use Rattle.std.specs.Fmt.{decimal, signed_decimal}
use Rattle.hash_rows.specs.declared.options.Options.{Options}
use Rattle.hash_rows.specs.declared.shape.Shape.{Shape}
use Rattle.hash_rows.specs.Lawful.{IsLawful}
use Rattle.hash_rows.specs.OptionTexts.{amount_text, full_text}
use Rattle.octo_text.specs.Lines.{sketch_words}
use Rattle.octo_text.specs.JournalText.{options_line, share_words, lane_words, query_words}
use Rattle.journal_read.specs.Numbers.{begins_digit}
use Rattle.journal_read.specs.Terms.{told_options}
use Rattle.journal_read.proofs.Grouped.{sketch_grouped, share_grouped, lanes_grouped, queries_grouped, behind_rows, behind_batch, behind_asks, behind_mode, least_small, lanes_stop}
use Rattle.journal_whole.proofs.Cuts.{number_cut, signed_cut, sketch_cut, amount_cut, share_cut, full_cut, mode_cut}

-- the words of each group are the same
record SameSketch (o p : Options) : Type 0 where
  sketch : o.sketch ≡ p.sketch
  shape : o.shape ≡ p.shape
  amount : o.amount ≡ p.amount

record SameShare (o p : Options) : Type 0 where
  share : o.share ≡ p.share
  workers : o.workers ≡ p.workers
  threshold : o.threshold ≡ p.threshold

record SameLanes (o p : Options) : Type 0 where
  lane : o.lane ≡ p.lane
  batch : o.batch ≡ p.batch
  round : o.round ≡ p.round
  full : o.full ≡ p.full

record SameQueries (o p : Options) : Type 0 where
  mode : o.mode ≡ p.mode
  readers : o.readers ≡ p.readers
  asks : o.asks ≡ p.asks
  heavy : o.heavy ≡ p.heavy
  least : o.least ≡ p.least

same_told : (o p : Options) → SameSketch o p → SameShare o p → SameLanes o p → SameQueries o p → told_options o ≡ told_options p
same_told o p sketch share lanes queries = cc

sketch_words_cut : (o p : Options) (x y : List ℕ) → IsLawful o → IsLawful p
    → sketch_words o.sketch o.shape o.amount ++ x ≡ sketch_words p.sketch p.shape p.amount ++ y → SameSketch o p × (x ≡ y)
sketch_words_cut o p x y law₁ law₂ is =
    let whole = ap (drop 7) (sym (sketch_grouped o.sketch o.shape o.amount x) ∙ is ∙ sketch_grouped p.sketch p.shape p.amount y) in
    let sketch = sketch_cut o.sketch p.sketch (codes " rows " ++ (decimal o.shape.rows ++ behind_rows o.shape o.amount x)) (codes " rows " ++ (decimal p.shape.rows ++ behind_rows p.shape p.amount y)) whole in
    let rows = number_cut o.shape.rows p.shape.rows (behind_rows o.shape o.amount x) (behind_rows p.shape p.amount y)
    (omega (arith, law₁.shape.rows)) (omega (arith, law₂.shape.rows)) refl refl (ap (drop 6) sketch.1) in
    let columns = number_cut o.shape.columns p.shape.columns (codes " amount " ++ (amount_text o.amount ++ x)) (codes " amount " ++ (amount_text p.amount ++ y))
    (omega (arith, law₁.shape.columns)) (omega (arith, law₂.shape.columns)) refl refl (ap (drop 9) rows.1) in
    let amount = amount_cut o.amount p.amount x y (ap (drop 8) columns.1) in (
      record {
        sketch = sketch.0;
        shape = ap₂ (λ (r k : ℕ). let shape : Shape = record { rows = r; columns = k } in shape) rows.0 columns.0;
        amount = amount.0;
      },
      amount.1,
    )

share_words_cut : (o p : Options) (x y : List ℕ) → IsLawful o → IsLawful p → begins_digit x ≡ false → begins_digit y ≡ false
    → share_words o ++ x ≡ share_words p ++ y → SameShare o p × (x ≡ y)
share_words_cut o p x y law₁ law₂ stop₁ stop₂ is =
    let whole = ap (drop 7) (sym (share_grouped o x) ∙ is ∙ share_grouped p y) in
    let share = share_cut o.share p.share
    (codes " workers " ++ (decimal o.workers ++ (codes " threshold " ++ (decimal o.threshold ++ x))))
    (codes " workers " ++ (decimal p.workers ++ (codes " threshold " ++ (decimal p.threshold ++ y)))) whole in
    let workers = number_cut o.workers p.workers (codes " threshold " ++ (decimal o.threshold ++ x)) (codes " threshold " ++ (decimal p.threshold ++ y))
    (omega (arith, law₁.workers)) (omega (arith, law₂.workers)) refl refl (ap (drop 9) share.1) in
    let threshold = number_cut o.threshold p.threshold x y (omega (arith, law₁.threshold)) (omega (arith, law₂.threshold)) stop₁ stop₂ (ap (drop 11) workers.1) in
    (record { share = share.0; workers = workers.0; threshold = threshold.0 }, threshold.1)

lane_words_cut : (o p : Options) (x y : List ℕ) → IsLawful o → IsLawful p → lane_words o ++ x ≡ lane_words p ++ y → SameLanes o p × (x ≡ y)
lane_words_cut o p x y law₁ law₂ is =
    let whole = ap (drop 6) (sym (lanes_grouped o x) ∙ is ∙ lanes_grouped p y) in
    let lane = number_cut o.lane p.lane (codes " batch " ++ (decimal o.batch ++ behind_batch o x)) (codes " batch " ++ (decimal p.batch ++ behind_batch p y))
    (omega (arith, law₁.lane)) (omega (arith, law₂.lane)) refl refl whole in
    let batch = number_cut o.batch p.batch (behind_batch o x) (behind_batch p y) (omega (arith, law₁.batch)) (omega (arith, law₂.batch)) refl refl (ap (drop 7) lane.1) in
    let round = number_cut o.round p.round (codes " full " ++ (full_text o.full ++ x)) (codes " full " ++ (full_text p.full ++ y))
    (omega (arith, law₁.round)) (omega (arith, law₂.round)) refl refl (ap (drop 7) batch.1) in
    let full = full_cut o.full p.full x y (ap (drop 6) round.1) in
    (record { lane = lane.0; batch = batch.0; round = round.0; full = full.0 }, full.1)

query_words_cut : (o p : Options) (x y : List ℕ) → IsLawful o → IsLawful p → begins_digit x ≡ false → begins_digit y ≡ false
    → query_words o ++ x ≡ query_words p ++ y → SameQueries o p × (x ≡ y)
query_words_cut o p x y law₁ law₂ stop₁ stop₂ is =
    let whole = ap (drop 6) (sym (queries_grouped o x) ∙ is ∙ queries_grouped p y) in
    let mode = mode_cut o.mode p.mode (behind_mode o x) (behind_mode p y) whole in
    let readers = number_cut o.readers p.readers (codes " asks " ++ (decimal o.asks ++ behind_asks o x)) (codes " asks " ++ (decimal p.asks ++ behind_asks p y))
    (omega (arith, law₁.readers)) (omega (arith, law₂.readers)) refl refl (ap (drop 9) mode.1) in
    let asks = number_cut o.asks p.asks (behind_asks o x) (behind_asks p y) (omega (arith, law₁.asks)) (omega (arith, law₂.asks)) refl refl (ap (drop 6) readers.1) in
    let heavy = number_cut o.heavy p.heavy (codes " least " ++ (signed_decimal o.least ++ x)) (codes " least " ++ (signed_decimal p.least ++ y))
    (omega (arith, law₁.heavy)) (omega (arith, law₂.heavy)) refl refl (ap (drop 7) asks.1) in
    let least = signed_cut o.least p.least x y (least_small o.least law₁.some_least law₁.least) (least_small p.least law₂.some_least law₂.least) stop₁ stop₂ (ap (drop 7) heavy.1) in
    (record { mode = mode.0; readers = readers.0; asks = asks.0; heavy = heavy.0; least = least.0 }, least.1)

-- behind each group
abbrev behind_lanes : Options → List ℕ → List ℕ
behind_lanes o x = query_words o ++ (codes "\n" ++ x)

abbrev behind_share : Options → List ℕ → List ℕ
behind_share o x = lane_words o ++ behind_lanes o x

options_parts : (o : Options) (x : List ℕ)
    → options_line o ++ x ≡ codes "options " ++ (sketch_words o.sketch o.shape o.amount ++ (share_words o ++ behind_share o x))
unfolding options_line
options_parts o x = simp append_assoc refl

pub options_cut : (o p : Options) (x y : List ℕ) → IsLawful o → IsLawful p → told_options o ≡ o → told_options p ≡ p
    → options_line o ++ x ≡ options_line p ++ y → (o ≡ p) × (x ≡ y)
options_cut o p x y law₁ law₂ told₁ told₂ is =
    let whole = ap (drop 8) (sym (options_parts o x) ∙ is ∙ options_parts p y) in
    let sketch = sketch_words_cut o p (share_words o ++ behind_share o x) (share_words p ++ behind_share p y) law₁ law₂ whole in
    let share = share_words_cut o p (behind_share o x) (behind_share p y) law₁ law₂ (lanes_stop o (behind_lanes o x)) (lanes_stop p (behind_lanes p y)) sketch.1 in
    let lanes = lane_words_cut o p (behind_lanes o x) (behind_lanes p y) law₁ law₂ share.1 in
    let queries = query_words_cut o p (codes "\n" ++ x) (codes "\n" ++ y) law₁ law₂ refl refl lanes.1 in
    let same = same_told o p sketch.0 share.0 lanes.0 queries.0 in
    (sym told₁ ∙ same ∙ told₂, ap (drop 1) queries.1)
