-- The options that parts give are lawful.
use Rattle.std.proofs.Common.{◌≡◌, ◌≤◌, ◌≢◌, ℕ, true, false, not, refl, sym, subst, arith, List, [], ◌∷◌, length, Option, Some, None, codes, true≢false, ◌||◌}
use Rattle.std.specs.Prelude.{ℤ, pos, ◌≤ℤ◌, All, AllPairs, is_some}
use Rattle.std.proofs.lemmas.Int.{ints}
use Rattle.hash_rows.specs.Lawful.{IsLawful, Suits}
use Rattle.hash_rows.specs.Shapes.{IsShape}
use Rattle.hash_rows.specs.declared.options.Options.{Options}
use Rattle.hash_rows.specs.declared.options.Sketch.{Sketch}
use Rattle.hash_rows.specs.declared.options.Sketch.TheVariants.{CountMin, CountSketch, LogLog}
use Rattle.hash_rows.specs.declared.shape.Shape.{Shape}
use Rattle.packet_key.specs.declared.key.FlowKey.{FlowKey}
use Rattle.packet_key.specs.KeyText.{IsKey, text_of}
use Rattle.prefixes.specs.declared.network.Prefix.{Prefix}
use Rattle.prefixes.specs.Networks.{AreWatched, IsNetwork}
use Rattle.prefixes.specs.Texts.{prefix_text}
use Rattle.words.specs.Grammar.{Part, Text, value_in}
use Rattle.words.specs.Options.{GivesOptions, GivesShape, most_rows, suits, usual_rows, usual_threshold}
use Rattle.words.specs.Values.{ReadsInteger, ReadsKeys, ReadsList, ReadsNetworks, IsNumberOf}

-- a number that is read is in range
pub in_range : (low high d : ℕ) (v : Option Text) (n : ℕ) → low ≤ d → d ≤ high → IsNumberOf low high d v n → (low ≤ n) × (n ≤ high)
in_range low high d None n above below r = (omega arith, omega arith)
in_range low high d (Some t) n above below r = (r.1, r.2)

least_in_range : (low high d : ℕ) (v : Option Text) (z : ℤ) → low ≤ d → d ≤ high → ReadsInteger low high d v z → (pos low ≤ℤ z) × (z ≤ℤ pos high)
least_in_range low high d None z above below r = (omega (arith, ints, r), omega (arith, ints, r))
least_in_range low high d (Some t) z above below r = (omega (arith, ints, r.1, r.2), omega (arith, ints, r.1, r.2))

rows_in_range : (k : Sketch) (v : Option Text) (n : ℕ) → IsNumberOf 1 (most_rows k) (usual_rows k) v n → (1 ≤ n) × (n ≤ most_rows k) × (most_rows k ≤ 8)
rows_in_range CountMin v n r = let b = in_range 1 8 4 v n (omega arith) (omega arith) r in (b.0, b.1, omega arith)
rows_in_range CountSketch v n r = let b = in_range 1 8 4 v n (omega arith) (omega arith) r in (b.0, b.1, omega arith)
rows_in_range LogLog v n r = let b = in_range 1 1 1 v n (omega arith) (omega arith) r in (b.0, b.1, omega arith)

threshold_in_range : (k : Sketch) (v : Option Text) (n : ℕ) → IsNumberOf 1 1099511627776 (usual_threshold k) v n → (1 ≤ n) × (n ≤ 1099511627776)
threshold_in_range CountMin v n r = in_range 1 1099511627776 16 v n (omega arith) (omega arith) r
threshold_in_range CountSketch v n r = in_range 1 1099511627776 16 v n (omega arith) (omega arith) r
threshold_in_range LogLog v n r = in_range 1 1099511627776 1 v n (omega arith) (omega arith) r

no_pairs : {X : Type 0} (xs : List X) → xs ≡ [] → AllPairs (λ a b. a ≢ b) xs
no_pairs [] e = λ i j d lt within. absurd (omega arith)
no_pairs (x ∷ xs) e = cc

-- what is watched is at most 16 different values
module _ {X : Type 0} (HasText : X → Type 0) (text_for : X → Text) where
  few_watched : (v : Option Text) (xs : List X) → ReadsList HasText text_for v xs → length xs ≤ 16
  few_watched None xs r = subst (λ (ys : List X). length ys ≤ 16) (sym r) (omega arith)
  few_watched (Some t) xs r = r.most

  watched_differ : (v : Option Text) (xs : List X) → ReadsList HasText text_for v xs → AllPairs (λ a b. a ≢ b) xs
  watched_differ None xs r = no_pairs xs r
  watched_differ (Some t) xs r = r.differ

  have_texts : (v : Option Text) (xs : List X) → ReadsList HasText text_for v xs → All HasText xs
  have_texts None xs r = subst (All HasText) (sym r) (λ i d within. absurd (omega (arith, within)))
  have_texts (Some t) xs r = r.have_texts

-- watched networks are networks
pub are_watched : (v : Option Text) (ps : List Prefix) → ReadsNetworks v ps → AreWatched ps
are_watched v ps r = record {
  most = few_watched IsNetwork prefix_text v ps r;
  are_networks = have_texts IsNetwork prefix_text v ps r;
  differ = watched_differ IsNetwork prefix_text v ps r;
}

unwatched : (a v w x keys : Option Text) (ks : List FlowKey) → not (is_some a || is_some v || is_some w || is_some x) ≡ true → (is_some v ≡ false → keys ≡ None)
    → ReadsKeys keys ks → ks ≡ []
unwatched (Some t) v w x keys ks e given r = absurd (true≢false (sym e))
unwatched None (Some t) w x keys ks e given r = absurd (true≢false (sym e))
unwatched None None w x keys ks e given r = subst (λ (o : Option Text). ReadsKeys o ks) (given refl) r

suits_sketch : (k : Sketch) (parts : List Part) (shape : Shape) (keys : Option Text) (ks : List FlowKey) → suits k parts ≡ true → GivesShape parts k shape
    → (is_some (value_in (codes "watch") parts) ≡ false → keys ≡ None) → ReadsKeys keys ks → Suits k shape ks
suits_sketch CountMin parts shape keys ks e g given r = tt
suits_sketch CountSketch parts shape keys ks e g given r = tt
suits_sketch LogLog parts shape keys ks e g given r =
    let rows = in_range 1 1 1 _ shape.rows (omega arith) (omega arith) g.rows in
    (omega (arith, rows.0, rows.1), g.registers, unwatched _ _ _ _ keys ks e given r)

is_shape : (k : Sketch) (parts : List Part) (shape : Shape) → GivesShape parts k shape → IsShape shape
is_shape k parts shape g =
    let rows = rows_in_range k _ shape.rows g.rows in
    let columns = in_range 1 65536 2048 _ shape.columns (omega arith) (omega arith) g.columns in
    record { some_rows = rows.0; rows = omega (arith, rows.1, rows.2); some_columns = columns.0; columns = columns.1 }

pub lawful : (usual : Sketch) (keys : Option Text) (parts : List Part) (o : Options) → (is_some (value_in (codes "watch") parts) ≡ false → keys ≡ None)
    → GivesOptions usual keys parts o → IsLawful o
lawful usual keys parts o given g =
    let workers = in_range 1 16 4 _ o.workers (omega arith) (omega arith) g.workers in
    let threshold = threshold_in_range o.sketch _ o.threshold g.threshold in
    let lane = in_range 1 4096 64 _ o.lane (omega arith) (omega arith) g.lane in
    let batch = in_range 1 1024 32 _ o.batch (omega arith) (omega arith) g.batch in
    let round = in_range 1 65536 64 _ o.round (omega arith) (omega arith) g.round in
    let readers = in_range 0 4 0 _ o.readers (omega arith) (omega arith) g.readers in
    let asks = in_range 0 1024 0 _ o.asks (omega arith) (omega arith) g.asks in
    let heavy = in_range 1 1024 64 _ o.heavy (omega arith) (omega arith) g.heavy in
    let least = least_in_range 1 1099511627776 1024 _ o.least (omega arith) (omega arith) g.least in
    record {
      shape = is_shape o.sketch parts o.shape g.shape;
      some_workers = workers.0;
      workers = workers.1;
      some_threshold = threshold.0;
      threshold = threshold.1;
      some_lane = lane.0;
      lane = lane.1;
      some_batch = batch.0;
      batch = batch.1;
      some_round = round.0;
      round = round.1;
      readers = readers.1;
      asks = asks.1;
      watch = few_watched IsKey text_of keys o.watch.items g.watch;
      distinct = watched_differ IsKey text_of keys o.watch.items g.watch;
      some_heavy = heavy.0;
      heavy = heavy.1;
      some_least = least.0;
      least = least.1;
      suits = suits_sketch o.sketch parts o.shape keys o.watch.items g.suited g.shape given g.watch;
    }
