-- The lines of a journal, grouped from their end.
use Rattle.std.proofs.Common.{rules, subst, ◌≡◌, ◌∙◌, ℕ, ℤ, pos, negsuc, ◌<◌, ◌^◌, ◌≤ℤ◌, List, [], ◌++◌, Bool, false, true, refl, sym, ap, ap₂, codes, append_assoc, arith}
use Rattle.std.specs.Fmt.{decimal, signed_decimal}
use Rattle.std.proofs.lemmas.Int.{ints}
use lib.Signed.{mag}
use Rattle.packet_key.specs.declared.key.FlowKey.{FlowKey}
use Rattle.listed.specs.Listed.{Listed}
use Rattle.hash_rows.specs.declared.options.Amount.{Amount}
use Rattle.hash_rows.specs.declared.options.Sketch.{Sketch}
use Rattle.hash_rows.specs.declared.options.Sketch.TheVariants.{CountMin, CountSketch, LogLog}
use Rattle.hash_rows.specs.Lawful.{IsLawful, Suits}
use Rattle.hash_rows.specs.declared.options.Options.{Options}
use Rattle.hash_rows.specs.declared.shape.Shape.{Shape}
use Rattle.hash_rows.specs.OptionTexts.{sketch_text, amount_text, share_text, full_text, mode_text}
use Rattle.octo_text.specs.Lines.{count_line, sketch_words}
use Rattle.std.specs.List.{flat_map}
use Rattle.push_history.specs.Answers.{AnswerParts}
use Rattle.octo_text.specs.JournalText.{answer_line, spaced, spaced_signed, worker_line, run_line, share_words, lane_words, query_words, options_line}
use Rattle.journal_read.specs.Numbers.{begins_digit}
use Rattle.journal_read.specs.Terms.{told_options, IsSketchOf, IsShareOf, AreLanesOf, AreQueriesOf}
use Rattle.journal_read.specs.declared.options.SketchWords.{SketchWords}
use Rattle.journal_read.specs.declared.options.ShareWords.{ShareWords}
use Rattle.journal_read.specs.declared.options.LaneWords.{LaneWords}
use Rattle.journal_read.specs.declared.options.QueryWords.{QueryWords}

pub worker_grouped : (w p r : ℕ)
    → worker_line w p r ≡ codes "worker " ++ (decimal w ++ (codes " pushes " ++ (decimal p ++ (codes " refused " ++ (decimal r ++ codes "\n")))))
unfolding worker_line
worker_grouped w p r = simp append_assoc refl

pub run_grouped : (w a b : ℕ) → run_line w (a, b) ≡ codes "refused " ++ (decimal w ++ (codes " " ++ (decimal a ++ (codes "-" ++ (decimal b ++ codes "\n")))))
unfolding run_line
run_grouped w a b = simp append_assoc refl

pub missed_grouped : (n : ℕ) → count_line (codes "missed") n ≡ codes "missed " ++ (decimal n ++ codes "\n")
unfolding count_line
missed_grouped n = simp append_assoc refl

-- what stands behind each group
abbrev pub behind_rows : Shape → Amount → List ℕ → List ℕ
behind_rows shape amount rest = codes " columns " ++ (decimal shape.columns ++ (codes " amount " ++ (amount_text amount ++ rest)))

pub sketch_grouped : (sketch : Sketch) (shape : Shape) (amount : Amount) (rest : List ℕ)
    → sketch_words sketch shape amount ++ rest ≡ codes "sketch " ++ (sketch_text sketch ++ (codes " rows " ++ (decimal shape.rows ++ behind_rows shape amount rest)))
unfolding sketch_words
sketch_grouped sketch shape amount rest = simp append_assoc refl

pub share_grouped : (o : Options) (rest : List ℕ)
    → share_words o ++ rest ≡ codes " share " ++ (share_text o.share ++ (codes " workers " ++ (decimal o.workers ++ (codes " threshold " ++ (decimal o.threshold ++ rest)))))
unfolding share_words
share_grouped o rest = simp append_assoc refl

abbrev pub behind_batch : Options → List ℕ → List ℕ
behind_batch o rest = codes " round " ++ (decimal o.round ++ (codes " full " ++ (full_text o.full ++ rest)))

pub lanes_grouped : (o : Options) (rest : List ℕ) → lane_words o ++ rest ≡ codes " lane " ++ (decimal o.lane ++ (codes " batch " ++ (decimal o.batch ++ behind_batch o rest)))
unfolding lane_words
lanes_grouped o rest = simp append_assoc refl

abbrev pub behind_asks : Options → List ℕ → List ℕ
behind_asks o rest = codes " heavy " ++ (decimal o.heavy ++ (codes " least " ++ (signed_decimal o.least ++ rest)))

abbrev pub behind_mode : Options → List ℕ → List ℕ
behind_mode o rest = codes " readers " ++ (decimal o.readers ++ (codes " asks " ++ (decimal o.asks ++ behind_asks o rest)))

pub queries_grouped : (o : Options) (rest : List ℕ) → query_words o ++ rest ≡ codes " mode " ++ (mode_text o.mode ++ behind_mode o rest)
unfolding query_words
queries_grouped o rest = simp append_assoc refl

pub options_grouped : (o : Options)
    → options_line o ≡ codes "options " ++ (sketch_words o.sketch o.shape o.amount ++ (share_words o ++ (lane_words o ++ (query_words o ++ codes "\n"))))
unfolding options_line
options_grouped o = simp append_assoc refl

pub lanes_stop : (o : Options) (rest : List ℕ) → begins_digit (lane_words o ++ rest) ≡ false
unfolding lane_words
lanes_stop o rest = refl

pub least_small : (x : ℤ) → pos 1 ≤ℤ x → x ≤ℤ pos 1099511627776 → mag x < 2 ^ 63
least_small (pos n) low high = omega (arith, ints)
least_small (negsuc n) low high = absurd (omega (arith, ints))

-- the options told by their groups
pub told_is : (o : Options) → o.watch ≡ record { items = []; room = 16 } → o.journal ≡ true → told_options o ≡ o
told_is o watch journal = ap₂ (λ k (b : Bool). let told : Options = record o { watch = k; journal = b } in told) (sym watch) (sym journal)

pub same_line : (o : Options) → options_line (told_options o) ≡ options_line o
unfolding options_line share_words lane_words query_words
same_line o = refl

pub answer_grouped : (a : AnswerParts)
    → answer_line a ≡ codes "answer " ++ (decimal a.reader ++ (codes " " ++ (decimal a.number ++ (codes " folded " ++ (decimal a.folded ++ (codes " front" ++ (flat_map spaced a.front ++ (codes " shown" ++ (flat_map spaced_signed a.shown ++ codes "\n")))))))))
unfolding answer_line
answer_grouped a = simp append_assoc refl

pub no_keys : (watch : Listed FlowKey) → watch.items ≡ [] → watch.room ≡ 16 → watch ≡ record { items = []; room = 16 }
no_keys watch empty room = ap₂ (λ (items : List FlowKey) (room : ℕ). let keys : Listed FlowKey = record { items = items; room = room } in keys) empty room

pub told_same : (o : Options) (a : SketchWords) (b : ShareWords) (d : LaneWords) (q : QueryWords) (least : ℤ) (watch : Listed FlowKey)
    → IsSketchOf o a → IsShareOf o b → AreLanesOf o d → AreQueriesOf o q → least ≡ o.least → watch ≡ record { items = []; room = 16 }
    → ◌≡◌ {A = Options} (record {
      sketch = a.sketch;
      shape = a.shape;
      amount = a.amount;
      share = b.share;
      workers = b.workers;
      threshold = b.threshold;
      lane = d.lane;
      batch = d.batch;
      round = d.round;
      full = d.full;
      mode = q.mode;
      readers = q.readers;
      asks = q.asks;
      watch = watch;
      heavy = q.heavy;
      least = least;
      journal = true;
    }) (told_options o)
told_same o a b d q least watch sketch share lanes queries small keys = cc

-- what stands behind the words of an answer
abbrev pub behind_front : AnswerParts → List ℕ
behind_front a = codes " shown" ++ (flat_map spaced_signed a.shown ++ codes "\n")

abbrev pub behind_folded : AnswerParts → List ℕ
behind_folded a = codes " front" ++ (flat_map spaced a.front ++ behind_front a)

abbrev pub behind_reader : AnswerParts → List ℕ
behind_reader a = codes " " ++ (decimal a.number ++ (codes " folded " ++ (decimal a.folded ++ behind_folded a)))

told_suits : (s : Sketch) (shape : Shape) (watch : List FlowKey) → Suits s shape watch → Suits s shape []
told_suits LogLog shape watch suits = (suits.0, suits.1, refl)
told_suits CountMin shape watch suits = tt
told_suits CountSketch shape watch suits = tt

pub told_lawful : (o : Options) → IsLawful o → IsLawful (told_options o)
told_lawful o law = record {
  shape = law.shape;
  some_workers = law.some_workers;
  workers = law.workers;
  some_threshold = law.some_threshold;
  threshold = law.threshold;
  some_lane = law.some_lane;
  lane = law.lane;
  some_batch = law.some_batch;
  batch = law.batch;
  some_round = law.some_round;
  round = law.round;
  readers = law.readers;
  asks = law.asks;
  watch = omega arith;
  distinct = search rules;
  some_heavy = law.some_heavy;
  heavy = law.heavy;
  some_least = law.some_least;
  least = law.least;
  suits = told_suits o.sketch o.shape o.watch.items law.suits;
}

-- lawful options whose line isn't the one that is said, or whose line says unlawful ones
pub not_said : (line : List ℕ) (said o : Options) → IsLawful o → line ≡ options_line o → said ≡ told_options o → (line ≡ options_line said → ⊥) → ⊥
not_said line said o law is told other = other (is ∙ sym (same_line o) ∙ ap options_line (sym told))

pub said_lawful : (said o : Options) → IsLawful o → said ≡ told_options o → IsLawful said
said_lawful said o law told = subst (λ (p : Options). IsLawful p) (sym told) (told_lawful o law)

pub same_parts : (r n f : ℕ) (front : List ℕ) (shown : List ℤ) (a : AnswerParts) → r ≡ a.reader → n ≡ a.number → f ≡ a.folded → front ≡ a.front → shown ≡ a.shown
    → ◌≡◌ {A = AnswerParts} (record { reader = r; number = n; folded = f; front = front; shown = shown }) a
same_parts r n f front shown a reader number folded fronts estimates =
    ap₂ (λ (x y : ℕ). let parts : AnswerParts = record { reader = x; number = y; folded = f; front = front; shown = shown } in parts) reader number
    ∙ ap₂ (λ (x : ℕ) (y : List ℕ). let parts : AnswerParts = record { reader = a.reader; number = a.number; folded = x; front = y; shown = shown } in parts) folded fronts
    ∙ ap (λ (x : List ℤ). let parts : AnswerParts = record { reader = a.reader; number = a.number; folded = a.folded; front = a.front; shown = x } in parts) estimates
