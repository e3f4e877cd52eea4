-- The report of some packets' networks has one text.
use Rattle.std.proofs.Common.{◌≡◌, ◌∙◌, ◌<◌, ℕ, suc, refl, sym, ap, ap₂, subst, arith, Bool, List, [], ◌∷◌, ◌++◌, length, map, codes}
use Rattle.std.specs.Prelude.{zip, slice_index_or}
use Rattle.std.specs.List.{flat_map}
use Rattle.listed.specs.Listed.{Listed}
use Rattle.capture_load.specs.Packets.{packets_of, tallies_of}
use Rattle.hash_rows.specs.declared.answer.Answer.{Answer}
use Rattle.hash_rows.specs.declared.options.Options.{Options}
use Rattle.hash_rows.specs.declared.options.Sketch.TheVariants.{CountMin}
use Rattle.hash_rows.specs.declared.shape.Packet.{Packet}
use Rattle.hash_rows.specs.declared.shape.Tallies.{Tallies}
use Rattle.pcap_read.specs.Records.{Framed}
use Rattle.push_history.specs.declared.event.Event.{Event}
use Rattle.push_history.specs.Answers.{AnswerParts, parts_of}
use Rattle.push_history.specs.Journal.{journal_of}
use Rattle.octo_text.specs.Lines.{count_line, sketch_words, words_line}
use Rattle.octo_text.specs.ReportText.{skipped_line}
use Rattle.prefixes.specs.declared.network.Prefix.{Prefix}
use Rattle.prefix_stack.specs.Levels.{lengths}
use Rattle.prefix_stack.specs.Runs.{AreLevelAnswers, HaveAnswers}
use Rattle.prefix_report.specs.PrefixText.{answer_line, capture_lines, hit_lines, keyed_lines, level_lines, levels_in, network_line, of_length, report_text}
use Rattle.prefix_report.specs.Reports.{IsPrefixReport}
use Rattle.prefix_report.specs.declared.report.PrefixReport.{PrefixReport}
use Rattle.octo_run.specs.Networks.{IsPrefixText}
use Rattle.octo_engine.proofs.OneSchedule.{one_schedule}
use Rattle.octo_run.proofs.OneText.{one_capture}

-- what the answers of a length tell
abbrev told : Listed Answer → List AnswerParts
told row = map parts_of row.items

-- the round schedule gives its answers
same_answers : (packets : List Packet) (o : Options) (xs ys : List Answer) → AreLevelAnswers packets o xs → AreLevelAnswers packets o ys → map parts_of xs ≡ map parts_of ys
same_answers packets o xs ys a b =
    a.answers_are ∙ ap (λ (events : List Event). (journal_of packets o events).answers) (one_schedule _ o a.events b.events a.schedule b.schedule) ∙ sym b.answers_are

same_rows : (xs ys : List (Listed Answer)) → length xs ≡ length ys
    → ((k : ℕ) (d : Listed Answer) → k < length xs → told (slice_index_or xs k d) ≡ told (slice_index_or ys k d)) → map told xs ≡ map told ys
same_rows [] [] len each = refl
same_rows [] (y ∷ ys) len each = absurd (omega (arith, len))
same_rows (x ∷ xs) [] len each = absurd (omega (arith, len))
same_rows (x ∷ xs) (y ∷ ys) len each =
    ap₂ (λ (t : List AnswerParts) (ts : List (List AnswerParts)). t ∷ ts) (each 0 x (omega arith))
    (same_rows xs ys (omega (arith, len)) (λ k d lt. each (suc k) d (omega (arith, lt))))

rows_of_rounds : (packets : List Packet) (o : Options) (watch : List Prefix) (xs ys : List (Listed Answer)) → HaveAnswers packets o watch 4 xs → HaveAnswers packets o watch 4 ys
    → map told xs ≡ map told ys
rows_of_rounds packets o watch xs ys a b =
    same_rows xs ys (a.len ∙ sym b.len) (λ k d lt.
    same_answers _ _ _ _ (a.each k d (omega (arith, lt, a.len))) (b.each k d (omega (arith, lt, a.len))))

module _ (a b : PrefixReport) (watch : a.watch.items ≡ b.watch.items) (hits : a.found.hits.items ≡ b.found.hits.items) where
  same_level : (bits : ℕ) (x y : Listed Answer) (more : Bool) → told x ≡ told y → level_lines a (bits, (x, more)) ≡ level_lines b (bits, (y, more))
  unfolding level_lines
  same_level bits x y more e = λ i.
      count_line (codes "level") bits ++ flat_map answer_line (e i)
      ++ flat_map (network_line (codes "watch")) (of_length bits (watch i)) ++ hit_lines bits (hits i) more

  same_levels : (ls : List ℕ) (more : List Bool) (xs ys : List (Listed Answer)) → map told xs ≡ map told ys
      → flat_map (level_lines a) (zip ls (zip xs more)) ≡ flat_map (level_lines b) (zip ls (zip ys more))
  same_levels [] more xs ys e = refl
  same_levels (l ∷ ls) more [] [] e = refl
  same_levels (l ∷ ls) more [] (y ∷ ys) e = cc
  same_levels (l ∷ ls) more (x ∷ xs) [] e = cc
  same_levels (l ∷ ls) [] (x ∷ xs) (y ∷ ys) e = refl
  same_levels (l ∷ ls) (m ∷ ms) (x ∷ xs) (y ∷ ys) e =
      let first : told x ≡ told y = cc in
      let rest : map told xs ≡ map told ys = cc in
      ap₂ (λ (s t : List ℕ). s ++ t) (same_level l x y m first) (same_levels ls ms xs ys rest)

same_capture : (a b : PrefixReport) → a.records ≡ b.records → a.keyed ≡ b.keyed → a.other ≡ b.other → a.skipped ≡ b.skipped → a.cut ≡ b.cut → a.total ≡ b.total
    → capture_lines a ≡ capture_lines b
unfolding capture_lines keyed_lines
same_capture a b records keyed other skipped cut total = λ i.
    (count_line (codes "records") (records i) ++ count_line (codes "keyed") (keyed i) ++ count_line (codes "other") (other i))
    ++ skipped_line (skipped i) ++ count_line (codes "cut") (cut i) ++ count_line (codes "total") (total i)

one_report : (packets : List Packet) (records : ℕ) (skipped : Tallies) (cut : ℕ) (o : Options) (watch : List Prefix) (a b : PrefixReport)
    → IsPrefixReport packets records skipped cut o watch a → IsPrefixReport packets records skipped cut o watch b → report_text a ≡ report_text b
unfolding report_text
one_report packets records skipped cut o watch a b x y =
    let hits = x.found.hits_are ∙ sym y.found.hits_are in
    let more = x.found.more_is ∙ sym y.found.more_is in
    let shape = x.shape ∙ sym y.shape in
    let amount = x.amount ∙ sym y.amount in
    let capture = same_capture a b (x.records_are ∙ sym y.records_are) (x.keyed ∙ sym y.keyed) (x.other ∙ sym y.other) (x.skipped_are ∙ sym y.skipped_are)
    (x.cut_is ∙ sym y.cut_is) (x.total ∙ sym y.total) in
    let levels : flat_map (level_lines a) (levels_in a) ≡ flat_map (level_lines b) (levels_in b)
    = same_levels a b (x.watch_are ∙ sym y.watch_are) hits lengths a.found.more a.answers.items b.answers.items (rows_of_rounds packets o watch _ _ x.answers y.answers)
    ∙ ap (λ (m : List Bool). flat_map (level_lines b) (zip lengths (zip b.answers.items m))) more in
    λ i.
    words_line (codes "octosketch prefix 1") ++ words_line (sketch_words CountMin (shape i) (amount i)) ++ capture i ++ levels i ++ words_line (codes "end")

pub one_prefix_text : (o : Options) (watch : List Prefix) (bytes s t : List ℕ) → IsPrefixText o watch bytes s → IsPrefixText o watch bytes t → s ≡ t
one_prefix_text o watch bytes s t a b =
    let same = one_capture bytes a.frames b.frames a.cut b.cut a.whole b.whole in
    let report = subst (λ (fs : List Framed). IsPrefixReport (packets_of o.amount fs) (length fs) (tallies_of fs) a.cut o watch b.report) (sym same.0)
    (subst (λ (c : ℕ). IsPrefixReport (packets_of o.amount b.frames) (length b.frames) (tallies_of b.frames) c o watch b.report) (sym same.1) b.report_is) in
    a.text_is ∙ one_report _ _ _ _ o watch a.report b.report a.report_is report ∙ sym b.text_is
