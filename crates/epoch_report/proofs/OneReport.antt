-- The report of a capture's epochs has one text.
use Rattle.std.proofs.Common.{◌≡◌, ◌∙◌, ◌<◌, ◌+◌, ℕ, zero, suc, refl, sym, ap, ap₂, subst, arith, List, [], ◌∷◌, ◌++◌, length, map, get_or, codes, decimal}
use Rattle.std.specs.List.{flat_map, enumerate_from}
use Rattle.hash_rows.specs.declared.options.Options.{Options}
use Rattle.hash_rows.specs.declared.options.Sketch.TheVariants.{CountSketch}
use Rattle.hash_rows.specs.declared.shape.Flow.{Flow}
use Rattle.hash_rows.specs.declared.shape.Packet.{Packet}
use Rattle.hash_rows.specs.declared.shape.Shape.{Shape}
use Rattle.hash_rows.specs.declared.shape.Tallies.{Tallies}
use Rattle.hash_rows.specs.Sketches.{rows_of}
use Rattle.hash_rows.specs.Tables.{used_in}
use Rattle.heavy_keys.specs.FinalHeavy.{AreHeaviest}
use Rattle.octo_text.specs.Lines.{count_line, sketch_words, words_line}
use Rattle.octo_text.specs.ReportText.{estimate_line, row_line, skipped_line}
use Rattle.epoch_run.specs.declared.change.Change.{Change}
use Rattle.epoch_run.specs.declared.epoch.Epoch.{Epoch}
use Rattle.epoch_run.specs.Changes.{AreGreatest, estimates_of, packet_keys}
use Rattle.epoch_run.specs.Epochs.{AreEpochs, HasChanges, IsEpoch, epoch_count, epoch_packets, sketch_table}
use Rattle.reports.specs.ReportOf.{AskForOneReport}
use Rattle.reports.proofs.OneReport.{one_heaviest}
use Rattle.epoch_report.specs.declared.report.EpochReport.{EpochReport}
use Rattle.epoch_report.specs.EpochsText.{capture_lines, change_line, change_lines, epoch_line, epoch_lines, flow_lines, packets_words, report_text, since_before, whole_line, whole_lines}
use Rattle.epoch_report.specs.Reports.{IsEpochReport}
use Rattle.epoch_report.proofs.OneChange.{one_greatest}

-- what the table of an epoch says of its flows
one_settled : (o p : Options) (here : List Packet) (m n : ℕ) (xs ys : List Flow) → o.shape ≡ p.shape → o.least ≡ p.least → o.heavy ≡ p.heavy
    → AreHeaviest (estimates_of (sketch_table o.shape here)) o.least (packet_keys here) o.heavy m xs
    → AreHeaviest (estimates_of (sketch_table p.shape here)) p.least (packet_keys here) p.heavy n ys → (m ≡ n) × (xs ≡ ys)
one_settled o p here m n xs ys shape least heavy a b =
    let sized = subst (λ (s : Shape). AreHeaviest (estimates_of (sketch_table s here)) p.least (packet_keys here) p.heavy n ys) (sym shape) b in
    one_heaviest (estimates_of (sketch_table o.shape here)) o.least (packet_keys here) o.heavy m n xs ys a (rw (least, heavy) sized)

-- what changed since the epoch before
one_change_text : (size change : ℕ) (o p : Options) (packets : List Packet) (e : ℕ) (r s : Epoch) → o.shape ≡ p.shape → o.heavy ≡ p.heavy
    → HasChanges size change o packets e r.changed r.changes.items → HasChanges size change p packets e s.changed s.changes.items → since_before e r ≡ since_before e s
unfolding since_before change_lines
one_change_text size change o p packets zero r s shape heavy a b = refl
one_change_text size change o p packets (suc e) r s shape heavy a b =
    let before = epoch_packets size packets e in
    let here = epoch_packets size packets (suc e) in
    let keys = packet_keys (before ++ here) in
    let sized = subst (λ (h : Shape). AreGreatest (estimates_of (sketch_table h before)) (estimates_of (sketch_table h here)) change keys p.heavy s.changed s.changes.items) (sym shape) b in
    let most = subst (λ (n : ℕ). AreGreatest (estimates_of (sketch_table o.shape before)) (estimates_of (sketch_table o.shape here)) change keys n s.changed s.changes.items) (sym heavy) sized in
    let same = one_greatest (estimates_of (sketch_table o.shape before)) (estimates_of (sketch_table o.shape here)) change keys o.heavy r.changed s.changed r.changes.items s.changes.items a most in
    ap₂ (λ (n : ℕ) (cs : List Change). count_line (codes "changed") n ++ flat_map change_line cs) same.0 same.1

-- an epoch
one_epoch : (size change : ℕ) (o p : Options) (packets : List Packet) (e : ℕ) (r s : Epoch) → o.shape ≡ p.shape → o.least ≡ p.least → o.heavy ≡ p.heavy
    → IsEpoch size change o packets e r → IsEpoch size change p packets e s → epoch_lines (e, r) ≡ epoch_lines (e, s)
unfolding epoch_lines epoch_line flow_lines
one_epoch size change o p packets e r s shape least heavy a b =
    let here = epoch_packets size packets e in
    let x = a.settled in
    let y = b.settled in
    let count = x.packets_are ∙ sym y.packets_are in
    let total = x.total ∙ sym y.total in
    let used = x.used ∙ ap (λ (h : Shape). map (used_in (sketch_table h here)) (rows_of h)) shape ∙ sym y.used in
    let flows = one_settled o p here r.heavy s.heavy r.flows.items s.flows.items shape least heavy x.heavy y.heavy in
    let since = one_change_text size change o p packets e r s shape heavy a.changes b.changes in
    λ i.
    (codes "epoch " ++ decimal e ++ packets_words (count i) (total i) ++ codes "\n")
    ++ flat_map row_line (enumerate_from 0 (used i))
    ++ (count_line (codes "heavy") (flows.0 i) ++ flat_map (estimate_line (codes "flow")) (flows.1 i))
    ++ since i

-- lists whose items have the same texts
same_texts : {X : Type 0} (text : ℕ × X → List ℕ) (n : ℕ) (xs ys : List X) → length xs ≡ length ys
    → ((k m : ℕ) (d : X) → k < length xs → m ≡ n + k → text (m, get_or xs k d) ≡ text (m, get_or ys k d))
    → flat_map text (enumerate_from n xs) ≡ flat_map text (enumerate_from n ys)
same_texts text n [] [] len each = refl
same_texts text n [] (y ∷ ys) len each = absurd (omega (arith, len))
same_texts text n (x ∷ xs) [] len each = absurd (omega (arith, len))
same_texts text n (x ∷ xs) (y ∷ ys) len each =
    ap₂ (λ (s t : List ℕ). s ++ t) (each 0 n x (omega arith) (omega arith))
    (same_texts text (n + 1) xs ys (omega (arith, len)) (λ k m d lt is. each (suc k) m d (omega (arith, lt)) (omega (arith, is))))

one_list : (size change : ℕ) (o p : Options) (packets : List Packet) (count : ℕ) (rs ss : List Epoch) → o.shape ≡ p.shape → o.least ≡ p.least → o.heavy ≡ p.heavy
    → AreEpochs size change o packets count rs → AreEpochs size change p packets count ss
    → flat_map epoch_lines (enumerate_from 0 rs) ≡ flat_map epoch_lines (enumerate_from 0 ss)
one_list size change o p packets count rs ss shape least heavy a b =
    same_texts epoch_lines 0 rs ss (a.len ∙ sym b.len) (λ k m d lt is.
    let same : k ≡ m = omega (arith, is) in
    subst (λ (j : ℕ). epoch_lines (j, get_or rs k d) ≡ epoch_lines (j, get_or ss k d)) same
    (one_epoch size change o p packets k (get_or rs k d) (get_or ss k d) shape least heavy (a.each k d (omega (arith, lt, a.len))) (b.each k d (omega (arith, lt, a.len)))))

pub one_report : (packets : List Packet) (records : ℕ) (skipped : Tallies) (cut size change : ℕ) (o p : Options) (r s : EpochReport) → AskForOneReport o p
    → IsEpochReport packets records skipped cut size change o r → IsEpochReport packets records skipped cut size change p s → report_text r ≡ report_text s
unfolding report_text capture_lines whole_lines
one_report packets records skipped cut size change o p r s ask a b =
    let shape = a.shape ∙ ask.shape ∙ sym b.shape in
    let amount = a.amount ∙ ask.amount ∙ sym b.amount in
    let records_are = a.records_are ∙ sym b.records_are in
    let keyed = a.keyed ∙ sym b.keyed in
    let skipped_are = a.skipped_are ∙ sym b.skipped_are in
    let cut_is = a.cut_is ∙ sym b.cut_is in
    let total = a.total ∙ sym b.total in
    let used = a.used ∙ ap (λ (h : Shape). map (used_in (sketch_table h packets)) (rows_of h)) ask.shape ∙ sym b.used in
    let epochs = one_list size change o p packets (epoch_count size packets) r.epochs.items s.epochs.items ask.shape ask.least ask.heavy a.epochs_are b.epochs_are in
    λ i.
    words_line (codes "octosketch epochs 1")
    ++ words_line (sketch_words CountSketch (shape i) (amount i))
    ++ (count_line (codes "records") (records_are i) ++ count_line (codes "keyed") (keyed i) ++ skipped_line (skipped_are i) ++ count_line (codes "cut") (cut_is i))
    ++ epochs i
    ++ (whole_line (keyed i) (total i) ++ flat_map row_line (enumerate_from 0 (used i)))
    ++ words_line (codes "end")
