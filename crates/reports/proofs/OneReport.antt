-- A capture has one report.
use Rattle.std.proofs.Common.{◌≡◌, ◌∙◌, inl, inr, refl, sym, ap, subst, arith, ℕ, ℤ, List, length, take, Option, Some, None, ◌≤ℤ◌, ◌++◌, codes, flat_map}
use Rattle.std.proofs.lemmas.Int.{ints}
use Rattle.std.specs.Ordering.{ordering_reverse}
use Rattle.std.specs.declared.cmp.Ordering.TheVariants.{Less, Greater}
use Rattle.packet_key.specs.contracts.key.FlowKeyOrd.TheImpl.Laws.{total-law}
use Rattle.packet_key.specs.declared.key.FlowKey.{FlowKey}
use Rattle.hash_rows.specs.declared.options.Options.{Options}
use Rattle.hash_rows.specs.declared.options.Sketch.{Sketch}
use Rattle.hash_rows.specs.declared.options.Sketch.TheVariants.{CountMin, CountSketch, LogLog}
use Rattle.hash_rows.specs.declared.shape.Flow.{Flow}
use Rattle.hash_rows.specs.declared.shape.Packet.{Packet}
use Rattle.hash_rows.specs.declared.shape.Tallies.{Tallies}
use Rattle.heavy_keys.specs.FinalHeavy.{AreHeaviest, IsBefore, IsFinalHeavy, key_cmp}
use Rattle.heavy_keys.proofs.Members.{Has, contains_from, has_from}
use Rattle.octo_text.specs.Lines.{count_line, words_line}
use Rattle.octo_text.specs.ReportText.{report_text, sketch_line, capture_lines, table_lines, estimate_line, estimate_lines, flow_lines}
use Rattle.octo_text.specs.declared.report.Report.{Report}
use Rattle.reports.specs.ReportOf.{AskForOneReport, Distinct, FindsFlows, HeavyFlows, IsReport}
use Rattle.reports.proofs.OneOrder.{one_list}

turned : (a b : FlowKey) → key_cmp a b ≡ Less → key_cmp b a ≡ Less → ⊥
turned a b p q = let bad : Less ≡ Greater = sym p ∙ total-law.antisymm a b ∙ ap ordering_reverse q in cc

strict : (a b : Flow) → IsBefore a b → IsBefore b a → ⊥
strict a b (inl p) (inl q) = omega (arith, ints)
strict a b (inl p) (inr q) = let same = q.0 in omega (arith, ints)
strict a b (inr p) (inl q) = let same = p.0 in omega (arith, ints)
strict a b (inr p) (inr q) = turned a.key b.key p.1 q.1

-- a heavy flow of one list is in the other
shared : (estimate_of : FlowKey → ℤ) (least : ℤ) (keys : List FlowKey) (xs ys : List Flow) → IsFinalHeavy estimate_of least keys xs
    → IsFinalHeavy estimate_of least keys ys → (q : Flow) → Has xs q → Has ys q
shared estimate_of least keys xs ys a b q has =
    let s = a.sound q (contains_from xs q has) in
    let whole = b.whole q.key s.0 (subst (λ (z : ℤ). least ≤ℤ z) s.1 s.2) in
    subst (Has ys) (λ i. record { key = q.key; estimate = sym s.1 i }) (has_from ys _ whole)

pub one_heaviest : (estimate_of : FlowKey → ℤ) (least : ℤ) (keys : List FlowKey) (most m n : ℕ) (xs ys : List Flow) → AreHeaviest estimate_of least keys most m xs
    → AreHeaviest estimate_of least keys most n ys → (m ≡ n) × (xs ≡ ys)
one_heaviest estimate_of least keys most m n xs ys a b =
    let all = one_list IsBefore strict a.all b.all a.all_heavy.sorted b.all_heavy.sorted
    (shared estimate_of least keys a.all b.all a.all_heavy b.all_heavy) (shared estimate_of least keys b.all a.all b.all_heavy a.all_heavy) in
    (a.number ∙ ap length all ∙ sym b.number, a.first ∙ ap (take most) all ∙ sym b.first)

-- what the sketch finds
abbrev Same : Option ℤ → Option ℤ → ℕ → ℕ → List Flow → List Flow → Type 0
Same d e m n xs ys = (d ≡ e) × (m ≡ n) × (xs ≡ ys)

one_distinct : (estimate_of : FlowKey → ℤ) (d e : Option ℤ) (m n : ℕ) (xs ys : List Flow) → Distinct estimate_of d m xs → Distinct estimate_of e n ys → Same d e m n xs ys
one_distinct estimate_of d e m n xs ys a b =
    (a.estimate ∙ sym b.estimate, a.none_heavy ∙ sym b.none_heavy, a.none_listed ∙ sym b.none_listed)

one_heavy : (estimate_of : FlowKey → ℤ) (o : Options) (packets : List Packet) (d e : Option ℤ) (m n : ℕ) (xs ys : List Flow)
    → HeavyFlows estimate_of o packets d m xs → HeavyFlows estimate_of o packets e n ys → Same d e m n xs ys
one_heavy estimate_of o packets d e m n xs ys a b =
    let flows = one_heaviest estimate_of o.least _ o.heavy m n xs ys a.heaviest b.heaviest in
    (a.no_estimate ∙ sym b.no_estimate, flows.0, flows.1)

one_finding : (k : Sketch) (estimate_of : FlowKey → ℤ) (o : Options) (packets : List Packet) (d e : Option ℤ) (m n : ℕ) (xs ys : List Flow)
    → FindsFlows k estimate_of o packets d m xs → FindsFlows k estimate_of o packets e n ys → Same d e m n xs ys
one_finding LogLog estimate_of o packets d e m n xs ys a b = one_distinct estimate_of d e m n xs ys a b
one_finding CountMin estimate_of o packets d e m n xs ys a b = one_heavy estimate_of o packets d e m n xs ys a b
one_finding CountSketch estimate_of o packets d e m n xs ys a b = one_heavy estimate_of o packets d e m n xs ys a b

-- the lines of what the sketch finds
one_tail : (d : Option ℤ) (r s : Report) → r.watch.items ≡ s.watch.items → r.heavy ≡ s.heavy → r.flows.items ≡ s.flows.items → estimate_lines d r ≡ estimate_lines d s
unfolding estimate_lines flow_lines
one_tail None r s watch heavy flows = λ i.
    flat_map (estimate_line (codes "watch")) (watch i) ++ count_line (codes "heavy") (heavy i) ++ flat_map (estimate_line (codes "flow")) (flows i)
one_tail (Some estimate) r s watch heavy flows = refl

-- the same options
by_options : (packets : List Packet) (records : ℕ) (skipped : Tallies) (cut : ℕ) (o : Options) (r s : Report)
    → IsReport packets records skipped cut o r → IsReport packets records skipped cut o s → report_text r ≡ report_text s
unfolding IsReport report_text sketch_line capture_lines table_lines
by_options packets records skipped cut o r s a b =
    let finds = one_finding o.sketch _ o packets r.distinct s.distinct r.heavy s.heavy r.flows.items s.flows.items a.finds b.finds in
    let sketch = a.sketch ∙ sym b.sketch in
    let shape = a.shape ∙ sym b.shape in
    let amount = a.amount ∙ sym b.amount in
    let records_are = a.records_are ∙ sym b.records_are in
    let keyed = a.keyed ∙ sym b.keyed in
    let skipped_are = a.skipped_are ∙ sym b.skipped_are in
    let cut_is = a.cut_is ∙ sym b.cut_is in
    let total = a.total ∙ sym b.total in
    let used = a.used ∙ sym b.used in
    let watch = a.watch ∙ sym b.watch in
    let rest = ap (λ (d : Option ℤ). estimate_lines d r) finds.0 ∙ one_tail s.distinct r s watch finds.1 finds.2 in
    λ i.
    let x : Report = record s {
      sketch = sketch i;
      shape = shape i;
      amount = amount i;
      records = records_are i;
      keyed = keyed i;
      skipped = skipped_are i;
      cut = cut_is i;
      total = total i;
      used = record { items = used i; room = s.used.room };
    } in
    words_line (codes "octosketch report 1") ++ sketch_line x ++ capture_lines x ++ table_lines x ++ rest i ++ words_line (codes "end")

pub one_report : (packets : List Packet) (records : ℕ) (skipped : Tallies) (cut : ℕ) (o p : Options) (r s : Report) → AskForOneReport o p
    → IsReport packets records skipped cut o r → IsReport packets records skipped cut p s → report_text r ≡ report_text s
unfolding IsReport
one_report packets records skipped cut o p r s ask a b =
    let q : Options = record p { sketch = o.sketch; shape = o.shape; amount = o.amount; watch = record { items = o.watch.items; room = p.watch.room }; heavy = o.heavy; least = o.least } in
    let same : p ≡ q = λ i. record p {
      sketch = sym ask.sketch i;
      shape = sym ask.shape i;
      amount = sym ask.amount i;
      watch = record { items = sym ask.watch i; room = p.watch.room };
      heavy = sym ask.heavy i;
      least = sym ask.least i;
    } in
    let c = subst (λ (x : Options). IsReport packets records skipped cut x s) same b in
    let d : IsReport packets records skipped cut o s = record {
      sketch = c.sketch;
      shape = c.shape;
      amount = c.amount;
      records_are = c.records_are;
      keyed = c.keyed;
      skipped_are = c.skipped_are;
      cut_is = c.cut_is;
      total = c.total;
      used = c.used;
      watch = c.watch;
      finds = found o.sketch _ o q packets _ _ _ refl refl c.finds;
    } in
    by_options packets records skipped cut o r s a d
  where
    found : (k : Sketch) (estimate_of : FlowKey → ℤ) (x y : Options) (packets : List Packet) (d : Option ℤ) (m : ℕ) (flows : List Flow) → y.least ≡ x.least → y.heavy ≡ x.heavy
        → FindsFlows k estimate_of y packets d m flows → FindsFlows k estimate_of x packets d m flows
    found LogLog estimate_of x y packets d m flows least heavy f = f
    found CountMin estimate_of x y packets d m flows least heavy f = record { no_estimate = f.no_estimate; heaviest = rw (sym least, sym heavy) f.heaviest }
    found CountSketch estimate_of x y packets d m flows least heavy f = record { no_estimate = f.no_estimate; heaviest = rw (sym least, sym heavy) f.heaviest }
