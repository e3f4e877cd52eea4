-- What is reported of a table is the report, where the table is that of all packets.
use Rattle.std.proofs.Common.{◌≡◌, ◌∙◌, ℕ, List, sym, ap, subst}
use Rattle.hash_rows.specs.declared.options.Options.{Options}
use Rattle.hash_rows.specs.declared.options.Sketch.{Sketch}
use Rattle.hash_rows.specs.declared.shape.Packet.{Packet}
use Rattle.hash_rows.specs.declared.shape.Tallies.{Tallies}
use Rattle.hash_rows.specs.Rules.{Rules, rules_of}
use Rattle.hash_rows.specs.Sequential.{sequential_table}
use Rattle.hash_rows.specs.Tables.{TableView}
use Rattle.octo_text.specs.declared.report.Report.{Report}
use Rattle.reports.specs.ReportOf.{IsReport, Reports}

pub report_is : (r : Rules) (sketch : Sketch) (table : TableView) (packets : List Packet) (records : ℕ) (skipped : Tallies) (cut : ℕ) (options : Options) (report : Report)
    → r ≡ rules_of sketch → options.sketch ≡ sketch → table ≡ sequential_table r options.shape packets
    → Reports r table packets records skipped cut options report → IsReport packets records skipped cut options report
unfolding IsReport
report_is r sketch table packets records skipped cut options report law same was tells =
    let rules : r ≡ rules_of options.sketch = law ∙ ap rules_of (sym same) in
    subst (λ (s : Rules). Reports s (sequential_table s options.shape packets) packets records skipped cut options report) rules
    (subst (λ (t : TableView). Reports r t packets records skipped cut options report) was tells)
