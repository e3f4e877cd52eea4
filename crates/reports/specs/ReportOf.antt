-- The report of a capture: what was read, and what the table of its packets says of their keys.
use Rattle.std.specs.Prelude.{◌≡◌, ℕ, ℤ, List, [], length, map, Option, Some, None}
use Rattle.packet_key.specs.declared.key.FlowKey.{FlowKey}
use Rattle.hash_rows.specs.declared.options.Options.{Options}
use Rattle.hash_rows.specs.declared.options.Sketch.{Sketch}
use Rattle.hash_rows.specs.declared.options.Sketch.TheVariants.{CountMin, CountSketch, LogLog}
use Rattle.hash_rows.specs.declared.shape.Flow.{Flow}
use Rattle.hash_rows.specs.declared.shape.Packet.{Packet}
use Rattle.hash_rows.specs.declared.shape.Tallies.{Tallies}
use Rattle.hash_rows.specs.Amounts.{total_amount}
use Rattle.hash_rows.specs.Rules.{Rules, rules_of}
use Rattle.hash_rows.specs.Sequential.{sequential_table}
use Rattle.hash_rows.specs.Sketches.{rows_of}
use Rattle.hash_rows.specs.Tables.{TableView, used_in}
use Rattle.heavy_keys.specs.FinalHeavy.{AreHeaviest}
use Rattle.push_history.specs.Share.{zero_key}
use Rattle.octo_text.specs.declared.report.Report.{Report}

-- a key and its estimate
abbrev pub flow_by : (FlowKey → ℤ) → FlowKey → Flow
flow_by estimate_of key = record { key = key; estimate = estimate_of key }

-- how many keys there are, and no flows: the estimate is the same for every key
pub record Distinct (estimate_of : FlowKey → ℤ) (distinct : Option ℤ) (heavy : ℕ) (flows : List Flow) : Type 0 where
  pub estimate : distinct ≡ Some (estimate_of zero_key)
  pub none_heavy : heavy ≡ 0
  pub none_listed : flows ≡ []

-- how many flows are heavy, and the first of them, as many as the options list
pub record HeavyFlows (estimate_of : FlowKey → ℤ) (options : Options) (packets : List Packet) (distinct : Option ℤ) (heavy : ℕ)
    (flows : List Flow) : Type 0 where
  pub no_estimate : distinct ≡ None
  pub heaviest : AreHeaviest estimate_of options.least (map (λ p. p.key) packets) options.heavy heavy flows

-- a LogLog tells the number of keys, the other sketches tell heavy flows
abbrev pub FindsFlows : Sketch → (FlowKey → ℤ) → Options → List Packet → Option ℤ → ℕ → List Flow → Type 0
FindsFlows LogLog estimate_of options packets distinct heavy flows = Distinct estimate_of distinct heavy flows
FindsFlows CountMin estimate_of options packets distinct heavy flows = HeavyFlows estimate_of options packets distinct heavy flows
FindsFlows CountSketch estimate_of options packets distinct heavy flows = HeavyFlows estimate_of options packets distinct heavy flows

-- the report tells what was read, and what the table says by the rules
pub record Reports (rules : Rules) (table : TableView) (packets : List Packet) (records : ℕ) (skipped : Tallies) (cut : ℕ)
    (options : Options) (report : Report) : Type 0 where
  pub sketch : report.sketch ≡ options.sketch
  pub shape : report.shape ≡ options.shape
  pub amount : report.amount ≡ options.amount
  pub records_are : report.records ≡ records
  pub keyed : report.keyed ≡ length packets
  pub skipped_are : report.skipped ≡ skipped
  pub cut_is : report.cut ≡ cut
  pub total : report.total ≡ total_amount packets
  pub used : report.used.items ≡ map (used_in table) (rows_of table.shape)
  pub watch : report.watch.items ≡ map (flow_by (rules.estimate table.shape table.cells)) options.watch.items
  pub finds : FindsFlows options.sketch (rules.estimate table.shape table.cells) options packets report.distinct
      report.heavy report.flows.items

-- the same, of the one table that takes every packet
unfoldable pub IsReport : List Packet → ℕ → Tallies → ℕ → Options → Report → Type 0
IsReport packets records skipped cut options report =
    let rules = rules_of options.sketch in
    Reports rules (sequential_table rules options.shape packets) packets records skipped cut options report

-- the options ask for the same report: they differ at most in how the packets are counted (workers, share, threshold, lane, batch, round,
-- full, mode), in who asks meanwhile (readers, asks), and in the journal
pub record AskForOneReport (o p : Options) : Type 0 where
  pub sketch : o.sketch ≡ p.sketch
  pub shape : o.shape ≡ p.shape
  pub amount : o.amount ≡ p.amount
  pub watch : o.watch.items ≡ p.watch.items
  pub heavy : o.heavy ≡ p.heavy
  pub least : o.least ≡ p.least
