-- The text of the command `epochs`, line by line.
use Rattle.std.specs.Prelude.{ℕ, zero, suc, List, [], ◌++◌, codes, decimal}
use Rattle.std.specs.Fmt.{signed_decimal}
use Rattle.std.specs.List.{flat_map, enumerate_from}
use Rattle.packet_key.specs.KeyText.{text_of}
use Rattle.hash_rows.specs.declared.options.Sketch.TheVariants.{CountSketch}
use Rattle.octo_text.specs.Lines.{words_line, count_line, sketch_words}
use Rattle.octo_text.specs.ReportText.{estimate_line, row_line, skipped_line}
use Rattle.epoch_run.specs.declared.change.Change.{Change}
use Rattle.epoch_run.specs.declared.epoch.Epoch.{Epoch}
use Rattle.epoch_report.specs.declared.report.EpochReport.{EpochReport}

-- what was read
unfoldable pub capture_lines : EpochReport → List ℕ
capture_lines r =
    count_line (codes "records") r.records
    ++ count_line (codes "keyed") r.keyed
    ++ skipped_line r.skipped
    ++ count_line (codes "cut") r.cut

-- so many packets, and the sum of their amounts
unfoldable pub packets_words : ℕ → ℕ → List ℕ
packets_words packets total = codes " packets " ++ decimal packets ++ codes " total " ++ decimal total

-- an epoch's number and its packets
unfoldable pub epoch_line : ℕ → Epoch → List ℕ
epoch_line number epoch = codes "epoch " ++ decimal number ++ packets_words epoch.packets epoch.total ++ codes "\n"

-- the number of heavy flows, and those of them that are listed
unfoldable pub flow_lines : Epoch → List ℕ
flow_lines epoch = count_line (codes "heavy") epoch.heavy ++ flat_map (estimate_line (codes "flow")) epoch.flows.items

-- a key with its estimates in the epoch before and in this one
unfoldable pub change_line : Change → List ℕ
change_line change =
    codes "change " ++ text_of change.key
    ++ codes " " ++ signed_decimal change.before
    ++ codes " " ++ signed_decimal change.after ++ codes "\n"

-- the number of flows that changed, and those of them that are listed
unfoldable pub change_lines : Epoch → List ℕ
change_lines epoch = count_line (codes "changed") epoch.changed ++ flat_map change_line epoch.changes.items

-- what changed since the epoch before: nothing is told of the first one
unfoldable pub since_before : ℕ → Epoch → List ℕ
since_before zero epoch = []
since_before (suc before) epoch = change_lines epoch

-- an epoch behind its number: its packets, a line for each row of its table, its flows, and what changed
unfoldable pub epoch_lines : ℕ × Epoch → List ℕ
epoch_lines numbered =
    epoch_line numbered.0 numbered.1
    ++ flat_map row_line (enumerate_from 0 numbered.1.used.items)
    ++ flow_lines numbered.1
    ++ since_before numbered.0 numbered.1

-- all packets
unfoldable pub whole_line : ℕ → ℕ → List ℕ
whole_line packets total = codes "whole" ++ packets_words packets total ++ codes "\n"

-- all packets, and a line for each row of their table
unfoldable pub whole_lines : EpochReport → List ℕ
whole_lines r = whole_line r.keyed r.total ++ flat_map row_line (enumerate_from 0 r.used.items)

-- the report
unfoldable pub report_text : EpochReport → List ℕ
report_text r =
    words_line (codes "octosketch epochs 1")
    ++ words_line (sketch_words CountSketch r.shape r.amount)
    ++ capture_lines r
    ++ flat_map epoch_lines (enumerate_from 0 r.epochs.items)
    ++ whole_lines r
    ++ words_line (codes "end")
