-- The text of a report, line by line.
use Rattle.std.specs.Prelude.{ℕ, ℤ, List, ◌++◌, Option, Some, None, codes, decimal}
use Rattle.std.specs.Fmt.{signed_decimal}
use Rattle.std.specs.List.{flat_map, enumerate_from}
use Rattle.packet_key.specs.KeyText.{text_of}
use Rattle.hash_rows.specs.declared.shape.Flow.{Flow}
use Rattle.octo_text.specs.Lines.{words_line, count_line, sketch_words}
use Rattle.octo_text.specs.declared.report.Report.{Report}
use Rattle.hash_rows.specs.declared.shape.Tallies.{Tallies}

-- the sketch, its shape, and what a packet adds to it
unfoldable pub sketch_line : Report → List ℕ
sketch_line r = words_line (sketch_words r.sketch r.shape r.amount)

-- how many records have no key, by what is wrong with them
unfoldable pub skipped_line : Tallies → List ℕ
skipped_line t =
    codes "skipped short " ++ decimal t.short
    ++ codes " notip " ++ decimal t.not_ip
    ++ codes " badip " ++ decimal t.bad_ip
    ++ codes " tags " ++ decimal t.tags ++ codes "\n"

-- the cells of a row that aren't 0
unfoldable pub row_line : ℕ × ℕ → List ℕ
row_line row = codes "row " ++ decimal row.0 ++ codes " used " ++ decimal row.1 ++ codes "\n"

-- a key and its estimate, behind a word
unfoldable pub estimate_line : List ℕ → Flow → List ℕ
estimate_line name flow = name ++ codes " " ++ text_of flow.key ++ codes " " ++ signed_decimal flow.estimate ++ codes "\n"

-- what was read
unfoldable pub capture_lines : Report → List ℕ
capture_lines r =
    count_line (codes "records") r.records
    ++ count_line (codes "keyed") r.keyed
    ++ skipped_line r.skipped
    ++ count_line (codes "cut") r.cut

-- the final table, a line for each row
unfoldable pub table_lines : Report → List ℕ
table_lines r = count_line (codes "total") r.total ++ flat_map row_line (enumerate_from 0 r.used.items)

-- the watched keys, the number of heavy flows, and those of them that are listed
unfoldable pub flow_lines : Report → List ℕ
flow_lines r =
    flat_map (estimate_line (codes "watch")) r.watch.items
    ++ count_line (codes "heavy") r.heavy
    ++ flat_map (estimate_line (codes "flow")) r.flows.items

-- the number of distinct keys, where the sketch tells just this
unfoldable pub distinct_line : ℤ → List ℕ
distinct_line estimate = codes "distinct " ++ signed_decimal estimate ++ codes "\n"

-- what the sketch says of the keys
unfoldable pub estimate_lines : Option ℤ → Report → List ℕ
estimate_lines None r = flow_lines r
estimate_lines (Some estimate) r = distinct_line estimate

-- the report
unfoldable pub report_text : Report → List ℕ
report_text r =
    words_line (codes "octosketch report 1")
    ++ sketch_line r
    ++ capture_lines r
    ++ table_lines r
    ++ estimate_lines r.distinct r
    ++ words_line (codes "end")
