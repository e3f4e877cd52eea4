-- The text of the command `prefix`, line by line.
use Rattle.std.specs.Prelude.{ℕ, ◌==◌, Bool, List, ◌++◌, filter, length, map, zip, codes, decimal, if◌then◌else◌}
use Rattle.std.specs.Fmt.{signed_decimal}
use Rattle.std.specs.List.{flat_map}
use Rattle.listed.specs.Listed.{Listed}
use Rattle.hash_rows.specs.declared.answer.Answer.{Answer}
use Rattle.hash_rows.specs.declared.options.Sketch.TheVariants.{CountMin}
use Rattle.push_history.specs.Answers.{AnswerParts, parts_of}
use Rattle.octo_text.specs.Lines.{words_line, count_line, sketch_words}
use Rattle.octo_text.specs.ReportText.{skipped_line}
use Rattle.octo_text.specs.JournalText.{spaced_signed}
use Rattle.prefixes.specs.Texts.{prefix_text}
use Rattle.prefix_stack.specs.declared.hit.Hit.{Hit}
use Rattle.prefix_stack.specs.Levels.{lengths}
use Rattle.prefix_report.specs.declared.report.PrefixReport.{PrefixReport}

-- the records, those with a key, and of these the ones with an IPv6 key
unfoldable pub keyed_lines : PrefixReport → List ℕ
keyed_lines r = count_line (codes "records") r.records ++ count_line (codes "keyed") r.keyed ++ count_line (codes "other") r.other

-- what was read
unfoldable pub capture_lines : PrefixReport → List ℕ
capture_lines r = keyed_lines r ++ skipped_line r.skipped ++ count_line (codes "cut") r.cut ++ count_line (codes "total") r.total

-- what a reader was answered
unfoldable pub answer_line : AnswerParts → List ℕ
answer_line a =
    codes "answer " ++ decimal a.reader
    ++ codes " " ++ decimal a.number
    ++ codes " folded " ++ decimal a.folded
    ++ codes " shown" ++ flat_map spaced_signed a.shown ++ codes "\n"

-- a network and its estimate, behind a word
unfoldable pub network_line : List ℕ → Hit → List ℕ
network_line name hit = name ++ codes " " ++ prefix_text hit.prefix ++ codes " " ++ signed_decimal hit.estimate ++ codes "\n"

-- how many networks of a length are hits, and 1 where others reach the number too, else 0
unfoldable pub heavy_line : ℕ → Bool → List ℕ
heavy_line hits more = codes "heavy " ++ decimal hits ++ codes " more " ++ decimal (if more then 1 else 0) ++ codes "\n"

-- those of a length
abbrev pub of_length : ℕ → List Hit → List Hit
of_length bits hits = filter (λ hit. hit.prefix.length == bits) hits

-- the hits of a length
unfoldable pub hit_lines : ℕ → List Hit → Bool → List ℕ
hit_lines bits hits more =
    heavy_line (length (of_length bits hits)) more ++ flat_map (network_line (codes "prefix")) (of_length bits hits)

-- each length with its answers, and whether others reach the number
abbrev pub levels_in : PrefixReport → List (ℕ × (Listed Answer × Bool))
levels_in r = zip lengths (zip r.answers.items r.found.more)

-- a length: what readers were answered, the watched networks, and the hits
unfoldable pub level_lines : PrefixReport → ℕ × (Listed Answer × Bool) → List ℕ
level_lines r level =
    count_line (codes "level") level.0
    ++ flat_map answer_line (map parts_of level.1.0.items)
    ++ flat_map (network_line (codes "watch")) (of_length level.0 r.watch.items)
    ++ hit_lines level.0 r.found.hits.items level.1.1

-- the report
unfoldable pub report_text : PrefixReport → List ℕ
report_text r =
    words_line (codes "octosketch prefix 1")
    ++ words_line (sketch_words CountMin r.shape r.amount)
    ++ capture_lines r
    ++ flat_map (level_lines r) (levels_in r)
    ++ words_line (codes "end")
