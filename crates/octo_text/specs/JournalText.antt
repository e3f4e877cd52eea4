-- The text of a journal, line by line.
use Rattle.std.specs.Prelude.{ℕ, ℤ, List, ◌++◌, length, codes, decimal, zip}
use Rattle.std.specs.Fmt.{signed_decimal}
use Rattle.std.specs.List.{flat_map, enumerate_from}
use Rattle.packet_key.specs.declared.key.FlowKey.{FlowKey}
use Rattle.hash_rows.specs.declared.options.Options.{Options}
use Rattle.hash_rows.specs.OptionTexts.{share_text, full_text, mode_text}
use Rattle.push_history.specs.Answers.{AnswerParts}
use Rattle.push_history.specs.Journal.{Journal}
use Rattle.octo_text.specs.Lines.{words_line, count_line, key_line, sketch_words}
use Rattle.octo_text.specs.Runs.{runs_of}

-- how packets are shared out, and how far a cell changes before it is told
unfoldable pub share_words : Options → List ℕ
share_words o =
    codes " share " ++ share_text o.share
    ++ codes " workers " ++ decimal o.workers
    ++ codes " threshold " ++ decimal o.threshold

-- the lanes, and how they are emptied
unfoldable pub lane_words : Options → List ℕ
lane_words o =
    codes " lane " ++ decimal o.lane
    ++ codes " batch " ++ decimal o.batch
    ++ codes " round " ++ decimal o.round
    ++ codes " full " ++ full_text o.full

-- how the run goes, who asks, and which flows are heavy
unfoldable pub query_words : Options → List ℕ
query_words o =
    codes " mode " ++ mode_text o.mode
    ++ codes " readers " ++ decimal o.readers
    ++ codes " asks " ++ decimal o.asks
    ++ codes " heavy " ++ decimal o.heavy
    ++ codes " least " ++ signed_decimal o.least

-- all options but the watched keys
unfoldable pub options_line : Options → List ℕ
options_line o =
    codes "options "
    ++ sketch_words o.sketch o.shape o.amount
    ++ share_words o
    ++ lane_words o
    ++ query_words o ++ codes "\n"

-- a worker, the number of its pushes and that of its refused updates
unfoldable pub worker_line : ℕ → ℕ → ℕ → List ℕ
worker_line worker pushes refused =
    codes "worker " ++ decimal worker ++ codes " pushes " ++ decimal pushes ++ codes " refused " ++ decimal refused ++ codes "\n"

-- a run of refused updates of a worker
unfoldable pub run_line : ℕ → ℕ × ℕ → List ℕ
run_line worker run =
    codes "refused " ++ decimal worker ++ codes " " ++ decimal run.0 ++ codes "-" ++ decimal run.1 ++ codes "\n"

-- a worker with its pushes and its refused updates
unfoldable pub worker_lines : ℕ × (ℕ × List ℕ) → List ℕ
worker_lines worker =
    worker_line worker.0 worker.1.0 (length worker.1.1) ++ flat_map (run_line worker.0) (runs_of worker.1.1)

-- numbers, each behind a space
unfoldable pub spaced : ℕ → List ℕ
spaced number = codes " " ++ decimal number

-- a space and the number, with a sign where it is below zero
unfoldable pub spaced_signed : ℤ → List ℕ
spaced_signed number = codes " " ++ signed_decimal number

-- what a reader was answered
unfoldable pub answer_line : AnswerParts → List ℕ
answer_line a =
    codes "answer " ++ decimal a.reader
    ++ codes " " ++ decimal a.number
    ++ codes " folded " ++ decimal a.folded
    ++ codes " front" ++ flat_map spaced a.front
    ++ codes " shown" ++ flat_map spaced_signed a.shown ++ codes "\n"

-- the options and the watched keys
unfoldable pub terms_lines : Options → List ℕ
terms_lines o = options_line o ++ flat_map (key_line (codes "watched")) o.watch.items

-- the live heavy keys, and how many messages they have no place for
unfoldable pub live_lines : List FlowKey → ℕ → List ℕ
live_lines live missed = flat_map (key_line (codes "live")) live ++ count_line (codes "missed") missed

-- the journal
unfoldable pub journal_text : Journal → List ℕ
journal_text j =
    words_line (codes "octosketch journal 1")
    ++ terms_lines j.options
    ++ flat_map worker_lines (enumerate_from 0 (zip j.pushes j.refused))
    ++ flat_map answer_line j.answers
    ++ live_lines j.live j.missed
    ++ words_line (codes "end")
