-- The lines of a journal, by what they say.
use Rattle.std.specs.Prelude.{ℕ, List, codes}
use Rattle.packet_key.specs.declared.key.FlowKey.{FlowKey}
use Rattle.hash_rows.specs.declared.options.Options.{Options}
use Rattle.push_history.specs.Answers.{AnswerParts}
use Rattle.octo_text.specs.Lines.{words_line, count_line, key_line}
use Rattle.octo_text.specs.JournalText.{worker_line, run_line, answer_line, options_line}

-- the first line; the options; a watched key; a worker with the number of its messages and of its refused updates; a run
-- of refused updates of a worker; an answer; a live key; how many messages were missed; the last line
pub data Entry : Type 0 where
  Head : Entry
  Terms : Options → Entry
  Watched : FlowKey → Entry
  Worker : ℕ → ℕ → ℕ → Entry
  Run : ℕ → ℕ → ℕ → Entry
  Answered : AnswerParts → Entry
  Live : FlowKey → Entry
  Missed : ℕ → Entry
  End : Entry

-- the line of each, as a journal is written
abbrev pub line_of : Entry → List ℕ
line_of Head = words_line (codes "octosketch journal 1")
line_of (Terms o) = options_line o
line_of (Watched k) = key_line (codes "watched") k
line_of (Worker worker pushes refused) = worker_line worker pushes refused
line_of (Run worker first last) = run_line worker (first, last)
line_of (Answered a) = answer_line a
line_of (Live k) = key_line (codes "live") k
line_of (Missed n) = count_line (codes "missed") n
line_of End = words_line (codes "end")
