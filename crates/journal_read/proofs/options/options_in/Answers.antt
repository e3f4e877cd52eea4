use Rattle.std.proofs.Common.{rules, ◌∙◌, ◌++◌, refl, ap, codes, drop, w64}
use mir.Val.{SFits}
use Rattle.std.proofs.lemmas.Int.{to_z-of_z}
use Rattle.octo_text.specs.JournalText.{share_words, lane_words, query_words}
use Rattle.journal_read.proofs.Grouped.{options_grouped, lanes_stop, told_same, no_keys}
use Rattle.journal_read.proofs.options.options_in.Goals as goal

pub returns-clause-said : goal.returns-clause-said
returns-clause-said c = λ o law is.
    let first = c.skip.ensures ∙ ap (drop 8) (is ∙ options_grouped o) in
    let sketch = c.sketch_in.ensures o (share_words o ++ (lane_words o ++ (query_words o ++ codes "\n"))) law first in
    let share = c.share_in.ensures o (lane_words o ++ (query_words o ++ codes "\n")) law (lanes_stop o (query_words o ++ codes "\n")) sketch.1 in
    let lanes = c.lanes_in.ensures o (query_words o ++ codes "\n") law share.1 in
    let queries = c.queries_in-queries.ensures o (codes "\n") law refl lanes.1 in
    let fits : SFits w64 c.queries_in-queries.result.least = search rules in
    told_same o c.sketch_in.result.0 c.share_in.result.0 c.lanes_in.result.0 c.queries_in-queries.result _ c.in_ok-watch.watch sketch.0 share.0 lanes.0 queries
    (to_z-of_z w64 c.queries_in-queries.result.least fits ∙ queries.least)
    (no_keys c.in_ok-watch.watch c.in_ok-watch.ensures.empty c.in_ok-watch.ensures.room)
