-- What the writer keeps.
use Rattle.std.specs.Prelude.{◌≡◌, ◌<◌, List, length, Some}
use Rattle.hash_rows.specs.Rules.{Rules}
use Rattle.live_state.specs.Fold.{IsStateAfter, Fit, layout_of, most}
use Rattle.live_view.specs.Views.{PublishedView, with_all}
use Rattle.live_view.specs.Rule.{notes, pair_of, messages, IsChain, late}
use Rattle.live_view.specs.declared.history.Entry.{Entry}
use Rattle.live_view.specs.declared.history.HistoryWriter.{HistoryWriter}
use Rattle.live_view.specs.declared.rule.Notes.{Notes}

-- of the published state that is shown, what its seat knows, the entries that are pending and the history_writer
pub record IsWriter (r : Rules) (shown : PublishedView) (seat : Notes) (entries : List Entry)
    (history_writer : HistoryWriter) : Type 0 where
  pub sums : IsStateAfter r shown.figures shown.history.log
  pub seat_is : seat ≡ notes shown.history.log (Some (pair_of shown))
  pub fit : Fit r (layout_of shown.figures) (messages entries)
  pub chain : IsChain shown.history entries
  pub prefix : history_writer.prefix ≡ late history_writer.stuck (with_all shown.history (messages entries))
  pub count : history_writer.count ≡ length history_writer.prefix.log
  pub room : history_writer.count < most
