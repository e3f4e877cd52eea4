-- What a reader saw of what was published.
use Rattle.live_state.specs.Fold.{layout_in}
use Rattle.std.specs.Prelude.{◌≡◌, ◌<◌, ℕ, List, length, slice_index_or}
use mathlib.Core.List.{IsPrefix}
use Rattle.hash_rows.specs.declared.answer.Answer.{Answer}
use Rattle.hash_rows.specs.declared.options.Options.{Options}
use Rattle.hash_rows.specs.declared.shape.Push.{Push}
use Rattle.hash_rows.specs.Rules.{Rules}
use Rattle.push_history.specs.Journal.{keys_of}
use Rattle.live_view.specs.Views.{ReaderView}
use Rattle.thread_run.specs.Readers.{AreAsked}

-- reader q made all its asks, and what its view knows begins what was published
pub record HasSeen (r : Rules) (o : Options) (published : List Push) (q : ℕ) (view : ReaderView) (answers : List Answer) : Type 0 where
  pub before : List Answer
  pub asks : length before ≡ o.asks
  pub numbered : (k : ℕ) (d : Answer) → k < o.asks → ((slice_index_or before k d).reader ≡ q) × ((slice_index_or before k d).number ≡ k)
  pub asked : AreAsked r (keys_of o) before view answers o.asks
  pub layout : view.layout ≡ layout_in o
  pub known : IsPrefix view.known published
