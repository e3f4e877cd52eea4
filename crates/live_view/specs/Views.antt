-- What contracts see of a beginning of the history that was seen, of what readers take, of a writer and of a view.
use Rattle.std.specs.Prelude.{ℕ, ℤ, ◌++◌, List, [], ◌∷◌}
use Rattle.logbook.specs.Pages.{Book}
use Rattle.live_state.specs.Fold.{StateView}
use Rattle.hash_rows.specs.declared.shape.Push.{Push}
use Rattle.hash_rows.specs.declared.shape.Shape.{Shape}
use Rattle.live_state.specs.declared.layout.Layout.{Layout}

-- a book, and the messages that it tells of
pub record History : Type 0 where
  pub book : Book
  pub log : List Push

-- the history of all these messages more
abbrev pub with_all : History → List Push → History
with_all s more = record { book = s.book; log = s.log ++ more }

-- the history of one message more
abbrev pub longer : History → Push → History
longer s m = with_all s (m ∷ [])

-- a state, and the history that it stands for
pub record PublishedView : Type 0 where
  pub figures : StateView
  pub history : History

-- the book of the pair, its layout, what was published and what is appended
pub record WriterView : Type 0 where
  pub book : Book
  pub layout : Layout
  pub published : List Push
  pub pending : List Push

-- what a reader is of, and the messages that it knows of
pub record ReaderView : Type 0 where
  pub book : Book
  pub layout : Layout
  pub known : List Push
  pub told : List Push

-- what a published state is made for
abbrev pub layout_for : Shape → ℕ → ℕ → ℤ → Layout
layout_for shape workers heavy least = record { shape = shape; workers = workers; heavy = heavy; least = least }
