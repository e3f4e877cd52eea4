-- The rule of a published pair, and what its steps tell.
use Rattle.std.specs.Prelude.{◌≡◌, ℕ, List, [], ◌∷◌, map, Option, IfSome, Some, None}
use mathlib.Core.List.{IsPrefix}
use mathlib.Core.Option.{some}
use lib.ListN.{get_elem?}
use Rattle.logbook.specs.Pages.{Book}
use Rattle.hash_rows.specs.Rules.{Rules}
use Rattle.live_view.specs.Views.{History, PublishedView, longer}
use Rattle.live_state.specs.Fold.{IsStateAfter, absorbed, layout_of}
use Rattle.hash_rows.specs.declared.shape.Push.{Push}
use Rattle.live_state.specs.declared.layout.Layout.{Layout}
use Rattle.live_view.specs.declared.history.Entry.{Entry}
use Rattle.live_view.specs.declared.rule.Notes.{Notes}
use Rattle.live_view.specs.declared.rule.Pair.{Pair}
use Rattle.live_view.specs.declared.rule.Name.{Name}

-- what a seat knows
abbrev pub notes : List Push → Option Pair → Notes
notes known pair = record { known = known; pair = pair }

-- what a book is known by
abbrev pub name_of : Book → Name
name_of b = record { number = b.number; log_name = b.log_name; cells_name = b.cells_name }

-- what a writer and its readers agree on
abbrev pub paired : Book → Layout → Pair
paired b z = record { book = name_of b; layout = z }

-- the same of what is published
abbrev pub pair_of : PublishedView → Pair
pair_of p = paired p.history.book (layout_of p.figures)

-- the known list begins the history of the published state, and the pair is its own
pub record Knows (p : PublishedView) (v : Notes) : Type 0 where
  pub known : IsPrefix v.known p.history.log
  pub pair : IfSome v.pair (λ z. z ≡ pair_of p)

-- the state is the fold of its history, which each seat knows a beginning of
pub record IsPublished (r : Rules) (p : PublishedView) (views : List Notes) : Type 0 where
  pub sums : IsStateAfter r p.figures p.history.log
  pub known : (seat : ℕ) (v : Notes) → get_elem? views seat ≡ some v → Knows p v

-- the whole history of the published state is known afterwards
pub record Entered (r : Rules) (v : Notes) (p : PublishedView) (w : Notes) : Type 0 where
  pub sums : IsStateAfter r p.figures p.history.log
  pub before : Knows p v
  pub seat : w ≡ notes p.history.log v.pair

-- what an entry makes of a published state
abbrev pub turned : Rules → PublishedView → Entry → PublishedView
turned r p e = record { figures = absorbed r p.figures e.message; history = e.prefix }

-- the messages of some entries
abbrev pub messages : List Entry → List Push
messages es = map (λ (e : Entry). e.message) es

-- each entry has the history of one message more
abbrev pub IsChain : History → List Entry → Type 0
IsChain s [] = Unit {0}
IsChain s (e ∷ es) = (e.prefix ≡ longer s e.message) × IsChain e.prefix es

-- the history, with a message that stands in the history alone
abbrev pub late : Option Push → History → History
late None s = s
late (Some m) s = longer s m

-- what stands in where a view has no reader, which is never so between its calls
abbrev pub no_notes : Notes
no_notes = record { known = []; pair = None }
