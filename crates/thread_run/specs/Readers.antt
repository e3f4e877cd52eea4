-- What a reader's asks come to.
use Rattle.std.specs.Prelude.{◌≡◌, ◌<◌, ◌≤◌, ℕ, List, All, length, take, slice_index_or}
use mathlib.Core.List.{IsPrefix}
use Rattle.packet_key.specs.declared.key.FlowKey.{FlowKey}
use Rattle.hash_rows.specs.declared.answer.Answer.{Answer}
use Rattle.hash_rows.specs.Rules.{Rules}
use Rattle.live_state.specs.Copies.{HasRoomFor, IsCopyOf, KeepsRest}
use Rattle.live_state.specs.Fold.{state_after}
use Rattle.live_view.specs.Views.{ReaderView}
use Rattle.thread_run.specs.declared.parts.ReaderPart.{ReaderPart}

-- the first n answers are each that of a beginning of what the view knows, and these beginnings never get shorter
pub record AreAsked (r : Rules) (keys : List FlowKey) (old : List Answer) (view : ReaderView) (answers : List Answer) (n : ℕ) : Type 0 where
  pub len : length answers ≡ length old
  pub rest : (k : ℕ) (d : Answer) → k < length old → KeepsRest (slice_index_or old k d) (slice_index_or answers k d)
  pub seen : ℕ → ℕ
  pub within : (k : ℕ) → k < n → seen k ≤ length view.known
  pub rising : (j k : ℕ) → j ≤ k → k < n → seen j ≤ seen k
  pub each : (k : ℕ) (d : Answer) → k < n
      → IsCopyOf r (state_after r view.layout (take (seen k) view.known)) keys (slice_index_or answers k d)

module _ {K H : Type 0} where
  -- all asks of the reader were made
  pub record HasAsked (r : Rules) (keys : List FlowKey) (old new : ReaderPart K H) : Type 0 where
    pub book : new.view.book ≡ old.view.book
    pub layout : new.view.layout ≡ old.view.layout
    pub known : IsPrefix old.view.known new.view.known
    pub room : All (HasRoomFor new.view.layout.workers keys) new.answers.items
    pub asked : AreAsked r keys old.answers.items new.view new.answers.items (length old.answers.items)

  -- the lists of each reader's answers have room
  pub record HaveRoom (keys : List FlowKey) (parts : List (ReaderPart K H)) : Type 0 where
    pub each : (i : ℕ) (p : ReaderPart K H) → i < length parts
        → All (HasRoomFor (slice_index_or parts i p).view.layout.workers keys) (slice_index_or parts i p).answers.items

  -- all readers made their asks
  pub record HaveAsked (r : Rules) (keys : List FlowKey) (old new : List (ReaderPart K H)) : Type 0 where
    pub len : length new ≡ length old
    pub each : (i : ℕ) (p : ReaderPart K H) → i < length old → HasAsked r keys (slice_index_or old i p) (slice_index_or new i p)
