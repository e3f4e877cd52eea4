-- What an ask copies of a state.
use Rattle.std.specs.Prelude.{◌≡◌, ℕ, ℤ, List, map, length}
use Rattle.packet_key.specs.declared.key.FlowKey.{FlowKey}
use Rattle.hash_rows.specs.declared.answer.Answer.{Answer}
use Rattle.hash_rows.specs.Rules.{Rules}
use Rattle.live_state.specs.Fold.{StateView}

-- what the state says of the keys
abbrev pub estimates_in : Rules → StateView → List FlowKey → List ℤ
estimates_in r s keys = map (r.estimate s.table.shape s.table.cells) keys

-- each part of the answer is that of this one state
pub record IsCopyOf (r : Rules) (s : StateView) (keys : List FlowKey) (a : Answer) : Type 0 where
  pub folded : a.folded ≡ s.folded
  pub front : a.front.items ≡ s.front
  pub upto : a.upto.items ≡ s.upto
  pub shown : a.shown.items ≡ estimates_in r s keys

-- the lists of the answer have the lengths of the workers and of the keys
pub record HasRoomFor (workers : ℕ) (keys : List FlowKey) (a : Answer) : Type 0 where
  pub front : length a.front.items ≡ workers
  pub upto : length a.upto.items ≡ workers
  pub shown : length a.shown.items ≡ length keys

-- what an ask leaves: whose answer it is and which one, and the rooms of its lists
pub record KeepsRest (old new : Answer) : Type 0 where
  pub reader : new.reader ≡ old.reader
  pub number : new.number ≡ old.number
  pub front_room : new.front.room ≡ old.front.room
  pub upto_room : new.upto.room ≡ old.upto.room
  pub shown_room : new.shown.room ≡ old.shown.room
