-- What a reader is shown at one look.
use Rattle.std.specs.Prelude.{◌≡◌, List, length, map}
use Rattle.hash_rows.specs.declared.answer.Answer.{Answer}
use Rattle.hash_rows.specs.declared.options.Options.{Options}
use Rattle.hash_rows.specs.declared.shape.Push.{Push}
use Rattle.hash_rows.specs.Rules.{Rules}
use Rattle.push_history.specs.Front.{front_of, uptos_of}
use Rattle.push_history.specs.Journal.{keys_of}
use Rattle.push_history.specs.Shown.{told_cells}

-- what these messages tell, where all of them are shown
pub record IsLook (r : Rules) (o : Options) (messages : List Push) (a : Answer) : Type 0 where
  pub folded : a.folded ≡ length messages
  pub front : a.front.items ≡ front_of o.workers messages
  pub upto : a.upto.items ≡ uptos_of o.workers messages
  pub shown : a.shown.items ≡ map (r.estimate o.shape (told_cells r o.shape messages)) (keys_of o)
