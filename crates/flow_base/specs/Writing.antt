-- What a call that writes a text does to a sink.
use Rattle.std.specs.Prelude.{◌≡◌, ℕ, List, Option, Result, OnOk, OnErr}
use Rattle.flow_base.specs.Flow.{grown, TookFront}

-- the sink took the whole text, or after a fault a front of it and not all
pub record Writes {T E : Type 0} (old new : Option (List ℕ)) (text : List ℕ) (result : Result T E) : Type 0 where
  pub ok : OnOk result (new ≡ grown old text)
  pub err : OnErr result (TookFront old new text)
