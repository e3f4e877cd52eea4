-- Lines that are read.
use Rattle.std.specs.Prelude.{◌≡◌, ◌≢◌, ◌<◌, ◌≤◌, ℕ, ◌∷◌, ◌++◌, List, [], All, Bool, true, false, length, take, min, Option, IfSome}
use Rattle.flow_base.specs.Flow.{behind}
use Rattle.flow_base.specs.declared.ahead.Ahead.{Ahead}
use Rattle.flow_base.specs.declared.lines.LineEnd.{LineEnd}
use Rattle.flow_base.specs.declared.lines.LineEnd.TheVariants.{Whole, Long, Unfinished}

-- what is left: the bytes ahead, and then what is left of the source
abbrev pub left_of : {S : Type 0} → (S → Option (List ℕ)) → Ahead S → Option (List ℕ)
left_of left a = behind a.window (left a.source.now)

-- no line feed stands in the bytes
abbrev pub HasNoFeed : List ℕ → Type 0
HasNoFeed bytes = All (λ b. b ≢ 10) bytes

-- the bytes are a line that ends so, with this left behind it
abbrev pub IsLine : Option (List ℕ) → List ℕ → LineEnd → Type 0
IsLine rest bytes Whole = (body : List ℕ) × (bytes ≡ body ++ 10 ∷ []) × HasNoFeed body
IsLine rest bytes Long = (length bytes ≡ 1024) × HasNoFeed bytes
IsLine rest bytes Unfinished = (length bytes < 1024) × HasNoFeed bytes × IfSome rest (λ bs. bs ≡ [])

-- fewer bytes than a line may have were given, without a line feed
pub record BrokeOff (old new : Option (List ℕ)) : Type 0 where
  pub given : List ℕ
  pub taken : old ≡ behind given new
  pub unended : HasNoFeed given
  pub short : length given < 1024

-- so many bytes of the window belong to a line with this room: up to its line feed, or as many as there are
abbrev pub IsCut : List ℕ → ℕ → ℕ → Bool → Type 0
IsCut window room count true = (0 < count) × (count ≤ room) × (count ≤ length window) × (body : List ℕ)
    × (take count window ≡ body ++ 10 ∷ []) × HasNoFeed body
IsCut window room count false = (0 < count) × (count ≤ length window) × (count ≡ min room (length window)) × HasNoFeed (take count window)
