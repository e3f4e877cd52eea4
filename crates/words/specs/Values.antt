-- What the values of a line say: numbers, choices and lists of keys.
use Rattle.std.specs.Prelude.{◌≡◌, ◌≢◌, ◌≤◌, ℕ, ℤ, pos, List, [], map, length, Option, Some, None, All, AllPairs, MatchOption, decimal}
use Rattle.std.specs.List.{join_with_byte}
use Rattle.packet_key.specs.declared.key.FlowKey.{FlowKey}
use Rattle.packet_key.specs.KeyText.{IsKey, text_of}
use Rattle.prefixes.specs.declared.network.Prefix.{Prefix}
use Rattle.prefixes.specs.Networks.{IsNetwork}
use Rattle.prefixes.specs.Texts.{prefix_text}
use Rattle.words.specs.Grammar.{Text}

-- the answer is a value that has the property, and `None` only where no value has it
abbrev pub Finds : {X : Type 0} → (X → Type 0) → Option X → Type 0
Finds {X} Has answer = MatchOption answer ((x : X) → Has x → ⊥) Has

-- the text writes the number in digits, without a sign or a leading zero, and it is in range
abbrev pub IsNumberIn : ℕ → ℕ → Text → ℕ → Type 0
IsNumberIn low high text n = (text ≡ decimal n) × (low ≤ n) × (n ≤ high)

-- the number of a name that has to stand
abbrev pub NeedsNumber : ℕ → ℕ → Option Text → ℕ → Type 0
NeedsNumber low high None n = ⊥
NeedsNumber low high (Some text) n = IsNumberIn low high text n

-- the number of a name that may be missing
abbrev pub IsNumberOf : ℕ → ℕ → ℕ → Option Text → ℕ → Type 0
IsNumberOf low high otherwise None n = n ≡ otherwise
IsNumberOf low high otherwise (Some text) n = IsNumberIn low high text n

-- the same of a number that is kept with a sign
abbrev pub ReadsInteger : ℕ → ℕ → ℕ → Option Text → ℤ → Type 0
ReadsInteger low high otherwise None z = z ≡ pos otherwise
ReadsInteger low high otherwise (Some text) z = (n : ℕ) × (z ≡ pos n) × IsNumberIn low high text n

-- the choice of a name that may be missing, where each choice has a text
abbrev pub ReadsChoice : {C : Type 0} → (C → Text) → C → Option Text → C → Type 0
ReadsChoice text_for otherwise None c = c ≡ otherwise
ReadsChoice text_for otherwise (Some text) c = text ≡ text_for c

-- the text is the texts of 1 to 16 different things, joined by commas
pub record Joins {X : Type 0} (HasText : X → Type 0) (text_for : X → Text) (text : Text) (items : List X) : Type 0 where
  pub joined : text ≡ join_with_byte 44 (map text_for items)
  pub some : 1 ≤ length items
  pub most : length items ≤ 16
  pub have_texts : All HasText items
  pub differ : AllPairs (λ a b. a ≢ b) items

-- the list of a name that may be missing
abbrev pub ReadsList : {X : Type 0} → (X → Type 0) → (X → Text) → Option Text → List X → Type 0
ReadsList HasText text_for None items = items ≡ []
ReadsList HasText text_for (Some text) items = Joins HasText text_for text items

-- the keys of a name that may be missing
abbrev pub ReadsKeys : Option Text → List FlowKey → Type 0
ReadsKeys text keys = ReadsList IsKey text_of text keys

-- the networks of a name that may be missing
abbrev pub ReadsNetworks : Option Text → List Prefix → Type 0
ReadsNetworks text networks = ReadsList IsNetwork prefix_text text networks
