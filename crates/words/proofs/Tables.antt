-- The names of each command.
use Rattle.std.proofs.Common.{◌≡◌, refl, true}
use Rattle.std.specs.List.{list_all}
use Rattle.words.specs.Names.{names_of}
use Rattle.words.specs.declared.names.Verb.{Verb}
use Rattle.words.specs.declared.names.Verb.TheVariants.{Run, Load, Prefix, Epochs}
use Rattle.words.proofs.Apps.{fits_kind}
use Rattle.words.proofs.Lines.{are_names}

-- none is empty or has a `=`
pub named : (v : Verb) → are_names (names_of v) ≡ true
named Run = refl
named Load = refl
named Prefix = refl
named Epochs = refl

-- each is a flag or an option as it is in every command
pub fitted : (v : Verb) → list_all fits_kind (names_of v) ≡ true
fitted Run = refl
fitted Load = refl
fitted Prefix = refl
fitted Epochs = refl
