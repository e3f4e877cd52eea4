-- The names that each command takes.
use Rattle.std.specs.Prelude.{Bool, true, false, List, [], ◌∷◌, ◌++◌, map, codes}
use Rattle.std.specs.List.{list_any}
use Rattle.std.specs.Str.{bytes_eq}
use Rattle.words.specs.Grammar.{Name, Text}
use Rattle.words.specs.declared.names.Verb.{Verb}
use Rattle.words.specs.declared.names.Verb.TheVariants.{Run, Load, Prefix, Epochs}

-- a name with a value
abbrev pub an_option : Text → Name
an_option text = record { text = text; has_value = true }

-- a name without one
abbrev pub a_flag : Text → Name
a_flag text = record { text = text; has_value = false }

-- the text is that of a flag; no command takes it as an option
abbrev pub is_flag : Text → Bool
is_flag text = list_any (λ flag. bytes_eq flag text) (codes "journal" ∷ [])

-- the options that every command with options takes
abbrev pub shared_options : List Name
shared_options = map an_option (codes "rows"
    ∷ codes "columns"
    ∷ codes "threshold"
    ∷ codes "lane"
    ∷ codes "batch"
    ∷ codes "round"
    ∷ codes "amount"
    ∷ codes "workers"
    ∷ codes "share"
    ∷ codes "heavy"
    ∷ codes "least"
    ∷ codes "full"
    ∷ [])

-- the options that a command takes beside them
abbrev pub own_options : Verb → List Name
own_options Run = map an_option (codes "sketch" ∷ codes "mode" ∷ codes "watch" ∷ codes "readers" ∷ codes "asks" ∷ [])
own_options Load = map an_option (codes "sketch" ∷ codes "mode" ∷ codes "watch" ∷ codes "readers" ∷ codes "asks"
    ∷ codes "records" ∷ codes "start" ∷ [])
own_options Prefix = map an_option (codes "watch" ∷ codes "readers" ∷ codes "asks" ∷ [])
own_options Epochs = map an_option (codes "mode" ∷ codes "packets" ∷ codes "change" ∷ [])

-- its flags
abbrev pub own_flags : Verb → List Name
own_flags Run = map a_flag (codes "journal" ∷ [])
own_flags Load = map a_flag (codes "journal" ∷ [])
own_flags Prefix = []
own_flags Epochs = []

-- all names of a command
abbrev pub names_of : Verb → List Name
names_of verb = (shared_options ++ own_options verb) ++ own_flags verb
