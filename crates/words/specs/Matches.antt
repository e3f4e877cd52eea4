-- What the parse of a line leaves.
use Rattle.std.specs.Prelude.{◌≡◌, Bool, true, false, List, Option, Some, None, codes}
use Rattle.clap.specs.Words.{found_of, first_value, one_text}
use Rattle.clap.specs.declared.parser.matches.ArgMatches.{ArgMatches}
use Rattle.words.specs.Grammar.{IsCommandLine, Name, Part, Text, is_in, value_in}
use Rattle.words.specs.Names.{is_flag}

-- what is kept of a flag
abbrev pub flag_text : Bool → Text
flag_text true = codes "true"
flag_text false = codes "false"

-- the flag stands or not, and this is kept of it; nothing, where the command has no such flag
abbrev pub IsFlagKept : Bool → Option Text → Type 0
IsFlagKept stands None = stands ≡ false
IsFlagKept stands (Some text) = text ≡ flag_text stands

-- the matches are those of the parts
pub record AreMatches (parts : List Part) (m : ArgMatches) : Type 0 where
  pub values : (t : Text) → is_flag t ≡ false → first_value (found_of m) t ≡ value_in t parts
  pub flags : (t : Text) → is_flag t ≡ true → IsFlagKept (is_in t parts) (one_text (found_of m) t)

-- the words are a line of the grammar, and these are the matches however they are cut
pub record HasLine (names : List Name) (words : List Text) (m : ArgMatches) : Type 0 where
  pub line : (parts : List Part) × IsCommandLine names parts words
  pub matches : (parts : List Part) → IsCommandLine names parts words → AreMatches parts m
