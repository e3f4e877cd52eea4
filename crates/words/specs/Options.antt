-- The commands that words give.
use Rattle.std.specs.Prelude.{◌≡◌, ◌≤◌, ◌∷◌, ◌||◌, ℕ, Bool, true, not, List, [], Option, None, is_some, codes}
use Rattle.hash_rows.specs.Lawful.{IsLawful, IsRegisters}
use Rattle.listed.specs.Listed.{Listed}
use Rattle.prefixes.specs.declared.network.Prefix.{Prefix as Network}
use Rattle.prefixes.specs.Networks.{AreWatched}
use Rattle.hash_rows.specs.OptionTexts.{amount_text, full_text, mode_text, share_text, sketch_text}
use Rattle.hash_rows.specs.declared.options.Amount.TheVariants.{Packets}
use Rattle.hash_rows.specs.declared.options.Full.TheVariants.{Leave}
use Rattle.hash_rows.specs.declared.options.Mode.TheVariants.{Rounds}
use Rattle.hash_rows.specs.declared.options.Options.{Options}
use Rattle.hash_rows.specs.declared.options.Share.TheVariants.{Turn}
use Rattle.hash_rows.specs.declared.options.Sketch.{Sketch}
use Rattle.hash_rows.specs.declared.options.Sketch.TheVariants.{CountMin, CountSketch, LogLog}
use Rattle.hash_rows.specs.declared.shape.Shape.{Shape}
use Rattle.words.specs.Grammar.{IsCommandLine, Part, Text, is_in, value_in}
use Rattle.words.specs.Names.{names_of}
use Rattle.words.specs.declared.names.Verb.TheVariants.{Run as RunVerb, Load as LoadVerb, Prefix as PrefixVerb, Epochs as EpochsVerb}
use Rattle.words.specs.Values.{NeedsNumber, ReadsChoice, ReadsInteger, ReadsKeys, ReadsNetworks, IsNumberOf}
use Rattle.words.specs.declared.command.Command.{Command}
use Rattle.words.specs.declared.command.Command.TheVariants.{Run, Load, Prefix, Epochs, Audit}

-- the greatest number of rows, and the numbers where none is given
abbrev pub most_rows : Sketch → ℕ
most_rows LogLog = 1
most_rows _ = 8

-- the rows where none are given
abbrev pub usual_rows : Sketch → ℕ
usual_rows LogLog = 1
usual_rows _ = 4

-- the threshold where none is given
abbrev pub usual_threshold : Sketch → ℕ
usual_threshold LogLog = 1
usual_threshold _ = 16

-- the columns that a sketch can have, among those from 1 to 65,536
abbrev pub HasRegisters : Sketch → ℕ → Type 0
HasRegisters LogLog n = IsRegisters n
HasRegisters _ n = Unit {0}

-- the parts name nothing that the sketch has no use for
abbrev pub suits : Sketch → List Part → Bool
suits LogLog parts = not (is_some (value_in (codes "amount") parts) || is_some (value_in (codes "watch") parts)
    || is_some (value_in (codes "heavy") parts) || is_some (value_in (codes "least") parts))
suits _ parts = true

-- the parts give the shape of this sketch
pub record GivesShape (parts : List Part) (sketch : Sketch) (shape : Shape) : Type 0 where
  pub rows : IsNumberOf 1 (most_rows sketch) (usual_rows sketch) (value_in (codes "rows") parts) shape.rows
  pub columns : IsNumberOf 1 65536 2048 (value_in (codes "columns") parts) shape.columns
  pub registers : HasRegisters sketch shape.columns

-- the parts give these options: the usual sketch where none is chosen, and the keys that the text lists, with room for the most
-- that can be watched
pub record GivesOptions (usual : Sketch) (keys : Option Text) (parts : List Part) (o : Options) : Type 0 where
  pub sketch : ReadsChoice sketch_text usual (value_in (codes "sketch") parts) o.sketch
  pub suited : suits o.sketch parts ≡ true
  pub shape : GivesShape parts o.sketch o.shape
  pub amount : ReadsChoice amount_text Packets (value_in (codes "amount") parts) o.amount
  pub share : ReadsChoice share_text Turn (value_in (codes "share") parts) o.share
  pub workers : IsNumberOf 1 16 4 (value_in (codes "workers") parts) o.workers
  pub threshold : IsNumberOf 1 1099511627776 (usual_threshold o.sketch) (value_in (codes "threshold") parts) o.threshold
  pub lane : IsNumberOf 1 4096 64 (value_in (codes "lane") parts) o.lane
  pub batch : IsNumberOf 1 1024 32 (value_in (codes "batch") parts) o.batch
  pub round : IsNumberOf 1 65536 64 (value_in (codes "round") parts) o.round
  pub full : ReadsChoice full_text Leave (value_in (codes "full") parts) o.full
  pub mode : ReadsChoice mode_text Rounds (value_in (codes "mode") parts) o.mode
  pub readers : IsNumberOf 0 4 0 (value_in (codes "readers") parts) o.readers
  pub asks : IsNumberOf 0 1024 0 (value_in (codes "asks") parts) o.asks
  pub watch : ReadsKeys keys o.watch.items
  pub room : o.watch.room ≡ 16
  pub heavy : IsNumberOf 1 1024 64 (value_in (codes "heavy") parts) o.heavy
  pub least : ReadsInteger 1 1099511627776 1024 (value_in (codes "least") parts) o.least
  pub journal : o.journal ≡ is_in (codes "journal") parts

-- the same, where Count-Min is usual and keys may be watched
abbrev pub GivesWatched : List Part → Options → Type 0
GivesWatched parts o = GivesOptions CountMin (value_in (codes "watch") parts) parts o

-- the words behind `run` give the options
abbrev pub GivesRun : List Text → Options → Type 0
GivesRun rest o = (parts : List Part) × IsCommandLine (names_of RunVerb) parts rest × GivesWatched parts o

-- the words behind `load` give the number of records, the start and the options
abbrev pub GivesLoad : List Text → ℕ → ℕ → Options → Type 0
GivesLoad rest records start o = (parts : List Part) × IsCommandLine (names_of LoadVerb) parts rest × GivesWatched parts o
    × NeedsNumber 0 1048576 (value_in (codes "records") parts) records
    × NeedsNumber 0 4294967295 (value_in (codes "start") parts) start

-- the words behind `prefix` give the options, with Count-Min, in rounds and without keys, and the watched networks, with room for
-- the most that can be watched
abbrev pub GivesPrefix : List Text → Options → Listed Network → Type 0
GivesPrefix rest o watch = (parts : List Part) × IsCommandLine (names_of PrefixVerb) parts rest × GivesOptions CountMin None parts o
    × ReadsNetworks (value_in (codes "watch") parts) watch.items × (watch.room ≡ 16)

-- the words behind `epochs` give the packets of an epoch, the least change, and the options, with Count Sketch and without keys
abbrev pub GivesEpochs : List Text → ℕ → ℕ → Options → Type 0
GivesEpochs rest packets change o = (parts : List Part) × IsCommandLine (names_of EpochsVerb) parts rest
    × GivesOptions CountSketch None parts o
    × NeedsNumber 256 16777216 (value_in (codes "packets") parts) packets
    × IsNumberOf 1 1099511627776 1024 (value_in (codes "change") parts) change

-- the grammar: the words give the command
abbrev pub Gives : List Text → Command → Type 0
Gives words (Run o) = (rest : List Text) × (words ≡ codes "run" ∷ rest) × GivesRun rest o
Gives words (Load records start o) = (rest : List Text) × (words ≡ codes "load" ∷ rest) × GivesLoad rest records start o
Gives words (Prefix o watch) = (rest : List Text) × (words ≡ codes "prefix" ∷ rest) × GivesPrefix rest o watch
Gives words (Epochs packets change o) = (rest : List Text) × (words ≡ codes "epochs" ∷ rest) × GivesEpochs rest packets change o
Gives words Audit = words ≡ codes "audit" ∷ []

-- a Count Sketch, with nothing to watch and no one to ask, and the numbers in their ranges
pub record AreEpochOptions (size least : ℕ) (o : Options) : Type 0 where
  pub lawful : IsLawful o
  pub sketch : o.sketch ≡ CountSketch
  pub watch : o.watch.items ≡ []
  pub readers : o.readers ≡ 0
  pub asks : o.asks ≡ 0
  pub some_packets : 256 ≤ size
  pub packets : size ≤ 16777216
  pub some_change : 1 ≤ least
  pub change : least ≤ 1099511627776

-- the options are lawful, no more records are generated than may be, networks are counted by a Count-Min in rounds, and epochs by a
-- Count Sketch
abbrev pub IsLawfulCommand : Command → Type 0
IsLawfulCommand (Run o) = IsLawful o
IsLawfulCommand (Load records start o) = IsLawful o × (records ≤ 1048576)
IsLawfulCommand (Prefix o watch) = IsLawful o × (o.sketch ≡ CountMin) × (o.mode ≡ Rounds) × AreWatched watch.items
IsLawfulCommand (Epochs packets change o) = AreEpochOptions packets change o
IsLawfulCommand Audit = Unit {0}
