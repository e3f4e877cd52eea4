-- What the line of the options says.
use Rattle.std.specs.Prelude.{◌≡◌, ◌≤◌, ◌≤ℤ◌, pos, [], true}
use Rattle.hash_rows.specs.declared.options.Options.{Options}
use Rattle.hash_rows.specs.Shapes.{IsShape}
use Rattle.journal_read.specs.declared.options.SketchWords.{SketchWords}
use Rattle.journal_read.specs.declared.options.ShareWords.{ShareWords}
use Rattle.journal_read.specs.declared.options.LaneWords.{LaneWords}
use Rattle.journal_read.specs.declared.options.QueryWords.{QueryWords}

-- the options as their line tells them: with no watched key yet, and the journal asked for
abbrev pub told_options : Options → Options
told_options o = record o { watch = record { items = []; room = 16 }; journal = true }

-- each group of words says what the options have
pub record IsSketchOf (o : Options) (said : SketchWords) : Type 0 where
  pub sketch : said.sketch ≡ o.sketch
  pub shape : said.shape ≡ o.shape
  pub amount : said.amount ≡ o.amount

-- the words on shares are those of the options
pub record IsShareOf (o : Options) (said : ShareWords) : Type 0 where
  pub share : said.share ≡ o.share
  pub workers : said.workers ≡ o.workers
  pub threshold : said.threshold ≡ o.threshold

-- the words on lanes and rounds are those of the options
pub record AreLanesOf (o : Options) (said : LaneWords) : Type 0 where
  pub lane : said.lane ≡ o.lane
  pub batch : said.batch ≡ o.batch
  pub round : said.round ≡ o.round
  pub full : said.full ≡ o.full

-- the words on readers and heavy keys are those of the options
pub record AreQueriesOf (o : Options) (said : QueryWords) : Type 0 where
  pub mode : said.mode ≡ o.mode
  pub readers : said.readers ≡ o.readers
  pub asks : said.asks ≡ o.asks
  pub heavy : said.heavy ≡ o.heavy
  pub least : said.least ≡ o.least

-- how many there are of each is in its range
pub record HasCounts (o : Options) : Type 0 where
  pub shape : IsShape o.shape
  pub some_workers : 1 ≤ o.workers
  pub workers : o.workers ≤ 16
  pub readers : o.readers ≤ 4
  pub asks : o.asks ≤ 1024
  pub some_heavy : 1 ≤ o.heavy
  pub heavy : o.heavy ≤ 1024

-- the other numbers are in theirs
pub record HasRates (o : Options) : Type 0 where
  pub some_threshold : 1 ≤ o.threshold
  pub threshold : o.threshold ≤ 1099511627776
  pub some_lane : 1 ≤ o.lane
  pub lane : o.lane ≤ 4096
  pub some_batch : 1 ≤ o.batch
  pub batch : o.batch ≤ 1024
  pub some_round : 1 ≤ o.round
  pub round : o.round ≤ 65536
  pub some_least : pos 1 ≤ℤ o.least
  pub least : o.least ≤ℤ pos 1099511627776
