-- Lawful options.
use Rattle.std.specs.Prelude.{◌≡◌, ◌≢◌, ◌≤◌, ◌≤ℤ◌, ◌⊎◌, ℕ, pos, List, [], length, AllPairs}
use Rattle.packet_key.specs.declared.key.FlowKey.{FlowKey}
use Rattle.hash_rows.specs.declared.options.Options.{Options}
use Rattle.hash_rows.specs.declared.options.Sketch.{Sketch}
use Rattle.hash_rows.specs.declared.options.Sketch.TheVariants.{LogLog}
use Rattle.hash_rows.specs.declared.shape.Shape.{Shape}
use Rattle.hash_rows.specs.Shapes.{IsShape}

-- a power of two from 128 to 16,384
abbrev pub IsRegisters : ℕ → Type 0
IsRegisters n = (n ≡ 128) ⊎ (n ≡ 256) ⊎ (n ≡ 512) ⊎ (n ≡ 1024) ⊎ (n ≡ 2048) ⊎ (n ≡ 4096) ⊎ (n ≡ 8192) ⊎ (n ≡ 16384)

-- what a sketch asks of the shape and the watched keys
abbrev pub Suits : Sketch → Shape → List FlowKey → Type 0
Suits LogLog shape watch = (shape.rows ≡ 1) × IsRegisters shape.columns × (watch ≡ [])
Suits _ shape watch = Unit {0}

-- each number is in its range, and the watched keys differ
pub record IsLawful (o : Options) : Type 0 where
  pub shape : IsShape o.shape
  pub some_workers : 1 ≤ o.workers
  pub workers : o.workers ≤ 16
  pub some_threshold : 1 ≤ o.threshold
  pub threshold : o.threshold ≤ 1099511627776
  pub some_lane : 1 ≤ o.lane
  pub lane : o.lane ≤ 4096
  pub some_batch : 1 ≤ o.batch
  pub batch : o.batch ≤ 1024
  pub some_round : 1 ≤ o.round
  pub round : o.round ≤ 65536
  pub readers : o.readers ≤ 4
  pub asks : o.asks ≤ 1024
  pub watch : length o.watch.items ≤ 16
  pub distinct : AllPairs (λ a b. a ≢ b) o.watch.items
  pub some_heavy : 1 ≤ o.heavy
  pub heavy : o.heavy ≤ 1024
  pub some_least : pos 1 ≤ℤ o.least
  pub least : o.least ≤ℤ pos 1099511627776
  pub suits : Suits o.sketch o.shape o.watch.items
