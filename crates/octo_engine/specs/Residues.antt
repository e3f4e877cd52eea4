-- What is left of each worker once all is folded.
use Rattle.std.specs.Prelude.{◌≡◌, ◌<◌, ℕ, ℤ, List, [], Bool, false, length, slice_index_or}
use Rattle.hash_rows.specs.Rules.{Rules}
use Rattle.push_history.specs.LagRun.{Terms, Worker, updates_by}
use Rattle.push_history.specs.Pushes.{is_refused}
use Rattle.push_history.specs.Residue.{residue}
use Rattle.push_rule.specs.Keeps.{Keeps}
use Rattle.octo_engine.specs.declared.worker.Part.{Part}

-- what the worker counted of a cell and did not tell
abbrev pub residue_by : Terms → (ℕ → Worker) → ℕ → ℕ → ℤ
residue_by t xs w cell = residue t.rules (updates_by t w) (xs w).sent (xs w).counted cell

module _ {K Held : Type 0} where
  -- the bits tell of each update of the worker whether it was refused
  pub record IsRow (r : Rules) (stands : Held → ℤ → ℤ → Type 0) (p : Part K Held) (bits : List Bool) : Type 0 where
    pub len : length bits ≡ p.counter.sketch.room
    pub marks : (t : Terms) (w : ℕ) (x : Worker) → t.rules ≡ r → Keeps stands t w p.counter x → (k : ℕ)
        → slice_index_or bits k false ≡ is_refused k x.refused

  -- there is a row for each worker
  pub record HasRefused (r : Rules) (stands : Held → ℤ → ℤ → Type 0) (parts : List (Part K Held)) (rows : List (List Bool)) : Type 0 where
    pub rows_len : length rows ≡ length parts
    pub each : (w : ℕ) (p : Part K Held) → w < length parts → IsRow r stands (slice_index_or parts w p) (slice_index_or rows w [])
