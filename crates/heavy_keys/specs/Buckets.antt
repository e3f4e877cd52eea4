-- Candidates in buckets by the top bits of their fingerprints.
use Rattle.std.specs.Prelude.{◌≡◌, ℕ, ◌<◌, ◌/◌, ◌==◌, List, Bool, filter, length, slice_index_or}
use Rattle.std.specs.Global.{Vec}
use Rattle.std.specs.List.{All}
use Rattle.heavy_keys.specs.declared.candidates.Candidate.{Candidate}

-- the list in which a fingerprint stands, by its top five bits
abbrev pub bucket_of : ℕ → ℕ
bucket_of fingerprint = fingerprint / 134217728

-- whether the candidate stands in the list
abbrev pub is_in_bucket : ℕ → Candidate → Bool
is_in_bucket bucket candidate = bucket_of candidate.fingerprint == bucket

-- each of the lists has those of the candidates that stand in it, in their order
pub record AreBuckets (candidates : List Candidate) (lists : List (Vec Candidate)) : Type 0 where
  pub count : length lists ≡ 32
  pub within : All (λ candidate. bucket_of candidate.fingerprint < 32) candidates
  pub each : (bucket : ℕ) (none : Vec Candidate) → bucket < 32
      → (slice_index_or lists bucket none).items ≡ filter (is_in_bucket bucket) candidates
