-- Bits that tell which candidates may have a key in common.
use Rattle.std.specs.Prelude.{◌≡◌, ℕ, ◌*◌, ◌/◌, ◌%◌, List, length, Bool, slice_index_or, true, false}
use Rattle.std.specs.List.{AllPairs}
use Rattle.heavy_keys.specs.declared.candidates.Candidate.{Candidate}

-- the bit of a fingerprint among so many, by what stands below the top five bits, which are the same throughout a list
unfoldable pub bit_of : ℕ → ℕ → ℕ
bit_of fingerprint len = (((fingerprint * 32) % 4294967296) * len) / 4294967296

-- whether the bit at the place is set
abbrev pub is_set : List Bool → ℕ → Bool
is_set bits place = slice_index_or bits place false

-- whether the candidate's bit is set
abbrev pub is_shared : List Bool → Candidate → Bool
is_shared bits candidate = is_set bits (bit_of candidate.fingerprint (length bits))

-- of so many bits those are set whose fingerprint two of the candidates have, and maybe more
abbrev pub AreShared : ℕ → List Candidate → List Bool → Type 0
AreShared len candidates bits = AllPairs (λ (one other : Candidate). one.fingerprint ≡ other.fingerprint
    → is_set bits (bit_of one.fingerprint len) ≡ true) candidates
