-- Packets whose keys are heavy, and the ranks of those keys.
use Rattle.std.specs.Prelude.{◌≡◌, ℕ, ◌<◌, ◌/◌, ℤ, List, [], map, take, fold, length, slice_index_or, ◌++◌, Contains}
use Rattle.std.specs.BTreeSet.{insert_key}
use Rattle.std.specs.Global.{Vec}
use Rattle.std.specs.List.{All}
use Rattle.packet_key.specs.declared.key.FlowKey.{FlowKey}
use Rattle.packet_key.specs.declared.key.FlowKey.TheVariants.{V4}
use Rattle.hash_rows.specs.declared.shape.Packet.{Packet}
use Rattle.heavy_keys.specs.Ranks.{AreHeavy, Rank, flow_rank, rank_order}
use Rattle.heavy_keys.specs.Buckets.{AreBuckets}
use Rattle.heavy_keys.specs.Fingerprints.{fingerprint_of}
use Rattle.heavy_keys.specs.declared.candidates.Candidate.{Candidate}

-- what a list of packets shows past its end
abbrev pub no_packet : Packet
no_packet = record { key = V4 0 0 0 0 0; amount = 0 }

-- the key of the packet at the place
abbrev pub key_of_place : List Packet → ℕ → FlowKey
key_of_place packets place = (slice_index_or packets place no_packet).key

-- the key of the packet at the candidate's place
abbrev pub candidate_key : List Packet → Candidate → FlowKey
candidate_key packets candidate = key_of_place packets candidate.place

-- the candidate's place is that of a packet, and its fingerprint is that of the packet's key
pub record IsCandidate (packets : List Packet) (candidate : Candidate) : Type 0 where
  pub place : candidate.place < length packets
  pub fingerprint : candidate.fingerprint ≡ fingerprint_of (candidate_key packets candidate) / 4294967296

-- its rank with its estimate
abbrev pub rank_by : (FlowKey → ℤ) → FlowKey → Rank
rank_by estimate_of key = flow_rank (estimate_of key) key

-- the ranks of the candidates' keys
abbrev pub ranks_of : (FlowKey → ℤ) → List Packet → List Candidate → List Rank
ranks_of estimate_of packets candidates = map (λ candidate. rank_by estimate_of (candidate_key packets candidate)) candidates

-- the ranks in order, each once
abbrev pub in_order : List Rank → List Rank
in_order ranks = fold (insert_key rank_order) [] ranks

-- the heavy ones of these keys are those of the candidates in the lists, in the order in which they were found, and
-- the first of their ranks are known
pub record AreFound (estimate_of : FlowKey → ℤ) (least : ℤ) (most : ℕ) (packets : List Packet) (keys : List FlowKey)
    (lists : List (Vec Candidate)) (top : List Rank) : Type 0 where
  pub candidates : List Candidate
  pub buckets : AreBuckets candidates lists
  pub heavy : AreHeavy estimate_of least keys (ranks_of estimate_of packets candidates)
  pub top_are : top ≡ take most (in_order (ranks_of estimate_of packets candidates))
  pub each : All (IsCandidate packets) candidates

-- the same of the first packets, and of some others that were weighed before
pub record AreFoundUpTo (estimate_of : FlowKey → ℤ) (least : ℤ) (most : ℕ) (packets : List Packet) (count : ℕ)
    (lists : List (Vec Candidate)) (top : List Rank) : Type 0 where
  pub others : List FlowKey
  pub theirs : (key : FlowKey) → Contains others key → Contains (map (λ p. p.key) packets) key
  pub found : AreFound estimate_of least most packets (others ++ map (λ p. p.key) (take count packets)) lists top
