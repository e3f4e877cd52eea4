-- From candidates and their first ranks to the heaviest flows.
use Rattle.std.proofs.Common.{◌≡◌, ℕ, ℤ, List, map, refl, sym, ◌∙◌, ap}
use Rattle.std.specs.Global.{Vec}
use Rattle.std.specs.List.{sum_by}
use Rattle.std.specs.Set.{distinct_count}
use Rattle.std.proofs.lemmas.List.{length-map, take-map}
use Rattle.packet_key.specs.declared.key.FlowKey.{FlowKey}
use Rattle.hash_rows.specs.declared.shape.Flow.{Flow}
use Rattle.hash_rows.specs.declared.shape.Packet.{Packet}
use Rattle.push_history.specs.LiveHeavy.{same_key}
use Rattle.heavy_keys.specs.Candidates.{AreFound, in_order, candidate_key, ranks_of}
use Rattle.heavy_keys.specs.FinalHeavy.{AreHeaviest}
use Rattle.heavy_keys.specs.Ranks.{Rank, flow_at_rank, rank_order}
use Rattle.heavy_keys.specs.declared.candidates.Candidate.{Candidate}
use Rattle.heavy_keys.proofs.Counting.{count_ranks, count_sorted}
use Rattle.heavy_keys.proofs.InOrder.{each_put, none_else, sorted_in_order}
use Rattle.heavy_keys.proofs.KeyOrder.{exact_rank}
use Rattle.heavy_keys.proofs.BucketLemmas.{count_buckets}
use Rattle.heavy_keys.proofs.RankLemmas.{final_flows, heavy_alike}
use Rattle.heavy_keys.proofs.RankOrder.{total}

pub heaviest_from : (estimate_of : FlowKey → ℤ) (least : ℤ) (most : ℕ) (packets : List Packet) (lists : List (Vec Candidate)) (top : List Rank) (count : ℕ) (flows : List Flow)
    → AreFound estimate_of least most packets (map (λ p. p.key) packets) lists top → count ≡ sum_by (λ (list : Vec Candidate). distinct_count same_key (map (candidate_key packets) list.items)) lists → flows ≡ map flow_at_rank top
    → AreHeaviest estimate_of least (map (λ p. p.key) packets) most count flows
heaviest_from estimate_of least most packets lists top count flows h counted listed =
    let ranks : List Rank = ranks_of estimate_of packets h.candidates in
    let keys : List FlowKey = map (λ (p : Packet). p.key) packets in
    let once = count_sorted total exact_rank (in_order ranks) ranks (sorted_in_order rank_order total ranks) (none_else rank_order ranks) (each_put rank_order exact_rank ranks) in
    record {
      all = map flow_at_rank (in_order ranks);
      all_heavy = final_flows estimate_of least keys (in_order ranks) (map flow_at_rank (in_order ranks)) refl (sorted_in_order rank_order total ranks)
          (heavy_alike estimate_of least keys ranks (in_order ranks) (none_else rank_order ranks) (each_put rank_order exact_rank ranks) h.heavy);
      number = counted ∙ count_buckets packets h.candidates lists h.buckets h.each ∙ sym (count_ranks estimate_of (candidate_key packets) h.candidates) ∙ sym once ∙ sym (length-map (in_order ranks) flow_at_rank);
      first = listed ∙ ap (map flow_at_rank) h.top_are ∙ sym (take-map flow_at_rank most (in_order ranks));
    }
