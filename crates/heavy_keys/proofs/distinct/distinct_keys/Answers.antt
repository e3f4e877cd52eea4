use Rattle.std.proofs.Common.{◌≡◌, ◌≤◌, ◌+◌, ◌∙◌, length, map, filter, ap, subst, sym, arith}
use Rattle.std.specs.List.{All}
use Rattle.std.proofs.lemmas.List.Elements.{All-filter}
use Rattle.heavy_keys.specs.Candidates.{IsCandidate, candidate_key}
use Rattle.heavy_keys.specs.SharedBits.{is_shared}
use Rattle.heavy_keys.proofs.Sharing.{counted, counted_le}
use Rattle.heavy_keys.proofs.distinct.distinct_keys.Goals as goal

pub keys_of-requires : goal.keys_of-requires
keys_of-requires c =
    subst (All (IsCandidate c.args.packets.now)) (sym (c.deref.ensures.value ∙ c.in_ok-lone.ensures.rest))
    (All-filter (is_shared c.in_ok-shared.shared) (IsCandidate c.args.packets.now) c.args.candidates.now c.requires)

pub overflow_add-result : goal.overflow_add-result
overflow_add-result c =
    let keys : c.in_ok-keys.keys.items ≡ map (candidate_key c.args.packets.now) (filter (is_shared c.in_ok-shared.shared) c.args.candidates.now) =
    c.in_ok-keys.ensures ∙ ap (map (candidate_key c.args.packets.now)) (c.deref.ensures.value ∙ c.in_ok-lone.ensures.rest) in
    let all = counted c.args.packets.now c.in_ok-shared.shared c.args.candidates.now c.in_ok-lone.field-0.lone c.distinct.result c.in_ok-keys.keys.items c.requires c.in_ok-shared.ensures.shared
    c.in_ok-lone.ensures.lone keys c.distinct.ensures in
    let few : c.in_ok-lone.field-0.lone + c.distinct.result ≤ length c.args.candidates.now = counted_le c.args.packets.now c.args.candidates.now (c.in_ok-lone.field-0.lone + c.distinct.result) all in
    omega (arith, few)

pub returns : goal.returns
returns c =
    let keys : c.in_ok-keys.keys.items ≡ map (candidate_key c.args.packets.now) (filter (is_shared c.in_ok-shared.shared) c.args.candidates.now) =
    c.in_ok-keys.ensures ∙ ap (map (candidate_key c.args.packets.now)) (c.deref.ensures.value ∙ c.in_ok-lone.ensures.rest) in
    counted c.args.packets.now c.in_ok-shared.shared c.args.candidates.now c.in_ok-lone.field-0.lone c.distinct.result c.in_ok-keys.keys.items c.requires c.in_ok-shared.ensures.shared
    c.in_ok-lone.ensures.lone keys c.distinct.ensures
