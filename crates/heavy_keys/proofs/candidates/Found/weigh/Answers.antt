use Rattle.std.proofs.Common.{rules, ◌≤ℤ◌, ◌<ℤ◌, ap, sym, ◌∙◌, arith, subst, w64, take}
use Rattle.std.specs.BTreeSet.{insert_key}
use Rattle.std.proofs.lemmas.Int.{ints}
use Rattle.std.proofs.lemmas.Result.{on_ok_weaker}
use Rattle.std.proofs.Math.Facts.{to_z-of_z}
use Rattle.heavy_keys.specs.Candidates.{key_of_place}
use Rattle.heavy_keys.specs.Ranks.{flow_rank, rank_order}
use Rattle.heavy_keys.proofs.FoundLemmas.{found_low, found_more}
use Rattle.heavy_keys.proofs.candidates.Found.weigh.Goals as goal

pub returns-then-estimate-least-clause-found : goal.returns-then-estimate-least-clause-found
returns-then-estimate-least-clause-found g c = λ keys.
    found_low _ _ c.args.most c.args.packets.now c.args.at c.args.self.now.buckets.lists.items c.args.self.now.top.keys c.requires.place keys (λ up.
    let low : c.estimate_of-estimate.result <ℤ c.args.least = search rules in
    let high : c.args.least ≤ℤ c.estimate_of-estimate.result = subst (λ x. c.args.least ≤ℤ x) (sym c.estimate_of-estimate.ensures) up in
    omega (arith, ints, low, high))

pub returns-clause-found : goal.returns-clause-found
returns-clause-found g c = on_ok_weaker c.offer.result (λ offered keys found.
    let high : c.args.least ≤ℤ c.estimate_of-estimate.result = search rules in
    let exact = to_z-of_z {w = w64} {z = c.estimate_of-estimate.result} (record { sfits = c.estimate_of-estimate.type_inv }) in
    found_more _ _ c.args.most c.args.packets.now c.args.at c.args.self.now.buckets.lists.items c.args.self.now.top.keys c.requires.place keys c.estimate_of-estimate.result c.args.hash
    c.add.new.buckets.lists.items c.offer.new.top.keys found c.estimate_of-estimate.ensures high c.requires.hash c.in_ok-add.ensures
    (offered ∙ ap (λ z. take c.args.most (insert_key rank_order c.args.self.now.top.keys (flow_rank z (key_of_place c.args.packets.now c.args.at)))) exact)) c.offer.ensures
