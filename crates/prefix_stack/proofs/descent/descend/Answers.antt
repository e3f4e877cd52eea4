use Rattle.std.proofs.Common.{◌≡◌, ◌∙◌, ◌+◌, ◌<◌, ◌++◌, ◌∷◌, [], List, false, w64, to_z, of_z, set, ap, arith, refl, subst, sym}
use Rattle.std.proofs.lemmas.Int.{to_z-of_z}
use Rattle.std.proofs.lemmas.List.{length-set}
use Rattle.hash_rows.specs.Tables.{TableView}
use Rattle.prefix_stack.specs.declared.hit.Hit.{Hit}
use Rattle.prefix_stack.specs.Descent.{IsFound, IsLevelOf, candidates_of, prefixes_of}
use Rattle.prefix_stack.proofs.Descending.{Descends, descent_begins, descent_ends, misses_none, one_level_more}
use Rattle.prefix_stack.proofs.descent.descend.Goals as goal

pub loop-place-init : goal.loop-place-init
loop-place-init c =
    let more = false ∷ false ∷ false ∷ false ∷ [] in
    let least = to_z w64 (of_z w64 c.args.least) in
    record {
      so_far = subst (λ (l : List Hit). Descends c.args.tables.now c.args.limit least 0 c.in_ok-parents.parents.items l more) (sym c.in_ok-new.ensures.empty)
          (descent_begins c.args.tables.now c.args.limit least c.in_ok-parents.parents.items more c.in_ok-parents.ensures);
      room = c.in_ok-new.ensures.room;
      four = refl;
    }

pub loop-place-preserved : goal.loop-place-preserved
loop-place-preserved c =
    let least = to_z w64 (of_z w64 c.args.least) in
    let before = c.loop-place.invariant in
    let lt : c.loop-place.place < 4 = omega (arith, c.loop-place-test.true, c.requires.four) in
    let reached = subst (λ (l : List Hit). IsLevelOf c.index-tables-place.result c.args.limit least (candidates_of (prefixes_of l)) c.in_ok-reached.reached) c.as_slice.ensures c.in_ok-reached.ensures in
    let items = c.add_hits.ensures.items ∙ ap (λ (l : List Hit). c.loop-place.found.hits.items ++ l) c.as_slice-in-loop-place.ensures in
    let next = one_level_more c.args.tables.now c.args.limit least c.loop-place.place c.loop-place.parents.items c.loop-place.found.hits.items c.loop-place.found.more
    before.so_far lt c.requires.four before.four c.index-tables-place.result (sym c.index-tables-place.is) c.in_ok-reached.reached reached in
    record {
      so_far = subst (λ (l : List Hit). Descends c.args.tables.now c.args.limit least (c.loop-place.place + 1) c.in_ok-reached.reached.hits.items l (set c.loop-place.found.more c.loop-place.place c.in_ok-reached.reached.more))
          (sym items) next;
      room = c.add_hits.ensures.room ∙ before.room;
      four = length-set c.loop-place.found.more c.loop-place.place c.in_ok-reached.reached.more ∙ before.four;
    }

pub returns-clause-found : goal.returns-clause-found
returns-clause-found c =
    let least = to_z w64 (of_z w64 c.args.least) in
    let all : c.loop-place.place ≡ 4 = omega (arith, c.loop-place-test.false, c.loop-place.auto.place-end, c.requires.four) in
    let end = subst (λ k. Descends c.args.tables.now c.args.limit least k c.loop-place.parents.items c.loop-place.found.hits.items c.loop-place.found.more) all c.loop-place.invariant.so_far in
    subst (λ z. IsFound c.args.tables.now c.args.limit z c.loop-place.found.hits.items c.loop-place.found.more) (to_z-of_z w64 c.args.least c.ranges.least)
    (descent_ends c.args.tables.now c.args.limit least c.loop-place.parents.items c.loop-place.found.hits.items c.loop-place.found.more c.requires.four c.loop-place.invariant.four end)

pub returns-clause-complete : goal.returns-clause-complete
returns-clause-complete c shape packets lawful total are =
    misses_none shape lawful packets total c.args.limit c.args.least c.loop-place.found.hits.items c.loop-place.found.more
    (subst (λ (ts : List TableView). IsFound ts c.args.limit c.args.least c.loop-place.found.hits.items c.loop-place.found.more) are (returns-clause-found c))

pub returns-clause-networks : goal.returns-clause-networks
returns-clause-networks c = c.loop-place.invariant.so_far.are_networks
