use Rattle.std.proofs.Common.{rules, ◌∙◌, ◌<◌, ◌++◌, ◌∷◌, [], ◌==◌, ℕ, Bool, List, sym, ap, arith, length, slice_index_or, if◌then◌else◌}
use Rattle.std.specs.Prelude.{filter}
use Rattle.std.specs.List.{range_with_len}
use Rattle.std.proofs.lemmas.Option.{get_or_from_slice_get}
use Rattle.shares.proofs.Owning.{owned_more, owned_room}
use Rattle.shares.proofs.owners.share_of_owner.Goals as goal

pub add_if_owned-requires : goal.add_if_owned-requires
add_if_owned-requires c is =
    let p : ℕ → Bool = λ i. slice_index_or c.args.owners.now.items i 0 == c.args.worker in
    let here = get_or_from_slice_get c.args.owners.now.items c.loop-position.position c.get-owner.result.now 0 c.get-owner.ensures in
    let below : c.loop-position.position < length c.args.owners.now.items = search rules in
    let room = owned_room p c.loop-position.position (length c.args.owners.now.items) below (ap (λ z. z == c.args.worker) here ∙ is) in
    let items = ap length c.loop-position.invariant.0 in
    omega (arith, items, c.loop-position.invariant.1, room)

pub loop-position-preserved : goal.loop-position-preserved
loop-position-preserved c =
    let p : ℕ → Bool = λ i. slice_index_or c.args.owners.now.items i 0 == c.args.worker in
    let here = get_or_from_slice_get c.args.owners.now.items c.loop-position.position c.get-owner.result.now 0 c.get-owner.ensures in
    let place = c.loop-position.position in (
      c.add_if_owned.ensures.items
          ∙ ap (λ (l : List ℕ). if c.get-owner.result.now == c.args.worker then l ++ place ∷ [] else l) c.loop-position.invariant.0
          ∙ ap (λ z. if z == c.args.worker then filter p (range_with_len 0 place) ++ place ∷ [] else filter p (range_with_len 0 place)) (sym here)
          ∙ sym (owned_more p place),
      c.add_if_owned.ensures.room ∙ c.loop-position.invariant.1,
    )
