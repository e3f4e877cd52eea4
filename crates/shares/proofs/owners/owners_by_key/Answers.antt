use Rattle.std.proofs.Common.{◌≡◌, ◌∙◌, ◌++◌, ◌∷◌, [], ℕ, List, sym, ap, arith, length, map}
use Rattle.std.specs.List.{range_with_len}
use Rattle.std.proofs.lemmas.List.FromFn.{length-map-range_with_len, map-range_with_len_more}
use Rattle.hash_rows.specs.declared.options.Share.TheVariants.{Key}
use Rattle.push_history.specs.Share.{worker_of}
use Rattle.shares.proofs.owners.owners_by_key.Goals as goal

pub push-requires : goal.push-requires
push-requires c =
    let f = worker_of Key c.args.workers c.args.packets.now in
    let len = ap length c.loop-position.invariant.0 ∙ length-map-range_with_len f 0 c.loop-position.position in
    omega (arith, len, c.loop-position.invariant.1, c.loop-position-test.true)

pub loop-position-preserved : goal.loop-position-preserved
loop-position-preserved c =
    let f = worker_of Key c.args.workers c.args.packets.now in
    let place = c.loop-position.position in
    let owner : c.share_of.result ≡ f place = c.share_of.ensures.share in (
      c.push.ensures.items
          ∙ ap (λ (l : List ℕ). l ++ c.share_of.result ∷ []) c.loop-position.invariant.0
          ∙ ap (λ z. map f (range_with_len 0 place) ++ z ∷ []) owner
          ∙ sym (map-range_with_len_more f 0 place place (omega arith)),
      c.push.ensures.room ∙ c.loop-position.invariant.1,
    )
