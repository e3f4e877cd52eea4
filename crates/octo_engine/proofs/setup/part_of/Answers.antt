use Rattle.std.proofs.Common.{◌∙◌, ◌<◌, ◌+◌, ◌*◌, ℕ, List, All, sym, ap, subst, arith, length}
use Rattle.std.proofs.lemmas.List.{length-replicate}
use Rattle.octo_engine.specs.Parts.{block}
use Rattle.shares.proofs.Sharing.{share_few, share_within}
use Rattle.octo_engine.proofs.setup.part_of.Goals as goal

pub counter_of-requires-clause-few : goal.counter_of-requires-clause-few
counter_of-requires-clause-few g c κs within =
    let few = share_few c.args.options.now c.args.packets.now c.args.worker in
    let len = c.len.ensures ∙ ap length c.in_ok-share.ensures.share in
    omega (arith, few, len, c.requires.few)

pub returns-clause-sound : goal.returns-clause-sound
returns-clause-sound g c =
    let packets = c.args.packets.now in
    let few = share_few c.args.options.now packets c.args.worker in
    let len = ap length c.in_ok-share.ensures.share in
    let updates = c.in_ok-counter.ensures.updates in
    let queue = c.in_ok-counter.ensures.queue in
    let none = ap length queue.0 in
    record {
      fit = record {
        within = subst (λ (l : List ℕ). All (λ i. i < length packets) l) (sym c.in_ok-share.ensures.share) (share_within c.args.options.now packets c.args.worker);
        few = omega (arith, few, len, c.requires.few);
        updates = updates.0 ∙ ap (λ n. c.args.options.now.shape.rows * n) c.len.ensures;
        counted = omega (arith, updates.1);
        cells = c.in_ok-counter.ensures.cells;
        lane = queue.2;
        queue = omega (arith, none);
        taken = omega (arith, queue.1);
      };
      room = c.in_ok-counter.ensures.room;
      ends = ap length c.in_ok-ends.ensures.items ∙ length-replicate {A = ℕ} (block + 1) 0;
    }
