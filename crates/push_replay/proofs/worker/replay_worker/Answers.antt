use Rattle.std.proofs.Common.{◌≡◌, ◌∙◌, ◌<◌, ◌+◌, ◌*◌, ◌++◌, [], ℕ, List, take, length, sym, ap, subst, arith}
use Rattle.std.specs.Prelude.{Option}
use Rattle.hash_rows.specs.Marks.{marked}
use Rattle.hash_rows.specs.declared.shape.Update.{Update}
use Rattle.push_history.specs.Updates.{updates_at, updates_of}
use Rattle.push_replay.specs.declared.replay.Fault.{Fault}
use Rattle.push_replay.specs.Replays.{IsFirstFault, Tells}
use Rattle.push_replay.proofs.Rows.{packets_more}
use Rattle.push_replay.proofs.worker.replay_worker.Goals as goal

pub loop-place-init : goal.loop-place-init
unfolding updates_of
loop-place-init g c =
    let new = c.in_ok-replay.ensures in
    record {
      tells = record {
        replays = new.replays (marked c.args.refused.now);
        first = subst (λ (fault : Option Fault). IsFirstFault g.K.Kind.rules c.args.worker c.args.options.now.threshold c.in_ok-replay.replay.lane [] (marked c.args.refused.now) fault) (sym new.none.1)
            (λ k lt its. absurd (omega (arith, lt)));
      };
      counted = omega (arith, new.none.0);
      cells = new.size.0;
      room = new.size.1 ∙ ap (λ (n : ℕ). c.args.options.now.shape.rows * n) c.len.ensures;
      lane = new.lane;
      idle = new.idle;
    }

pub loop-place-preserved : goal.loop-place-preserved
unfolding updates_at
loop-place-preserved g c =
    let r = g.K.Kind.rules in
    let shape = c.args.options.now.shape in
    let place = c.loop-place.place in
    let inv = c.loop-place.invariant in
    let same = c.in_ok-count_packet.ensures.same in
    let lt : place < length c.args.positions.now = omega (arith, c.loop-place-test.true, c.len-place-end.ensures) in
    let U : List Update = updates_of r shape c.args.packets.now (take place c.args.positions.now) in
    let step = c.in_ok-count_packet.ensures.tells c.args.worker c.args.options.now.threshold U inv.tells in
    let more : U ++ updates_at r shape c.args.packets.now c.at-position.result ≡ updates_of r shape c.args.packets.now (take (place + 1) c.args.positions.now) =
    ap (λ (i : ℕ). U ++ updates_at r shape c.args.packets.now i) c.at-position.ensures ∙ packets_more r shape c.args.packets.now c.args.positions.now place 0 lt in
    let next : shape.rows * (place + 1) ≡ shape.rows * place + shape.rows = grind arith in
    record {
      tells = subst (λ (us : List Update). Tells g.K.Kind.stands r c.args.worker c.args.options.now.threshold (marked c.args.refused.now) us c.count_packet.new.replay) more step;
      counted = omega (arith, c.in_ok-count_packet.ensures.counted, inv.counted, next);
      cells = same.cells ∙ inv.cells;
      room = same.room ∙ inv.room;
      lane = same.lane ∙ inv.lane;
      idle = same.idle;
    }
