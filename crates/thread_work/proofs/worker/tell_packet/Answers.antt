use Rattle.std.proofs.Common.{rules, ◌≡◌, ◌∙◌, ◌<◌, ◌^◌, sym, subst, w64, true, arith}
use Rattle.std.proofs.lemmas.Int.{to_z-of_z}
use mir.Val.{SFits}
use Rattle.hash_rows.specs.Shapes.{cell_of}
use Rattle.thread_work.proofs.Rows.{same_then, told_row}
use Rattle.thread_work.proofs.worker.tell_packet.Goals as goal

pub tell-requires-clause-value : goal.tell-requires-clause-value
tell-requires-clause-value g c κs within =
    let fits : SFits w64 c.value_in_row-value.result = search rules in
    let value = to_z-of_z w64 c.value_in_row-value.result fits in
    let laws = (g.met.K.Kind g.world.𝓛 g.world.𝓜 g.world.𝓡 ((λ s x. x), (λ x. x), (λ x. x), (λ x. x))).laws in
    let small : c.args.packet.now.amount < 2 ^ 32 = search rules in
    subst (λ v. g.K.Kind.rules.is_value v ≡ true) (sym (value ∙ c.value_in_row-value.ensures)) (laws.packet_value c.args.shape.now c.args.packet.now c.loop-row.row small)

pub loop-row-preserved : goal.loop-row-preserved
loop-row-preserved g c =
    let h = c.loop-row.invariant in
    let e = c.tell.ensures in
    let fits : SFits w64 c.value_in_row-value.result = search rules in
    let value = to_z-of_z w64 c.value_in_row-value.result fits ∙ c.value_in_row-value.ensures in
    let hash = c.hash_in_row-hash.ensures c.args.packet.now.key c.key_hash-key_hash.ensures in
    let cell : c.cell_in_row-cell.result ≡ cell_of c.args.shape.now c.args.packet.now.key c.loop-row.row = c.cell_in_row-cell.ensures.place c.args.packet.now.key hash in
    record {
      idle = e.idle;
      counted = omega (arith, e.counted, h.counted);
      same = same_then _ _ _ h.same e.same;
      lane = e.lane;
      few = e.few;
      told = λ U was. told_row g.K.Kind.stands g.K.Kind.rules _ _ _ _ _ c.args.shape.now c.args.packet.now c.args.position c.loop-row.row _ _ U cell value (e.told _ (h.told U was));
    }
