use Rattle.std.proofs.Common.{◌∙◌, ◌<◌, length, arith}
use Rattle.push_history.specs.LiveHeavy.{same_key}
use Rattle.heavy_keys.proofs.Keys.{absent_at, grown_at}
use Rattle.heavy_keys.proofs.heavy.copy_keys.Goals as goal

pub add_last-requires-clause-absent : goal.add_last-requires-clause-absent
add_last-requires-clause-absent c =
    let below : c.loop-place.place < length c.args.other.now.entries = omega (arith, c.loop-place-test.true, c.len-place-end.ensures.len) in
    absent_at c.args.other.now.entries _ c.loop-place.place c.in-Some.key.now c.in-Some.field-0-1.now c.in-Some.ensures.entry below c.loop-place.invariant.0 same_key c.len-place-end.ensures.unique

pub loop-place-preserved : goal.loop-place-preserved
loop-place-preserved c =
    let below : c.loop-place.place < length c.args.other.now.entries = omega (arith, c.loop-place-test.true, c.len-place-end.ensures.len) in (
      c.add_last.ensures.keys ∙ grown_at c.args.other.now.entries _ c.loop-place.place c.in-Some.key.now c.in-Some.field-0-1.now c.in-Some.ensures.entry below c.loop-place.invariant.0,
      omega (arith, c.add_last.ensures.spare, c.loop-place.invariant.1),
      c.add_last.ensures.slots,
      c.add_last.ensures.slotted,
    )
