use Rattle.std.proofs.Common.{rules, ◌∙◌, ◌<◌, ◌++◌, ◌∷◌, [], List, sym, ap, length, take}
use Rattle.std.proofs.lemmas.List.{take_more}
use Rattle.std.proofs.lemmas.Option.{get_or_from_slice_get}
use Rattle.packet_key.specs.declared.key.FlowKey.{FlowKey}
use Rattle.thread_engine.proofs.lists.fill_heavy.Goals as goal

pub loop-place-preserved : goal.loop-place-preserved
loop-place-preserved c =
    let keys = c.args.heavy.now.keys in
    let place = c.loop-place.place in
    let below : place < length keys = search rules in
    let here = get_or_from_slice_get keys place c.entry.result c.entry.result c.entry.ensures in (
      c.push.ensures.items ∙ ap (λ (l : List FlowKey). l ++ c.entry.result ∷ []) c.loop-place.invariant.0
          ∙ ap (λ (k : FlowKey). take place keys ++ k ∷ []) (sym here) ∙ sym (take_more keys place c.entry.result below),
      c.push.ensures.room ∙ c.loop-place.invariant.1,
    )
