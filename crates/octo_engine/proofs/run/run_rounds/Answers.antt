use Rattle.std.proofs.Common.{◌≡◌, ◌∙◌, List, length, drop, false, sym, ap, subst}
use Rattle.std.specs.List.{list_any}
use Rattle.push_history.specs.Journal.{terms_of}
use Rattle.octo_engine.specs.declared.worker.Part.{Part}
use Rattle.octo_engine.specs.Parts.{is_busy_part}
use Rattle.octo_engine.proofs.Beginning.{after_back, after_none, are_terms, back, rules_are}
use Rattle.octo_engine.proofs.run.run_rounds.Goals as goal

pub run_while_busy-requires-clause-terms : goal.run_while_busy-requires-clause-terms
run_while_busy-requires-clause-terms g c κs within =
    let kind = g.met.K.Kind g.world.𝓛 g.world.𝓜 g.world.𝓡 ((λ s x. x), (λ x. x), (λ x. x), (λ x. x)) in
    let o = c.args.options.now in
    let packets = c.args.packets.now in
    are_terms g.K.Kind.rules packets o (rules_are g.K.Kind.rules o g.K.Kind.sketch kind.is_sketch c.requires.sketch) c.requires.lawful c.in_ok-parts.ensures.amounts c.requires.packets

pub run_while_busy-requires-clause-after : goal.run_while_busy-requires-clause-after
run_while_busy-requires-clause-after g c κs within =
    let o = c.args.options.now in
    after_none g.K.Kind.rules g.K.Kind.stands (terms_of c.args.packets.now o) o c.args.packets.now _ _ _ _ c.in_ok-parts.ensures.parts c.as_mut_slice.ensures.value
    c.in_ok-state.ensures c.in_ok-looks.ensures.empty (c.in_ok-looks.ensures.room ∙ c.looks_wanted.ensures)

pub end_run-requires-clause-idle : goal.end_run-requires-clause-idle
end_run-requires-clause-idle g c κs within =
    let parts = c.run_while_busy.new.parts in
    let after = c.in_ok-run_while_busy.ensures.after in
    let len : length parts ≡ c.in_ok-parts.parts.len = after.workers.len ∙ sym c.in_ok-parts.ensures.parts.len ∙ sym (ap length c.as_mut_slice.ensures.value) ∙ c.as_mut_slice.ensures.len in
    subst (λ (ps : List (Part g.row.K.Denot g.row.K-Held.Denot)). list_any is_busy_part ps ≡ false) (back parts (drop (length parts) c.in_ok-parts.parts.items) c.in_ok-parts.parts.len len) c.in_ok-run_while_busy.ensures.idle

pub end_run-requires-clause-after : goal.end_run-requires-clause-after
end_run-requires-clause-after g c κs within =
    let o = c.args.options.now in
    let parts = c.run_while_busy.new.parts in
    let after = c.in_ok-run_while_busy.ensures.after in
    let len : length parts ≡ c.in_ok-parts.parts.len = after.workers.len ∙ sym c.in_ok-parts.ensures.parts.len ∙ sym (ap length c.as_mut_slice.ensures.value) ∙ c.as_mut_slice.ensures.len in
    after_back g.K.Kind.rules g.K.Kind.stands (terms_of c.args.packets.now o) o c.args.packets.now parts (drop (length parts) c.in_ok-parts.parts.items) c.in_ok-parts.parts.len _ _ len after
