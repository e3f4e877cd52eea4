use Rattle.std.proofs.Common.{sym, ap, ◌≡◌, ◌+◌, ◌++◌, ◌∷◌, ◌∙◌, [], Some, take}
use Rattle.std.specs.Prelude.{fold}
use Rattle.std.specs.List.{flat_map}
use Rattle.std.proofs.lemmas.List.{flat_map_more, take_more}
use Rattle.std.proofs.lemmas.List.Sums.{fold-append}
use Rattle.std.proofs.lemmas.Option.{slice_get-get_or}
use Rattle.live_state.specs.Fold.{absorbed}
use Rattle.octo_engine.specs.Parts.{messages_in}
use Rattle.octo_engine.proofs.rounds.fold_round.Goals as goal

pub fold_part-requires-clause-ends : goal.fold_part-requires-clause-ends
fold_part-requires-clause-ends g c κs within =
    c.requires.ends c.loop-part.part-index c.part-item.result
    (slice_get-get_or c.args.parts.now c.loop-part.part-index c.part-item.result c.loop-part-test.true ∙ ap Some (sym c.part-item.is))

pub fold_part-requires-clause-taken : goal.fold_part-requires-clause-taken
fold_part-requires-clause-taken g c κs within =
    c.requires.taken c.loop-part.part-index c.part-item.result
    (slice_get-get_or c.args.parts.now c.loop-part.part-index c.part-item.result c.loop-part-test.true ∙ ap Some (sym c.part-item.is))

pub loop-part-preserved : goal.loop-part-preserved
loop-part-preserved g c =
    let parts = c.args.parts.now in
    let at = c.loop-part.part-index in
    let part = c.part-item.result in
    let messages = messages_in c.args.round in
    let next = take_more parts at part c.loop-part-test.true in
    let more : flat_map messages (take at parts) ++ messages part ≡ flat_map messages (take (at + 1) parts) =
    flat_map_more messages [] (take at parts) part ∙ ap (λ x. flat_map messages (take at parts ++ x ∷ [])) c.part-item.is ∙ ap (flat_map messages) (sym next) in
    c.fold_part.ensures
    ∙ ap (λ s. fold (absorbed g.K.Kind.rules) s (messages part)) c.loop-part.invariant
    ∙ sym (fold-append (absorbed g.K.Kind.rules) c.args.state.now (flat_map messages (take at parts)) (messages part))
    ∙ ap (fold (absorbed g.K.Kind.rules) c.args.state.now) more
