use Rattle.std.proofs.Common.{◌∙◌, ap}
use Rattle.push_history.specs.Journal.{terms_of}
use Rattle.heavy_keys.specs.Noted.{HeavyTable}
use Rattle.octo_engine.proofs.Beginning.{are_terms, rules_are}
use Rattle.octo_engine.proofs.Outcomes.{outcome_of, wanted_is}
use Rattle.octo_engine.proofs.settle.settle.Goals as goal

pub returns-clause-outcome : goal.returns-clause-outcome
returns-clause-outcome g c =
    let kind = g.met.K.Kind g.world.𝓛 g.world.𝓜 g.world.𝓡 ((λ s x. x), (λ x. x), (λ x. x), (λ x. x)) in
    let o = c.args.options.now in
    let packets = c.args.packets.now in
    let rules_is = rules_are g.K.Kind.rules o g.K.Kind.sketch kind.is_sketch c.requires.sketch in
    let terms = are_terms g.K.Kind.rules packets o rules_is c.requires.lawful c.requires.amounts c.requires.few in
    record {
      rounds = c.requires.end.0;
      outcome = outcome_of g.K.Kind.stands g.K.Kind.rules (terms_of packets o) o packets terms c.requires.end.0 c.args.parts.items c.args.state c.args.looks.now.items c.in_ok-answers.answers.items
          c.in_ok-refused.refused.items c.in_ok-pushes.pushes.items c.in_ok-live.live.items c.missed-missed.result c.requires.end.1 c.requires.end.2 (wanted_is o) c.in_ok-answers.ensures c.in_ok-refused.ensures
          (c.in_ok-pushes.ensures ∙ c.fronts.ensures) (c.in_ok-live.ensures ∙ ap (λ (h : HeavyTable). h.keys) c.heavy.ensures) (c.missed-missed.ensures ∙ ap (λ (h : HeavyTable). h.missed) c.heavy-2.ensures);
    }

pub answers_from-requires-clause-looks : goal.answers_from-requires-clause-looks
answers_from-requires-clause-looks g c = λ some. c.requires.end.2.len ∙ wanted_is c.args.options.now some
