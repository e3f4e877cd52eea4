use Rattle.push_history.specs.Journal.{terms_of}
use Rattle.round_law.proofs.Journals.{journal_of_rounds}
use Rattle.round_law.proofs.Near.{answers_near}
use Rattle.push_history.proofs.Fitting.{terms_len}
use Rattle.round_law.proofs.Wholes.{fronts_match, outcome_whole}
use Rattle.octo_engine.proofs.Beginning.{are_terms, few_amounts, rules_are}
use Rattle.octo_engine.proofs.run.end_run.Goals as goal

pub settle-requires-clause-end : goal.settle-requires-clause-end
settle-requires-clause-end g c κs within =
    let kind = g.met.K.Kind g.world.𝓛 g.world.𝓜 g.world.𝓡 ((λ s x. x), (λ x. x), (λ x. x), (λ x. x)) in
    let o = c.args.options.now in
    let packets = c.args.packets.now in
    let terms = are_terms g.K.Kind.rules packets o (rules_are g.K.Kind.rules o g.K.Kind.sketch kind.is_sketch c.requires.sketch) c.requires.lawful c.requires.amounts c.requires.packets in
    let after = c.requires.after in (
      after.rounds,
      record { workers = after.workers; state_is = after.state_is; none = c.requires.idle },
      c.in_ok-look_at_end.ensures (terms_of packets o) after.rounds terms.runs after.state_is after.seen,
    )

pub returns-clause-journal : goal.returns-clause-journal
returns-clause-journal g c =
    let h = c.in_ok-settled.ensures.outcome in
    journal_of_rounds c.args.packets.now c.args.options.now h.rounds _ _ _ _ _ c.requires.lawful c.requires.amounts h.outcome

pub returns-clause-whole : goal.returns-clause-whole
returns-clause-whole g c =
    let h = c.in_ok-settled.ensures.outcome in
    outcome_whole (terms_of c.args.packets.now c.args.options.now) c.args.options.now h.rounds _ _ _ _ _ h.outcome

pub returns-clause-upto : goal.returns-clause-upto
returns-clause-upto g c =
    let h = c.in_ok-settled.ensures.outcome in
    fronts_match (terms_of c.args.packets.now c.args.options.now) c.args.options.now (terms_len c.args.packets.now c.args.options.now) h.rounds _ _ _ _ _ h.outcome

pub returns-clause-bracket : goal.returns-clause-bracket
returns-clause-bracket g c =
    let h = c.in_ok-settled.ensures.outcome in
    λ is events schedule.
    answers_near c.args.packets.now c.args.options.now h.rounds _ _ _ _ _ c.requires.lawful is (few_amounts c.args.packets.now c.requires.amounts c.requires.packets) h.outcome events schedule
