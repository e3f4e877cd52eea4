use Rattle.std.proofs.Common.{◌≡◌, ◌∙◌, ◌+◌, ap, subst, arith}
use Rattle.live_state.specs.Fold.{state_after, layout_in}
use Rattle.round_law.specs.OwnRounds.{folded_after}
use Rattle.octo_engine.specs.Looks.{AreLooks}
use Rattle.octo_engine.proofs.Rounding.{state_more}
use Rattle.octo_engine.specs.Parts.{block}
use Rattle.octo_engine.proofs.rounds.fold_block.Goals as goal

pub rounds-preserved : goal.rounds-preserved
rounds-preserved g c = λ t n runs given is are.
    let before = c.rounds.invariant t n runs given is are in
    let now = state_more g.K.Kind.rules t c.args.options.now runs (n + c.rounds.round) c.rounds.state c.fold_round.new.state _ before.0 (given c.rounds.round c.rounds-test.true) c.fold_round.ensures in
    let looked = c.in_ok-look_once.ensures t (n + c.rounds.round) runs now before.1 in
    let next : n + c.rounds.round + 1 ≡ n + (c.rounds.round + 1) = omega arith in (
      now ∙ ap (λ k. state_after g.K.Kind.rules (layout_in c.args.options.now) (folded_after t c.args.options.now k)) next,
      subst (λ k. AreLooks g.K.Kind.rules t c.args.options.now k c.look_once.new.looks) next looked,
    )

pub returns : goal.returns
returns g c = record {
  folded = λ t n runs given is are.
      let done : c.rounds.round ≡ block = omega (arith, c.rounds-test.false, c.rounds.auto.round-end) in
      let out = c.rounds.invariant t n runs given is are in (
        out.0 ∙ ap (λ k. state_after g.K.Kind.rules (layout_in c.args.options.now) (folded_after t c.args.options.now (n + k))) done,
        subst (λ k. AreLooks g.K.Kind.rules t c.args.options.now (n + k) c.rounds.looks) done out.1,
      );
}
