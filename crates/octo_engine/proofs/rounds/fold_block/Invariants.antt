use Rattle.std.proofs.Common.{◌≡◌, ◌<◌, ◌+◌, ℕ}
use Rattle.std.specs.List.{flat_map, range_with_len}
use Rattle.push_history.specs.LagRun.{Terms, fresh_worker}
use Rattle.push_history.specs.OwnSteps.{folded_in_round}
use Rattle.live_state.specs.Fold.{state_after, layout_in}
use Rattle.round_law.specs.OwnRounds.{folded_after, own_rounds}
use Rattle.octo_engine.specs.Looks.{AreLooks, Runs}
use Rattle.octo_engine.specs.Parts.{block, messages_in}
use Rattle.octo_engine.proofs.rounds.fold_block.Given as goal

abbrev pub invariant-rounds : goal.invariant-rounds
invariant-rounds g l =
    (t : Terms) (n : ℕ) → Runs g.K.Kind.rules t l.options
    → ((k : ℕ) → k < block → flat_map (messages_in k) l.parts ≡ flat_map (λ w. folded_in_round t l.options w (own_rounds t l.options w (n + k) fresh_worker)) (range_with_len 0 l.options.workers))
    → l.initial.state ≡ state_after g.K.Kind.rules (layout_in l.options) (folded_after t l.options n) → AreLooks g.K.Kind.rules t l.options n l.initial.looks
    → (l.state ≡ state_after g.K.Kind.rules (layout_in l.options) (folded_after t l.options (n + l.round))) × AreLooks g.K.Kind.rules t l.options (n + l.round) l.looks
