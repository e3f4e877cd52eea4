use Rattle.std.proofs.Common.{◌≡◌, ◌-◌, ℕ, length}
use Rattle.push_history.specs.LagRun.{Terms}
use Rattle.live_state.specs.Fold.{state_after, layout_in}
use Rattle.round_law.specs.OwnRounds.{folded_after}
use Rattle.octo_engine.specs.Looks.{AreLooks, AreMoreLooks, Runs}
use Rattle.octo_engine.proofs.looks.look_at_end.Given as goal

abbrev pub invariant-looks : goal.invariant-looks
invariant-looks g l =
    (t : Terms) (n : ℕ) → Runs g.K.Kind.rules t l.options → l.state ≡ state_after g.K.Kind.rules (layout_in l.options) (folded_after t l.options n)
    → AreLooks g.K.Kind.rules t l.options n l.initial.looks → AreMoreLooks g.K.Kind.rules t l.options n l.looks

abbrev pub decreases-looks : goal.decreases-looks
decreases-looks g l = l.looks.room - length l.looks.items
