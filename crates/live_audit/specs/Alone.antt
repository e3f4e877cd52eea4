-- The state after the messages of one worker, where it alone has some.
use Rattle.std.specs.Prelude.{◌≡◌, ℕ, List, Bool, true, false, Option, MatchOption}
use Rattle.packet_key.specs.declared.key.FlowKey.{FlowKey}
use Rattle.live_state.specs.Fold.{StateView}

-- there is a state just where one worker alone has messages, and it has these live keys and missed so many
abbrev pub IsAlone : Bool → List FlowKey → ℕ → Option StateView → Type 0
IsAlone lone keys missed alone = MatchOption alone (lone ≡ false) (λ s. (lone ≡ true) × (s.heavy.keys ≡ keys) × (s.heavy.missed ≡ missed))
