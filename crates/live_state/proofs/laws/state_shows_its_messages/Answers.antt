use Rattle.std.proofs.Common.{arith}
use Rattle.live_state.proofs.Live.{shows_all}
use Rattle.live_state.proofs.laws.state_shows_its_messages.Goals as goal

pub returns : goal.returns
returns c r l messages fit short = shows_all r l messages fit (omega (arith, short))
