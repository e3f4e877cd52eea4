use Rattle.std.specs.Prelude.{sum_by}
use Rattle.push_history.specs.Journal.{terms_of}
use Rattle.octo_engine.specs.Parts.{part_work}
use Rattle.octo_engine.specs.Rounds.{IsAfter}
use Rattle.octo_engine.proofs.rounds.run_while_busy_alone.Given as goal

abbrev pub invariant-busy : goal.invariant-busy
invariant-busy g l = IsAfter g.K.Kind.stands g.K.Kind.rules (terms_of l.packets l.options) l.options l.packets l.parts l.state l.looks

abbrev pub decreases-busy : goal.decreases-busy
decreases-busy g l = sum_by part_work l.parts
