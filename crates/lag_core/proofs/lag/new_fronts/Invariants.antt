use Rattle.std.proofs.Common.{◌≡◌, length, replicate}
use Rattle.std.specs.Prelude.{All}
use Rattle.lag_core.proofs.lag.new_fronts.Given as goal

abbrev pub invariant-loop : goal.invariant-loop
invariant-loop l = (length l.fronts.items ≡ l.counter) × All (λ front. front.items ≡ replicate l.workers 0) l.fronts.items
