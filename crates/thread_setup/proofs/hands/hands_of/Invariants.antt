use Rattle.std.proofs.Common.{◌≡◌}
use Rattle.shares.specs.Owners.{AreOwners}
use Rattle.thread_setup.specs.Hands.{AreHands}
use Rattle.thread_setup.proofs.hands.hands_of.Given as goal

abbrev pub invariant-loop-worker : goal.invariant-loop-worker
invariant-loop-worker g l = record {
  hands : AreHands g.K.Kind.stands g.K.Kind.rules l.options l.packets l.worker l.hands;
  lanes : l.hands.lanes.room ≡ l.options.workers;
  workers : l.hands.workers.room ≡ l.options.workers;
  outs : l.hands.outs.room ≡ l.options.workers;
  owners : AreOwners l.options l.packets l.owners;
}
