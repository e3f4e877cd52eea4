use Rattle.push_history.proofs.Flight.{whole_in_flight}
use Rattle.push_history.proofs.laws.whole_is_front_flight_and_residue.Goals as goal

pub returns : goal.returns
returns c = whole_in_flight
