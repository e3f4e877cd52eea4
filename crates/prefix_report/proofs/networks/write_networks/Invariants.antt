use Rattle.std.proofs.Common.{◌≤◌, ◌∷◌, [], take, Ok}
use Rattle.std.specs.List.{flat_map}
use Rattle.flow_base.specs.Writing.{Writes}
use Rattle.flow_base.specs.declared.flow.Failed.{Failed}
use Rattle.prefix_report.specs.PrefixText.{network_line, of_length}
use Rattle.prefix_report.proofs.networks.write_networks.Given as goal

abbrev pub invariant-loop-hit : goal.invariant-loop-hit
invariant-loop-hit g l =
    Writes {T = Unit {0}} {E = Failed} (g.T.Sink.holds l.initial.out) (g.T.Sink.holds l.out)
    (flat_map (λ hit. flat_map (network_line l.name) (of_length l.bits (hit ∷ []))) (take l.hit-index l.hits)) (Ok tt)
    × (g.T.Sink.faults l.initial.out ≤ g.T.Sink.faults l.out)
