use Rattle.std.proofs.Common.{subst, take}
use Rattle.capture_load.specs.Loads.{StandsIn}
use Rattle.capture_load.specs.declared.format.Format.{Format}
use Rattle.capture_load.specs.declared.format.Format.TheVariants.{Pcap, Ng}
use Rattle.capture_load.proofs.Formats.{other_stays}
use Rattle.capture_load.proofs.Stepped.{ng_goes_on, pcap_goes_on}
use Rattle.capture_load.proofs.loading.Loading.step.Goals as goal

pub returns-in-Pcap-clause-stepped : goal.returns-in-Pcap-clause-stepped
returns-in-Pcap-clause-stepped c = λ bytes frames loads.
    let stood : StandsIn (Pcap c.in-Pcap.reader) bytes frames = subst (λ (f : Format). StandsIn f bytes frames) c.in-Pcap.is loads.stands in
    pcap_goes_on _ _ bytes _ frames (λ n lt. other_stays bytes (take n c.args.piece.now) stood.0) (other_stays bytes c.args.piece.now stood.0) c.take_all.result c.take_all.ensures.some
    (c.take_all.ensures.stepped bytes frames (record { stands = stood.1; keeps = loads.keeps }))

pub returns-in-Ng-clause-stepped : goal.returns-in-Ng-clause-stepped
returns-in-Ng-clause-stepped c = λ bytes frames loads.
    let stood : StandsIn (Ng c.in-Ng.reader) bytes frames = subst (λ (f : Format). StandsIn f bytes frames) c.in-Ng.is loads.stands in
    ng_goes_on _ _ bytes _ frames stood.0 c.take_all-in-Ng.result (c.take_all-in-Ng.ensures.stepped bytes frames (record { stands = stood.1; keeps = loads.keeps }))
