use Rattle.std.proofs.Common.{Some, None, sym, subst}
use Rattle.std.specs.Net.Grammar.{IsSocketText}
use Rattle.packet_key.specs.Ends.{source_of, destination_of, protocol_of}
use Rattle.packet_key.proofs.Bytes.{protocol_fits}
use Rattle.packet_key.proofs.Sockets.{spells_source, spells_destination}
use Rattle.packet_key.proofs.Splits.{split_source, split_destination}
use Rattle.packet_key.proofs.parse.read_key.Goals as goal

pub returns-in_err-source : goal.returns-in_err-source
returns-in_err-source c k is same = absurd (split_source k is _ same None c.in_err-source.ensures.cases)

pub returns-in_err-destination : goal.returns-in_err-destination
returns-in_err-destination c k is same =
    let first = split_source k is _ same (Some (c.in_ok-source.source, c.in_ok-source.rest)) c.in_ok-source.ensures.cases in
    absurd (split_destination k is _ first.1 None c.in_err-destination.ensures.cases)

pub returns-in_err-source-2 : goal.returns-in_err-source-2
returns-in_err-source-2 c k is same =
    let first = split_source k is _ same (Some (c.in_ok-source.source, c.in_ok-source.rest)) c.in_ok-source.ensures.cases in
    let spelled = subst (λ t. IsSocketText t (source_of k)) (sym first.0) (spells_source k is) in
    let read = c.in_err-source-2.ensures (source_of k) spelled in
    cc

pub returns-in_err-destination-2 : goal.returns-in_err-destination-2
returns-in_err-destination-2 c k is same =
    let first = split_source k is _ same (Some (c.in_ok-source.source, c.in_ok-source.rest)) c.in_ok-source.ensures.cases in
    let second = split_destination k is _ first.1 (Some (c.in_ok-destination.destination, c.in_ok-destination.protocol)) c.in_ok-destination.ensures.cases in
    let spelled = subst (λ t. IsSocketText t (destination_of k)) (sym second.0) (spells_destination k is) in
    let read = c.in_err-destination-2.ensures (destination_of k) spelled in
    cc

pub returns-in_err-proto : goal.returns-in_err-proto
returns-in_err-proto c k is same =
    let first = split_source k is _ same (Some (c.in_ok-source.source, c.in_ok-source.rest)) c.in_ok-source.ensures.cases in
    let second = split_destination k is _ first.1 (Some (c.in_ok-destination.destination, c.in_ok-destination.protocol)) c.in_ok-destination.ensures.cases in
    let read = c.in_err-proto.ensures (protocol_of k) (protocol_fits k is) second.1 in
    cc

pub returns : goal.returns
returns c k is same =
    let first = split_source k is _ same (Some (c.in_ok-source.source, c.in_ok-source.rest)) c.in_ok-source.ensures.cases in
    let second = split_destination k is _ first.1 (Some (c.in_ok-destination.destination, c.in_ok-destination.protocol)) c.in_ok-destination.ensures.cases in
    let from = subst (λ t. IsSocketText t (source_of k)) (sym first.0) (spells_source k is) in
    let to = subst (λ t. IsSocketText t (destination_of k)) (sym second.0) (spells_destination k is) in
    let source = c.in_ok-source-2.ensures (source_of k) from in
    let destination = c.in_ok-destination-2.ensures (destination_of k) to in
    let proto = c.in_ok-proto.ensures (protocol_of k) (protocol_fits k is) second.1 in
    c.key_between.ensures k is (cc) (cc) (cc)
