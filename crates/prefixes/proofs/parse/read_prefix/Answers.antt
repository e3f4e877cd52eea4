use Rattle.std.proofs.Common.{◌∙◌, Some, None, sym, subst, ap}
use Rattle.std.specs.Net.Addr.{ipv4_bits}
use Rattle.std.specs.Net.Grammar.{IsIpv4Text}
use Rattle.prefixes.proofs.Texts.{address_of, bits_of_address, same_network, same_some, spells_address, split_text}
use Rattle.prefixes.proofs.parse.read_prefix.Goals as goal

pub returns-in_err-address-clause-read : goal.returns-in_err-address-clause-read
returns-in_err-address-clause-read c p is same = absurd (split_text p _ same None c.in_err-address.ensures.cases)

pub returns-in_err-address-2-clause-read : goal.returns-in_err-address-2-clause-read
returns-in_err-address-2-clause-read c p is same =
    let parts = split_text p _ same (Some (c.in_ok-address.address, c.in_ok-address.length)) c.in_ok-address.ensures.cases in
    let spelled = subst (λ t. IsIpv4Text t (address_of p)) (sym parts.0) (spells_address p) in
    let read = c.in_err-address-2.ensures (address_of p) spelled in
    cc

pub returns-in_err-length-clause-read : goal.returns-in_err-length-clause-read
returns-in_err-length-clause-read c p is same =
    let parts = split_text p _ same (Some (c.in_ok-address.address, c.in_ok-address.length)) c.in_ok-address.ensures.cases in
    let read = c.in_err-length.ensures.read p.length is.length parts.1 in
    cc

pub returns-clause-read : goal.returns-clause-read
returns-clause-read c p is same =
    let parts = split_text p _ same (Some (c.in_ok-address.address, c.in_ok-address.length)) c.in_ok-address.ensures.cases in
    let spelled = subst (λ t. IsIpv4Text t (address_of p)) (sym parts.0) (spells_address p) in
    let address = c.in_ok-address-2.ensures (address_of p) spelled in
    let length = c.in_ok-length.ensures.read p.length is.length parts.1 in
    ap Some (same_network p is _ _ (c.to_bits.ensures ∙ ap ipv4_bits (same_some address) ∙ bits_of_address p is.fits) (same_some length) _ c.network_of.ensures.network)
