use Rattle.std.proofs.Common.{rules, arith, ◌≡◌, ◌<◌, length, Some, None, false, [], refl, ap, ◌∙◌}
use Rattle.std.proofs.lemmas.List.{nil_from_length}
use Rattle.pcap_read.specs.Place.{Place}
use Rattle.pcap_read.proofs.Views.{plain_place, not_lending, stands_inside}
use Rattle.pcap_read.proofs.Fronts.{front_taken}
use Rattle.pcap_read.proofs.reader.Reader.take_whole.Goals as goal

pub returns-clause-front : goal.returns-clause-front
returns-clause-front c = λ b fs stands.
    let f : c.self.inside.lending ≡ false = not_lending c.self.inside c.args.order c.args.self.now c.self.view_is c.requires.order c.requires.lent in
    let was : c.self.inside.order ≡ Some c.args.order = ap (λ (p : Place). p.order) c.self.view_is ∙ c.requires.order in
    let kept : c.self.inside.kept ≡ None = ap (λ (p : Place). p.kept) c.self.view_is ∙ c.requires.going in
    let zero : length c.self.inside.held.items ≡ 0 = search rules in
    let none : c.self.inside.held.items ≡ [] = nil_from_length c.self.inside.held.items zero in
    let few : c.self.inside.count < c.self.inside.limit = omega (arith, (c.self.invariant.going kept).few, c.in_ok-len.ensures.few) in
    rw f (front_taken (plain_place c.self.inside) _ c.args.order b c.args.piece.now c.in_ok-len.len c.u32_at.result fs
    was was refl kept refl refl none none c.in_ok-len.ensures.long c.in_ok-len.ensures.bound c.in_ok-len.ensures.small c.in_ok-len.ensures.len few c.u32_at.ensures
    (stands_inside c.self.inside c.args.self.now b fs c.self.view_is f stands))
