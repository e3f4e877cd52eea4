use Rattle.std.proofs.Common.{rules, arith, ◌≡◌, ◌++◌, ◌<◌, ◌≤◌, ◌+◌, length, take, length-take}
use Rattle.pcap_read.specs.Records.{captured}
use Rattle.pcap_read.proofs.Pieces.{two_parts}
use Rattle.pcap_read.proofs.Steps.{whole_takes_some}
use Rattle.pcap_read.proofs.parts.take_record_parts.Goals as goal

pub returns-clause-taken : goal.returns-clause-taken
returns-clause-taken c =
    two_parts c.args.held.now.items c.take_head.new.held.items c.take_rest-more.new.held.items c.args.piece.now c.in_ok-used.used c.take_rest-more.result c.in_ok-used.ensures.taken c.take_rest-more.ensures.taken

taken_is : (c : goal.After-u32_at) → c.take_rest-more.new.held.items ≡ c.args.held.now.items ++ take (c.in_ok-used.used + c.take_rest-more.result) c.args.piece.now
taken_is c =
    two_parts c.args.held.now.items c.take_head.new.held.items c.take_rest-more.new.held.items c.args.piece.now c.in_ok-used.used c.take_rest-more.result c.in_ok-used.ensures.taken c.take_rest-more.ensures.taken

pub returns-clause-some : goal.returns-clause-some
returns-clause-some c = λ w.
    let long : 16 ≤ length c.take_rest-more.new.held.items = search rules in
    let whole : length c.take_rest-more.new.held.items ≡ 16 + captured c.args.order c.take_rest-more.new.held.items = search rules in
    let some : 0 < length (take (c.in_ok-used.used + c.take_rest-more.result) c.args.piece.now) =
    whole_takes_some c.args.order c.args.limit c.args.count c.args.held.now.items (take (c.in_ok-used.used + c.take_rest-more.result) c.args.piece.now) c.take_rest-more.new.held.items c.requires.partial (taken_is c) long whole in
    omega (arith, length-take (c.in_ok-used.used + c.take_rest-more.result) c.args.piece.now)
