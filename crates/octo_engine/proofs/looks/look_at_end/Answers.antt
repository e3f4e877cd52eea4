use Rattle.std.proofs.Common.{rules, ◌<◌, ◌≤◌, length}
use Rattle.octo_engine.proofs.Looking.{look_is, looks_begin, looks_fill, looks_all}
use Rattle.octo_engine.proofs.looks.look_at_end.Goals as goal

pub looks-init : goal.looks-init
looks-init g c = λ t n runs is are. looks_begin g.K.Kind.rules t c.args.options.now runs n c.args.looks.now are

pub looks-preserved : goal.looks-preserved
looks-preserved g c = λ t n runs is are.
    let less : length c.looks.looks.items < c.looks.looks.room = search rules in
    looks_fill g.K.Kind.rules t c.args.options.now runs n c.looks.looks c.push.new.self _ (c.looks.invariant t n runs is are) less
    (look_is g.K.Kind.rules t c.args.options.now runs n c.args.state.now c.args.keys.now.items _ is c.requires c.in_ok-look_at.ensures) c.push.ensures.items c.push.ensures.room

pub returns : goal.returns
returns g c = λ t n runs is are.
    let full : c.looks.looks.room ≤ length c.looks.looks.items = search rules in
    looks_all g.K.Kind.rules t c.args.options.now runs n c.looks.looks (c.looks.invariant t n runs is are) full
