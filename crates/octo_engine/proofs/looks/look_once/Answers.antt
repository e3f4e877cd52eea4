use Rattle.std.proofs.Common.{rules, ◌<◌, length}
use Rattle.octo_engine.proofs.Looking.{look_is, looks_more}
use Rattle.octo_engine.proofs.looks.look_once.Goals as goal

pub returns-in_ok-look_at : goal.returns-in_ok-look_at
returns-in_ok-look_at g c = λ t n runs is are.
    let less : length c.args.looks.now.items < c.args.looks.now.room = search rules in
    looks_more g.K.Kind.rules t c.args.options.now runs n c.args.looks.now c.push.new.self _ are less
    (look_is g.K.Kind.rules t c.args.options.now runs _ c.args.state.now c.args.keys.now.items _ is c.requires c.in_ok-look_at.ensures) c.push.ensures.items c.push.ensures.room
