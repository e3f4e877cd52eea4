use Rattle.std.proofs.Common.{rules, ◌≡◌, ◌+◌, ◌*◌, sym, subst}
use Rattle.hash_rows.specs.declared.shape.Shape.{Shape}
use Rattle.push_history.specs.Share.{packet_at}
use Rattle.octo_engine.specs.Counts.{AreNext}
use Rattle.octo_engine.proofs.Stepping.{counted_ends, counted_by}
use Rattle.octo_engine.proofs.Places.{next_at}
use Rattle.octo_engine.proofs.worker.count_packet.Goals as goal

pub returns-then-count_rows-clause-keeps : goal.returns-then-count_rows-clause-keeps
returns-then-count_rows-clause-keeps g c = λ t w x has keeps.
    let number : c.args.options.now.shape.rows * c.args.place + c.args.first ≡ x.counted = counted_by g.K.Kind.stands t w _ x _ keeps (sym c.requires.next.1) in
    let next = next_at g.K.Kind.rules t c.args.options.now.shape c.args.packets.now w c.args.share.now has x c.args.place c.args.first c.min-last.result c.at-position.result c.at-position.ensures (sym number) (search rules) (search rules) (search rules) in
    let next_in_shape = subst (λ (s : Shape). AreNext t w x s (packet_at c.args.packets.now c.at-position.result) c.at-position.result c.args.first c.min-last.result) (sym c.requires.same) next in
    counted_ends g.K.Kind.stands t w x _ _ c.count_rows.new.counter (search rules) (c.if-count_rows.ensures.keeps t w x has.rules keeps next_in_shape)

pub returns-else-count_rows-clause-keeps : goal.returns-else-count_rows-clause-keeps
returns-else-count_rows-clause-keeps g c = λ t w x has keeps.
    let number : c.args.options.now.shape.rows * c.args.place + c.args.first ≡ x.counted = counted_by g.K.Kind.stands t w _ x _ keeps (sym c.requires.next.1) in
    let next = next_at g.K.Kind.rules t c.args.options.now.shape c.args.packets.now w c.args.share.now has x c.args.place c.args.first c.min-last.result c.at-position.result c.at-position.ensures (sym number) (search rules) (search rules) (search rules) in
    let next_in_shape = subst (λ (s : Shape). AreNext t w x s (packet_at c.args.packets.now c.at-position.result) c.at-position.result c.args.first c.min-last.result) (sym c.requires.same) next in
    c.if-count_rows.ensures.keeps t w x has.rules keeps next_in_shape
