use Rattle.std.proofs.Common.{rules, ◌≡◌, ◌∙◌, sym, ap, min, List}
use Rattle.std.specs.Prelude.{slice_range}
use Rattle.hash_rows.specs.declared.shape.Push.{Push}
use Rattle.push_rule.specs.Counters.{in_lane}
use Rattle.octo_engine.proofs.Running.{own_is, given_is}
use Rattle.octo_engine.proofs.worker.run_round.Goals as goal

pub returns-clause-keeps : goal.returns-clause-keeps
returns-clause-keeps g c = λ t w x has keeps.
    let counted = c.count_in_round.ensures.keeps t w x has keeps in
    let count : c.min-count.result ≡ min c.args.options.now.batch (in_lane c.count_in_round.new.counter) = search rules in
    own_is g.K.Kind.stands t w c.args.options.now c.count_in_round.new.counter c.take.new.self x c.min-count.result counted count (c.take.ensures.keeps t w _ counted)

pub returns-clause-folded : goal.returns-clause-folded
returns-clause-folded g c = λ t w x has keeps.
    let counted = c.count_in_round.ensures.keeps t w x has keeps in
    let count : c.min-count.result ≡ min c.args.options.now.batch (in_lane c.count_in_round.new.counter) = search rules in
    let to = ap (λ d. d.taken) c.take.ensures.now in
    ap (λ (q : List Push). slice_range q c.args.counter.now.taken c.take.new.self.taken) (ap (λ d. d.queue) c.take.ensures.now)
    ∙ given_is g.K.Kind.stands t w c.args.options.now c.count_in_round.new.counter x c.min-count.result _ _ counted count (sym c.count_in_round.ensures.same.taken) to
