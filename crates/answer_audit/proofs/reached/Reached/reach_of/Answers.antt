use Rattle.std.proofs.Common.{◌≡◌, ◌∙◌, ◌-◌, ℕ, List, get_or, take, drop, sym, ap, subst, arith}
use Rattle.std.proofs.lemmas.Option.{get_or_from_slice_get}
use Rattle.hash_rows.specs.declared.shape.Push.{Push}
use Rattle.push_history.specs.LawfulJournal.{sent_by}
use Rattle.answer_audit.specs.Reached.{HasReached}
use Rattle.answer_audit.proofs.Reaching.{part_fits, reached_more}
use Rattle.answer_audit.proofs.reached.Reached.reach_of.Goals as goal

pub returns-clause-reached : goal.returns-clause-reached
returns-clause-reached g c = λ messages len same h.
    let r = g.K.Kind.rules in
    let w = c.args.worker in
    let n = c.args.number in
    let front = c.args.self.now.front.items in
    let start = c.get.result.now in
    let at : get_or front w 0 ≡ start = get_or_from_slice_get front w start 0 c.get.ensures in
    let part = take (n - start) (drop start c.args.sent.now) in
    subst (λ (t : List ℕ). HasReached r messages t c.tell_all.new.table) (sym c.set.ensures.items)
    (reached_more r messages front c.args.self.now.table c.tell_all.new.table w n part (omega (arith, c.requires.worker, len)) (sym len) c.requires.rising
    (part_fits r c.args.self.now.table.shape w start (n - start) c.args.sent.now c.requires.fit)
    (ap (λ (t : List Push). take (n - start) (drop start t)) (sym same) ∙ ap (λ (k : ℕ). take (n - k) (drop k (sent_by messages w))) (sym at))
    c.tell_all.ensures.told h)
