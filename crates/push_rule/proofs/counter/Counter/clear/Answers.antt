use Rattle.std.proofs.Common.{rules, ◌≡◌, ◌∙◌, sym, subst, refl, ap, List, take, drop, ◌-◌, ◌++◌, length, vec_len}
use Rattle.hash_rows.specs.declared.shape.Push.{Push}
use Rattle.push_rule.specs.Counters.{CounterView}
use Rattle.push_rule.specs.Keeps.{Keeps}
use Rattle.push_rule.proofs.CounterSteps.{keeps_cleared, rotated}
use Rattle.push_rule.proofs.counter.Counter.clear.Goals as goal

pub returns-clause-keeps : goal.returns-clause-keeps
returns-clause-keeps g c = λ t w x keeps.
    let inner = subst (λ (d : CounterView g.row.K-Held.Denot). Keeps g.K.Kind.stands t w d x) (sym c.self.view_is) keeps in
    let q = c.self.inside.queue.items in
    let n = c.self.inside.taken in
    let whole : vec_len c.self.inside.queue ≡ length q = search rules in
    let left : c.truncate.new.self.items ≡ drop n q =
    c.truncate.ensures.items ∙ ap (λ (l : List Push). take (c.len.result - n) l) c.rotate_left.ensures.items
    ∙ ap (λ k. take (k - n) (drop n q ++ take n q)) (c.len.ensures ∙ whole) ∙ rotated q n inner.taken_within in
    keeps_cleared g.K.Kind.stands t w _ _ x inner refl refl refl refl left refl
