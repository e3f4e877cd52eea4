use Rattle.std.proofs.Common.{◌≤◌, ap, subst, length, List}
use mathlib.Core.List.{IsPrefix}
use Rattle.hash_rows.specs.declared.shape.Push.{Push}
use Rattle.push_history.proofs.Prefixes.{prefix_shorter}
use Rattle.live_view.proofs.history.HistoryPrefix.begins.Goals as goal

pub returns : goal.returns
returns c =
    let both = c.learn.new.self.log in
    let this : IsPrefix c.self.inside.seen.log both = subst (λ (l : List Push). IsPrefix l both) (ap (λ s. s.log) c.again-both.ensures) c.learn.ensures.2 in
    let less : length c.self.inside.seen.log ≤ length c.other.inside.seen.log = rw (ap (λ s. s.log) c.self.view_is, ap (λ s. s.log) c.other.view_is) c.requires.shorter in
    rw (← c.self.view_is, ← c.other.view_is) (prefix_shorter c.self.inside.seen.log c.other.inside.seen.log both this c.learn.ensures.3 less)
