use Rattle.std.proofs.Common.{◌≡◌, ◌≢◌, ◌∙◌, ◌≤◌, ◌+◌, ◌-◌, ◌++◌, [], ◌∷◌, ℕ, List, length, take, true, false, sym, ap, subst, arith, append_assoc, length-take}
use Rattle.std.proofs.lemmas.List.Elements.{All-append}
use Rattle.flow_base.specs.Flow.{behind}
use Rattle.flow_base.specs.LinesRead.{IsCut, left_of, HasNoFeed}
use Rattle.flow_base.proofs.FlowLemmas.{line_more}
use Rattle.flow_base.proofs.ahead.Ahead.read_line.Goals as goal

-- what was put behind the bytes so far
put_is : (len count : ℕ) (old new window : List ℕ) → count ≤ length window → take (len + length (take count window)) new ≡ take len old ++ take count window
    → take (len + count) new ≡ take len old ++ take count window
put_is len count old new window within put =
    let many : length (take count window) ≡ count = omega (arith, length-take count window, within) in
    ap (λ (n : ℕ). take (len + n) new) (sym many) ∙ put

feedless : (xs ys zs : List ℕ) → zs ≡ xs ++ ys → HasNoFeed xs → HasNoFeed ys → HasNoFeed zs
feedless xs ys zs is a b = subst HasNoFeed (sym is) (All-append (λ x. x ≢ 10) xs ys a b)

whole_line : (taken window bytes : List ℕ) (count : ℕ) (body : List ℕ) → bytes ≡ taken ++ take count window → take count window ≡ body ++ 10 ∷ [] → HasNoFeed taken → HasNoFeed body
    → (x : List ℕ) × (bytes ≡ x ++ 10 ∷ []) × HasNoFeed x
whole_line taken window bytes count body is ends a b =
    (taken ++ body, is ∙ ap (λ (t : List ℕ). taken ++ t) ends ∙ sym (append_assoc taken body (10 ∷ [])), All-append (λ x. x ≢ 10) taken body a b)

pub returns-then-ended-clause-given : goal.returns-then-ended-clause-given
returns-then-ended-clause-given g c =
    let cut = subst (IsCut c.window-window.result.now (1024 - c.loop-len.len) c.cut_line-count.result.0) c.if-ended.true c.cut_line-count.ensures in
    let put = put_is c.loop-len.len c.cut_line-count.result.0 c.loop-len.into c.put_behind.new.into c.window-window.result.now cut.2 c.put_behind.ensures in
    line_more c.cut_line-count.result.0 (take c.loop-len.len c.loop-len.into) c.fill.new.self.window (take c.cut_line-count.result.0 c.window-window.result.now) c.pass.new.self.window
    (left_of g.S.Source.left c.args.self.now) (left_of g.S.Source.left c.loop-len.self) (g.S.Source.left c.fill.new.self.source.now)
    c.loop-len.invariant.2 (sym c.fill.ensures.left) (ap (take c.cut_line-count.result.0) c.window-window.ensures) c.pass.ensures.window
    ∙ ap (λ (t : List ℕ). behind t (behind c.pass.new.self.window (g.S.Source.left c.fill.new.self.source.now))) (sym put)
    ∙ ap (λ (s : _). behind (take (c.loop-len.len + c.cut_line-count.result.0) c.put_behind.new.into) (behind c.pass.new.self.window (g.S.Source.left s))) (sym c.pass.ensures.source)

pub returns-then-ended-clause-line : goal.returns-then-ended-clause-line
returns-then-ended-clause-line g c =
    let cut = subst (IsCut c.window-window.result.now (1024 - c.loop-len.len) c.cut_line-count.result.0) c.if-ended.true c.cut_line-count.ensures in
    let put = put_is c.loop-len.len c.cut_line-count.result.0 c.loop-len.into c.put_behind.new.into c.window-window.result.now cut.2 c.put_behind.ensures in
    whole_line (take c.loop-len.len c.loop-len.into) c.window-window.result.now (take (c.loop-len.len + c.cut_line-count.result.0) c.put_behind.new.into) c.cut_line-count.result.0 cut.3 put cut.4 c.loop-len.invariant.3 cut.5

pub returns-then-ended-clause-front : goal.returns-then-ended-clause-front
returns-then-ended-clause-front g c = (_, returns-then-ended-clause-given g c)

pub loop-len-preserved : goal.loop-len-preserved
loop-len-preserved g c =
    let cut = subst (IsCut c.window-window.result.now (1024 - c.loop-len.len) c.cut_line-count.result.0) c.if-ended.false c.cut_line-count.ensures in
    let put = put_is c.loop-len.len c.cut_line-count.result.0 c.loop-len.into c.put_behind.new.into c.window-window.result.now cut.1 c.put_behind.ensures in (
      c.pass.ensures.same_reference ∙ c.fill.ensures.same_reference ∙ c.loop-len.invariant.0,
      omega (arith, cut.2, c.loop-len.invariant.1),
      line_more c.cut_line-count.result.0 (take c.loop-len.len c.loop-len.into) c.fill.new.self.window (take c.cut_line-count.result.0 c.window-window.result.now) c.pass.new.self.window
          (left_of g.S.Source.left c.args.self.now) (left_of g.S.Source.left c.loop-len.self) (g.S.Source.left c.fill.new.self.source.now)
          c.loop-len.invariant.2 (sym c.fill.ensures.left) (ap (take c.cut_line-count.result.0) c.window-window.ensures) c.pass.ensures.window
          ∙ ap (λ (t : List ℕ). behind t (behind c.pass.new.self.window (g.S.Source.left c.fill.new.self.source.now))) (sym put)
          ∙ ap (λ (s : _). behind (take (c.loop-len.len + c.cut_line-count.result.0) c.put_behind.new.into) (behind c.pass.new.self.window (g.S.Source.left s))) (sym c.pass.ensures.source),
      feedless (take c.loop-len.len c.loop-len.into) (take c.cut_line-count.result.0 c.window-window.result.now) _ put c.loop-len.invariant.3 cut.3,
      c.put_behind.array_long,
      subst (λ (s : _). g.S.Source.faults c.args.self.now.source.now ≤ g.S.Source.faults s) (sym c.pass.ensures.source)
          (omega (arith, c.loop-len.invariant.5, c.in_ok-fill.ensures.cause.later)),
    )

pub returns-clause-line : goal.returns-clause-line
returns-clause-line g c =
    let full : c.loop-len.len ≡ 1024 = omega (arith, c.loop-len-test.false, c.loop-len.invariant.1) in
    (omega (arith, full, c.loop-len.invariant.4, length-take c.loop-len.len c.loop-len.into), c.loop-len.invariant.3)
