use Rattle.std.proofs.Common.{arith, refl, sym, ap, subst, ◌≡◌, ◌++◌, List, [], ℕ, length}
use Rattle.std.specs.Prelude.{MatchResult}
use Rattle.flow_base.specs.LinesRead.{left_of}
use Rattle.flow_base.proofs.FlowLemmas.{given_is}
use Rattle.hash_rows.specs.Limits.{most_records}
use Rattle.capture_load.specs.Capture.{RefusesNext}
use Rattle.capture_load.specs.Loads.{EndsIn, IsLoaded}
use Rattle.capture_load.proofs.Ahead.{ended_ahead, given_ahead, given_drained, no_bytes}
use Rattle.capture_load.proofs.Ends.{ends_bad, ends_fine, ends_ng, ends_whole, stood_fine, stops_bad, stops_ng}
use Rattle.capture_load.proofs.load.load_behind.Goals as goal

pub returns-in_err-loading-clause-front : goal.returns-in_err-loading-clause-front
returns-in_err-loading-clause-front g c = (_, refl)

pub returns-in-Err-clause-unrefused : goal.returns-in-Err-clause-unrefused
returns-in-Err-clause-unrefused g c = λ is frames refusal given rest told left refused.
    let inv = c.reads.invariant.2 in
    let was = given_drained (left_of g.S.Source.left c.args.source.now) _ (g.S.Source.left c.fill.new.self.source.now) inv.0 c.reads.source.window c.fill.new.self.window inv.2 c.in-Err.ensures.left (c.in-Err.ensures.drained refl) in
    let same : inv.0 ≡ given = given_is (left_of g.S.Source.left c.args.source.now) (g.S.Source.left c.fill.new.self.source.now) inv.0 given rest was told left in
    stood_fine c.reads.loading.format inv.0 inv.1 frames _ refusal c.reads.invariant.0 inv.3.stands
    (subst (λ (b : List ℕ). RefusesNext most_records b frames refusal) (sym same) refused)

pub returns-in-Err-clause-front : goal.returns-in-Err-clause-front
returns-in-Err-clause-front g c =
    let inv = c.reads.invariant.2 in
    (inv.0, given_drained (left_of g.S.Source.left c.args.source.now) _ (g.S.Source.left c.fill.new.self.source.now) inv.0 c.reads.source.window c.fill.new.self.window inv.2 c.in-Err.ensures.left (c.in-Err.ensures.drained refl))

pub returns-in-Err-feed-clause-bad : goal.returns-in-Err-feed-clause-bad
returns-in-Err-feed-clause-bad g c =
    let inv = c.reads.invariant.2 in
    let was = given_ahead (left_of g.S.Source.left c.args.source.now) _ (g.S.Source.left c.fill.new.self.source.now) inv.0 c.reads.source.window c.fill.new.self.window inv.2 c.fill.ensures.left in
    stops_bad (left_of g.S.Source.left c.args.source.now) (g.S.Source.left c.fill.new.self.source.now) (inv.0 ++ c.fill.new.self.window) c.args.amount was c.in-Err-feed.stop
    (rw c.window-window.ensures at c.in-Err-feed.ensures.fed inv.0 inv.1 inv.3)

pub returns-in-Err-feed-clause-ng : goal.returns-in-Err-feed-clause-ng
returns-in-Err-feed-clause-ng g c =
    let inv = c.reads.invariant.2 in
    let was = given_ahead (left_of g.S.Source.left c.args.source.now) _ (g.S.Source.left c.fill.new.self.source.now) inv.0 c.reads.source.window c.fill.new.self.window inv.2 c.fill.ensures.left in
    stops_ng (left_of g.S.Source.left c.args.source.now) (g.S.Source.left c.fill.new.self.source.now) (inv.0 ++ c.fill.new.self.window) c.args.amount was c.in-Err-feed.stop
    (rw c.window-window.ensures at c.in-Err-feed.ensures.fed inv.0 inv.1 inv.3)

pub returns-in-Err-feed-clause-front : goal.returns-in-Err-feed-clause-front
returns-in-Err-feed-clause-front g c =
    let inv = c.reads.invariant.2 in
    (_, given_ahead (left_of g.S.Source.left c.args.source.now) _ (g.S.Source.left c.fill.new.self.source.now) inv.0 c.reads.source.window c.fill.new.self.window inv.2 c.fill.ensures.left)

pub returns-clause-whole : goal.returns-clause-whole
returns-clause-whole g c =
    let inv = c.reads.invariant.2 in
    let none : c.fill.new.self.window ≡ [] = no_bytes c.fill.new.self.window (let few : length c.fill.new.self.window ≡ 0 = omega (arith, c.if-count-eq0.true, ap (λ (bytes : List ℕ). length bytes) c.window-window.ensures) in few) in
    let was = given_drained (left_of g.S.Source.left c.args.source.now) _ (g.S.Source.left c.fill.new.self.source.now) inv.0 c.reads.source.window c.fill.new.self.window inv.2 c.fill.ensures.left none in
    let ended = ended_ahead (g.S.Source.left c.reads.source.source.now) (g.S.Source.left c.fill.new.self.source.now) c.reads.source.window c.fill.new.self.window c.fill.ensures.kept c.fill.ensures.left none (c.in-Ok.ensures.end none) in
    let done = subst (λ a. MatchResult c.finish.result (IsLoaded a inv.0) (EndsIn inv.0)) c.reads.invariant.3 (c.finish.ensures.ends inv.0 inv.1 inv.3) in
    ends_whole (left_of g.S.Source.left c.args.source.now) (g.S.Source.left c.fill.new.self.source.now) inv.0 c.args.amount was ended c.finish.result done

pub returns-clause-bad : goal.returns-clause-bad
returns-clause-bad g c =
    let inv = c.reads.invariant.2 in
    let none : c.fill.new.self.window ≡ [] = no_bytes c.fill.new.self.window (let few : length c.fill.new.self.window ≡ 0 = omega (arith, c.if-count-eq0.true, ap (λ (bytes : List ℕ). length bytes) c.window-window.ensures) in few) in
    let was = given_drained (left_of g.S.Source.left c.args.source.now) _ (g.S.Source.left c.fill.new.self.source.now) inv.0 c.reads.source.window c.fill.new.self.window inv.2 c.fill.ensures.left none in
    let ended = ended_ahead (g.S.Source.left c.reads.source.source.now) (g.S.Source.left c.fill.new.self.source.now) c.reads.source.window c.fill.new.self.window c.fill.ensures.kept c.fill.ensures.left none (c.in-Ok.ensures.end none) in
    let done = subst (λ a. MatchResult c.finish.result (IsLoaded a inv.0) (EndsIn inv.0)) c.reads.invariant.3 (c.finish.ensures.ends inv.0 inv.1 inv.3) in
    ends_bad (left_of g.S.Source.left c.args.source.now) (g.S.Source.left c.fill.new.self.source.now) inv.0 c.args.amount was ended c.finish.result done

pub returns-clause-ng : goal.returns-clause-ng
returns-clause-ng g c =
    let inv = c.reads.invariant.2 in
    let none : c.fill.new.self.window ≡ [] = no_bytes c.fill.new.self.window (let few : length c.fill.new.self.window ≡ 0 = omega (arith, c.if-count-eq0.true, ap (λ (bytes : List ℕ). length bytes) c.window-window.ensures) in few) in
    let was = given_drained (left_of g.S.Source.left c.args.source.now) _ (g.S.Source.left c.fill.new.self.source.now) inv.0 c.reads.source.window c.fill.new.self.window inv.2 c.fill.ensures.left none in
    let ended = ended_ahead (g.S.Source.left c.reads.source.source.now) (g.S.Source.left c.fill.new.self.source.now) c.reads.source.window c.fill.new.self.window c.fill.ensures.kept c.fill.ensures.left none (c.in-Ok.ensures.end none) in
    let done = subst (λ a. MatchResult c.finish.result (IsLoaded a inv.0) (EndsIn inv.0)) c.reads.invariant.3 (c.finish.ensures.ends inv.0 inv.1 inv.3) in
    ends_ng (left_of g.S.Source.left c.args.source.now) (g.S.Source.left c.fill.new.self.source.now) inv.0 c.args.amount was ended c.finish.result done

pub returns-clause-fine : goal.returns-clause-fine
returns-clause-fine g c =
    let inv = c.reads.invariant.2 in
    let none : c.fill.new.self.window ≡ [] = no_bytes c.fill.new.self.window (let few : length c.fill.new.self.window ≡ 0 = omega (arith, c.if-count-eq0.true, ap (λ (bytes : List ℕ). length bytes) c.window-window.ensures) in few) in
    let was = given_drained (left_of g.S.Source.left c.args.source.now) _ (g.S.Source.left c.fill.new.self.source.now) inv.0 c.reads.source.window c.fill.new.self.window inv.2 c.fill.ensures.left none in
    let done = subst (λ a. MatchResult c.finish.result (IsLoaded a inv.0) (EndsIn inv.0)) c.reads.invariant.3 (c.finish.ensures.ends inv.0 inv.1 inv.3) in
    ends_fine (left_of g.S.Source.left c.args.source.now) (g.S.Source.left c.fill.new.self.source.now) inv.0 c.args.amount was c.finish.result done
