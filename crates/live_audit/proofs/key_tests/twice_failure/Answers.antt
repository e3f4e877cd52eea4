use Rattle.std.proofs.Common.{rules, arith, ◌≡◌, ◌<◌, ◌+◌, ◌∙◌, ℕ, true, not, sym, ap}
use Rattle.std.specs.Prelude.{Some}
use Rattle.push_history.specs.LiveHeavy.{same_key}
use Rattle.audit_law.specs.declared.failure.Value.TheVariants.{Key, Number}
use Rattle.audit_law.specs.Tests.{Test, test}
use Rattle.audit_law.specs.LiveTests.{key_at}
use Rattle.audit_law.proofs.Failing.{all_pass, fails_at}
use Rattle.live_audit.proofs.key_tests.twice_failure.Goals as goal

pub returns-then-same_key : goal.returns-then-same_key
returns-then-same_key c =
    let e = c.loop-earlier.earlier in
    let live = c.args.live.now in
    let place = c.args.place in
    let f : ℕ → Test = λ e. test c.args.line (Key (key_at live place)) (Number (c.args.first + e)) (not (same_key (key_at live e) (key_at live place))) in
    let lt : e < place = search rules in
    let same : same_key (key_at live e) (key_at live place) ≡ true = search rules in
    let from : c.from.result ≡ c.args.first + e = search rules in
    ap (λ (n : ℕ). Some (record { line = c.args.line; kept = Key (key_at live place); lawful = Number n })) from ∙ sym (fails_at f place e lt c.loop-earlier.invariant (ap not same))

pub returns : goal.returns
returns c =
    let live = c.args.live.now in
    let place = c.args.place in
    let all = c.loop-earlier.invariant in
    let end : c.loop-earlier.earlier ≡ place = grind arith in
    sym (all_pass (λ e. test c.args.line (Key (key_at live place)) (Number (c.args.first + e)) (not (same_key (key_at live e) (key_at live place)))) place (λ k lt. all k (omega (arith, lt, end))))
