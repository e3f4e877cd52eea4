use Rattle.std.proofs.Common.{◌≤◌, ◌*◌, ◌∙◌, ℕ, length, sym, ap, arith}
use Rattle.std.proofs.lemmas.Nat.{mul-le}
use Rattle.hash_rows.specs.Rules.{rules_of}
use Rattle.shares.proofs.Sharing.{share_few}
use Rattle.journal_audit.proofs.GivenCases.{given_is, first_is, updates_are}
use Rattle.journal_audit.proofs.given.given_worker.Goals as goal

pub overflow_mul-updates : goal.overflow_mul-updates
overflow_mul-updates g c =
    let few = share_few c.args.journal.now.options c.args.packets.now c.args.worker in
    let len : c.len.result ≤ 16777216 = omega (arith, c.len.ensures, ap length c.in_ok-positions.ensures.share, few, c.requires.few) in
    let most = mul-le c.args.journal.now.options.shape.rows c.len.result 8 16777216 c.requires.lawful.shape.rows len in
    omega (arith, most)

pub replay_worker-requires-clause-few : goal.replay_worker-requires-clause-few
replay_worker-requires-clause-few g c κs within =
    let few = share_few c.args.journal.now.options c.args.packets.now c.args.worker in
    omega (arith, ap length c.in_ok-positions.ensures.share, few, c.requires.few)

pub returns-clause-messages : goal.returns-clause-messages
returns-clause-messages g c =
    let kind = g.met.K.Kind g.world.𝓛 g.world.𝓜 g.world.𝓡 ((λ s x. x), (λ x. x), (λ x. x), (λ x. x)) in
    ap (λ v. v.items) c.into_messages-messages.ensures
    ∙ given_is c.args.packets.now c.args.journal.now c.args.worker c.get-refused.result.now c.get-refused.ensures g.K.Kind.rules (kind.is_sketch ∙ ap rules_of (sym c.requires.sketch))
    _ _ c.in_ok-positions.ensures.share c.in_ok-replay.ensures.tells.replays.messages

pub returns-clause-failure : goal.returns-clause-failure
returns-clause-failure g c =
    let kind = g.met.K.Kind g.world.𝓛 g.world.𝓜 g.world.𝓡 ((λ s x. x), (λ x. x), (λ x. x), (λ x. x)) in
    let rules_is = kind.is_sketch ∙ ap rules_of (sym c.requires.sketch) in
    let packets = c.args.packets.now in
    let j = c.args.journal.now in
    let messages = ap (λ v. v.items) c.into_messages-messages.ensures
    ∙ given_is packets j c.args.worker c.get-refused.result.now c.get-refused.ensures g.K.Kind.rules rules_is _ _ c.in_ok-positions.ensures.share c.in_ok-replay.ensures.tells.replays.messages in
    c.worker_failure-failure.ensures packets (c.deref.ensures.value ∙ messages)
    (ap (λ (n : ℕ). j.options.shape.rows * n) c.len.ensures ∙ updates_are packets j.options c.args.worker _ c.in_ok-positions.ensures.share)
    (first_is packets j c.args.worker c.get-refused.result.now c.get-refused.ensures g.K.Kind.rules rules_is _ _ _ c.in_ok-positions.ensures.share c.in_ok-replay.ensures.lane c.in_ok-replay.ensures.tells.first)
