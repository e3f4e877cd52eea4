use Rattle.std.proofs.Common.{rules, ◌≡◌, ◌<◌, ℕ, List, length, sym, subst}
use mathlib.Core.List.{IsPrefix}
use Rattle.hash_rows.specs.declared.shape.Push.{Push}
use Rattle.live_state.specs.Copies.{IsCopyOf}
use Rattle.live_state.specs.Fold.{most, state_after}
use Rattle.push_history.proofs.Prefixes.{prefix_self, prefix_trans}
use Rattle.live_view.proofs.Settled.{asked_once, settled, rest_same}
use Rattle.live_view.proofs.settling.settle.Goals as goal

pub loop-init : goal.loop-init
loop-init g c =
    let before = c.args.view.now in
    let published = c.args.writer.now.published in
    let learn = c.learn.ensures in
    let learned = c.learn.new.self in
    let ask = c.ask.ensures in
    let known : IsPrefix before.known learned.known = subst (λ (l : List Push). IsPrefix before.known l) (sym learn.known) (prefix_self before.known) in
    let told : IsPrefix published learned.told = subst (λ (l : List Push). IsPrefix l learned.told) c.tell.ensures.told.1 learn.told in
    let whole = prefix_trans published learned.told c.ask.new.self.known told ask.told in (
      search rules,
      search rules,
      asked_once g.K.Kind.rules before published c.args.keys.now c.args.into.now learned c.ask.new.self c.args.into.now c.ask.new.into
          learn.pair.0 learn.pair.1 known (rest_same c.args.into.now) ask.pair ask.room ask.rest ask.none ask.known ask.fit ask.one whole,
    )

pub loop-preserved : goal.loop-preserved
loop-preserved g c =
    let h = c.loop.invariant.2 in
    let ask = c.ask-in-loop.ensures in
    let published = c.args.writer.now.published in (
      search rules,
      search rules,
      asked_once g.K.Kind.rules c.args.view.now published c.args.keys.now c.args.into.now c.loop.view c.ask-in-loop.new.self c.loop.into c.ask-in-loop.new.into
          h.book h.layout h.known h.rest ask.pair ask.room ask.rest ask.none ask.known ask.fit ask.one (prefix_trans published c.loop.view.known c.ask-in-loop.new.self.known h.whole ask.known),
    )

pub returns-then-into-all-clause-whole : goal.returns-then-into-all-clause-whole
returns-then-into-all-clause-whole g c =
    let h = c.loop.invariant.2 in
    let published = c.args.writer.now.published in
    let all : c.folded-all.result ≡ length published = search rules in
    let found : c.loop.into.folded ≡ length published = search rules in
    let short : length published < most = subst (λ (n : ℕ). n < most) all c.folded-all.ensures.room in
    (settled g.K.Kind.rules c.args.view.now published c.args.keys.now c.args.into.now c.loop.view c.loop.into h found short, h.none)

pub returns-then-into-all-clause-before : goal.returns-then-into-all-clause-before
returns-then-into-all-clause-before g c =
    let h = c.loop.invariant.2 in
    let published = c.args.writer.now.published in
    let all : c.folded-all.result ≡ length published = search rules in
    let found : c.loop.into.folded ≡ length published = search rules in
    let short : length published < most = subst (λ (n : ℕ). n < most) all c.folded-all.ensures.room in
    let same = settled g.K.Kind.rules c.args.view.now published c.args.keys.now c.args.into.now c.loop.view c.loop.into h found short in
    subst (λ (l : List Push). IsPrefix c.args.view.now.known l) same h.known

pub returns-then-into-all-clause-one : goal.returns-then-into-all-clause-one
returns-then-into-all-clause-one g c =
    let h = c.loop.invariant.2 in
    let published = c.args.writer.now.published in
    let all : c.folded-all.result ≡ length published = search rules in
    let found : c.loop.into.folded ≡ length published = search rules in
    let short : length published < most = subst (λ (n : ℕ). n < most) all c.folded-all.ensures.room in
    let same = settled g.K.Kind.rules c.args.view.now published c.args.keys.now c.args.into.now c.loop.view c.loop.into h found short in
    let layout = c.requires.pair.1 in
    let here : IsCopyOf g.K.Kind.rules (state_after g.K.Kind.rules c.args.view.now.layout published) c.args.keys.now c.loop.into =
    subst (λ (l : List Push). IsCopyOf g.K.Kind.rules (state_after g.K.Kind.rules c.args.view.now.layout l) c.args.keys.now c.loop.into) same h.one in
    subst (λ l. IsCopyOf g.K.Kind.rules (state_after g.K.Kind.rules l published) c.args.keys.now c.loop.into) layout here
