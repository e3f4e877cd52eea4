use Rattle.std.proofs.Common.{◌∙◌, refl, subst, sym, codes}
use Rattle.words.specs.declared.command.Command.TheVariants.{Prefix}
use Rattle.words.specs.Values.{ReadsNetworks}
use Rattle.words.proofs.Once.{same_networks}
use Rattle.words.proofs.read.read_prefix.Goals as goal

pub returns-clause-ok : goal.returns-clause-ok
returns-clause-ok c =
    let line = c.in_ok-matches.ensures.ok.line in
    let found = c.in_ok-matches.ensures.ok.matches line.0 line.1 in
    let watch = c.in_ok-watch.watch in
    let networks = subst (λ v. ReadsNetworks v watch.items) (c.get_str.ensures ∙ found.values (codes "watch") refl) c.in_ok-watch.ensures.ok in
    (c.in_ok-options.options, watch, refl, (line.0, line.1, c.in_ok-options.ensures.ok line.0 found, networks, c.in_ok-watch.ensures.room))

pub returns-clause-once : goal.returns-clause-once
returns-clause-once c = λ d w g.
    let found = c.in_ok-matches.ensures.ok.matches g.0 g.1 in
    let watch = c.in_ok-watch.watch in
    let networks = subst (λ v. ReadsNetworks v watch.items) (c.get_str.ensures ∙ found.values (codes "watch") refl) c.in_ok-watch.ensures.ok in
    let options = c.in_ok-options.ensures.once g.0 found d g.2 in
    let items = same_networks _ watch.items w.items networks g.3 in
    let room = c.in_ok-watch.ensures.room ∙ sym g.4 in
    λ i. Prefix (options i) (record { items = items i; room = room i })
