use Rattle.std.proofs.Common.{rules, arith, ◌≡◌, ◌∙◌, true, sym, ap}
use Rattle.live_state.specs.Fold.{StateView, layout_in}
use Rattle.live_state.proofs.Live.{shows_all}
use Rattle.told_table.specs.Tables.{all_messages}
use Rattle.live_audit.proofs.Counting.{all_few, all_fit}
use Rattle.live_audit.proofs.alone.alone_of.Goals as goal

pub returns : goal.returns
returns g c =
    let r = g.K.Kind.rules in
    let o = c.args.options.now in
    let lists = c.args.lists.now in
    let lone : c.is_lone.result ≡ true = search rules in
    let shows = shows_all r (layout_in o) (all_messages lists) (all_fit r o lists c.requires.workers c.requires.sent) (omega (arith, all_few lists c.requires.few)) in (
      sym c.is_lone.ensures ∙ lone,
      ap (λ (s : StateView). s.heavy.keys) c.in_ok-state.ensures ∙ shows.keys,
      ap (λ (s : StateView). s.heavy.missed) c.in_ok-state.ensures ∙ shows.missed,
    )
