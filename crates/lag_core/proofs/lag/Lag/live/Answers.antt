use Rattle.std.proofs.Common.{◌∙◌, ap, arith, length, refl, slice_get, sym}
use Rattle.heavy_keys.specs.Noted.{HeavyTable}
use Rattle.lag_core.proofs.Calls.{live_read, live_there}
use Rattle.lag_core.proofs.lag.Lag.live.Goals as goal

pub entry-requires : goal.entry-requires
entry-requires g c =
    let inside = live_there g.K.Kind.stands g.K.Kind.rules _ _ c.self.view_is _ c.self.invariant.1 c.args.place c.requires in
    omega (arith, inside, ap (λ (t : HeavyTable). length t.keys) c.heavy.ensures)

pub returns : goal.returns
returns g c =
    live_read g.K.Kind.stands g.K.Kind.rules _ _ c.self.view_is refl c.args.place c.entry.result c.requires
    (ap (λ (t : HeavyTable). slice_get t.keys c.args.place) (sym c.heavy.ensures) ∙ c.entry.ensures)
