use Rattle.std.proofs.Common.{◌∙◌, ap}
use Rattle.push_history.specs.LiveHeavy.{is_among}
use Rattle.heavy_keys.specs.Noted.{HeavyTable}
use Rattle.heavy_keys.proofs.Tables.{looked_up}
use Rattle.heavy_keys.proofs.heavy.Heavy.is_held.Goals as goal

pub returns-else-is_at : goal.returns-else-is_at
returns-else-is_at c =
    c.contains_key.ensures ∙ looked_up c.args.key.now c.self.inside.keys.entries ∙ ap (λ (t : HeavyTable). is_among t.keys c.args.key.now) c.self.view_is
