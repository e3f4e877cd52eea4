use Rattle.std.proofs.Common.{◌∙◌, ap, List}
use Rattle.packet_key.specs.declared.key.FlowKey.{FlowKey}
use Rattle.push_history.specs.LiveHeavy.{is_among}
use Rattle.heavy_keys.proofs.Tables.{looked_up}
use Rattle.live_audit.proofs.key_set.KeySet.has.Goals as goal

pub returns : goal.returns
returns c =
    c.contains_key.ensures ∙ looked_up c.args.key.now c.self.inside.keys.entries ∙ ap (λ (t : List FlowKey). is_among t c.args.key.now) c.self.view_is
