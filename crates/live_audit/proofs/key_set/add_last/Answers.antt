use Rattle.std.proofs.Common.{◌≡◌, ◌∙◌, ap, None}
use Rattle.std.specs.Map.{keys_of}
use Rattle.indexmap.specs.IndexMap.{get}
use Rattle.indexmap.proofs.CallerLemmas.{insert_entry-new}
use Rattle.packet_key.specs.Keys.{same_key}
use Rattle.heavy_keys.proofs.Tables.{looked_up}
use Rattle.heavy_keys.proofs.Keys.{nothing_found, keys_pushed}
use Rattle.live_audit.proofs.key_set.add_last.Goals as goal

pub returns-in-Ok : goal.returns-in-Ok
returns-in-Ok c =
    let none : get same_key c.args.keys.now c.args.key ≡ None =
    nothing_found (get same_key c.args.keys.now c.args.key) (looked_up c.args.key c.args.keys.now.entries ∙ c.requires.absent) in
    ap keys_of (c.in-Ok.ensures.entries ∙ insert_entry-new same_key c.args.keys.now c.args.key _ none) ∙ keys_pushed c.args.keys.now.entries c.args.key _
