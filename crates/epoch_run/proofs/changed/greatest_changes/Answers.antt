use Rattle.std.proofs.Common.{◌≡◌, ◌∙◌, min, pos, to_z, w64, ap, subst, arith}
use Rattle.std.proofs.lemmas.Int.{to_z_pos}
use Rattle.heavy_keys.specs.FinalHeavy.{AreHeaviest}
use Rattle.epoch_run.specs.Changes.{packet_keys}
use Rattle.epoch_run.specs.Distances.{capped_distance}
use Rattle.epoch_run.proofs.Changing.{greatest_from}
use Rattle.epoch_run.proofs.changed.greatest_changes.Goals as goal

pub returns : goal.returns
returns c =
    let least : to_z w64 c.min-least.result ≡ pos (min c.args.least 9223372036854775807) =
    to_z_pos w64 c.min-least.result (omega (arith, c.min-least.ensures)) ∙ ap pos c.min-least.ensures in
    greatest_from c.args.old.now c.args.new.now c.args.least (packet_keys c.args.packets.now) c.args.most c.in_ok-count.field-0.count c.in_ok-count.field-0.flows.items c.in_ok-changes.changes.items c.requires.old c.requires.new
    (subst (λ z. AreHeaviest (capped_distance c.args.old.now c.args.new.now) z (packet_keys c.args.packets.now) c.args.most c.in_ok-count.field-0.count c.in_ok-count.field-0.flows.items) least c.in_ok-count.ensures)
    c.in_ok-changes.ensures
