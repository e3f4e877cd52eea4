use Rattle.std.proofs.Common.{◌∙◌, List, arith, subst}
use Rattle.hash_rows.specs.declared.shape.Packet.{Packet}
use Rattle.epoch_run.specs.Changes.{AreChanges, estimates_of, packet_keys}
use Rattle.epoch_run.proofs.Changing.{all_listed}
use Rattle.epoch_run.proofs.changed.changed_flows.Goals as goal

pub returns : goal.returns
returns c =
    let greatest = c.in_ok-greatest.greatest in
    subst (λ (ps : List Packet). AreChanges (estimates_of c.args.old.now) (estimates_of c.args.new.now) c.args.least (packet_keys ps) greatest.changes.items)
    (c.as_slice.ensures ∙ c.in_ok-packets.ensures)
    (all_listed (estimates_of c.args.old.now) (estimates_of c.args.new.now) c.args.least _ 4294967295 greatest.count greatest.changes.items c.in_ok-greatest.ensures (omega (arith, c.if-greatest-from.false)))
