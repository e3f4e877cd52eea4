use Rattle.std.proofs.Common.{◌∙◌, sym, ap, ◌++◌, ◌∷◌, [], List}
use Rattle.std.proofs.lemmas.List.{append-nil}
use Rattle.hash_rows.specs.declared.shape.Packet.{Packet}
use Rattle.pcap_read.specs.Records.{Framed}
use Rattle.capture_load.proofs.Noted.{on_ok, one_packet, no_packet}
use Rattle.capture_load.proofs.notes.Notes.note.Goals as goal

pub returns-in-Ok-clause-packets : goal.returns-in-Ok-clause-packets
returns-in-Ok-clause-packets c =
    let f : Framed = record { original = c.args.original; bytes = c.args.bytes.now } in
    let was = c.args.self.now.packets.items in
    let packet = ap (λ n. record { key = c.in-Ok.key; amount = n } ∷ []) c.amount_in-amount.ensures ∙ sym (one_packet c.args.self.now.amount f c.in-Ok.key c.in-Ok.ensures) in
    on_ok c.add.result (λ items. items ∙ ap (λ (ps : List Packet). was ++ ps) packet) c.add.ensures

pub returns-in-Err-clause-packets : goal.returns-in-Err-clause-packets
returns-in-Err-clause-packets c =
    let f : Framed = record { original = c.args.original; bytes = c.args.bytes.now } in
    let was = c.args.self.now.packets.items in
    sym (append-nil was) ∙ ap (λ (ps : List Packet). was ++ ps) (sym (no_packet c.args.self.now.amount f c.in-Err.why c.in-Err.ensures))
