use Rattle.std.proofs.Common.{◌≡◌, ◌∙◌, ℕ, List, length, sym, subst}
use Rattle.hash_rows.specs.declared.options.Share.TheVariants.{Turn}
use Rattle.shares.specs.declared.owners.Owners.{Owners}
use Rattle.shares.specs.Owners.{AreOwners}
use Rattle.shares.specs.Positions.{AreRising}
use Rattle.push_history.specs.Share.{share_of_worker}
use Rattle.hash_rows.specs.declared.options.Options.{Options}
use Rattle.hash_rows.specs.declared.shape.Packet.{Packet}
use Rattle.shares.proofs.Sharing.{share_by_key, share_in_turn, share_rises}
use Rattle.shares.proofs.owners.positions_of.Goals as goal

-- a list that is a share rises
rises : (o : Options) (packets : List Packet) (w : ℕ) (share : List ℕ) → share ≡ share_of_worker o.share o.workers packets w → AreRising (length packets) share
rises o packets w share is = subst (λ (l : List ℕ). AreRising (length packets) l) (sym is) (share_rises o packets w)

pub returns-in-InTurn : goal.returns-in-InTurn
returns-in-InTurn c =
    let o = c.args.options.now in
    let packets = c.args.packets.now in
    let turn : o.share ≡ Turn = subst (λ (owners : Owners). AreOwners o packets owners) c.in-InTurn.is c.requires.owners in
    let is = c.of_turn.ensures ∙ share_in_turn o packets c.args.worker turn in
    record { share = is; rising = rises o packets c.args.worker c.of_turn.result is }

pub returns-in_ok-share_of_owner-in-Listed : goal.returns-in_ok-share_of_owner-in-Listed
returns-in_ok-share_of_owner-in-Listed c =
    let o = c.args.options.now in
    let packets = c.args.packets.now in
    let are = subst (λ (owners : Owners). AreOwners o packets owners) c.in-Listed.is c.requires.owners in
    let is = c.of_list.ensures ∙ c.in_ok-share_of_owner-in-Listed.ensures ∙ share_by_key o packets c.args.worker c.in-Listed.list.items are.0 are.1 in
    record { share = is; rising = rises o packets c.args.worker c.of_list.result is }
