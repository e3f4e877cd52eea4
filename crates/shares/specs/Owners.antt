-- Who owns each packet.
use Rattle.std.specs.Prelude.{◌≡◌, List, length, map}
use Rattle.std.specs.List.{range_with_len}
use Rattle.hash_rows.specs.declared.options.Options.{Options}
use Rattle.hash_rows.specs.declared.options.Share.TheVariants.{Turn, Key}
use Rattle.hash_rows.specs.declared.shape.Packet.{Packet}
use Rattle.push_history.specs.Share.{worker_of}
use Rattle.shares.specs.declared.owners.Owners.{Owners}
use Rattle.shares.specs.declared.owners.Owners.TheVariants.{InTurn, Listed}

-- the packets are shared out in turn, or by key with the worker of each
abbrev pub AreOwners : Options → List Packet → Owners → Type 0
AreOwners o packets InTurn = o.share ≡ Turn
AreOwners o packets (Listed list) = (o.share ≡ Key)
    × (list.items ≡ map (worker_of Key o.workers packets) (range_with_len 0 (length packets)))
