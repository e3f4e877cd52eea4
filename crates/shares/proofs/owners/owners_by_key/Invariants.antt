use Rattle.std.proofs.Common.{◌≡◌, length, map}
use Rattle.std.specs.List.{range_with_len}
use Rattle.hash_rows.specs.declared.options.Share.TheVariants.{Key}
use Rattle.push_history.specs.Share.{worker_of}
use Rattle.shares.proofs.owners.owners_by_key.Given as goal

abbrev pub invariant-loop-position : goal.invariant-loop-position
invariant-loop-position l = (l.owners.items ≡ map (worker_of Key l.workers l.packets) (range_with_len 0 l.position)) × (l.owners.room ≡ length l.packets)
