use Rattle.std.proofs.Common.{◌∙◌, sym, ap}
use Rattle.hash_rows.specs.Hash.{key_hash_of}
use Rattle.hash_rows.proofs.KeyHashes.{hashed_v4}
use Rattle.hash_rows.proofs.hash.key_hash.Goals as goal

pub returns-in-V4 : goal.returns-in-V4
returns-in-V4 c =
    hashed_v4 c.in-V4.src c.in-V4.dst c.in-V4.sport c.in-V4.dport c.in-V4.proto c.with_u32.result c.with_u32-hash.result c.with_tail.result
    c.with_u32.ensures c.with_u32-hash.ensures c.with_tail.ensures ∙ ap key_hash_of (sym c.in-V4.is)
