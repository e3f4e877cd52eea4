-- The text of a network, as RFC 4632 (section 3.1) writes it.
use Rattle.std.specs.Prelude.{ℕ, Bool, List, ◌++◌, ◌&&◌, nat_le, codes, decimal}
use Rattle.std.specs.Int.{to_be_bytes, w32}
use Rattle.std.specs.Net.Text.{ipv4_text}
use Rattle.prefixes.specs.declared.network.Prefix.{Prefix}

-- `A/L`: four decimal numbers with dots between them, and the length
unfoldable pub prefix_text : Prefix → List ℕ
prefix_text p = ipv4_text (to_be_bytes w32 p.bits) ++ codes "/" ++ decimal p.length

-- `.`, `/`, or `0` to `9`, which follow them in ASCII
abbrev pub is_text_byte : ℕ → Bool
is_text_byte b = nat_le 46 b && nat_le b 57
