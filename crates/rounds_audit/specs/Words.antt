-- The words of a journal's lines.
use Rattle.std.specs.Prelude.{ℕ, List, codes, decimal}
use Rattle.std.specs.Fmt.{signed_decimal}
use Rattle.packet_key.specs.KeyText.{text_of}
use Rattle.audit_law.specs.declared.failure.Value.{Value}
use Rattle.audit_law.specs.declared.failure.Value.TheVariants.{Number, Signed, Key, Absent}

-- a number, a key, or `none`
abbrev pub word_of : Value → List ℕ
word_of (Number n) = decimal n
word_of (Signed z) = signed_decimal z
word_of (Key key) = text_of key
word_of Absent = codes "none"
