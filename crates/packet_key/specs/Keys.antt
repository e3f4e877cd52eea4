-- Equal keys.
use Rattle.std.specs.Prelude.{Bool}
use Rattle.packet_key.specs.declared.key.FlowKey.{FlowKey}
use Rattle.packet_key.specs.contracts.key.FlowKeyPartialEq.TheImpl as equality

-- what `==` answers of two keys
abbrev pub same_key : FlowKey → FlowKey → Bool
same_key = (equality.ghosts).eq
