-- What is known of all messages.
use Rattle.std.specs.Prelude.{◌≡◌, ◌&&◌, List}
use Rattle.std.specs.Global.{Vec}
use Rattle.packet_key.specs.declared.key.FlowKey.{FlowKey}
use Rattle.hash_rows.specs.declared.options.Options.{Options}
use Rattle.hash_rows.specs.declared.shape.Push.{Push}
use Rattle.hash_rows.specs.Rules.{Rules}
use Rattle.push_history.specs.LiveHeavy.{distinct_keys, is_among, live_keys, missed_keys}
use Rattle.told_table.specs.Tables.{IsTableOf, all_messages, lists_of}
use Rattle.audit_law.specs.LiveTests.{is_lone}
use Rattle.live_audit.specs.Alone.{IsAlone}
use Rattle.live_audit.specs.Counted.{has_key}
use Rattle.live_audit.specs.declared.known.Known.{Known}

-- the live keys and those that a message has; the table of all messages; and, where one worker alone has some, the
-- state after them
pub record IsKnown {K H : Type 0} (r : Rules) (o : Options) (live : List FlowKey) (lists : List (Vec Push)) (k : Known K H) : Type 0 where
  pub live_is : k.live ≡ distinct_keys live
  pub sent_is : (key : FlowKey) → is_among k.sent key ≡ (is_among (distinct_keys live) key && has_key (all_messages lists) key)
  pub shape : k.table.shape ≡ o.shape
  pub told : IsTableOf r k.table (all_messages lists)
  pub alone_is : IsAlone (is_lone (lists_of lists)) (live_keys r o.shape o.heavy o.least (all_messages lists))
      (missed_keys r o.shape o.heavy o.least (all_messages lists)) k.alone
