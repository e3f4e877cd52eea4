-- The report of a capture's source networks: what was read, and what a Count-Min of each length says of them.
use Rattle.std.specs.Prelude.{◌≡◌, ◌≤◌, ℕ, Bool, true, false, List, length, map, sum_by, count_by, All, if◌then◌else◌}
use Rattle.packet_key.specs.declared.key.FlowKey.{FlowKey}
use Rattle.packet_key.specs.declared.key.FlowKey.TheVariants.{V4, V6}
use Rattle.hash_rows.specs.declared.answer.Answer.{Answer}
use Rattle.hash_rows.specs.declared.options.Options.{Options}
use Rattle.hash_rows.specs.declared.shape.Packet.{Packet}
use Rattle.hash_rows.specs.declared.shape.Shape.{Shape}
use Rattle.hash_rows.specs.declared.shape.Tallies.{Tallies}
use Rattle.prefixes.specs.declared.network.Prefix.{Prefix}
use Rattle.prefixes.specs.Networks.{IsNetwork}
use Rattle.prefix_stack.specs.declared.hit.Hit.{Hit}
use Rattle.prefix_stack.specs.Descent.{IsFound, hit_by}
use Rattle.prefix_stack.specs.Levels.{level_table, level_tables}
use Rattle.prefix_stack.specs.Runs.{HaveAnswers}
use Rattle.prefix_report.specs.declared.report.PrefixReport.{PrefixReport}

-- whether the key is that of an IPv4 packet
abbrev pub is_ipv4 : FlowKey → Bool
is_ipv4 (V4 src dst sport dport proto) = true
is_ipv4 (V6 src dst sport dport proto) = false

-- whether it is that of an IPv6 packet
abbrev pub is_other : FlowKey → Bool
is_other (V4 src dst sport dport proto) = false
is_other (V6 src dst sport dport proto) = true

-- what a packet adds to the total of the IPv4 packets
abbrev pub ipv4_amount : Packet → ℕ
ipv4_amount packet = if is_ipv4 packet.key then packet.amount else 0

-- what the IPv4 packets amount to
unfoldable pub ipv4_total : List Packet → ℕ
ipv4_total packets = sum_by ipv4_amount packets

-- how many IPv6 packets there are
unfoldable pub other_count : List Packet → ℕ
other_count packets = count_by (λ packet. is_other packet.key) packets

-- a network, and what the table of its length says of it
unfoldable pub estimated : Shape → List Packet → Prefix → Hit
estimated shape packets p = hit_by (level_table shape packets p.length) p

-- the report tells what was read, what readers were answered in the rounds of each length, the estimates of the watched networks, and
-- which networks reach the least number
pub record IsPrefixReport (packets : List Packet) (records : ℕ) (skipped : Tallies) (cut : ℕ) (o : Options) (watch : List Prefix)
    (r : PrefixReport) : Type 0 where
  pub shape : r.shape ≡ o.shape
  pub amount : r.amount ≡ o.amount
  pub records_are : r.records ≡ records
  pub keyed : r.keyed ≡ length packets
  pub other : r.other ≡ other_count packets
  pub skipped_are : r.skipped ≡ skipped
  pub cut_is : r.cut ≡ cut
  pub total : r.total ≡ ipv4_total packets
  pub answers : HaveAnswers packets o watch 4 r.answers.items
  pub watch_are : r.watch.items ≡ map (estimated o.shape packets) watch
  pub found : IsFound (level_tables o.shape packets) o.heavy o.least r.found.hits.items r.found.more

-- so few estimates that the answer's line is short
abbrev pub HasFewShown : Answer → Type 0
HasFewShown a = length a.shown.items ≤ 16

-- all of some hits are networks
abbrev pub AreNetworks : List Hit → Type 0
AreNetworks hits = All (λ hit. IsNetwork hit.prefix) hits

-- each length is told of, with short lines
pub record HasEachLength (r : PrefixReport) : Type 0 where
  pub four : length r.answers.items ≡ 4
  pub more : length r.found.more ≡ 4
  pub answers : All (λ row. All HasFewShown row.items) r.answers.items
  pub watch : AreNetworks r.watch.items
  pub hits : AreNetworks r.found.hits.items
