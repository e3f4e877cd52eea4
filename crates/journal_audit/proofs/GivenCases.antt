-- A worker's updates counted again, by the options and the journal.
use Rattle.std.proofs.Common.{◌≡◌, ◌*◌, ℕ, List, Bool, length, sym, ap, ap₂, ◌∙◌, subst}
use Rattle.std.specs.Prelude.{Some, Option, slice_get}
use Rattle.hash_rows.specs.declared.options.Options.{Options}
use Rattle.hash_rows.specs.declared.shape.Packet.{Packet}
use Rattle.hash_rows.specs.declared.shape.Push.{Push}
use Rattle.hash_rows.specs.declared.shape.Update.{Update}
use Rattle.hash_rows.specs.Marks.{marked}
use Rattle.hash_rows.specs.Rules.{Rules}
use Rattle.push_history.specs.Journal.{rules_in, updates_by_options}
use Rattle.push_history.specs.Share.{share_of_worker}
use Rattle.push_history.specs.Updates.{updates_of}
use Rattle.push_history.proofs.Sharing.{updates_len}
use Rattle.given_law.specs.Given.{given_messages}
use Rattle.push_replay.specs.declared.replay.Fault.{Fault}
use Rattle.push_replay.specs.Replays.{IsFirstFault}
use Rattle.octo_text.specs.Content.{content_of}
use Rattle.octo_text.specs.declared.journal.Journal.{Journal}
use Rattle.audit_law.specs.WorkerTests.{given_by, refused_by}
use Rattle.journal_audit.proofs.WorkerCases.{refused_at}

pub updates_are : (packets : List Packet) (o : Options) (w : ℕ) (share : List ℕ) → share ≡ share_of_worker o.share o.workers packets w
    → o.shape.rows * length share ≡ length (updates_by_options packets o w)
unfolding updates_by_options
updates_are packets o w share is =
    ap (λ (t : List ℕ). o.shape.rows * length t) is ∙ sym (updates_len (rules_in o) o.shape packets (share_of_worker o.share o.workers packets w))

updates_in : (packets : List Packet) (o : Options) (w : ℕ) (r : Rules) → r ≡ rules_in o → (share : List ℕ) → share ≡ share_of_worker o.share o.workers packets w
    → updates_of r o.shape packets share ≡ updates_by_options packets o w
unfolding updates_by_options
updates_in packets o w r same share is = ap₂ (λ (s : Rules) (t : List ℕ). updates_of s o.shape packets t) same is

module _ (packets : List Packet) (j : Journal) (w : ℕ) (bits : List Bool) (at : slice_get j.lists.refused.items w ≡ Some bits) (r : Rules) (same : r ≡ rules_in j.options) where
  pub given_is : (messages : List Push) (share : List ℕ) → share ≡ share_of_worker j.options.share j.options.workers packets w
      → messages ≡ given_messages r w j.options.threshold (updates_of r j.options.shape packets share) (marked bits)
      → messages ≡ given_by packets j.options (content_of j) w
  unfolding given_by
  given_is messages share is told =
      told
      ∙ ap₂ (λ (s : Rules) (us : List Update). given_messages s w j.options.threshold us (marked bits)) same (updates_in packets j.options w r same share is)
      ∙ ap (given_messages (rules_in j.options) w j.options.threshold (updates_by_options packets j.options w)) (sym (refused_at j w bits at))

  pub first_is : (fault : Option Fault) (lane : ℕ) (share : List ℕ) → share ≡ share_of_worker j.options.share j.options.workers packets w → lane ≡ j.options.lane
      → IsFirstFault r w j.options.threshold lane (updates_of r j.options.shape packets share) (marked bits) fault
      → IsFirstFault (rules_in j.options) w j.options.threshold j.options.lane (updates_by_options packets j.options w) (refused_by (content_of j) w) fault
  first_is fault lane share is lane_is first =
      subst (λ (F : List ℕ). IsFirstFault (rules_in j.options) w j.options.threshold j.options.lane (updates_by_options packets j.options w) F fault) (sym (refused_at j w bits at))
      (subst (λ (us : List Update). IsFirstFault (rules_in j.options) w j.options.threshold j.options.lane us (marked bits) fault) (updates_in packets j.options w r same share is)
      (subst (λ (L : ℕ). IsFirstFault (rules_in j.options) w j.options.threshold L (updates_of r j.options.shape packets share) (marked bits) fault) lane_is
      (subst (λ (s : Rules). IsFirstFault s w j.options.threshold lane (updates_of r j.options.shape packets share) (marked bits) fault) same first)))
