-- What each worker has told, once it has counted all its updates.
use Rattle.std.specs.Prelude.{◌≡◌, ◌<◌, ℕ, ℤ, List, [], length, slice_index_or}
use Rattle.hash_rows.specs.declared.options.Full.TheVariants.{Leave}
use Rattle.hash_rows.specs.declared.options.Options.{Options}
use Rattle.hash_rows.specs.declared.shape.Packet.{Packet}
use Rattle.hash_rows.specs.declared.shape.Push.{Push}
use Rattle.hash_rows.specs.declared.shape.Update.{Update}
use Rattle.hash_rows.specs.Rules.{Rules}
use Rattle.hash_rows.specs.Shapes.{size_of}
use Rattle.push_history.specs.Pushes.{LawfulPushes}
use Rattle.push_history.specs.Share.{share_of_worker}
use Rattle.push_history.specs.Updates.{updates_of}
use Rattle.push_rule.specs.Stands.{PrivateView, StandsFor}

-- the updates of worker w
abbrev pub updates_by_rules : Rules → List Packet → Options → ℕ → List Update
updates_by_rules r packets o w = updates_of r o.shape packets (share_of_worker o.share o.workers packets w)

module _ {H : Type 0} where
  -- the worker counted these updates; what was sent and what was refused is lawful for them; and where pushes don't
  -- wait, the lane was full as often as an update was refused
  pub record HasToldAll (stands : H → ℤ → ℤ → Type 0) (r : Rules) (o : Options) (w : ℕ) (sketch : PrivateView H) (sent : List Push)
      (fulls : ℕ) (updates : List Update) (refused : List ℕ) : Type 0 where
    pub stands_for : StandsFor stands r sketch updates sent refused
    pub lawful : LawfulPushes r w o.threshold o.lane o.full updates sent refused
    pub fulls_are : o.full ≡ Leave → fulls ≡ length refused
    pub room : sketch.room ≡ length updates
    pub cells : length sketch.held ≡ size_of o.shape

  -- each worker counted all its updates
  pub record HaveToldAll (stands : H → ℤ → ℤ → Type 0) (r : Rules) (o : Options) (packets : List Packet) (sketches : List (PrivateView H))
      (sents : List (List Push)) (fulls : List ℕ) : Type 0 where
    pub refused : ℕ → List ℕ
    pub sketches_len : length sketches ≡ o.workers
    pub sents_len : length sents ≡ o.workers
    pub each : (w : ℕ) (s : PrivateView H) → w < o.workers
        → HasToldAll stands r o w (slice_index_or sketches w s) (slice_index_or sents w []) (slice_index_or fulls w 0)
        (updates_by_rules r packets o w) (refused w)
