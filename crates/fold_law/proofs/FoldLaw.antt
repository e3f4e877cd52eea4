-- A fold of lawful messages is lawful.
use Rattle.std.proofs.Common.{◌≡◌, ◌<◌, ◌≤ℤ◌, ℕ, ◌^◌, List, [], length, take, true, refl, sym, ap, subst, arith}
use Rattle.std.specs.Prelude.{All, slice_index_or}
use Rattle.hash_rows.specs.Amounts.{total_amount}
use Rattle.hash_rows.specs.Lawful.{IsLawful}
use Rattle.hash_rows.specs.declared.options.Options.{Options}
use Rattle.hash_rows.specs.declared.options.Sketch.{Sketch}
use Rattle.hash_rows.specs.declared.options.Sketch.TheVariants.{CountMin}
use Rattle.hash_rows.specs.declared.shape.Packet.{Packet}
use Rattle.hash_rows.specs.declared.shape.Push.{Push}
use Rattle.hash_rows.specs.Rules.{rules_of}
use Rattle.push_history.specs.Front.{message_at, messages_of}
use Rattle.push_history.specs.Journal.{rules_in, updates_by_options}
use Rattle.push_history.specs.LawfulJournal.{all_of, sent_by, IsGrowingTable, IsLiveTable, IsLawfulHeavy}
use Rattle.push_history.specs.LiveHeavy.{live_keys, missed_keys}
use Rattle.push_history.specs.Pushes.{ArePushes, LawfulPushes}
use Rattle.push_history.specs.Share.{share_of_worker}
use Rattle.push_history.specs.Shown.{told_cells}
use Rattle.push_history.specs.Updates.{updates_of}
use Rattle.push_history.proofs.Notes.{note_by}
use Rattle.fold_law.specs.Folds.{IsFoldOf}
use Rattle.fold_law.proofs.Clauses.{live_table, growing, only_fold}
use Rattle.fold_law.proofs.Estimates.{own_below, all_above}
use Rattle.fold_law.proofs.Sums.{count_min, IsPlain, plain_told}
use Rattle.fold_law.proofs.Totals.{all_told, all_plain}

-- the lawful pushes of a worker
abbrev AreLawful : List Packet → Options → List (List Push) → List (List ℕ) → ℕ → Type 0
AreLawful packets o messages refused w =
    LawfulPushes (rules_in o) w o.threshold o.lane o.full (updates_by_options packets o w) (sent_by messages w) (slice_index_or refused w [])

module _ (packets : List Packet) (o : Options) (messages : List (List Push)) (refused : List (List ℕ)) (H : List Push) (lawful : IsLawful o) (total : total_amount packets < 2 ^ 63)
    (same : length messages ≡ o.workers) (each : (w : ℕ) → w < o.workers → AreLawful packets o messages refused w) (fold : IsFoldOf messages H) where
  lives : IsLiveTable o messages (live_keys (rules_in o) o.shape o.heavy o.least H) (missed_keys (rules_in o) o.shape o.heavy o.least H)
  unfolding live_keys missed_keys
  lives = live_table o messages H fold (rules_in o).keyed refl

  counted : o.sketch ≡ CountMin → (w : ℕ) → w < o.workers
      → (T : ℕ) × (F : List ℕ) × ArePushes count_min T (updates_of count_min o.shape packets (share_of_worker o.share o.workers packets w)) (sent_by messages w) F
  unfolding updates_by_options
  counted is w lt = (
    o.threshold,
    slice_index_or refused w [],
    subst (λ (s : Sketch). ArePushes (rules_of s) o.threshold (updates_of (rules_of s) o.shape packets (share_of_worker o.share o.workers packets w)) (sent_by messages w) (slice_index_or refused w [])) is (each w lt).pushes,
  )

  grows : o.sketch ≡ CountMin → IsGrowingTable o messages (live_keys (rules_in o) o.shape o.heavy o.least H) (missed_keys (rules_in o) o.shape o.heavy o.least H)
  unfolding live_keys missed_keys
  grows is =
      let keyed : (rules_in o).keyed ≡ true = ap (λ (s : Sketch). (rules_of s).keyed) is in
      let small : (cell : ℕ) → plain_told cell H < 2 ^ 63 = all_told o.share o.workers o.shape packets (omega (arith, lawful.some_workers)) lawful.shape total messages H same fold (counted is) in
      let plain : All (λ m. IsPlain m.amount) H = all_plain o.share o.workers o.shape packets (omega (arith, lawful.some_workers)) lawful.shape total messages H same fold (counted is) in
      rw keyed (growing o messages H fold keyed
      (subst (λ (s : Sketch). (i : ℕ) → i < length H → (note_by (rules_of s) o.shape (messages_of (message_at H i).worker (take i H)) (message_at H i)).estimate ≤ℤ (note_by (rules_of s) o.shape (take i H) (message_at H i)).estimate) (sym is)
      (own_below messages H fold plain small o.shape))
      (subst (λ (s : Sketch). (i : ℕ) → i < length H → (note_by (rules_of s) o.shape (take i H) (message_at H i)).estimate ≤ℤ (rules_of s).estimate o.shape (told_cells (rules_of s) o.shape (all_of messages)) (message_at H i).key) (sym is)
      (all_above messages H fold plain small o.shape)))

  pub fold_lawful : IsLawfulHeavy o messages (live_keys (rules_in o) o.shape o.heavy o.least H) (missed_keys (rules_in o) o.shape o.heavy o.least H)
  fold_lawful = record {
    live_table = lives;
    growing = grows;
    alone = λ w only. let e = only_fold o messages H fold w only in
        (ap (live_keys (rules_in o) o.shape o.heavy o.least) e, ap (missed_keys (rules_in o) o.shape o.heavy o.least) e);
  }
