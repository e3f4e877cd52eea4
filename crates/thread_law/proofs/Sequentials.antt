-- With each worker's residue joined in, what was folded is the sequential sketch.
use Rattle.std.proofs.Common.{◌≡◌, ◌<◌, ℕ, ℤ, ◌^◌, ◌==◌, List, ◌∷◌, length, true, sym, ap, ◌∙◌, arith}
use Rattle.std.specs.Prelude.{All, map}
use Rattle.std.specs.List.{range_with_len}
use Rattle.std.proofs.lemmas.List.Elements.{All-filter}
use Rattle.hash_rows.specs.Lawful.{IsLawful}
use Rattle.hash_rows.specs.Rules.{Rules, AreLaws, AreValues}
use Rattle.hash_rows.specs.Sequential.{joined_of, sequential}
use Rattle.hash_rows.specs.declared.options.Options.{Options}
use Rattle.hash_rows.specs.declared.shape.Packet.{Packet}
use Rattle.hash_rows.specs.declared.shape.Push.{Push}
use Rattle.hash_rows.specs.declared.shape.Update.{Update}
use Rattle.push_history.specs.Front.{messages_of}
use Rattle.push_history.specs.Journal.{rules_in, updates_by_options}
use Rattle.push_history.specs.LawfulJournal.{sent_by}
use Rattle.push_history.specs.Pushes.{ArePushes}
use Rattle.push_history.specs.Residue.{residue}
use Rattle.push_history.specs.Share.{share_of_worker}
use Rattle.push_history.specs.Told.{told_of}
use Rattle.push_history.specs.Updates.{HoldValues, updates_of}
use Rattle.push_history.specs.Whole.{whole}
use Rattle.push_history.proofs.Folded.{told_by_workers}
use Rattle.push_history.proofs.Growing.{numbers_within, told_all}
use Rattle.push_history.proofs.Joins.{told_value}
use Rattle.push_history.proofs.Notes.{map_range_same}
use Rattle.push_history.proofs.Parts.{joined_cons}
use Rattle.push_history.proofs.Sharing.{sequential_is_wholes}
use Rattle.push_history.proofs.Telling.{told_behind, whole_is}
use Rattle.fold_law.specs.Folds.{IsFoldOf}
use Rattle.thread_law.specs.Ran.{settled_of}
use Rattle.push_history.proofs.WorkerJoins.{joined_both, range_values, told_flat}
use Rattle.thread_law.proofs.Fitting.{own_values}

module _ (r : Rules) (laws : AreLaws r) (workers T : ℕ) (updates : ℕ → List Update) (messages : List (List Push)) (refused : ℕ → List ℕ) (folded : List Push) (same : length messages ≡ workers)
    (pushes : (w : ℕ) → w < workers → ArePushes r T (updates w) (sent_by messages w) (refused w)) (fold : IsFoldOf messages folded)
    (holds : (w : ℕ) → w < workers → HoldValues r (updates w)) (values : All (λ m. r.is_value m.amount ≡ true) folded) (cell : ℕ) where
  -- what the messages of a worker tell, what its updates left, and what they made
  abbrev told_by : ℕ → ℤ
  told_by w = told_of r cell (messages_of w folded)

  abbrev left_by : ℕ → ℤ
  left_by w = residue r (updates w) (sent_by messages w) (length (updates w)) cell

  abbrev made_by : ℕ → ℤ
  made_by w = whole r (updates w) (length (updates w)) cell

  made_is : (w : ℕ) → w < workers → r.join (told_by w) (left_by w) ≡ made_by w
  made_is w lt =
      let U = updates w in
      let S = sent_by messages w in
      let within : All (λ m. m.update < length U) S = numbers_within r U S S (pushes w lt).amounts in
      ap (λ (ms : List Push). r.join (told_of r cell ms) (left_by w)) (fold.in_order w (omega (arith, lt, same)))
      ∙ ap (λ (z : ℤ). r.join z (left_by w)) (sym (told_all r S (length U) cell within))
      ∙ sym (whole_is r laws T U S (refused w) (holds w lt) (pushes w lt) (length U) cell (omega arith))

  left_value : (w : ℕ) → w < workers → r.is_value (left_by w) ≡ true
  unfolding residue
  left_value w lt =
      let are = told_behind r laws T (updates w) (sent_by messages w) (refused w) (holds w lt) (pushes w lt) (length (updates w)) cell (omega arith) in
      laws.gap_value _ _ are.told_is are.whole_is

  told_values : (w : ℕ) → All (λ m. r.is_value m.amount ≡ true) (messages_of w folded)
  told_values w = All-filter (λ m. m.worker == w) (λ m. r.is_value m.amount ≡ true) folded values

  pub settled_is : joined_of r (told_of r cell folded ∷ map left_by (range_with_len 0 workers)) ≡ joined_of r (map made_by (range_with_len 0 workers))
  settled_is =
      let ws = range_with_len 0 workers in
      let left_values : AreValues r (map left_by ws) = range_values r laws left_by 0 workers (λ w _ lt. left_value w (omega (arith, lt))) in
      let all : told_of r cell folded ≡ joined_of r (map told_by ws) =
      sym (told_by_workers r laws workers folded (λ k d lt. omega (arith, fold.of_workers k d lt, same)) values cell)
      ∙ told_flat r laws cell (λ w. messages_of w folded) told_values ws in
      joined_cons r laws (told_of r cell folded) (map left_by ws) (told_value r laws cell folded values) left_values
      ∙ ap (λ (z : ℤ). r.join z (joined_of r (map left_by ws))) all
      ∙ sym (joined_both r laws told_by left_by 0 workers (λ w _ _. told_value r laws cell (messages_of w folded) (told_values w)) (λ w _ lt. left_value w (omega (arith, lt))))
      ∙ ap (joined_of r) (map_range_same (λ w. r.join (told_by w) (left_by w)) made_by 0 workers (λ w _ lt. made_is w (omega (arith, lt))))

-- with each worker's residue joined in, the fold is the sequential sketch
pub settled_sequential : (packets : List Packet) (o : Options) → IsLawful o → AreLaws (rules_in o) → All (λ p. p.amount < 2 ^ 32) packets → (messages : List (List Push)) (refused : ℕ → List ℕ) (folded : List Push)
    → length messages ≡ o.workers → ((w : ℕ) → w < o.workers → ArePushes (rules_in o) o.threshold (updates_by_options packets o w) (sent_by messages w) (refused w)) → IsFoldOf messages folded
    → All (λ m. (rules_in o).is_value m.amount ≡ true) folded → (cell : ℕ) → settled_of packets o messages folded cell ≡ sequential (rules_in o) o.shape packets cell
unfolding updates_by_options settled_of
settled_sequential packets o lawful laws small messages refused folded same pushes fold values cell =
    let r = rules_in o in
    let updates : ℕ → List Update = λ w. updates_of r o.shape packets (share_of_worker o.share o.workers packets w) in
    settled_is r laws o.workers o.threshold updates messages refused folded same pushes fold (own_values packets o lawful small) values cell
    ∙ sym (sequential_is_wholes r laws o.share o.workers o.shape packets cell (omega (arith, lawful.some_workers)) small)
