-- With each worker's residue joined in, what was folded is the sequential sketch.
use Rattle.std.proofs.Common.{◌≡◌, ◌<◌, ℕ, ℤ, ◌^◌, ◌==◌, List, length, true, false, sym, ap, ◌∙◌, subst, arith}
use Rattle.std.specs.Prelude.{All, map}
use Rattle.std.specs.List.{range_with_len}
use Rattle.std.proofs.lemmas.List.Elements.{All-filter}
use Rattle.hash_rows.specs.Lawful.{IsLawful}
use Rattle.hash_rows.specs.Rules.{AreLaws, AreValues}
use Rattle.hash_rows.specs.Sequential.{joined_of, sequential}
use Rattle.hash_rows.specs.declared.options.Options.{Options}
use Rattle.hash_rows.specs.declared.shape.Packet.{Packet}
use Rattle.hash_rows.specs.declared.shape.Push.{Push}
use Rattle.hash_rows.specs.declared.shape.Update.{Update}
use Rattle.push_history.specs.Front.{messages_of}
use Rattle.push_history.specs.Journal.{rules_in, terms_of, updates_by_options}
use Rattle.push_history.specs.LagRun.{Terms, Worker, updates_by, worker_in}
use Rattle.push_history.specs.Residue.{residue}
use Rattle.round_law.specs.RoundStates.{round_state}
use Rattle.push_history.specs.Rounds.{events_of_rounds, is_busy}
use Rattle.push_history.specs.Share.{share_of_worker}
use Rattle.push_history.specs.Told.{told_of}
use Rattle.push_history.specs.Updates.{HoldValues, updates_of}
use Rattle.push_history.specs.Whole.{whole}
use Rattle.push_history.proofs.Folded.{told_by_workers}
use Rattle.push_history.proofs.Growing.{numbers_within, told_all}
use Rattle.push_history.proofs.Joins.{told_value}
use Rattle.push_history.proofs.Notes.{map_range_same}
use Rattle.push_history.proofs.Parts.{joined_cons}
use Rattle.push_history.proofs.Sharing.{sequential_is_wholes}
use Rattle.push_history.proofs.Telling.{told_behind, whole_is}
use Rattle.round_law.specs.Outcome.{settled_cell}
use Rattle.round_law.specs.OwnRounds.{folded_after}
use Rattle.round_law.proofs.Ended.{all_counted, all_folded, own_pushes}
use Rattle.push_history.proofs.Fitting.{AddValues, own_updates_fit, rules_lawful, small_values, terms_laws, terms_len, updates_there}
use Rattle.round_law.proofs.Fitting.{folded_values}
use Rattle.round_law.proofs.OwnRounds.{rounds_lawful}
use Rattle.push_history.proofs.WorkerJoins.{joined_both, range_values, told_flat}

module _ (t : Terms) (laws : AreLaws t.rules) (o : Options) (same : length t.updates ≡ o.workers) (n : ℕ) (idle : is_busy t o (events_of_rounds t o n) ≡ false)
    (holds : (w : ℕ) → w < o.workers → HoldValues t.rules (updates_by t w)) (values : All (λ m. t.rules.is_value m.amount ≡ true) (folded_after t o n)) (cell : ℕ) where
  abbrev at : ℕ → Worker
  at w = worker_in (round_state t o n) w

  -- what the messages of a worker tell, what its updates left, and what they made
  abbrev told_by : ℕ → ℤ
  told_by w = told_of t.rules cell (messages_of w (folded_after t o n))

  abbrev left_by : ℕ → ℤ
  left_by w = residue t.rules (updates_by t w) (at w).sent (at w).counted cell

  abbrev made_by : ℕ → ℤ
  made_by w = whole t.rules (updates_by t w) (length (updates_by t w)) cell

  made_is : (w : ℕ) → w < o.workers → t.rules.join (told_by w) (left_by w) ≡ made_by w
  made_is w lt =
      let U = updates_by t w in
      let S = (at w).sent in
      let pushes = own_pushes t o same n idle w lt in
      let all : (at w).counted ≡ length U = all_counted t o same n idle w lt in
      let within : All (λ m. m.update < (at w).counted) S = subst (λ (k : ℕ). All (λ m. m.update < k) S) (sym all) (numbers_within t.rules U S S pushes.amounts) in
      ap (λ (ms : List Push). t.rules.join (told_of t.rules cell ms) (left_by w)) (all_folded t o same n idle w lt)
      ∙ ap (λ (z : ℤ). t.rules.join z (left_by w)) (sym (told_all t.rules S (at w).counted cell within))
      ∙ sym (whole_is t.rules laws t.threshold U S (at w).refused (holds w lt) pushes (at w).counted cell (omega (arith, all)))
      ∙ ap (λ (k : ℕ). whole t.rules U k cell) all

  left_value : (w : ℕ) → w < o.workers → t.rules.is_value (left_by w) ≡ true
  unfolding residue
  left_value w lt =
      let are = told_behind t.rules laws t.threshold (updates_by t w) (at w).sent (at w).refused (holds w lt) (own_pushes t o same n idle w lt) (at w).counted cell
      (omega (arith, all_counted t o same n idle w lt)) in
      laws.gap_value _ _ are.told_is are.whole_is

  own_values : (w : ℕ) → All (λ m. t.rules.is_value m.amount ≡ true) (messages_of w (folded_after t o n))
  own_values w = All-filter (λ m. m.worker == w) (λ m. t.rules.is_value m.amount ≡ true) (folded_after t o n) values

  pub settled_is : settled_cell t o n cell ≡ joined_of t.rules (map made_by (range_with_len 0 o.workers))
  unfolding settled_cell
  settled_is =
      let ws = range_with_len 0 o.workers in
      let h = rounds_lawful t o n in
      let left_values : AreValues t.rules (map left_by ws) = range_values t.rules laws left_by 0 o.workers (λ w _ lt. left_value w (omega (arith, lt))) in
      let all : told_of t.rules cell (folded_after t o n) ≡ joined_of t.rules (map told_by ws) =
      sym (told_by_workers t.rules laws o.workers (folded_after t o n) (λ k d lt. omega (arith, h.of_workers k d lt, same)) values cell)
      ∙ told_flat t.rules laws cell (λ w. messages_of w (folded_after t o n)) own_values ws in
      joined_cons t.rules laws (told_of t.rules cell (folded_after t o n)) (map left_by ws) (told_value t.rules laws cell (folded_after t o n) values) left_values
      ∙ ap (λ (z : ℤ). t.rules.join z (joined_of t.rules (map left_by ws))) all
      ∙ sym (joined_both t.rules laws told_by left_by 0 o.workers (λ w _ _. told_value t.rules laws cell (messages_of w (folded_after t o n)) (own_values w)) (λ w _ lt. left_value w (omega (arith, lt))))
      ∙ ap (joined_of t.rules) (map_range_same (λ w. t.rules.join (told_by w) (left_by w)) made_by 0 o.workers (λ w _ lt. made_is w (omega (arith, lt))))

pub settled_sequential : (packets : List Packet) (o : Options) (n : ℕ) → IsLawful o → All (λ p. p.amount < 2 ^ 32) packets → is_busy (terms_of packets o) o (events_of_rounds (terms_of packets o) o n) ≡ false
    → (cell : ℕ) → settled_cell (terms_of packets o) o n cell ≡ sequential (rules_in o) o.shape packets cell
unfolding terms_of updates_by_options
settled_sequential packets o n lawful small idle cell =
    let t = terms_of packets o in
    let r = rules_in o in
    let values : AddValues r o.shape packets = small_values r (rules_lawful o.sketch) o.shape packets small in
    let updates : ℕ → List Update = λ w. updates_of r o.shape packets (share_of_worker o.share o.workers packets w) in
    settled_is t (terms_laws packets o) o (terms_len packets o) n idle (λ w lt k d inside. (own_updates_fit packets o lawful values w lt k d inside).1) (folded_values packets o lawful values n) cell
    ∙ ap (joined_of r) (map_range_same (λ w. whole r (updates_by t w) (length (updates_by t w)) cell) (λ w. whole r (updates w) (length (updates w)) cell) 0 o.workers
    (λ w _ lt. ap (λ (U : List Update). whole r U (length U) cell) (updates_there packets o w (omega (arith, lt)))))
    ∙ sym (sequential_is_wholes r (terms_laws packets o) o.share o.workers o.shape packets cell (omega (arith, lawful.some_workers)) small)
