-- A run that is idle: of each worker all updates are counted, and all messages folded.
use Rattle.std.proofs.Common.{◌≡◌, ◌<◌, ℕ, List, [], length, Bool, false, refl, sym, ap, ◌∙◌, subst, arith}
use Rattle.std.specs.Prelude.{map, slice_index_or}
use Rattle.std.proofs.lemmas.List.{take_all}
use Rattle.hash_rows.specs.Marks.{marked}
use Rattle.hash_rows.specs.declared.options.Options.{Options}
use Rattle.hash_rows.specs.declared.shape.Update.{Update}
use Rattle.push_history.specs.Front.{front_of, messages_of}
use Rattle.push_history.specs.LagRun.{Terms, Worker, fresh_worker, updates_by, worker_in}
use Rattle.push_history.specs.OwnSteps.{untaken_of, uncounted_of}
use Rattle.round_law.proofs.WorkLeft.{is_own_busy}
use Rattle.push_history.specs.Pushes.{ArePushes}
use Rattle.round_law.specs.RoundStates.{round_state}
use Rattle.push_history.specs.Rounds.{events_of_rounds, is_busy}
use Rattle.round_law.specs.Outcome.{AreMarks}
use Rattle.round_law.specs.OwnRounds.{folded_after}
use Rattle.round_law.proofs.Idle.{nothing_left}
use Rattle.push_history.proofs.PlaceLists.{map_at}
use Rattle.push_history.proofs.Marked.{marked_is}
use Rattle.round_law.proofs.OwnRounds.{round_len, rounds_lawful, worker_after, worker_idle}

module _ (t : Terms) (o : Options) (same : length t.updates ≡ o.workers) (n : ℕ) (idle : is_busy t o (events_of_rounds t o n) ≡ false) where
  -- the worker once the run is idle
  abbrev last : ℕ → Worker
  last w = worker_in (round_state t o n) w

  last_idle : (w : ℕ) → w < o.workers → (uncounted_of t w (last w) ≡ 0) × (untaken_of (last w) ≡ 0)
  last_idle w lt = nothing_left t w (last w) (ap (is_own_busy t w) (worker_after t o same n w lt) ∙ worker_idle t o same n idle w lt)

  pub all_counted : (w : ℕ) → w < o.workers → (last w).counted ≡ length (updates_by t w)
  all_counted w lt = omega (arith, (last_idle w lt).0, ((rounds_lawful t o n).each w (omega (arith, lt, same))).counted)

  pub all_folded : (w : ℕ) → w < o.workers → messages_of w (folded_after t o n) ≡ (last w).sent
  all_folded w lt =
      let h = rounds_lawful t o n in
      let inside : w < length t.updates = omega (arith, lt, same) in
      h.folded w inside ∙ take_all (last w).taken (last w).sent (omega (arith, (last_idle w lt).1))

  -- over all of its updates
  pub own_pushes : (w : ℕ) → w < o.workers → ArePushes t.rules t.threshold (updates_by t w) (last w).sent (last w).refused
  own_pushes w lt =
      let h = (rounds_lawful t o n).each w (omega (arith, lt, same)) in
      subst (λ (U : List Update). ArePushes t.rules t.threshold U (last w).sent (last w).refused)
      (take_all (last w).counted (updates_by t w) (omega (arith, all_counted w lt))) h.lawful.pushes

  -- how many messages each worker sent
  pub pushes_are : map (λ (x : Worker). length x.sent) (round_state t o n).workers ≡ front_of o.workers (folded_after t o n)
  unfolding front_of
  pushes_are =
      map_at (λ (x : Worker). length x.sent) (λ w. length (messages_of w (folded_after t o n))) (round_state t o n).workers fresh_worker o.workers (round_len t o same n)
      (λ w lt. ap length (sym (all_folded w lt)))

  -- which updates were refused
  worker_marked : (bits : List Bool) (w : ℕ) → w < o.workers → AreMarks t w (last w) bits → marked bits ≡ (last w).refused
  worker_marked bits w lt marks =
      let x = last w in
      let pushes = own_pushes w lt in
      marked_is bits x.refused pushes.refused_rising (λ k d inside. omega (arith, pushes.refused_within k d inside, marks.len)) marks.marks

  pub refused_are : (bits : List (List Bool)) → length bits ≡ o.workers → ((w : ℕ) → w < o.workers → AreMarks t w (last w) (slice_index_or bits w []))
      → map marked bits ≡ map (λ (x : Worker). x.refused) (round_state t o n).workers
  refused_are bits len marks =
      map_at marked (λ w. (last w).refused) bits [] o.workers len (λ w lt. worker_marked (slice_index_or bits w []) w lt (marks w lt))
      ∙ sym (map_at (λ (x : Worker). x.refused) (λ w. (last w).refused) (round_state t o n).workers fresh_worker o.workers (round_len t o same n) (λ w lt. refl))
