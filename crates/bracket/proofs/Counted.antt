-- At each moment of a run over Count-Min the bracket holds of what was counted, sent and refused.
use Rattle.std.proofs.Common.{if◌then◌else◌, ◌==◌, ◌++◌, ◌≡◌, ◌<◌, ◌≤◌, ◌≤ℤ◌, ◌+ℤ◌, ◌-◌, ◌*◌, ℕ, pos, List, [], length, take, drop, get_or, sym, ap, ◌∙◌, subst, arith, inl, inr}
use Rattle.std.specs.Prelude.{map, All, sum_by, unsigned_abs}
use Rattle.std.specs.List.{range_with_len}
use Rattle.std.proofs.lemmas.Bool.{cases_lt}
use Rattle.std.proofs.lemmas.List.{take-take, get_or-map, get_or-take, get_or_past, length-map, length-take, length-append, take-append-drop}
use Rattle.std.proofs.lemmas.List.Elements.{All-take, filter-append}
use Rattle.std.proofs.lemmas.List.FromFn.{get_or-map-range_with_len, length-map-range_with_len}
use Rattle.std.proofs.lemmas.List.Sums.{sum_by-take-le}
use Rattle.packet_key.specs.declared.key.FlowKey.{FlowKey}
use Rattle.hash_rows.specs.declared.shape.Push.{Push}
use Rattle.hash_rows.specs.declared.shape.Shape.{Shape}
use Rattle.hash_rows.specs.declared.shape.Update.{Update}
use Rattle.hash_rows.specs.Rules.{Rules}
use Rattle.hash_rows.specs.Sequential.{joined_of}
use Rattle.hash_rows.specs.Shapes.{cell_of, size_of}
use Rattle.hash_rows.specs.Sketches.{count_min_estimate}
use Rattle.push_history.specs.Front.{IsFront, front_of, messages_of, upto_of}
use Rattle.push_history.specs.LagRun.{Terms, Worker, State, fresh_worker, updates_by, worker_in}
use Rattle.push_history.specs.LawfulJournal.{sent_by}
use Rattle.push_history.specs.LawfulRun.{IsLawfulState}
use Rattle.push_history.specs.Pushes.{ArePushes}
use Rattle.push_history.specs.Share.{zero_key}
use Rattle.push_history.specs.Shown.{shown_cells}
use Rattle.push_history.specs.Updates.{update_at}
use Rattle.push_history.specs.Whole.{whole, whole_of}
use Rattle.push_history.proofs.Notes.{map_range_same}
use Rattle.bracket.specs.Bracket.{IsNear, NoneRefused, updates_of_worker, matching, matching_whole, true_of, true_cells}
use Rattle.bracket.proofs.Bracket.{upto_within}
use Rattle.bracket.proofs.Bracketed.{ArePlain, answer_below, answer_short}
use Rattle.fold_law.proofs.Sums.{count_min, IsPlain, plain_whole}
use Rattle.fold_law.proofs.Totals.{sum_range_le}

-- of each worker: its messages, its refused updates, and the updates that it counted
abbrev pub messages_in : State → List (List Push)
messages_in s = map (λ x. x.sent) s.workers

abbrev pub refused_in : State → List (List ℕ)
refused_in s = map (λ x. x.refused) s.workers

abbrev pub counted_by : Terms → State → ℕ → List Update
counted_by t s w = take (worker_in s w).counted (updates_by t w)

abbrev pub counted_updates : Terms → State → List (List Update)
counted_updates t s = map (counted_by t s) (range_with_len 0 (length t.updates))

module _ (t : Terms) (s : State) (h : IsLawfulState t s) where
  sent_is : (w : ℕ) → w < length t.updates → sent_by (messages_in s) w ≡ (worker_in s w).sent
  sent_is w lt = get_or-map (λ (x : Worker). x.sent) s.workers w fresh_worker [] (omega (arith, lt, h.workers))

  refused_is : (w : ℕ) → w < length t.updates → get_or (refused_in s) w [] ≡ (worker_in s w).refused
  refused_is w lt = get_or-map (λ (x : Worker). x.refused) s.workers w fresh_worker [] (omega (arith, lt, h.workers))

  counted_is : (w : ℕ) → w < length t.updates → updates_of_worker (counted_updates t s) w ≡ counted_by t s w
  counted_is w lt = get_or-map-range_with_len (counted_by t s) 0 (length t.updates) w w [] lt (omega arith)

  messages_len : length (messages_in s) ≡ length t.updates
  messages_len = length-map s.workers (λ (x : Worker). x.sent) ∙ h.workers

  counted_len : length (counted_updates t s) ≡ length t.updates
  counted_len = length-map-range_with_len (counted_by t s) 0 (length t.updates)

  -- no more of a worker is folded than it sent
  pub front_within : (n : ℕ) → IsFront (messages_in s) (front_of (length t.updates) (take n s.folded))
  unfolding front_of
  front_within n = record {
    workers = length-map-range_with_len (λ w. length (messages_of w (take n s.folded))) 0 (length t.updates) ∙ sym messages_len;
    within = λ w below.
        let lt : w < length t.updates = omega (arith, below, messages_len) in
        let own = get_or-map-range_with_len (λ w. length (messages_of w (take n s.folded))) 0 (length t.updates) w w 0 lt (omega arith) in
        let parts : messages_of w (take n s.folded) ++ messages_of w (drop n s.folded) ≡ take (worker_in s w).taken (worker_in s w).sent =
        sym (filter-append (λ m. m.worker == w) (take n s.folded) (drop n s.folded)) ∙ ap (messages_of w) (take-append-drop n s.folded) ∙ h.folded w lt in
        omega (arith, own, ap length parts, length-append (messages_of w (take n s.folded)) (messages_of w (drop n s.folded)), length-take (worker_in s w).taken (worker_in s w).sent, ap length (sent_is w lt));
  }

  module _ (rules : t.rules ≡ count_min) (plain : ArePlain t.updates) where
    pushes_in : (w : ℕ) → w < length t.updates → ArePushes count_min t.threshold (updates_of_worker (counted_updates t s) w) (sent_by (messages_in s) w) (get_or (refused_in s) w [])
    pushes_in w lt =
        subst (λ (U : List Update). ArePushes count_min t.threshold U (sent_by (messages_in s) w) (get_or (refused_in s) w [])) (sym (counted_is w lt))
        (subst (λ (S : List Push). ArePushes count_min t.threshold (counted_by t s w) S (get_or (refused_in s) w [])) (sym (sent_is w lt))
        (subst (λ (F : List ℕ). ArePushes count_min t.threshold (counted_by t s w) (worker_in s w).sent F) (sym (refused_is w lt))
        (subst (λ (r : Rules). ArePushes r t.threshold (counted_by t s w) (worker_in s w).sent (worker_in s w).refused) rules (h.each w lt).lawful.pushes)))

    -- what was counted so far
    counted_plain : ArePlain (counted_updates t s)
    counted_plain = record {
      plains = λ w below.
          let lt : w < length t.updates = omega (arith, below, counted_len) in
          subst (λ (U : List Update). All (λ u. IsPlain u.value) U) (sym (counted_is w lt)) (All-take (λ u. IsPlain u.value) (worker_in s w).counted (updates_by t w) (plain.plains w lt));
      total = λ cell.
          let all : ℕ → ℕ = λ w. plain_whole cell (updates_by t w) in
          let most = sum_range_le (λ w. plain_whole cell (updates_of_worker (counted_updates t s) w)) all 0 (length (counted_updates t s))
          (λ w from to. omega (
            arith,
            ap (plain_whole cell) (counted_is w (omega (arith, to, counted_len))),
            sum_by-take-le (λ u. if u.cell == cell then unsigned_abs u.value else 0) (updates_by t w) (worker_in s w).counted,
          )) in
          omega (arith, most, ap (λ (n : ℕ). sum_by all (range_with_len 0 n)) counted_len, plain.total cell);
    }

    -- the updates that match a front are among those that were counted
    matching_counted : (front : List ℕ) → IsFront (messages_in s) front → (w : ℕ) → w < length t.updates → matching (messages_in s) front w ≤ (worker_in s w).counted
    matching_counted front is_front w lt =
        let inside : get_or front w 0 ≤ length (sent_by (messages_in s) w) = is_front.within w (omega (arith, lt, messages_len)) in
        let most = upto_within count_min (updates_of_worker (counted_updates t s) w) (sent_by (messages_in s) w) (pushes_in w lt).amounts (get_or front w 0) inside in
        omega (arith, most, ap length (counted_is w lt), length-take (worker_in s w).counted (updates_by t w))

    -- so they make the same of each cell
    whole_counted : (front : List ℕ) → IsFront (messages_in s) front → (cell w : ℕ) → w < length t.updates
        → matching_whole count_min (counted_updates t s) (messages_in s) front cell w ≡ matching_whole count_min t.updates (messages_in s) front cell w
    unfolding matching_whole whole
    whole_counted front is_front cell w lt =
        let n : ℕ = matching (messages_in s) front w in
        ap (λ (U : List Update). whole_of count_min cell (take n U)) (counted_is w lt)
        ∙ ap (whole_of count_min cell) (take-take n (worker_in s w).counted (updates_by t w) (matching_counted front is_front w lt))

    true_counted : (shape : Shape) (front : List ℕ) → IsFront (messages_in s) front
        → true_cells count_min shape (counted_updates t s) (messages_in s) front ≡ true_cells count_min shape t.updates (messages_in s) front
    unfolding true_cells true_of
    true_counted shape front is_front =
        map_range_same (true_of count_min (counted_updates t s) (messages_in s) front) (true_of count_min t.updates (messages_in s) front) 0 (size_of shape)
        (λ cell from to. ap (λ (n : ℕ). joined_of count_min (map (matching_whole count_min (counted_updates t s) (messages_in s) front cell) (range_with_len 0 n))) counted_len
        ∙ ap (joined_of count_min) (map_range_same (matching_whole count_min (counted_updates t s) (messages_in s) front cell) (matching_whole count_min t.updates (messages_in s) front cell) 0 (length t.updates)
        (λ w from to. whole_counted front is_front cell w (omega (arith, to)))))

    same_update : (w k : ℕ) → w < length t.updates → k < (worker_in s w).counted → update_at (updates_of_worker (counted_updates t s) w) k ≡ update_at (updates_by t w) k
    same_update w k lt early =
        ap (λ (U : List Update). update_at U k) (counted_is w lt)
        ∙ get_or-take (worker_in s w).counted (updates_by t w) k (record { packet = 0; key = zero_key; cell = 0; value = pos 0 }) early

    no_matching : (front : List ℕ) → IsFront (messages_in s) front → (w : ℕ) → length t.updates ≤ w → matching (messages_in s) front w ≡ 0
    unfolding upto_of
    no_matching front is_front w past = ap (upto_of (sent_by (messages_in s) w)) (get_or_past front w 0 (omega (arith, past, is_front.workers, messages_len)))

    none_refused : (front : List ℕ) → IsFront (messages_in s) front → (cell : ℕ) → NoneRefused t.updates (messages_in s) (refused_in s) front cell
        → NoneRefused (counted_updates t s) (messages_in s) (refused_in s) front cell
    none_refused front is_front cell none w k last = elim (cases_lt w (length t.updates)) [
      | inl lt ↦ (let few = matching_counted front is_front w lt in
          none w k (record {
            below = last.below;
            cell = ap (λ (u : Update). u.cell) (sym (same_update w k lt (omega (arith, last.below, few)))) ∙ last.cell;
            last = λ j after before same. last.last j after before (ap (λ (u : Update). u.cell) (same_update w j lt (omega (arith, before, few))) ∙ same);
          }))
      | inr past ↦ absurd (omega (arith, last.below, no_matching front is_front w past))
    ]

    -- the bracket round an answer at any front
    pub near_at : (front : List ℕ) → IsFront (messages_in s) front → (shape : Shape) (key : FlowKey)
        → IsNear t.threshold t.updates (messages_in s) (refused_in s) front shape key (count_min_estimate shape (shown_cells count_min shape (messages_in s) front) key)
    near_at front is_front shape key =
        let pushes : (w : ℕ) → w < length (counted_updates t s) → ArePushes count_min t.threshold (updates_of_worker (counted_updates t s) w) (sent_by (messages_in s) w) (get_or (refused_in s) w []) =
        λ w below. pushes_in w (omega (arith, below, counted_len)) in
        let same = true_counted shape front is_front in
        let answer = count_min_estimate shape (shown_cells count_min shape (messages_in s) front) key in
        record {
          below = subst (λ cells. answer ≤ℤ count_min_estimate shape cells key) same
              (answer_below t.threshold (counted_updates t s) (messages_in s) (refused_in s) front (messages_len ∙ sym counted_len) is_front pushes counted_plain shape key);
          short = λ some none. subst (λ (n : ℕ). count_min_estimate shape (true_cells count_min shape t.updates (messages_in s) front) key ≤ℤ (answer +ℤ pos (n * (t.threshold - 1)))) counted_len
              (subst (λ cells. count_min_estimate shape cells key ≤ℤ (answer +ℤ pos (length (counted_updates t s) * (t.threshold - 1)))) same
              (answer_short t.threshold (counted_updates t s) (messages_in s) (refused_in s) front (messages_len ∙ sym counted_len) is_front pushes counted_plain shape key some
              (λ row lt. none_refused front is_front (cell_of shape key row) (none row lt))));
        }
