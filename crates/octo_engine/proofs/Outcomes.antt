-- What the parts, the state and the looks after the last round come to.
use Rattle.std.proofs.Common.{◌≡◌, ◌<◌, ◌≤◌, ◌^◌, ℕ, ℤ, pos, zero, suc, ◌+◌, ◌*◌, ◌==◌, min, List, [], ◌∷◌, length, get_or, Bool, true, false, if◌then◌else◌, All, slice_get, Some, refl, sym, ap, ap₂, ◌∙◌, subst, take, arith, true≢false}
use Rattle.std.specs.Prelude.{fold, map, slice_index_or}
use Rattle.std.specs.List.{list_any, range_with_len}
use Rattle.std.proofs.lemmas.List.FromFn.{fill_by_all, get_or-map-range_with_len, length-map-range_with_len}
use Rattle.std.proofs.lemmas.List.Folds.{list_any_at}
use Rattle.std.proofs.lemmas.Option.{slice_get-get_or}
use Rattle.packet_key.specs.declared.key.FlowKey.{FlowKey}
use Rattle.hash_rows.specs.declared.answer.Answer.{Answer}
use Rattle.hash_rows.specs.declared.options.Options.{Options}
use Rattle.hash_rows.specs.declared.shape.Packet.{Packet}
use Rattle.hash_rows.specs.declared.shape.Push.{Push}
use Rattle.hash_rows.specs.declared.shape.Shape.{Shape}
use Rattle.hash_rows.specs.Lawful.{IsLawful}
use Rattle.hash_rows.specs.Rules.{Rules}
use Rattle.hash_rows.specs.Sequential.{sequential, sequential_table}
use Rattle.hash_rows.specs.Shapes.{size_of}
use Rattle.hash_rows.specs.Tables.{TableView, value_at}
use Rattle.push_history.specs.Journal.{rules_in, terms_of}
use Rattle.push_history.specs.LagRun.{Terms, Worker, fresh_worker, updates_by, worker_in}
use Rattle.push_history.specs.LiveHeavy.{live_keys, missed_keys}
use Rattle.push_history.specs.Residue.{residue}
use Rattle.round_law.specs.RoundStates.{round_state}
use Rattle.push_history.specs.Rounds.{events_of_rounds, is_busy}
use Rattle.push_history.specs.Share.{share_of_worker}
use Rattle.push_history.specs.Shown.{told_cells}
use Rattle.push_history.specs.Told.{told_of}
use Rattle.push_history.proofs.Joins.{told_value}
use Rattle.push_rule.specs.Keeps.{Keeps}
use Rattle.push_rule.specs.Residues.{HasJoined, IsWorkerFor}
use Rattle.push_rule.proofs.CounterSteps.{sketch_stands}
use Rattle.live_state.specs.Fold.{StateView, layout_in}
use Rattle.live_state.specs.Shows.{Shows}
use Rattle.live_state.proofs.Live.{shows_all}
use Rattle.round_law.specs.OwnRounds.{folded_after, own_rounds}
use Rattle.round_law.specs.Outcome.{AreMarks, IsAnswerAt, IsOutcome, settled_cell}
use Rattle.push_history.specs.Looks.{IsLook}
use Rattle.round_law.proofs.Fitting.{folded_fits}
use Rattle.push_history.proofs.Fitting.{terms_laws, terms_len}
use Rattle.round_law.proofs.OwnRounds.{idle_by_workers, worker_after}
use Rattle.round_law.proofs.Settled.{settled_sequential}
use Rattle.octo_engine.specs.declared.worker.Part.{Part}
use Rattle.octo_engine.specs.Answers.{AreLooksByReader, IsLookFor}
use Rattle.octo_engine.specs.Looks.{AreAllLooks, looks_wanted}
use Rattle.octo_engine.specs.Parts.{is_busy_part}
use Rattle.octo_engine.specs.Residues.{HasRefused, residue_by}
use Rattle.octo_engine.specs.Rounds.{AreTerms, IsAtEnd}
use Rattle.octo_engine.proofs.Places.{has_len}
use Rattle.octo_engine.proofs.Rounding.{busy_is}

some_item : {A : Type 0} (xs : List A) (n : ℕ) → n < length xs → A
some_item [] n lt = absurd (omega (arith, lt))
some_item (x ∷ xs) n lt = x

none_at : {A : Type 0} (b : A → Bool) (xs : List A) → list_any b xs ≡ false → (i : ℕ) (d : A) → i < length xs → b (get_or xs i d) ≡ false
none_at b xs none i d lt = go (b (get_or xs i d)) refl
  where
    go : (v : Bool) → b (get_or xs i d) ≡ v → b (get_or xs i d) ≡ false
    go true is = absurd (true≢false (sym (list_any_at b xs i d lt is) ∙ none))
    go false is = is

same_made : {X : Type 0} (f g : ℕ → X) (a n : ℕ) → ((i : ℕ) → a ≤ i → i < a + n → f i ≡ g i) → map f (range_with_len a n) ≡ map g (range_with_len a n)
same_made f g a zero same = refl
same_made f g a (suc n) same = ap₂ (λ x l. x ∷ l) (same a (omega arith) (omega arith)) (same_made f g (a + 1) n (λ i from to. same i (omega (arith, from)) (omega (arith, to))))

pub told_len : (r : Rules) (o : Options) (messages : List Push) → length (told_cells r o.shape messages) ≡ size_of o.shape
unfolding told_cells
told_len r o messages = length-map-range_with_len (λ cell. told_of r cell messages) 0 (size_of o.shape)

told_at : (r : Rules) (o : Options) (messages : List Push) (cell : ℕ) → cell < size_of o.shape → value_at (told_cells r o.shape messages) cell ≡ told_of r cell messages
unfolding told_cells
told_at r o messages cell lt = get_or-map-range_with_len (λ c. told_of r c messages) 0 (size_of o.shape) cell cell (pos 0) lt (omega arith)

module _ (r : Rules) (t : Terms) (o : Options) (packets : List Packet) (terms : AreTerms r t o packets) (n : ℕ) where
  look_of : (messages : List Push) (q k : ℕ) (look a : Answer) → IsLook r o messages look → IsLookFor q k look a → IsLook r o messages a
  look_of messages q k look a is as_answer = record {
    folded = as_answer.folded ∙ is.folded;
    front = as_answer.front ∙ is.front;
    upto = as_answer.upto ∙ is.upto;
    shown = as_answer.shown ∙ is.shown;
  }

  answered : (looks answers : List Answer) → AreAllLooks r t o n looks → AreLooksByReader o.readers o.asks looks answers → (0 < o.readers → looks_wanted o ≡ o.asks)
      → (q k : ℕ) (a : Answer) → q < o.readers → k < o.asks → slice_get answers (q * o.asks + k) ≡ Some a → IsAnswerAt t o n q k a
  answered looks answers all are wanted q k a its_reader its_ask at =
      let many = all.len in
      let asks = wanted (omega (arith, its_reader)) in
      let there = slice_get-get_or looks k a (omega (arith, many, asks, its_ask)) in
      let answer = are.each q k a (get_or looks k a) its_reader its_ask at there in
      let seen = look_of (folded_after t o (min (k + 1) n)) q k (get_or looks k a) a (all.each k (get_or looks k a) there) answer in
      record { reader = answer.its_reader; number = answer.its_number; look = subst (λ (z : Rules). IsLook z o (folded_after t o (min (k + 1) n)) a) (sym terms.runs.rules) seen }

module _ {K H : Type 0} (stands : H → ℤ → ℤ → Type 0) (r : Rules) (t : Terms) (o : Options) (packets : List Packet) (terms : AreTerms r t o packets) (n : ℕ) where
  pub shown : (parts : List (Part K H)) (state : StateView) → IsAtEnd stands r t o packets n parts state → Shows r (layout_in o) (folded_after t o n) state
  shown parts state end =
      let few = terms.runs.few n in
      subst (λ (s : StateView). Shows r (layout_in o) (folded_after t o n) s) (sym end.state_is) (shows_all r (layout_in o) (folded_after t o n) (terms.runs.fit n) (omega (arith, few)))

  pub all_idle : (parts : List (Part K H)) (state : StateView) → IsAtEnd stands r t o packets n parts state → is_busy t o (events_of_rounds t o n) ≡ false
  all_idle parts state end =
      let len = end.workers.len in
      idle_by_workers t o terms.runs.workers n (λ w lt.
      let inside : w < length parts = omega (arith, lt, len) in
      let d = some_item parts w inside in
      sym (busy_is r stands t o packets terms n w (get_or parts w d) lt (end.workers.each w d lt)) ∙ none_at is_busy_part parts end.none w d inside)

  pub each_for : (parts : List (Part K H)) (state : StateView) → IsAtEnd stands r t o packets n parts state → (w : ℕ) (p : Part K H) → w < length parts
      → IsWorkerFor stands r state.table.shape (slice_index_or parts w p).counter.sketch
  each_for parts state end w p lt =
      let len = end.workers.len in
      let part = end.workers.each w p (omega (arith, lt, len)) in
      let x = own_rounds t o w n fresh_worker in
      record {
        counted = record { updates = take x.counted (updates_by t w); messages = x.sent; refused = x.refused };
        stands_for = sketch_stands stands t w (slice_index_or parts w p).counter x part.keeps r terms.runs.rules;
        cells = part.sound.fit.cells ∙ ap size_of (sym (shown parts state end).shape);
      }

  pub whole : (parts : List (Part K H)) (state : StateView) → IsAtEnd stands r t o packets n parts state → length state.table.cells ≡ size_of state.table.shape
  whole parts state end =
      let shows = shown parts state end in
      ap length shows.cells ∙ told_len r o (folded_after t o n) ∙ ap size_of (sym shows.shape)

  marks_are : (parts : List (Part K H)) (state : StateView) (bits : List (List Bool)) → IsAtEnd stands r t o packets n parts state → HasRefused r stands parts bits → (w : ℕ) → w < o.workers
      → AreMarks t w (worker_in (round_state t o n) w) (slice_index_or bits w [])
  marks_are parts state bits end refused w lt =
      let len = end.workers.len in
      let inside : w < length parts = omega (arith, lt, len) in
      let d = some_item parts w inside in
      let part = end.workers.each w d lt in
      let row = refused.each w d inside in
      let all = has_len r t o.shape packets w (share_of_worker o.share o.workers packets w) (terms.shares w lt) in
      let after = worker_after t o terms.runs.workers n w lt in
      subst (λ (x : Worker). AreMarks t w x (slice_index_or bits w [])) (sym after) (record {
        len = row.len ∙ part.sound.fit.updates ∙ ap (λ (l : List ℕ). o.shape.rows * length l) part.share ∙ sym all;
        marks = row.marks t w (own_rounds t o w n fresh_worker) terms.runs.rules part.keeps;
      })

  pub outcome_of : (parts : List (Part K H)) (state : StateView) (looks answers : List Answer) (bits : List (List Bool)) (pushes : List ℕ) (live : List FlowKey) (missed : ℕ)
      → IsAtEnd stands r t o packets n parts state → AreAllLooks r t o n looks → (0 < o.readers → looks_wanted o ≡ o.asks) → AreLooksByReader o.readers o.asks looks answers → HasRefused r stands parts bits
      → pushes ≡ state.front → live ≡ state.heavy.keys → missed ≡ state.heavy.missed → IsOutcome t o n bits pushes answers live missed
  outcome_of parts state looks answers bits pushes live missed end all wanted are refused front keys least =
      let shows = shown parts state end in
      record {
        idle = all_idle parts state end;
        bits_len = refused.rows_len ∙ end.workers.len;
        bits_are = marks_are parts state bits end refused;
        pushes_are = front ∙ shows.front;
        answers_len = are.len;
        answers_are = answered r t o packets terms n looks answers all are wanted;
        live_are = keys ∙ shows.keys ∙ ap (λ (z : Rules). live_keys z o.shape o.heavy o.least (folded_after t o n)) (sym terms.runs.rules);
        missed_is = least ∙ shows.missed ∙ ap (λ (z : Rules). missed_keys z o.shape o.heavy o.least (folded_after t o n)) (sym terms.runs.rules);
      }

pub wanted_is : (o : Options) → 0 < o.readers → looks_wanted o ≡ o.asks
wanted_is o some =
    let not : (o.readers == 0) ≡ false = grind (arith, some) in
    ap (λ (b : Bool). if b then 0 else o.asks) not

rules_there : (packets : List Packet) (o : Options) → (terms_of packets o).rules ≡ rules_in o
unfolding terms_of
rules_there packets o = refl

settled_is : (packets : List Packet) (o : Options) (n cell : ℕ) → IsLawful o → All (λ p. p.amount < 2 ^ 32) packets
    → settled_cell (terms_of packets o) o n cell ≡ fold (terms_of packets o).rules.join (told_of (terms_of packets o).rules cell (folded_after (terms_of packets o) o n))
    (map (λ w. residue_by (terms_of packets o) (λ v. own_rounds (terms_of packets o) o v n fresh_worker) w cell) (range_with_len 0 o.workers))
unfolding settled_cell
settled_is packets o n cell lawful small =
    let t = terms_of packets o in
    let s = round_state t o n in
    let told = told_of t.rules cell s.folded in
    let rules : t.rules ≡ rules_in o = rules_there packets o in
    let values : All (λ m. t.rules.is_value m.amount ≡ true) s.folded = λ k d lt. ap (λ (z : Rules). z.is_value (get_or s.folded k d).amount) rules ∙ (folded_fits packets o n lawful small k d lt).2 in
    let zero_is : t.rules.join (pos 0) told ≡ told = (terms_laws packets o).join_zero told (told_value t.rules (terms_laws packets o) cell s.folded values) in
    let by_state : ℕ → ℤ = λ w. residue t.rules (updates_by t w) (worker_in s w).sent (worker_in s w).counted cell in
    let by_worker : ℕ → ℤ = λ w. let x = own_rounds t o w n fresh_worker in residue t.rules (updates_by t w) x.sent x.counted cell in
    let same : map by_state (range_with_len 0 o.workers) ≡ map by_worker (range_with_len 0 o.workers) =
    same_made by_state by_worker 0 o.workers (λ w from to. ap (λ (x : Worker). residue t.rules (updates_by t w) x.sent x.counted cell) (worker_after t o (terms_len packets o) n w (omega (arith, to)))) in
    ap₂ (λ z l. fold t.rules.join z l) zero_is same

module _ {K H : Type 0} (stands : H → ℤ → ℤ → Type 0) (r : Rules) (packets : List Packet) (o : Options) (rules_is : r ≡ rules_in o) (lawful : IsLawful o) (small : All (λ p. p.amount < 2 ^ 32) packets)
    (terms : AreTerms r (terms_of packets o) o packets) where
  pub table_is : (n : ℕ) (parts : List (Part K H)) (state : StateView) (old new : TableView) → IsAtEnd stands r (terms_of packets o) o packets n parts state → old ≡ state.table → new.shape ≡ old.shape
      → length new.cells ≡ size_of new.shape
      → ((t : Terms) (xs : ℕ → Worker) → t.rules ≡ r → ((w : ℕ) (p : Part K H) → w < length parts → Keeps stands t w (slice_index_or parts w p).counter (xs w)) → HasJoined t.rules.join (residue_by t xs) (length parts) (size_of old.shape) old.cells new.cells)
      → new ≡ sequential_table r o.shape packets
  unfolding sequential_table
  table_is n parts state old new end was shape_is len joined =
      let t = terms_of packets o in
      let xs : ℕ → Worker = λ w. own_rounds t o w n fresh_worker in
      let shows = shown stands r t o packets terms n parts state end in
      let workers = end.workers.len in
      let old_shape : old.shape ≡ o.shape = ap (λ z. z.shape) was ∙ shows.shape in
      let shape : new.shape ≡ o.shape = shape_is ∙ old_shape in
      let all = joined t xs terms.runs.rules (λ w p lt. (end.workers.each w p (omega (arith, lt, workers))).keeps) in
      let idle = all_idle stands r t o packets terms n parts state end in
      let each : (cell : ℕ) → cell < size_of o.shape → get_or new.cells cell (pos 0) ≡ sequential r o.shape packets cell = λ cell lt.
      let before : value_at old.cells cell ≡ told_of r cell (folded_after t o n) = ap (λ (z : TableView). value_at z.cells cell) was ∙ ap (λ (l : List ℤ). value_at l cell) shows.cells ∙ told_at r o (folded_after t o n) cell lt in
      all cell (subst (λ s. cell < size_of s) (sym old_shape) lt)
      ∙ ap (λ z. fold t.rules.join z (map (λ w. residue_by t xs w cell) (range_with_len 0 (length parts)))) (before ∙ ap (λ (z : Rules). told_of z cell (folded_after t o n)) (sym terms.runs.rules))
      ∙ ap (λ k. fold t.rules.join (told_of t.rules cell (folded_after t o n)) (map (λ w. residue_by t xs w cell) (range_with_len 0 k))) workers
      ∙ sym (settled_is packets o n cell lawful small)
      ∙ settled_sequential packets o n lawful small idle cell
      ∙ ap (λ (z : Rules). sequential z o.shape packets cell) (sym rules_is) in
      let cells = fill_by_all (sequential r o.shape packets) new.cells (size_of o.shape) (pos 0) (len ∙ ap size_of shape) each in
      ap₂ (λ (s : Shape) (l : List ℤ). record { shape = s; cells = l }) shape cells
