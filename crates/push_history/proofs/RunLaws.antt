-- Each state of a run is lawful.
use Rattle.std.proofs.Common.{◌≡◌, ◌≢◌, ◌<◌, ◌≤◌, ℕ, zero, suc, ◌+◌, ◌-◌, ◌==◌, ℤ, pos, List, [], ◌∷◌, ◌++◌, length, get_or, take, replicate, Bool, true, false, nat_lt, if◌then◌else◌, refl, sym, ap, ◌∙◌, subst, arith, inl, inr}
use Rattle.std.specs.Prelude.{fold, All, slice_set}
use Rattle.std.proofs.lemmas.Bool.{cases_lt}
use Rattle.std.proofs.lemmas.List.{get_or_past, get_or-set_same, get_or-set_other, length-set, length-take, length-replicate, length_push, take_more, take-append-le}
use Rattle.std.proofs.lemmas.List.Elements.{All-nil, All-push, All-replicate, All-set}
use Rattle.hash_rows.specs.declared.options.Full.{Full}
use Rattle.hash_rows.specs.declared.options.Full.TheVariants.{Leave, Wait}
use Rattle.hash_rows.specs.declared.shape.Update.{Update as Entry}
use Rattle.hash_rows.specs.declared.shape.Push.{Push}
use Rattle.hash_rows.specs.Rules.{Rules}
use Rattle.push_history.specs.declared.event.Event.{Event}
use Rattle.push_history.specs.declared.event.Event.TheVariants.{Update, Take, Publish, Ask}
use Rattle.push_history.specs.declared.event.Reply.{Reply}
use Rattle.push_history.specs.declared.event.Reply.TheVariants.{Counted, Empty, Over, Took}
use Rattle.push_history.specs.Share.{zero_key}
use Rattle.push_history.specs.Front.{messages_of, message_at}
use Rattle.push_history.specs.LagRun.{Terms, Worker, State, updates_by, fresh_worker, worker_in, with_worker, message_of, meets_full, pushes, count_step, take_step, lag_step, lag_run, start}
use Rattle.push_history.specs.LawfulRun.{IsLawfulWorker, IsLawfulState}
use Rattle.push_history.specs.Pushes.{LawfulPushes, distance_at}
use Rattle.push_history.specs.Told.{told, told_of}
use Rattle.push_history.specs.Updates.{update_at}
use Rattle.push_history.specs.Whole.{whole, whole_of}
use Rattle.push_history.proofs.Lists.{filter_push_no, filter_push_yes}
use Rattle.push_history.proofs.Growing.{numbers_within, told_all}
use Rattle.push_history.proofs.Lawfuls.{lawful_counted, lawful_refused, lawful_sent, lawful_none}

-- the updates up to and with the next one
next_update : (U : List Entry) (n : ℕ) → n < length U → take (n + 1) U ≡ take n U ++ update_at U n ∷ []
next_update U n within = take_more U n (record { packet = 0; key = zero_key; cell = 0; value = pos 0 }) within

module _ (r : Rules) (w T L : ℕ) (full : Full) (U : List Entry) (n : ℕ) (S : List Push) (F : List ℕ) (h : LawfulPushes r w T L full (take n U) S F) (within : n < length U) where
  counted_is : length (take n U) ≡ n
  counted_is = omega (arith, length-take n U, within)

  told_is : (c : ℕ) → told r S n c ≡ told_of r c S
  told_is c = told_all r S n c (subst (λ (k : ℕ). All (λ m. m.update < k) S) counted_is (numbers_within r (take n U) S S h.pushes.amounts))

  whole_is : (c : ℕ) → whole r U (n + 1) c ≡ whole_of r c (take n U ++ update_at U n ∷ [])
  unfolding whole
  whole_is c = ap (whole_of r c) (next_update U n within)

  -- how far the next update takes its cell
  pub next_distance : distance_at r U S n ≡ r.distance (told_of r (update_at U n).cell S) (whole_of r (update_at U n).cell (take n U ++ update_at U n ∷ []))
  unfolding distance_at
  next_distance =
      ap (λ (z : ℤ). r.distance z (whole r U (n + 1) (update_at U n).cell)) (told_is (update_at U n).cell)
      ∙ ap (r.distance (told_of r (update_at U n).cell S)) (whole_is (update_at U n).cell)

  -- and what is to be told of it
  pub next_amount : (message_of r w U S n).amount ≡ r.gap (told_of r (update_at U n).cell S) (whole_of r (update_at U n).cell (take n U ++ update_at U n ∷ []))
  unfolding message_of
  next_amount =
      ap (λ (z : ℤ). r.gap z (whole r U (n + 1) (update_at U n).cell)) (told_is (update_at U n).cell)
      ∙ ap (r.gap (told_of r (update_at U n).cell S)) (whole_is (update_at U n).cell)

  pub next_counted : distance_at r U S n < T → LawfulPushes r w T L full (take (n + 1) U) S F
  next_counted small =
      subst (λ (t : List Entry). LawfulPushes r w T L full t S F) (sym (next_update U n within))
      (lawful_counted r w T L full (take n U) (update_at U n) S F h (omega (arith, small, next_distance)))

  pub next_sent : T ≤ distance_at r U S n → LawfulPushes r w T L full (take (n + 1) U) (S ++ message_of r w U S n ∷ []) F
  unfolding message_of
  next_sent far =
      subst (λ (t : List Entry). LawfulPushes r w T L full t (S ++ message_of r w U S n ∷ []) F) (sym (next_update U n within))
      (lawful_sent r w T L full (take n U) (update_at U n) S F (message_of r w U S n) h (omega (arith, far, next_distance)) refl refl (sym counted_is) refl refl next_amount)

next_refused : (r : Rules) (w T L : ℕ) (U : List Entry) (n : ℕ) (S : List Push) (F : List ℕ) → LawfulPushes r w T L Leave (take n U) S F → n < length U
    → T ≤ distance_at r U S n → L ≤ length S → LawfulPushes r w T L Leave (take (n + 1) U) S (F ++ n ∷ [])
next_refused r w T L U n S F h within far many =
    subst (λ (t : List Entry). LawfulPushes r w T L Leave t S (F ++ n ∷ [])) (sym (next_update U n within))
    (subst (λ (k : ℕ). LawfulPushes r w T L Leave (take n U ++ update_at U n ∷ []) S (F ++ k ∷ [])) (counted_is r w T L Leave U n S F h within)
    (lawful_refused r w T L (take n U) (update_at U n) S F h (omega (arith, far, next_distance r w T L Leave U n S F h within)) many))

full_by : (t : Terms) (w : ℕ) (x : Worker) (full : Full) → t.full ≡ full → IsLawfulWorker t w x → x.counted < length (updates_by t w)
    → t.threshold ≤ distance_at t.rules (updates_by t w) x.sent x.counted → t.capacity ≤ length x.sent - x.taken → IsLawfulWorker t w (meets_full full x).0
full_by t w x Leave is h within far many = record {
  counted = omega (arith, within);
  lawful = subst (λ (f : Full). LawfulPushes t.rules w t.threshold t.capacity f (take (x.counted + 1) (updates_by t w)) x.sent (x.refused ++ x.counted ∷ [])) (sym is)
      (next_refused t.rules w t.threshold t.capacity (updates_by t w) x.counted x.sent x.refused
      (subst (λ (f : Full). LawfulPushes t.rules w t.threshold t.capacity f (take x.counted (updates_by t w)) x.sent x.refused) is h.lawful) within far (omega (arith, many)));
  taken = h.taken;
}
full_by t w x Wait is h within far many = h

room_by : (t : Terms) (w : ℕ) (x : Worker) → IsLawfulWorker t w x → x.counted < length (updates_by t w)
    → t.threshold ≤ distance_at t.rules (updates_by t w) x.sent x.counted → (b : Bool) → nat_lt (length x.sent - x.taken) t.capacity ≡ b
    → IsLawfulWorker t w (if b then pushes (message_of t.rules w (updates_by t w) x.sent x.counted) x else meets_full t.full x).0
room_by t w x h within far true room = record {
  counted = omega (arith, within);
  lawful = next_sent t.rules w t.threshold t.capacity t.full (updates_by t w) x.counted x.sent x.refused h.lawful within far;
  taken = omega (arith, h.taken, length_push x.sent (message_of t.rules w (updates_by t w) x.sent x.counted));
}
room_by t w x h within far false none = full_by t w x t.full refl h within far (let many : t.capacity ≤ length x.sent - x.taken = grind arith in many)

due_by : (t : Terms) (w : ℕ) (x : Worker) → IsLawfulWorker t w x → x.counted < length (updates_by t w)
    → (b : Bool) → nat_lt (distance_at t.rules (updates_by t w) x.sent x.counted) t.threshold ≡ b
    → IsLawfulWorker t w (if b then (record { counted = x.counted + 1; sent = x.sent; refused = x.refused; taken = x.taken }, Counted)
    else if nat_lt (length x.sent - x.taken) t.capacity then pushes (message_of t.rules w (updates_by t w) x.sent x.counted) x else meets_full t.full x).0
due_by t w x h within true small = record {
  counted = omega (arith, within);
  lawful = next_counted t.rules w t.threshold t.capacity t.full (updates_by t w) x.counted x.sent x.refused h.lawful within (let below : distance_at t.rules (updates_by t w) x.sent x.counted < t.threshold = grind arith in below);
  taken = h.taken;
}
due_by t w x h within false due =
    room_by t w x h within (let far : t.threshold ≤ distance_at t.rules (updates_by t w) x.sent x.counted = grind arith in far) (nat_lt (length x.sent - x.taken) t.capacity) refl

left_by : (t : Terms) (w : ℕ) (x : Worker) → IsLawfulWorker t w x → (b : Bool) → (x.counted == length (updates_by t w)) ≡ b
    → IsLawfulWorker t w (if b then (x, Over)
    else if nat_lt (distance_at t.rules (updates_by t w) x.sent x.counted) t.threshold then (record { counted = x.counted + 1; sent = x.sent; refused = x.refused; taken = x.taken }, Counted)
    else if nat_lt (length x.sent - x.taken) t.capacity then pushes (message_of t.rules w (updates_by t w) x.sent x.counted) x else meets_full t.full x).0
left_by t w x h true over = h
left_by t w x h false left =
    due_by t w x h (let ne : x.counted ≢ length (updates_by t w) = (λ e. let yes : (x.counted == length (updates_by t w)) ≡ true = grind arith in let no : true ≡ false = sym yes ∙ left in absurd (cc)) in omega (arith, h.counted, ne))
    (nat_lt (distance_at t.rules (updates_by t w) x.sent x.counted) t.threshold) refl

-- a worker that takes up its next update stays lawful
pub worker_counted : (t : Terms) (w : ℕ) (x : Worker) → IsLawfulWorker t w x → IsLawfulWorker t w (count_step t w x).0
unfolding count_step
worker_counted t w x h = left_by t w x h (x.counted == length (updates_by t w)) refl

-- what counting leaves of a worker as it is: what was taken of it
pub record KeepsTaken (old new : Worker) : Type 0 where
  pub count : new.taken ≡ old.taken
  pub messages : take old.taken new.sent ≡ take old.taken old.sent

keeps_same : (x : Worker) → KeepsTaken x x
keeps_same x = record { count = refl; messages = refl }

keeps_full : (full : Full) (x : Worker) → KeepsTaken x (meets_full full x).0
keeps_full Leave x = record { count = refl; messages = refl }
keeps_full Wait x = keeps_same x

pub keeps_taken : (t : Terms) (w : ℕ) (x : Worker) → x.taken ≤ length x.sent → KeepsTaken x (count_step t w x).0
unfolding count_step
keeps_taken t w x within =
    let U = updates_by t w in
    let room : (b : Bool) → KeepsTaken x (if b then pushes (message_of t.rules w U x.sent x.counted) x else meets_full t.full x).0 =
    λ b. elim b as (λ b. KeepsTaken x (if b then pushes (message_of t.rules w U x.sent x.counted) x else meets_full t.full x).0)
    [ true ↦ record { count = refl; messages = take-append-le x.taken x.sent (message_of t.rules w U x.sent x.counted ∷ []) within } | false ↦ keeps_full t.full x ] in
    let due : (b : Bool) → KeepsTaken x (if b then (record { counted = x.counted + 1; sent = x.sent; refused = x.refused; taken = x.taken }, Counted)
    else if nat_lt (length x.sent - x.taken) t.capacity then pushes (message_of t.rules w U x.sent x.counted) x else meets_full t.full x).0 =
    λ b. elim b as (λ b. KeepsTaken x (if b then (record { counted = x.counted + 1; sent = x.sent; refused = x.refused; taken = x.taken }, Counted)
    else if nat_lt (length x.sent - x.taken) t.capacity then pushes (message_of t.rules w U x.sent x.counted) x else meets_full t.full x).0)
    [ true ↦ record { count = refl; messages = refl } | false ↦ room (nat_lt (length x.sent - x.taken) t.capacity) ] in
    elim (x.counted == length U) as (λ b. KeepsTaken x (if b then (x, Over)
    else if nat_lt (distance_at t.rules U x.sent x.counted) t.threshold then (record { counted = x.counted + 1; sent = x.sent; refused = x.refused; taken = x.taken }, Counted)
    else if nat_lt (length x.sent - x.taken) t.capacity then pushes (message_of t.rules w U x.sent x.counted) x else meets_full t.full x).0)
    [ true ↦ keeps_same x | false ↦ due (nat_lt (distance_at t.rules U x.sent x.counted) t.threshold) ]

-- what stands at a place after another was put in
put_by : (P : Worker → Type 0) (ws : List Worker) (w v : ℕ) (y : Worker) (b : Bool) → (w == v) ≡ b → v < length ws
    → (w ≡ v → P y) → P (get_or ws v fresh_worker) → P (get_or (slice_set ws w y) v fresh_worker)
put_by P ws w v y true same within new old =
    let e : w ≡ v = grind arith in
    subst P (sym (ap (λ (n : ℕ). get_or (slice_set ws w y) n fresh_worker) (sym e) ∙ get_or-set_same ws w y fresh_worker (omega (arith, e, within)))) (new e)
put_by P ws w v y false other within new old =
    let ne : v ≢ w = (λ e. let yes : (w == v) ≡ true = grind arith in let no : true ≡ false = sym yes ∙ other in absurd (cc)) in
    subst P (sym (get_or-set_other ws w v y fresh_worker ne)) old

update_lawful : (t : Terms) (s : State) (w : ℕ) → IsLawfulState t s → IsLawfulState t (with_worker s w (count_step t w (worker_in s w)).0)
update_lawful t s w h =
    let y : Worker = (count_step t w (worker_in s w)).0 in
    record {
      workers = length-set s.workers w y ∙ h.workers;
      each = λ v lt. put_by (IsLawfulWorker t v) s.workers w v y (w == v) refl (omega (arith, lt, h.workers))
          (λ e. subst (λ (n : ℕ). IsLawfulWorker t n y) e (worker_counted t w (worker_in s w) (h.each w (omega (arith, e, lt))))) (h.each v lt);
      folded = λ v lt. put_by (λ x. messages_of v s.folded ≡ take x.taken x.sent) s.workers w v y (w == v) refl (omega (arith, lt, h.workers))
          (λ e. subst (λ (n : ℕ). messages_of n s.folded ≡ take y.taken y.sent) e
          (let inside : w < length t.updates = omega (arith, e, lt) in
          let kept : KeepsTaken (worker_in s w) y = keeps_taken t w (worker_in s w) (h.each w inside).taken in
          h.folded w inside ∙ sym kept.messages ∙ ap (λ (n : ℕ). take n y.sent) (sym kept.count))) (h.folded v lt);
      of_workers = h.of_workers;
      shown = h.shown;
      seen = h.seen;
    }

-- the state once the next message of worker w was folded
abbrev with_folded : State → ℕ → State
with_folded s w = record {
  workers = slice_set s.workers w (record { counted = (worker_in s w).counted; sent = (worker_in s w).sent; refused = (worker_in s w).refused; taken = (worker_in s w).taken + 1 });
  folded = s.folded ++ message_at (worker_in s w).sent (worker_in s w).taken ∷ [];
  shown = s.shown;
  seen = s.seen;
}

folded_lawful : (t : Terms) (s : State) (w : ℕ) → IsLawfulState t s → w < length t.updates → (worker_in s w).taken < length (worker_in s w).sent → IsLawfulState t (with_folded s w)
folded_lawful t s w h inside some =
    let x : Worker = worker_in s w in
    let y : Worker = record { counted = x.counted; sent = x.sent; refused = x.refused; taken = x.taken + 1 } in
    let m : Push = message_at x.sent x.taken in
    let its : m.worker ≡ w = ((h.each w inside).lawful.named x.taken (record { worker = 0; packet = 0; update = 0; key = zero_key; cell = 0; amount = pos 0 }) some).its_worker in
    record {
      workers = length-set s.workers w y ∙ h.workers;
      each = λ v lt. put_by (IsLawfulWorker t v) s.workers w v y (w == v) refl (omega (arith, lt, h.workers))
          (λ e. subst (λ (n : ℕ). IsLawfulWorker t n y) e (record { counted = (h.each w inside).counted; lawful = (h.each w inside).lawful; taken = omega (arith, some) })) (h.each v lt);
      folded = λ v lt. folded_at v lt (w == v) refl its;
      of_workers = All-push (λ z. z.worker < length t.updates) s.folded m h.of_workers (omega (arith, its, inside));
      shown = omega (arith, h.shown, length_push s.folded m);
      seen = h.seen;
    }
  where
    folded_at : (v : ℕ) → v < length t.updates → (b : Bool) → (w == v) ≡ b → (message_at (worker_in s w).sent (worker_in s w).taken).worker ≡ w
        → messages_of v (with_folded s w).folded ≡ take (worker_in (with_folded s w) v).taken (worker_in (with_folded s w) v).sent
    folded_at v lt true same its =
        let e : w ≡ v = grind arith in
        let x : Worker = worker_in s w in
        let m : Push = message_at x.sent x.taken in
        let y : Worker = record { counted = x.counted; sent = x.sent; refused = x.refused; taken = x.taken + 1 } in
        let passes : (m.worker == v) ≡ true = (let e' : m.worker ≡ v = its ∙ e in grind arith) in
        filter_push_yes (λ z. z.worker == v) s.folded m passes
        ∙ subst (λ (n : ℕ). messages_of n s.folded ++ m ∷ [] ≡ take y.taken y.sent) e
        (ap (λ z. z ++ m ∷ []) (h.folded w inside) ∙ sym (take_more x.sent x.taken (record { worker = 0; packet = 0; update = 0; key = zero_key; cell = 0; amount = pos 0 }) some))
        ∙ ap (λ (z : Worker). take z.taken z.sent) (sym (ap (λ (n : ℕ). get_or (slice_set s.workers w y) n fresh_worker) (sym e) ∙ get_or-set_same s.workers w y fresh_worker (omega (arith, inside, h.workers))))
    folded_at v lt false other its =
        let x : Worker = worker_in s w in
        let m : Push = message_at x.sent x.taken in
        let y : Worker = record { counted = x.counted; sent = x.sent; refused = x.refused; taken = x.taken + 1 } in
        let ne : v ≢ w = (λ e. let yes : (w == v) ≡ true = grind arith in let no : true ≡ false = sym yes ∙ other in absurd (cc)) in
        let fails : (m.worker == v) ≡ false = ap (λ (n : ℕ). n == v) its ∙ other in
        filter_push_no (λ z. z.worker == v) s.folded m fails ∙ h.folded v lt
        ∙ ap (λ (z : Worker). take z.taken z.sent) (sym (get_or-set_other s.workers w v y fresh_worker ne))

-- a worker that isn't there has nothing
no_worker : (t : Terms) (s : State) (w : ℕ) → IsLawfulState t s → length t.updates ≤ w → worker_in s w ≡ fresh_worker
no_worker t s w h past = get_or_past s.workers w fresh_worker (omega (arith, past, h.workers))

take_by : (t : Terms) (s : State) (w : ℕ) → IsLawfulState t s → (b : Bool) → ((worker_in s w).taken == length (worker_in s w).sent) ≡ b
    → IsLawfulState t (if◌then◌else◌ {A = State × Reply} b (s, Empty) (with_folded s w, Took (message_at (worker_in s w).sent (worker_in s w).taken).amount)).0
take_by t s w h true none = h
take_by t s w h false some = elim (cases_lt w (length t.updates)) [
  | inl inside ↦ folded_lawful t s w h inside (let ne : (worker_in s w).taken ≢ length (worker_in s w).sent =
      (λ e. let yes : ((worker_in s w).taken == length (worker_in s w).sent) ≡ true = grind arith in let no : true ≡ false = sym yes ∙ some in absurd (cc)) in
      omega (arith, (h.each w inside).taken, ne))
  | inr past ↦ absurd (let none : ((worker_in s w).taken == length (worker_in s w).sent) ≡ true = ap (λ (x : Worker). x.taken == length x.sent) (no_worker t s w h past) in
      let no : true ≡ false = sym none ∙ some in cc)
]

-- each event keeps a state lawful
pub step_lawful : (t : Terms) (s : State) (e : Event) → IsLawfulState t s → IsLawfulState t (lag_step t s e).0
unfolding lag_step take_step
step_lawful t s (Update w) h = update_lawful t s w h
step_lawful t s (Take w) h = take_by t s w h ((worker_in s w).taken == length (worker_in s w).sent) refl
step_lawful t s Publish h = record {
  workers = h.workers;
  each = h.each;
  folded = h.folded;
  of_workers = h.of_workers;
  shown = omega arith;
  seen = λ k d lt. omega (arith, h.seen k d lt, h.shown);
}
step_lawful t s (Ask q) h = record {
  workers = h.workers;
  each = h.each;
  folded = h.folded;
  of_workers = h.of_workers;
  shown = h.shown;
  seen = All-set (λ n. n ≤ s.shown) s.seen q s.shown (omega arith) h.seen;
}

fresh_is : (n w : ℕ) → get_or (replicate n fresh_worker) w fresh_worker ≡ fresh_worker
fresh_is zero w = refl
fresh_is (suc n) zero = refl
fresh_is (suc n) (suc w) = fresh_is n w

-- the first state is lawful
pub start_lawful : (t : Terms) (readers : ℕ) → IsLawfulState t (start (length t.updates) readers)
unfolding start
start_lawful t readers = record {
  workers = length-replicate (length t.updates) fresh_worker;
  each = λ w lt. subst (λ (x : Worker). IsLawfulWorker t w x) (sym (fresh_is (length t.updates) w))
      (record { counted = omega arith; lawful = lawful_none t.rules w t.threshold t.capacity t.full; taken = omega arith });
  folded = λ w lt. ap (λ (x : Worker). take x.taken x.sent) (sym (fresh_is (length t.updates) w));
  of_workers = All-nil (λ m. m.worker < length t.updates);
  shown = omega arith;
  seen = All-replicate (λ n. n ≤ 0) readers 0 (omega arith);
}

events_lawful : (t : Terms) (events : List Event) (s : State) → IsLawfulState t s → IsLawfulState t (fold (λ s e. (lag_step t s e).0) s events)
events_lawful t [] s h = h
events_lawful t (e ∷ es) s h = events_lawful t es (lag_step t s e).0 (step_lawful t s e h)

-- each state of a run is lawful
pub run_lawful : (t : Terms) (readers : ℕ) (events : List Event) → IsLawfulState t (lag_run t readers events)
unfolding lag_run
run_lawful t readers events = events_lawful t events (start (length t.updates) readers) (start_lawful t readers)
