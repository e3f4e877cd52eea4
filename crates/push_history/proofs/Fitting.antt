-- What the updates and the messages of a run are, how many there are, and which numbers they hold.
use Rattle.std.proofs.Common.{◌≡◌, ◌<◌, ◌≤◌, ℕ, zero, suc, ◌+◌, ◌*◌, ◌^◌, ◌==◌, List, [], ◌∷◌, length, get_or, take, Bool, true, false, if◌then◌else◌, sym, ap, subst, arith, inl, inr}
use Rattle.std.specs.Prelude.{All, filter, map}
use Rattle.std.specs.List.{flat_map, range_with_len}
use Rattle.std.specs.List.Sorted.{IsStrictlyIncreasing}
use Rattle.std.proofs.Math.Nat.{mul-le-mul_right}
use Rattle.std.proofs.lemmas.Bool.{cases_lt}
use Rattle.std.proofs.lemmas.List.{get_or_past, length-map, length-take}
use Rattle.std.proofs.lemmas.List.Elements.{All-append, All-nil, All-map, All-head, All-tail, All-take}
use Rattle.std.proofs.lemmas.List.FromFn.{get_or-map-range_with_len, get_or-range_with_len, length-map-range_with_len, length-range_with_len}
use Rattle.std.proofs.lemmas.List.Sums.{length-filter, count_by-le-length}
use Rattle.hash_rows.specs.Lawful.{IsLawful}
use Rattle.hash_rows.specs.Rules.{Rules, AreLaws, rules_of}
use Rattle.hash_rows.specs.Shapes.{IsShape, size_of}
use Rattle.hash_rows.specs.Sketches.{rows_of}
use Rattle.hash_rows.specs.declared.options.Options.{Options}
use Rattle.hash_rows.specs.declared.options.Sketch.{Sketch}
use Rattle.hash_rows.specs.declared.options.Sketch.TheVariants.{CountMin, CountSketch, LogLog}
use Rattle.hash_rows.specs.declared.shape.Packet.{Packet}
use Rattle.hash_rows.specs.declared.shape.Push.{Push}
use Rattle.hash_rows.specs.declared.shape.Shape.{Shape}
use Rattle.hash_rows.specs.declared.shape.Update.{Update}
use Rattle.hash_rows.proofs.Places.{place_within}
use Rattle.hash_rows.proofs.RankLaws.{ranks_lawful}
use Rattle.hash_rows.proofs.SumLaws.{count_min_lawful, count_sketch_lawful}
use Rattle.push_history.specs.Front.{messages_of}
use Rattle.push_history.specs.Journal.{rules_in, terms_of, updates_by_options}
use Rattle.push_history.specs.LagRun.{Terms, Worker, State, updates_by, worker_in}
use Rattle.push_history.specs.LawfulRun.{IsLawfulState, IsLawfulWorker}
use Rattle.push_history.specs.Share.{packet_at, share_of_worker, worker_of, zero_key}
use Rattle.push_history.specs.Updates.{HoldValues, update_at, update_in_row, updates_at, updates_of}
use Rattle.push_history.proofs.Sharing.{updates_len}
use Rattle.push_history.proofs.Growing.{numbers_within}
use Rattle.push_history.proofs.Telling.{amounts_are_values}

-- as many lists of updates as workers
pub terms_len : (packets : List Packet) (o : Options) → length (terms_of packets o).updates ≡ o.workers
unfolding terms_of
terms_len packets o = length-map-range_with_len (updates_by_options packets o) 0 o.workers

pub updates_there : (packets : List Packet) (o : Options) (w : ℕ) → w < o.workers → updates_by (terms_of packets o) w ≡ updates_by_options packets o w
unfolding terms_of
updates_there packets o w lt = get_or-map-range_with_len (updates_by_options packets o) 0 o.workers w w [] lt (omega arith)

-- each sketch's functions keep the laws
pub rules_lawful : (s : Sketch) → AreLaws (rules_of s)
rules_lawful CountMin = count_min_lawful
rules_lawful CountSketch = count_sketch_lawful
rules_lawful LogLog = ranks_lawful

-- an update of a cell in the table, of a value of the kind
abbrev pub Fits : Rules → ℕ → Update → Type 0
Fits r size u = (u.cell < size) × (r.is_value u.value ≡ true)

-- what each packet adds in each row is a value of the kind
abbrev pub AddValues : Rules → Shape → List Packet → Type 0
AddValues r shape packets = (i row : ℕ) → r.is_value (r.value shape (packet_at packets i) row) ≡ true

pub small_values : (r : Rules) → AreLaws r → (shape : Shape) (packets : List Packet) → All (λ p. p.amount < 2 ^ 32) packets → AddValues r shape packets
small_values r laws shape packets small i row = elim (cases_lt i (length packets)) [
  | inl within ↦ laws.packet_value shape (packet_at packets i) row (small i (record { key = zero_key; amount = 0 }) within)
  | inr past ↦ (let none : packet_at packets i ≡ record { key = zero_key; amount = 0 } = get_or_past packets i (record { key = zero_key; amount = 0 }) past in
      subst (λ (p : Packet). r.is_value (r.value shape p row) ≡ true) (sym none) (laws.packet_value shape (record { key = zero_key; amount = 0 }) row (omega arith)))
]

rows_fit : (r : Rules) (shape : Shape) → IsShape shape → (i : ℕ) (packet : Packet) → ((row : ℕ) → r.is_value (r.value shape packet row) ≡ true)
    → All (Fits r (size_of shape)) (map (update_in_row r shape i packet) (rows_of shape))
unfolding update_in_row
rows_fit r shape lawful i packet values = All-map (Fits r (size_of shape)) (update_in_row r shape i packet) (rows_of shape) (λ k d lt.
    let within : k < shape.rows = omega (arith, lt, length-range_with_len 0 shape.rows) in
    let row : get_or (rows_of shape) k d < shape.rows = omega (arith, within, get_or-range_with_len 0 shape.rows k d within) in
    (place_within shape lawful packet.key (get_or (rows_of shape) k d) row, values (get_or (rows_of shape) k d)))

updates_fit : (r : Rules) (shape : Shape) → IsShape shape → (packets : List Packet) → AddValues r shape packets → (share : List ℕ) → All (Fits r (size_of shape)) (updates_of r shape packets share)
unfolding updates_of updates_at
updates_fit r shape lawful packets values [] = All-nil (Fits r (size_of shape))
updates_fit r shape lawful packets values (i ∷ is) =
    All-append (Fits r (size_of shape)) (updates_at r shape packets i) (flat_map (updates_at r shape packets) is)
    (rows_fit r shape lawful i (packet_at packets i) (values i)) (updates_fit r shape lawful packets values is)

-- the updates of each worker of a run
pub own_updates_fit : (packets : List Packet) (o : Options) → IsLawful o → AddValues (rules_in o) o.shape packets → (w : ℕ) → w < o.workers
    → All (Fits (rules_in o) (size_of o.shape)) (updates_by (terms_of packets o) w)
unfolding updates_by_options
own_updates_fit packets o lawful values w lt =
    subst (λ (us : List Update). All (Fits (rules_in o) (size_of o.shape)) us) (sym (updates_there packets o w lt))
    (updates_fit (rules_in o) o.shape lawful.shape packets values (share_of_worker o.share o.workers packets w))

-- a message of worker v, for a cell of the table, that tells a value
abbrev pub FitsFor : Rules → ℕ → ℕ → Push → Type 0
FitsFor r size v m = (m.worker ≡ v) × (m.cell < size) × (r.is_value m.amount ≡ true)

pub sent_fits : (t : Terms) → AreLaws t.rules → (size w : ℕ) (x : Worker) → All (Fits t.rules size) (updates_by t w) → IsLawfulWorker t w x
    → All (FitsFor t.rules size w) x.sent
sent_fits t laws size w x fit h = λ k d lt.
    let U : List Update = take x.counted (updates_by t w) in
    let own : All (Fits t.rules size) U = All-take (Fits t.rules size) x.counted (updates_by t w) fit in
    let values : HoldValues t.rules U = λ k d lt. (own k d lt).1 in
    let m : Push = get_or x.sent k d in
    let tells = h.lawful.pushes.amounts k d lt in
    let cell : (update_at U m.update).cell < size = (own m.update _ tells.within).0 in
    ((h.lawful.named k d lt).its_worker, omega (arith, cell, tells.cell), amounts_are_values t.rules laws t.threshold U x.sent x.refused values h.lawful.pushes k d lt)

-- what holds of each that passes
kept_holds : {X : Type 0} (P : X → Type 0) (p : X → Bool) (xs : List X) → All P (filter p xs) → (k : ℕ) (d : X) → k < length xs → p (get_or xs k d) ≡ true → P (get_or xs k d)
kept_holds P p [] all k d lt is = absurd (omega (arith, lt))
kept_holds P p (x ∷ xs) all zero d lt is = All-head P x (filter p xs) (subst (λ (b : Bool). All P (if b then x ∷ filter p xs else filter p xs)) is all)
kept_holds {X} P p (x ∷ xs) all (suc k) d lt is = kept_holds P p xs (later (p x) all) k d (omega (arith, lt)) is
  where
    later : (b : Bool) → All P (if b then x ∷ filter p xs else filter p xs) → All P (filter p xs)
    later true all = All-tail P x (filter p xs) all
    later false all = all

-- what was folded in a state
pub folded_fit : (t : Terms) → AreLaws t.rules → (size : ℕ) → ((w : ℕ) → w < length t.updates → All (Fits t.rules size) (updates_by t w)) → (s : State) → IsLawfulState t s
    → All (λ m. (m.worker < length t.updates) × (m.cell < size) × (t.rules.is_value m.amount ≡ true)) s.folded
folded_fit t laws size fit s h = λ k d lt.
    let m : Push = get_or s.folded k d in
    let within : m.worker < length t.updates = h.of_workers k d lt in
    let own : All (FitsFor t.rules size m.worker) (messages_of m.worker s.folded) =
    subst (λ (l : List Push). All (FitsFor t.rules size m.worker) l) (sym (h.folded m.worker within))
    (All-take (FitsFor t.rules size m.worker) (worker_in s m.worker).taken (worker_in s m.worker).sent (sent_fits t laws size m.worker (worker_in s m.worker) (fit m.worker within) (h.each m.worker within))) in
    let its = kept_holds (FitsFor t.rules size m.worker) (λ n. n.worker == m.worker) s.folded own k d lt (grind arith) in
    (within, its.1, its.2)

-- the laws of the kind that is asked for
pub terms_laws : (packets : List Packet) (o : Options) → AreLaws (terms_of packets o).rules
unfolding terms_of
terms_laws packets o = rules_lawful o.sketch

share_few : (packets : List Packet) (o : Options) (w : ℕ) → length (share_of_worker o.share o.workers packets w) ≤ length packets
unfolding share_of_worker
share_few packets o w =
    let p : ℕ → Bool = λ i. worker_of o.share o.workers packets i == w in
    let places = range_with_len 0 (length packets) in
    omega (arith, length-filter p places, count_by-le-length p places, length-range_with_len 0 (length packets))

rows_times : (rows n : ℕ) → rows ≤ 8 → n ≤ 16777216 → rows * n ≤ 134217728
rows_times rows n few less =
    let most : rows * n ≤ 8 * n = mul-le-mul_right n few in
    omega (arith, most, less)

pub updates_few : (packets : List Packet) (o : Options) (w : ℕ) → IsLawful o → length packets ≤ 16777216 → length (updates_by (terms_of packets o) w) ≤ 134217728
unfolding updates_by_options
updates_few packets o w lawful few = elim (cases_lt w o.workers) [
  | inl lt ↦
      let share = share_of_worker o.share o.workers packets w in
      let len = updates_len (rules_in o) o.shape packets share in
      let most = rows_times o.shape.rows (length share) lawful.shape.rows (omega (arith, few, share_few packets o w)) in
      omega (arith, ap length (updates_there packets o w lt), len, most)
  | inr past ↦ omega (arith, ap length (get_or_past (terms_of packets o).updates w [] (omega (arith, past, terms_len packets o))))
]

rising_at : (xs : List ℕ) → IsStrictlyIncreasing xs → (k : ℕ) → k < length xs → k ≤ get_or xs k 0
rising_at xs rising zero lt = omega arith
rising_at xs rising (suc k) lt =
    let next : suc k ≡ k + 1 = omega arith in
    subst (λ (n : ℕ). n ≤ get_or xs n 0) (sym next) (omega (arith, rising_at xs rising k (omega (arith, lt)), rising k (omega (arith, lt))))

numbers_few : (xs : List ℕ) (n : ℕ) → IsStrictlyIncreasing xs → All (λ x. x < n) xs → length xs ≤ n
numbers_few [] n rising within = omega arith
numbers_few (x ∷ xs) n rising within =
    let last = rising_at (x ∷ xs) rising (length xs) (omega arith) in
    let below = within (length xs) 0 (omega arith) in
    omega (arith, last, below)

-- no more messages than updates
pub sent_few : (t : Terms) (w : ℕ) (x : Worker) → IsLawfulWorker t w x → length x.sent ≤ length (updates_by t w)
sent_few t w x h =
    let U : List Update = take x.counted (updates_by t w) in
    let below : All (λ m. m.update < length U) x.sent = numbers_within t.rules U x.sent x.sent h.lawful.pushes.amounts in
    let few = numbers_few (map (λ m. m.update) x.sent) (length U) h.lawful.pushes.rising (All-map (λ n. n < length U) (λ m. m.update) x.sent below) in
    omega (arith, few, length-map x.sent (λ m. m.update), length-take x.counted (updates_by t w))
