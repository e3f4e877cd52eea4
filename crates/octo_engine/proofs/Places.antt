-- Which packet and which row an update number is of.
use Rattle.std.proofs.Common.{◌≡◌, ◌<◌, ◌≤◌, ℕ, zero, suc, ◌+◌, ◌-◌, ◌*◌, List, [], ◌∷◌, ◌++◌, length, get_or, set, inl, inr, sym, ap, ◌∙◌, subst, arith}
use Rattle.std.specs.List.{flat_map}
use Rattle.std.proofs.Math.Nat.{mul-suc, mul-le-mul_left, mul-le-mul_right}
use Rattle.std.proofs.lemmas.Bool.{cases_lt}
use Rattle.std.proofs.lemmas.List.{get_or_append_left, get_or-append-add, get_or_default, get_or-set_other, get_or-set_same}
use Rattle.std.proofs.lemmas.List.FromFn.{length-map-range_with_len, get_or-map-range_with_len}
use Rattle.hash_rows.specs.declared.shape.Packet.{Packet}
use Rattle.hash_rows.specs.declared.shape.Shape.{Shape}
use Rattle.hash_rows.specs.declared.shape.Update.{Update}
use Rattle.hash_rows.specs.Rules.{Rules}
use Rattle.push_history.specs.LagRun.{Terms, Worker, updates_by}
use Rattle.push_history.specs.Share.{packet_at}
use Rattle.push_history.proofs.Sharing.{updates_len}
use Rattle.push_history.specs.Updates.{update_at, update_in_row, updates_at, updates_of}
use Rattle.octo_engine.specs.Counts.{AreNext, HasShare}

-- each packet has one update for each row
update_place : (r : Rules) (shape : Shape) (packets : List Packet) (share : List ℕ) (q j : ℕ) (d : Update) → q < length share → j < shape.rows
    → get_or (updates_of r shape packets share) (shape.rows * q + j) d ≡ update_in_row r shape (get_or share q 0) (packet_at packets (get_or share q 0)) j
unfolding updates_of updates_at
update_place r shape packets [] q j d lt inside = absurd (omega arith)
update_place r shape packets (i ∷ is) zero j d lt inside =
    let f = update_in_row r shape i (packet_at packets i) in
    let len : length (updates_at r shape packets i) ≡ shape.rows = length-map-range_with_len f 0 shape.rows in
    let none : shape.rows * 0 + j ≡ j = omega arith in
    ap (λ k. get_or (updates_at r shape packets i ++ flat_map (updates_at r shape packets) is) k d) none
    ∙ get_or_append_left (updates_at r shape packets i) (flat_map (updates_at r shape packets) is) d j (omega (arith, len, inside))
    ∙ get_or-map-range_with_len f 0 shape.rows j j d inside (omega arith)
update_place r shape packets (i ∷ is) (suc q) j d lt inside =
    let len : length (updates_at r shape packets i) ≡ shape.rows = length-map-range_with_len (update_in_row r shape i (packet_at packets i)) 0 shape.rows in
    let more : shape.rows * suc q ≡ shape.rows * q + shape.rows = mul-suc shape.rows q in
    let place : shape.rows * suc q + j ≡ length (updates_at r shape packets i) + (shape.rows * q + j) = omega (arith, len, more) in
    ap (λ k. get_or (updates_at r shape packets i ++ flat_map (updates_at r shape packets) is) k d) place
    ∙ get_or-append-add (updates_at r shape packets i) (flat_map (updates_at r shape packets) is) (shape.rows * q + j) d
    ∙ update_place r shape packets is q j d (omega (arith, lt)) inside

-- an update number below that of all updates is of a packet of the share
packet_there : (rows place first n : ℕ) → rows * place + first < rows * n → place < n
packet_there rows place first n lt = elim (cases_lt place n) [
  | inl within ↦ within
  | inr past ↦ let times : rows * n ≤ rows * place = mul-le-mul_left rows past in absurd (omega (arith, lt, times))
]

-- a packet ahead of those that are counted, one of so many for which there are updates left
pub ahead_there : (rows place ahead many n : ℕ) → ahead < many → rows * place + rows * many ≤ rows * n
    → (rows * (place + ahead) + rows ≤ rows * n) × (rows * ahead + rows ≤ rows * many)
ahead_there rows place ahead many n lt within =
    let next : rows * suc ahead ≡ rows * ahead + rows = mul-suc rows ahead in
    let times : rows * suc ahead ≤ rows * many = mul-le-mul_left rows (omega (arith, lt)) in
    let sum : rows * (place + ahead) ≡ rows * place + rows * ahead = grind arith in
    (omega (arith, sum, next, times, within), omega (arith, next, times))

-- a packet of which fewer rows weren't counted than it has is counted whole
pub whole_packet : (some rows : ℕ) → some ≤ rows → (some < rows → 0 + some ≡ rows) → some ≡ rows
whole_packet some rows most whole = elim (cases_lt some rows) [
  | inl less ↦ omega (arith, whole less)
  | inr least ↦ omega (arith, most, least)
]

pub rows_times : (rows n most : ℕ) → rows ≤ 8 → n ≤ most → rows * n ≤ 8 * most
rows_times rows n most few less =
    let times : rows * n ≤ 8 * n = mul-le-mul_right n few in
    omega (arith, times, less)

-- the next updates of the worker are those of one packet in some rows
next_of_share : (r : Rules) (t : Terms) (shape : Shape) (packets : List Packet) (w : ℕ) (share : List ℕ) → HasShare r t shape packets w share
    → (y : Worker) (place first last : ℕ) → y.counted ≡ shape.rows * place + first → shape.rows * place + first < shape.rows * length share → last ≤ shape.rows
    → shape.rows * place + first + (last - first) ≤ shape.rows * length share
    → AreNext t w y shape (packet_at packets (get_or share place 0)) (get_or share place 0) first last
next_of_share r t shape packets w share has y place first last counted lt last_is within =
    let len : length (updates_by t w) ≡ shape.rows * length share = ap length has.updates ∙ updates_len r shape packets share in
    let there = packet_there shape.rows place first (length share) lt in
    let at : (k : ℕ) → k < last - first → update_at (updates_by t w) (y.counted + k) ≡ update_in_row t.rules shape (get_or share place 0) (packet_at packets (get_or share place 0)) (first + k) = λ k below.
    let number : y.counted + k ≡ shape.rows * place + (first + k) = omega (arith, counted) in
    ap (λ (us : List Update). update_at us (y.counted + k)) has.updates
    ∙ ap (λ n. update_at (updates_of r shape packets share) n) number
    ∙ update_place r shape packets share place (first + k) _ there (omega (arith, below, last_is))
    ∙ ap (λ (z : Rules). update_in_row z shape (get_or share place 0) (packet_at packets (get_or share place 0)) (first + k)) (sym has.rules) in
    record { within = omega (arith, len, counted, within); rows = at }

-- the same, where the packet's position was looked up
pub next_at : (r : Rules) (t : Terms) (shape : Shape) (packets : List Packet) (w : ℕ) (share : List ℕ) → HasShare r t shape packets w share
    → (y : Worker) (place first last position : ℕ) → position ≡ get_or share place 0 → y.counted ≡ shape.rows * place + first → shape.rows * place + first < shape.rows * length share
    → last ≤ shape.rows → shape.rows * place + first + (last - first) ≤ shape.rows * length share → AreNext t w y shape (packet_at packets position) position first last
next_at r t shape packets w share has y place first last position at counted lt last_is within =
    subst (λ p. AreNext t w y shape (packet_at packets p) p first last) (sym at) (next_of_share r t shape packets w share has y place first last counted lt last_is within)

pub has_len : (r : Rules) (t : Terms) (shape : Shape) (packets : List Packet) (w : ℕ) (share : List ℕ) → HasShare r t shape packets w share → length (updates_by t w) ≡ shape.rows * length share
has_len r t shape packets w share has = ap length has.updates ∙ updates_len r shape packets share

-- one place more is written: what holds of what stood at each place and what stands there now
pub written : {A : Type 0} (P : A → A → Type 0) (old now : List A) (i : ℕ) (d new : A) → i < length now → P (get_or now i d) new → ((w : ℕ) (p : A) → w < i → P (get_or old w p) (get_or now w p))
    → ((w : ℕ) (p : A) → i ≤ w → get_or now w p ≡ get_or old w p)
    → ((w : ℕ) (p : A) → w < i + 1 → P (get_or old w p) (get_or (set now i new) w p)) × ((w : ℕ) (p : A) → i + 1 ≤ w → get_or (set now i new) w p ≡ get_or old w p)
written {A} P old now i d new lt ran below above = (
  (λ w p less.
      elim (cases_lt w i) [
        | inl early ↦ subst (λ (z : A). P (get_or old w p) z) (sym (get_or-set_other now i w new p (λ same. absurd (omega (arith, early, same))))) (below w p early)
        | inr late ↦
            let same : i ≡ w = omega (arith, late, less) in
            let was : get_or now i d ≡ get_or old i p = get_or_default now i d p lt ∙ above i p (omega arith) in
            let wrote : get_or (set now i new) i p ≡ new = get_or-set_same now i new p lt in
            subst (λ (k : ℕ). P (get_or old k p) (get_or (set now i new) k p)) same (subst (λ (z : A). P z (get_or (set now i new) i p)) was (subst (λ (z : A). P (get_or now i d) z) (sym wrote) ran))
      ]),
  (λ w p more. get_or-set_other now i w new p (λ same. absurd (omega (arith, more, same))) ∙ above w p (omega (arith, more))),
)
