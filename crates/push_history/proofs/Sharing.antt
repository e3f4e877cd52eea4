-- What each worker makes of its share, joined, is what one table makes of all packets.
use Rattle.std.proofs.Common.{◌≡◌, ◌<◌, ◌≤◌, ℕ, zero, suc, ◌+◌, ◌*◌, ◌^◌, ◌==◌, ℤ, List, [], ◌∷◌, ◌++◌, length, length-append, get_or, take, Bool, true, false, if◌then◌else◌, refl, sym, ap, ◌∙◌, subst, arith, inl, inr}
use Rattle.std.specs.Prelude.{filter, map, All}
use Rattle.std.specs.List.{flat_map, range_with_len}
use Rattle.std.proofs.Math.Nat.{mod-lt, mul-suc}
use Rattle.std.proofs.lemmas.Bool.{cases_lt}
use Rattle.std.proofs.lemmas.List.{map-append, map-id, take_more, take_all, get_or_past}
use Rattle.std.proofs.lemmas.List.Elements.{filter-append, All-map}
use Rattle.std.proofs.lemmas.List.FromFn.{map-range_with_len_more, length-map-range_with_len}
use Rattle.std.proofs.lemmas.Grind.{flat_map-append}
use Rattle.hash_rows.specs.declared.options.Share.{Share}
use Rattle.hash_rows.specs.declared.options.Share.TheVariants.{Turn, Key}
use Rattle.hash_rows.specs.declared.shape.Packet.{Packet}
use Rattle.hash_rows.specs.declared.shape.Shape.{Shape}
use Rattle.hash_rows.specs.declared.shape.Update.{Update}
use Rattle.hash_rows.specs.Hash.{share_of_key}
use Rattle.hash_rows.specs.Rules.{Rules, AreLaws, AreValues}
use Rattle.hash_rows.specs.Sequential.{joined_of, packet_values, cell_values, sequential}
use Rattle.hash_rows.specs.Shapes.{cell_of}
use Rattle.hash_rows.specs.Sketches.{rows_of}
use Rattle.push_history.specs.Share.{packet_at, worker_of, share_of_worker, zero_key}
use Rattle.push_history.specs.Updates.{update_in_row, updates_at, updates_of}
use Rattle.push_history.specs.Whole.{values_for, whole_of, whole}
use Rattle.push_history.proofs.Growing.{whole_all}
use Rattle.push_history.proofs.Parts.{joined_parts}

-- a filter of what was made by f
kept_made : {X Y Z : Type 0} (p : Y → Bool) (v : Y → Z) (f : X → Y) (xs : List X) → map v (filter p (map f xs)) ≡ map (λ x. v (f x)) (filter (λ x. p (f x)) xs)
kept_made p v f [] = refl
kept_made p v f (x ∷ xs) =
    elim (p (f x)) as (λ b. map v (if b then f x ∷ filter p (map f xs) else filter p (map f xs)) ≡ map (λ x. v (f x)) (if b then x ∷ filter (λ x. p (f x)) xs else filter (λ x. p (f x)) xs))
    [ true ↦ ap (λ t. v (f x) ∷ t) (kept_made p v f xs) | false ↦ kept_made p v f xs ]

-- the values that a packet gives a cell
values_at : (r : Rules) (shape : Shape) (packets : List Packet) (cell i : ℕ) → values_for cell (updates_at r shape packets i) ≡ packet_values r shape cell (packet_at packets i)
unfolding updates_at update_in_row packet_values
values_at r shape packets cell i = kept_made (λ u. u.cell == cell) (λ u. u.value) (update_in_row r shape i (packet_at packets i)) (rows_of shape)

values_of_share : (r : Rules) (shape : Shape) (packets : List Packet) (cell : ℕ) (share : List ℕ)
    → values_for cell (updates_of r shape packets share) ≡ flat_map (λ i. packet_values r shape cell (packet_at packets i)) share
unfolding updates_of
values_of_share r shape packets cell [] = refl
values_of_share r shape packets cell (i ∷ is) =
    ap (map (λ u. u.value)) (filter-append (λ u. u.cell == cell) (updates_at r shape packets i) (flat_map (updates_at r shape packets) is))
    ∙ map-append (λ u. u.value) (filter (λ u. u.cell == cell) (updates_at r shape packets i)) (filter (λ u. u.cell == cell) (flat_map (updates_at r shape packets) is))
    ∙ ap (λ t. t ++ values_for cell (flat_map (updates_at r shape packets) is)) (values_at r shape packets cell i)
    ∙ ap (λ t. packet_values r shape cell (packet_at packets i) ++ t) (values_of_share r shape packets cell is)

pub range_more : (n : ℕ) → range_with_len 0 (n + 1) ≡ range_with_len 0 n ++ n ∷ []
range_more n =
    sym (map-id (range_with_len 0 (n + 1))) ∙ map-range_with_len_more (λ x. x) 0 n n (omega arith) ∙ ap (λ t. t ++ n ∷ []) (map-id (range_with_len 0 n))

-- going over a list by its places
pub by_places : {X Y : Type 0} (f : X → List Y) (xs : List X) (d : X) (n : ℕ) → n ≤ length xs → flat_map f (take n xs) ≡ flat_map (λ i. f (get_or xs i d)) (range_with_len 0 n)
by_places f xs d zero le = refl
by_places {X} {Y} f xs d (suc n) le =
    let next : suc n ≡ n + 1 = omega arith in
    subst (λ (m : ℕ). flat_map f (take m xs) ≡ flat_map (λ i. f (get_or xs i d)) (range_with_len 0 m)) (sym next)
    (ap (flat_map f) (take_more xs n d (omega (arith, le)))
    ∙ flat_map-append f (take n xs) (get_or xs n d ∷ [])
    ∙ ap (λ (t : List Y). t ++ (f (get_or xs n d) ++ [])) (by_places f xs d n (omega (arith, le)))
    ∙ sym (ap (flat_map (λ i. f (get_or xs i d))) (range_more n) ∙ flat_map-append (λ i. f (get_or xs i d)) (range_with_len 0 n) (n ∷ [])))

pub worker_within : (sharing : Share) (workers : ℕ) (packets : List Packet) (i : ℕ) → 0 < workers → worker_of sharing workers packets i < workers
unfolding share_of_key
worker_within Turn workers packets i some = mod-lt i some
worker_within Key workers packets i some = mod-lt _ some

packet_small : (packets : List Packet) (i : ℕ) → All (λ p. p.amount < 2 ^ 32) packets → (packet_at packets i).amount < 2 ^ 32
packet_small packets i small = elim (cases_lt i (length packets)) [
  | inl within ↦ small i (record { key = zero_key; amount = 0 }) within
  | inr past ↦ (let none : packet_at packets i ≡ record { key = zero_key; amount = 0 } = get_or_past packets i (record { key = zero_key; amount = 0 }) past in
      subst (λ (p : Packet). p.amount < 2 ^ 32) (sym none) (omega arith))
]

packet_are_values : (r : Rules) → AreLaws r → (shape : Shape) (cell : ℕ) (packet : Packet) → packet.amount < 2 ^ 32 → AreValues r (packet_values r shape cell packet)
unfolding packet_values
packet_are_values r laws shape cell packet small =
    All-map (λ y. r.is_value y ≡ true) (λ row. r.value shape packet row) (filter (λ row. cell_of shape packet.key row == cell) (rows_of shape))
    (λ k d lt. laws.packet_value shape packet _ small)

-- the sequential sketch is the join of what the workers make of their shares
pub sequential_is : (r : Rules) → AreLaws r → (sharing : Share) (workers : ℕ) (shape : Shape) (packets : List Packet) (cell : ℕ) → 0 < workers → All (λ p. p.amount < 2 ^ 32) packets
    → sequential r shape packets cell ≡ joined_of r (map (λ w. whole_of r cell (updates_of r shape packets (share_of_worker sharing workers packets w))) (range_with_len 0 workers))
unfolding sequential cell_values whole_of share_of_worker
sequential_is r laws sharing workers shape packets cell some small =
    let values : ℕ → List ℤ = λ i. packet_values r shape cell (packet_at packets i) in
    let places : List ℕ = range_with_len 0 (length packets) in
    sym ((λ j. joined_of r (map (λ w. joined_of r (values_of_share r shape packets cell (filter (λ i. worker_of sharing workers packets i == w) places) j)) (range_with_len 0 workers)))
    ∙ joined_parts r laws values (worker_of sharing workers packets) workers places
    (λ k d lt. packet_are_values r laws shape cell (packet_at packets (get_or places k d)) (packet_small packets (get_or places k d) small))
    (λ k d lt. worker_within sharing workers packets (get_or places k d) some)
    ∙ ap (joined_of r) (sym (by_places (packet_values r shape cell) packets (record { key = zero_key; amount = 0 }) (length packets) (omega arith))
    ∙ ap (flat_map (packet_values r shape cell)) (take_all (length packets) packets (omega arith))))

-- the same, by the wholes after all updates
pub sequential_is_wholes : (r : Rules) → AreLaws r → (sharing : Share) (workers : ℕ) (shape : Shape) (packets : List Packet) (cell : ℕ) → 0 < workers → All (λ p. p.amount < 2 ^ 32) packets
    → sequential r shape packets cell
    ≡ joined_of r (map (λ w. let updates = updates_of r shape packets (share_of_worker sharing workers packets w) in whole r updates (length updates) cell) (range_with_len 0 workers))
sequential_is_wholes r laws sharing workers shape packets cell some small =
    let updates : ℕ → List Update = λ w. updates_of r shape packets (share_of_worker sharing workers packets w) in
    sequential_is r laws sharing workers shape packets cell some small
    ∙ (λ i. joined_of r (map (λ w. sym (whole_all r (updates w) (length (updates w)) cell (omega arith)) i) (range_with_len 0 workers)))

-- one update for each packet of the share and each row
pub updates_len : (r : Rules) (shape : Shape) (packets : List Packet) (share : List ℕ) → length (updates_of r shape packets share) ≡ shape.rows * length share
unfolding updates_of updates_at
updates_len r shape packets [] = omega arith
updates_len r shape packets (i ∷ is) =
    let here : length (updates_at r shape packets i) ≡ shape.rows = length-map-range_with_len (update_in_row r shape i (packet_at packets i)) 0 shape.rows in
    let rest : length (flat_map (updates_at r shape packets) is) ≡ shape.rows * length is = updates_len r shape packets is in
    let more : shape.rows * suc (length is) ≡ shape.rows * length is + shape.rows = mul-suc shape.rows (length is) in
    let both : length (updates_at r shape packets i ++ flat_map (updates_at r shape packets) is) ≡ length (updates_at r shape packets i) + length (flat_map (updates_at r shape packets) is) = length-append (updates_at r shape packets i) (flat_map (updates_at r shape packets) is) in
    omega (arith, here, rest, more, both)
