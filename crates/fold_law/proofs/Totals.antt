-- What all workers tell of a cell never passes what all packets amount to.
use Rattle.std.proofs.Common.{◌≡◌, ◌≢◌, ◌<◌, ◌≤◌, ℕ, zero, suc, ◌+◌, ◌*◌, ◌^◌, ◌==◌, List, [], ◌∷◌, length, get_or, take, Bool, true, false, nat_lt, if◌then◌else◌, refl, sym, ap, ◌∙◌, subst, arith}
use Rattle.std.specs.Prelude.{filter, map, All, sum_by, unsigned_abs}
use Rattle.std.specs.List.{flat_map, range_with_len}
use Rattle.std.proofs.lemmas.List.{take_more, take_all}
use Rattle.std.proofs.lemmas.List.Elements.{All-head, All-tail, All-nil, All-cons, All-append}
use Rattle.std.proofs.lemmas.List.Sums.{sum_by-cons, sum_by-append, sum_by_push, sum_by-take-le}
use Rattle.hash_rows.specs.Amounts.{total_amount}
use Rattle.hash_rows.specs.declared.options.Share.{Share}
use Rattle.hash_rows.specs.declared.shape.Packet.{Packet}
use Rattle.hash_rows.specs.declared.shape.Push.{Push}
use Rattle.hash_rows.specs.declared.shape.Shape.{Shape}
use Rattle.hash_rows.specs.declared.shape.Update.{Update}
use Rattle.hash_rows.specs.Shapes.{IsShape, cell_of}
use Rattle.hash_rows.specs.Sketches.{rows_of}
use Rattle.hash_rows.proofs.PlainSums.{added, added_most, rows_at}
use Rattle.push_history.specs.Share.{packet_at, worker_of, share_of_worker, zero_key}
use Rattle.push_history.specs.Front.{messages_of}
use Rattle.push_history.specs.LawfulJournal.{sent_by}
use Rattle.push_history.specs.Pushes.{ArePushes}
use Rattle.push_history.specs.Told.{messages_before}
use Rattle.push_history.specs.Updates.{update_in_row, updates_at, updates_of}
use Rattle.push_history.proofs.Growing.{numbers_within}
use Rattle.push_history.proofs.Lists.{filter_kept}
use Rattle.push_history.proofs.Sharing.{range_more, worker_within}
use Rattle.fold_law.specs.Folds.{IsFoldOf}
use Rattle.fold_law.proofs.Sums.{count_min, IsPlain, plain_told, plain_whole, IsTold, are_told}

sum_none : (c k : ℕ) (h : ℕ → ℕ) (first n : ℕ) → c < first → sum_by (λ w. if c == w then k + h w else h w) (range_with_len first n) ≡ sum_by h (range_with_len first n)
sum_none c k h first zero lt = refl
sum_none c k h first (suc n) lt =
    let no : (c == first) ≡ false = grind arith in
    let here : (if c == first then k + h first else h first) ≡ h first = rw no refl in
    let rest = sum_none c k h (first + 1) n (omega (arith, lt)) in
    sum_by-cons (λ w. if c == w then k + h w else h w) first (range_with_len (first + 1) n)
    ∙ (let a = sum_by-cons h first (range_with_len (first + 1) n) in omega (arith, here, rest, a))

-- one part that has k more
sum_one : (c k : ℕ) (h : ℕ → ℕ) (first n : ℕ) → first ≤ c → c < first + n → sum_by (λ w. if c == w then k + h w else h w) (range_with_len first n) ≡ k + sum_by h (range_with_len first n)
sum_one c k h first zero le lt = absurd (omega (arith, le, lt))
sum_one c k h first (suc n) le lt = by (c == first) refl (λ after. sum_one c k h (first + 1) n after (omega (arith, lt)))
  where
    by : (b : Bool) → (c == first) ≡ b
        → (first + 1 ≤ c → sum_by (λ w. if c == w then k + h w else h w) (range_with_len (first + 1) n) ≡ k + sum_by h (range_with_len (first + 1) n))
        → sum_by (λ w. if c == w then k + h w else h w) (range_with_len first (suc n)) ≡ k + sum_by h (range_with_len first (suc n))
    by true same later =
        let here : (if c == first then k + h first else h first) ≡ k + h first = rw same refl in
        let rest = sum_none c k h (first + 1) n (let e : c ≡ first = grind arith in omega (arith, e)) in
        let a = sum_by-cons h first (range_with_len (first + 1) n) in
        let b = sum_by-cons (λ w. if c == w then k + h w else h w) first (range_with_len (first + 1) n) in
        omega (arith, here, rest, a, b)
    by false other later =
        let ne : c ≢ first = (λ e. let yes : (c == first) ≡ true = grind arith in let no : true ≡ false = sym yes ∙ other in absurd (cc)) in
        let here : (if c == first then k + h first else h first) ≡ h first = rw other refl in
        let rest = later (omega (arith, le, ne)) in
        let a = sum_by-cons h first (range_with_len (first + 1) n) in
        let b = sum_by-cons (λ w. if c == w then k + h w else h w) first (range_with_len (first + 1) n) in
        omega (arith, here, rest, a, b)

sum_zeros : (ws : List ℕ) → sum_by (λ w. 0) ws ≡ 0
sum_zeros [] = refl
sum_zeros (w ∷ ws) = sum_by-cons (λ w. 0) w ws ∙ (let rest = sum_zeros ws in omega (arith, rest))

-- the sums of all classes are the sum of all
sum_parts : {X : Type 0} (f class : X → ℕ) (classes : ℕ) (xs : List X) → All (λ x. class x < classes) xs
    → sum_by (λ w. sum_by f (filter (λ x. class x == w) xs)) (range_with_len 0 classes) ≡ sum_by f xs
sum_parts f class classes [] all = sum_zeros (range_with_len 0 classes)
sum_parts {X} f class classes (x ∷ xs) all =
    let own : class x < classes = All-head (λ y. class y < classes) x xs all in
    let rest = sum_parts f class classes xs (All-tail (λ y. class y < classes) x xs all) in
    let h : ℕ → ℕ = λ w. sum_by f (filter (λ y. class y == w) xs) in
    (λ i. sum_by (λ w. more w (class x == w) i) (range_with_len 0 classes))
    ∙ sum_one (class x) (f x) h 0 classes (omega arith) (omega (arith, own))
    ∙ ap (λ (n : ℕ). f x + n) rest ∙ sym (sum_by-cons f x xs)
  where
    more : (w : ℕ) (b : Bool) → sum_by f (if b then x ∷ filter (λ y. class y == w) xs else filter (λ y. class y == w) xs)
        ≡ (if b then f x + sum_by f (filter (λ y. class y == w) xs) else sum_by f (filter (λ y. class y == w) xs))
    more w true = sum_by-cons f x (filter (λ y. class y == w) xs)
    more w false = refl

pub sum_range_le : (f g : ℕ → ℕ) (first n : ℕ) → ((w : ℕ) → first ≤ w → w < first + n → f w ≤ g w) → sum_by f (range_with_len first n) ≤ sum_by g (range_with_len first n)
sum_range_le f g first zero le = omega arith
sum_range_le f g first (suc n) le =
    let here = le first (omega arith) (omega arith) in
    let rest = sum_range_le f g (first + 1) n (λ w from to. le w (omega (arith, from)) (omega (arith, to))) in
    let a = sum_by-cons f first (range_with_len (first + 1) n) in
    let b = sum_by-cons g first (range_with_len (first + 1) n) in
    omega (arith, here, rest, a, b)

pub sum_places : {X : Type 0} (f : X → ℕ) (xs : List X) (d : X) (n : ℕ) → n ≤ length xs → sum_by f (take n xs) ≡ sum_by (λ i. f (get_or xs i d)) (range_with_len 0 n)
sum_places f xs d zero le = refl
sum_places {X} f xs d (suc n) le =
    let next : suc n ≡ n + 1 = omega arith in
    subst (λ (m : ℕ). sum_by f (take m xs) ≡ sum_by (λ i. f (get_or xs i d)) (range_with_len 0 m)) (sym next)
    (ap (sum_by f) (take_more xs n d (omega (arith, le))) ∙ sum_by_push f (take n xs) (get_or xs n d)
    ∙ ap (λ (s : ℕ). s + f (get_or xs n d)) (sum_places f xs d n (omega (arith, le)))
    ∙ sym (ap (sum_by (λ i. f (get_or xs i d))) (range_more n) ∙ sum_by_push (λ i. f (get_or xs i d)) (range_with_len 0 n) n))

-- one of a list is at most the sum
pub member_le : {X : Type 0} (f : X → ℕ) (xs : List X) (k : ℕ) (d : X) → k < length xs → f (get_or xs k d) ≤ sum_by f xs
member_le f xs k d lt =
    let most = sum_by-take-le f xs (k + 1) in
    let more : sum_by f (take (k + 1) xs) ≡ sum_by f (take k xs) + f (get_or xs k d) = ap (sum_by f) (take_more xs k d lt) ∙ sum_by_push f (take k xs) (get_or xs k d) in
    omega (arith, most, more)

-- what a packet adds to a cell in some rows
packet_rows : (shape : Shape) (cell i : ℕ) (packet : Packet) (rows : List ℕ)
    → plain_whole cell (map (update_in_row count_min shape i packet) rows) ≡ packet.amount * length (filter (λ row. cell_of shape packet.key row == cell) rows)
unfolding update_in_row
packet_rows shape cell i packet [] = omega arith
packet_rows shape cell i packet (row ∷ rows) = by (cell_of shape packet.key row == cell) refl (packet_rows shape cell i packet rows)
  where
    f : Update → ℕ
    f u = if u.cell == cell then unsigned_abs u.value else 0

    by : (b : Bool) → (cell_of shape packet.key row == cell) ≡ b
        → plain_whole cell (map (update_in_row count_min shape i packet) rows) ≡ packet.amount * length (filter (λ row. cell_of shape packet.key row == cell) rows)
        → plain_whole cell (map (update_in_row count_min shape i packet) (row ∷ rows)) ≡ packet.amount * length (if cell_of shape packet.key row == cell then row ∷ filter (λ row. cell_of shape packet.key row == cell) rows else filter (λ row. cell_of shape packet.key row == cell) rows)
    by true same rest =
        let a = sum_by-cons f (update_in_row count_min shape i packet row) (map (update_in_row count_min shape i packet) rows) in
        let here : f (update_in_row count_min shape i packet row) ≡ packet.amount = rw same refl in
        rw same (a ∙ (let k : ℕ = length (filter (λ row. cell_of shape packet.key row == cell) rows) in let times : packet.amount * (k + 1) ≡ packet.amount * k + packet.amount = omega arith in omega (arith, here, rest, times)))
    by false other rest =
        let a = sum_by-cons f (update_in_row count_min shape i packet row) (map (update_in_row count_min shape i packet) rows) in
        let here : f (update_in_row count_min shape i packet row) ≡ 0 = rw other refl in
        rw other (a ∙ omega (arith, here, rest))

packet_most : (shape : Shape) → IsShape shape → (packets : List Packet) (cell i : ℕ) → plain_whole cell (updates_at count_min shape packets i) ≤ (packet_at packets i).amount
unfolding updates_at added rows_at
packet_most shape lawful packets cell i =
    let rows = packet_rows shape cell i (packet_at packets i) (rows_of shape) in
    let most = added_most shape lawful cell (packet_at packets i) in
    omega (arith, rows, most)

pub share_most : (shape : Shape) → IsShape shape → (packets : List Packet) (cell : ℕ) (share : List ℕ) → plain_whole cell (updates_of count_min shape packets share) ≤ sum_by (λ i. (packet_at packets i).amount) share
unfolding updates_of
share_most shape lawful packets cell [] = omega arith
share_most shape lawful packets cell (i ∷ is) =
    let f : Update → ℕ = λ u. if u.cell == cell then unsigned_abs u.value else 0 in
    let a = sum_by-append f (updates_at count_min shape packets i) (flat_map (updates_at count_min shape packets) is) in
    let b = sum_by-cons (λ i. (packet_at packets i).amount) i is in
    let here = packet_most shape lawful packets cell i in
    let rest = share_most shape lawful packets cell is in
    omega (arith, a, b, here, rest)

rows_plain : (shape : Shape) (i : ℕ) (packet : Packet) (rows : List ℕ) → All (λ u. IsPlain u.value) (map (update_in_row count_min shape i packet) rows)
unfolding update_in_row
rows_plain shape i packet [] = All-nil (λ u. IsPlain u.value)
rows_plain shape i packet (row ∷ rows) = All-cons (λ u. IsPlain u.value) (update_in_row count_min shape i packet row) (map (update_in_row count_min shape i packet) rows) refl (rows_plain shape i packet rows)

pub updates_plain : (shape : Shape) (packets : List Packet) (share : List ℕ) → All (λ u. IsPlain u.value) (updates_of count_min shape packets share)
unfolding updates_of updates_at
updates_plain shape packets [] = All-nil (λ u. IsPlain u.value)
updates_plain shape packets (i ∷ is) =
    All-append (λ u. IsPlain u.value) (updates_at count_min shape packets i) (flat_map (updates_at count_min shape packets) is)
    (rows_plain shape i (packet_at packets i) (rows_of shape)) (updates_plain shape packets is)

-- the shares of all workers amount to the packets
pub shares_total : (sharing : Share) (workers : ℕ) (packets : List Packet) → 0 < workers
    → sum_by (λ w. sum_by (λ i. (packet_at packets i).amount) (share_of_worker sharing workers packets w)) (range_with_len 0 workers) ≡ total_amount packets
unfolding share_of_worker total_amount
shares_total sharing workers packets some =
    sum_parts (λ i. (packet_at packets i).amount) (worker_of sharing workers packets) workers (range_with_len 0 (length packets)) (λ k d lt. worker_within sharing workers packets _ some)
    ∙ sym (ap (sum_by (λ p. p.amount)) (sym (take_all (length packets) packets (omega arith)))
    ∙ sum_places (λ p. p.amount) packets (record { key = zero_key; amount = 0 }) (length packets) (omega arith))

share_below : (sharing : Share) (workers : ℕ) (packets : List Packet) (w : ℕ) → 0 < workers → w < workers
    → sum_by (λ i. (packet_at packets i).amount) (share_of_worker sharing workers packets w) ≤ total_amount packets
share_below sharing workers packets w some lt =
    let all = shares_total sharing workers packets some in
    let g : ℕ → ℕ = λ v. sum_by (λ i. (packet_at packets i).amount) (share_of_worker sharing workers packets v) in
    let one : (if w == w then g w + 0 else 0) ≡ g w = (let yes : (w == w) ≡ true = grind arith in rw yes (omega arith)) in
    let parts = sum_one w (g w) (λ v. 0) 0 workers (omega arith) (omega (arith, lt)) in
    let fewer = sum_range_le (λ v. if w == v then g w + 0 else 0) g 0 workers (λ v from to. at_most v (w == v) refl g) in
    omega (arith, all, parts, fewer)
  where
    at_most : (v : ℕ) (b : Bool) → (w == v) ≡ b → (g : ℕ → ℕ) → (if w == v then g w + 0 else 0) ≤ g v
    at_most v true same g = let e : w ≡ v = grind arith in rw same (omega (arith, ap g e))
    at_most v false other g = rw other (omega arith)

module _ (sharing : Share) (workers : ℕ) (shape : Shape) (packets : List Packet) (some : 0 < workers) (lawful : IsShape shape) (total : total_amount packets < 2 ^ 63) where
  worker_small : (w cell : ℕ) → w < workers → plain_whole cell (updates_of count_min shape packets (share_of_worker sharing workers packets w)) < 2 ^ 63
  worker_small w cell lt =
      let most = share_most shape lawful packets cell (share_of_worker sharing workers packets w) in
      let below = share_below sharing workers packets w some lt in
      omega (arith, most, below, total)

  -- what one worker tells
  worker_told : (w T : ℕ) (S : List Push) (F : List ℕ) → w < workers → ArePushes count_min T (updates_of count_min shape packets (share_of_worker sharing workers packets w)) S F
      → All (λ m. IsPlain m.amount) S × ((cell : ℕ) → plain_told cell S ≤ sum_by (λ i. (packet_at packets i).amount) (share_of_worker sharing workers packets w))
  worker_told w T S F lt h =
      let U : List Update = updates_of count_min shape packets (share_of_worker sharing workers packets w) in
      let told : IsTold U S (length U) = are_told T U S F h (updates_plain shape packets (share_of_worker sharing workers packets w)) (λ cell. worker_small w cell lt) (length U) (omega arith) in
      let all : messages_before (length U) S ≡ S = filter_kept (λ m. nat_lt m.update (length U)) S (λ k d within. let below = numbers_within count_min U S S h.amounts k d within in grind arith) in
      let whole : take (length U) U ≡ U = take_all (length U) U (omega arith) in (
        subst (λ (t : List Push). All (λ m. IsPlain m.amount) t) all told.plain,
        λ cell. (let most = share_most shape lawful packets cell (share_of_worker sharing workers packets w) in
            let below = told.within cell in omega (arith, below, ap (plain_told cell) all, ap (plain_whole cell) whole, most)),
      )

  -- what all workers tell
  pub all_told : (messages : List (List Push)) (H : List Push) → length messages ≡ workers → IsFoldOf messages H
      → ((w : ℕ) → w < workers → (T : ℕ) × (F : List ℕ) × ArePushes count_min T (updates_of count_min shape packets (share_of_worker sharing workers packets w)) (sent_by messages w) F)
      → (cell : ℕ) → plain_told cell H < 2 ^ 63
  all_told messages H same fold each cell =
      let f : Push → ℕ = λ m. if m.cell == cell then unsigned_abs m.amount else 0 in
      let parts = sum_parts f (λ m. m.worker) workers H (λ k d lt. let w = fold.of_workers k d lt in omega (arith, w, same)) in
      let less = sum_range_le (λ w. sum_by f (messages_of w H)) (λ w. sum_by (λ i. (packet_at packets i).amount) (share_of_worker sharing workers packets w)) 0 workers
      (λ w from to. let lt : w < workers = omega (arith, to) in let h = each w lt in
      let own = (worker_told w h.0 (sent_by messages w) h.1 lt h.2).1 cell in
      omega (arith, own, ap (sum_by f) (fold.in_order w (omega (arith, lt, same))))) in
      let all = shares_total sharing workers packets some in
      omega (arith, parts, less, all, total)

  pub all_plain : (messages : List (List Push)) (H : List Push) → length messages ≡ workers → IsFoldOf messages H
      → ((w : ℕ) → w < workers → (T : ℕ) × (F : List ℕ) × ArePushes count_min T (updates_of count_min shape packets (share_of_worker sharing workers packets w)) (sent_by messages w) F)
      → All (λ m. IsPlain m.amount) H
  all_plain messages H same fold each =
      from_workers (λ m. IsPlain m.amount) H (λ k d lt. let w = fold.of_workers k d lt in omega (arith, w, same))
      (λ w lt. let h = each w lt in subst (λ (t : List Push). All (λ m. IsPlain m.amount) t) (sym (fold.in_order w (omega (arith, lt, same)))) (worker_told w h.0 (sent_by messages w) h.1 lt h.2).0)
    where
      from_workers : (P : Push → Type 0) (H : List Push) → All (λ m. m.worker < workers) H → ((w : ℕ) → w < workers → All P (messages_of w H)) → All P H
      from_workers P [] within each = All-nil P
      from_workers P (x ∷ xs) within each =
          All-cons P x xs (own (x.worker == x.worker) (grind arith) (each x.worker (All-head (λ m. m.worker < workers) x xs within)))
          (from_workers P xs (All-tail (λ m. m.worker < workers) x xs within) (λ w lt. rest w (x.worker == w) (each w lt)))
        where
          own : (b : Bool) → b ≡ true → All P (if b then x ∷ filter (λ m. m.worker == x.worker) xs else filter (λ m. m.worker == x.worker) xs) → P x
          own true is all = All-head P x (filter (λ m. m.worker == x.worker) xs) all
          own false is all = absurd (cc)

          rest : (w : ℕ) (b : Bool) → All P (if b then x ∷ filter (λ m. m.worker == w) xs else filter (λ m. m.worker == w) xs) → All P (messages_of w xs)
          rest w true all = All-tail P x (filter (λ m. m.worker == w) xs) all
          rest w false all = all
