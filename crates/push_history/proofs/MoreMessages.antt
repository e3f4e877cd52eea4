-- One message more, in what folded messages tell: their cells, their front and their last updates.
use Rattle.std.proofs.Common.{◌≡◌, ℕ, ℤ, pos, zero, suc, ◌+◌, ◌-◌, ◌<◌, ◌≤◌, ◌==◌, Bool, true, false, cond, if◌then◌else◌, List, [], ◌∷◌, ◌++◌, length, get_or, set, take, replicate, refl, sym, ap, ◌∙◌, arith, length-append}
use Rattle.hash_rows.specs.declared.shape.Push.{Push}
use Rattle.hash_rows.specs.declared.shape.Shape.{Shape}
use Rattle.hash_rows.specs.Rules.{Rules}
use Rattle.hash_rows.specs.Shapes.{size_of}
use Rattle.push_history.specs.Share.{zero_key}
use Rattle.push_history.specs.Told.{told_of}
use Rattle.push_history.specs.Shown.{told_cells}
use Rattle.push_history.specs.Front.{message_at, messages_of, front_of, upto_of, uptos_of}
use Rattle.std.proofs.lemmas.Bool.{eq-eqb}
use Rattle.std.proofs.lemmas.List.{get_or_push, get_or-take, length-replicate, get_or-replicate}
use Rattle.std.proofs.lemmas.List.FromFn.{fill_by_all, get_or-map-range_with_len, length-map-range_with_len}
use Rattle.std.proofs.lemmas.Bool.Decides.{nat_tests}
use Rattle.push_history.proofs.Joins.{told_push}
use Rattle.push_history.proofs.Lists.{filter_push_no, filter_push_yes, set_made}

-- what is told, by whether the message is of the cell
pub told_by : (r : Rules) (cell : ℕ) (messages : List Push) (m : Push) (b : Bool) → (m.cell == cell) ≡ b
    → told_of r cell (messages ++ m ∷ []) ≡ cond b (r.join (told_of r cell messages) m.amount) (told_of r cell messages)
told_by r cell messages m b is = told_push r cell messages m ∙ ap (λ c. cond c (r.join (told_of r cell messages) m.amount) (told_of r cell messages)) is

-- the cells

pub cells_none : (r : Rules) (shape : Shape) → replicate (size_of shape) (pos 0) ≡ told_cells r shape []
unfolding told_of told_cells
cells_none r shape =
    fill_by_all (λ cell. told_of r cell []) (replicate (size_of shape) (pos 0)) (size_of shape) (pos 0) (length-replicate (size_of shape) (pos 0))
    (λ k lt. get_or-replicate (size_of shape) k (pos 0) (pos 0) lt)

pub cells_more : (r : Rules) (shape : Shape) (messages : List Push) (m : Push) (cells : List ℤ) → cells ≡ told_cells r shape messages → m.cell < size_of shape
    → set cells m.cell (r.join (get_or cells m.cell (pos 0)) m.amount) ≡ told_cells r shape (messages ++ m ∷ [])
unfolding told_cells
cells_more r shape messages m cells is inside =
    let at : get_or cells m.cell (pos 0) ≡ told_of r m.cell messages =
    ap (λ l. get_or l m.cell (pos 0)) is ∙ get_or-map-range_with_len (λ cell. told_of r cell messages) 0 (size_of shape) m.cell m.cell (pos 0) inside (omega arith) in
    set_made (λ cell. told_of r cell messages) (λ cell. told_of r cell (messages ++ m ∷ [])) cells (size_of shape) m.cell _ (pos 0) is inside
    (told_by r m.cell messages m true (eq-eqb m.cell m.cell refl) ∙ ap (λ v. r.join v m.amount) (sym at))
    (λ k apart. told_by r k messages m false apart)

-- the front

-- what `front_of` says of a worker
abbrev count_by_worker : List Push → ℕ → ℕ
count_by_worker messages w = length (messages_of w messages)

pub front_none : (workers : ℕ) → replicate workers 0 ≡ front_of workers []
unfolding front_of
front_none workers =
    fill_by_all (count_by_worker []) (replicate workers 0) workers 0 (length-replicate {A = ℕ} workers 0) (λ k lt. get_or-replicate {A = ℕ} workers k 0 0 lt)

-- so many messages of a worker were folded
pub front_at : (workers : ℕ) (messages : List Push) (w : ℕ) → w < workers → get_or (front_of workers messages) w 0 ≡ length (messages_of w messages)
unfolding front_of
front_at workers messages w below = get_or-map-range_with_len (count_by_worker messages) 0 workers w w 0 below (omega arith)

pub front_more : (workers : ℕ) (messages : List Push) (m : Push) (front : List ℕ) → front ≡ front_of workers messages → m.worker < workers
    → set front m.worker (get_or front m.worker 0 + 1) ≡ front_of workers (messages ++ m ∷ [])
unfolding front_of
front_more workers messages m front is inside =
    let at : get_or front m.worker 0 ≡ length (messages_of m.worker messages) = ap (λ l. get_or l m.worker 0) is ∙ front_at workers messages m.worker inside in
    let more : length (messages_of m.worker (messages ++ m ∷ [])) ≡ length (messages_of m.worker messages) + 1 =
    ap length (filter_push_yes (λ (x : Push). x.worker == m.worker) messages m (eq-eqb m.worker m.worker refl)) ∙ length-append (messages_of m.worker messages) (m ∷ []) in
    set_made (count_by_worker messages) (count_by_worker (messages ++ m ∷ [])) front workers m.worker _ 0 is inside
    (omega (arith, more, at))
    (λ k apart. ap length (filter_push_no (λ (x : Push). x.worker == k) messages m apart))

-- the last updates

last_update : (messages : List Push) (m : Push) → upto_of (messages ++ m ∷ []) (length (messages ++ m ∷ [])) ≡ m.update + 1
unfolding upto_of
last_update messages m =
    let all = messages ++ m ∷ [] in
    let long : length all ≡ suc (length messages) = omega (arith, length-append messages (m ∷ [])) in
    let some : (length all == 0) ≡ false = grind (arith, nat_tests) in
    let before : length all - 1 ≡ length messages = omega (arith, long) in
    ap (λ b. cond b 0 ((message_at all (length all - 1)).update + 1)) some
    ∙ (ap (λ n. (message_at all n).update + 1) before ∙ ap (λ (x : Push). x.update + 1) (get_or_push messages m _ (length messages) refl))

-- what `uptos_of` says of a worker
abbrev last_of : List Push → ℕ → ℕ
last_of messages w = upto_of (messages_of w messages) (length (messages_of w messages))

pub upto_none : (workers : ℕ) → replicate workers 0 ≡ uptos_of workers []
unfolding uptos_of upto_of
upto_none workers =
    fill_by_all (λ w. last_of [] w) (replicate workers 0) workers 0 (length-replicate {A = ℕ} workers 0) (λ k lt. get_or-replicate {A = ℕ} workers k 0 0 lt)

pub upto_more : (workers : ℕ) (messages : List Push) (m : Push) (upto : List ℕ) → upto ≡ uptos_of workers messages → m.worker < workers
    → set upto m.worker (m.update + 1) ≡ uptos_of workers (messages ++ m ∷ [])
unfolding uptos_of
upto_more workers messages m upto is inside =
    set_made (last_of messages) (last_of (messages ++ m ∷ [])) upto workers m.worker _ 0 is inside
    (ap (λ (l : List Push). upto_of l (length l)) (filter_push_yes (λ (x : Push). x.worker == m.worker) messages m (eq-eqb m.worker m.worker refl)) ∙ last_update (messages_of m.worker messages) m)
    (λ k apart. ap (λ (l : List Push). upto_of l (length l)) (filter_push_no (λ (x : Push). x.worker == k) messages m apart))

-- a front has a number for each worker
pub front_len : (workers : ℕ) (messages : List Push) → length (front_of workers messages) ≡ workers
unfolding front_of
front_len workers messages = length-map-range_with_len (λ w. length (messages_of w messages)) 0 workers

-- the number after the first messages is that of the messages themselves
upto_take : (messages : List Push) (j n : ℕ) → j ≤ n → upto_of (take n messages) j ≡ upto_of messages j
unfolding upto_of
upto_take messages zero n le = refl
upto_take messages (suc i) n le =
    ap (λ (m : Push). if suc i == 0 then 0 else m.update + 1)
    (get_or-take n messages (suc i - 1) (record { worker = 0; packet = 0; update = 0; key = zero_key; cell = 0; amount = pos 0 }) (omega (arith, le)))

pub upto_firsts : (xs all : List Push) → xs ≡ take (length xs) all → upto_of all (length xs) ≡ upto_of xs (length xs)
upto_firsts xs all first = sym (upto_take all (length xs) (length xs) (omega arith)) ∙ ap (λ (l : List Push). upto_of l (length xs)) (sym first)
