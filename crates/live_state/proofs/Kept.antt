-- The state after some messages, one message more at a time.
use Rattle.std.proofs.Common.{◌≡◌, ℕ, ◌+◌, ◌<◌, ◌≤◌, ◌&&◌, ◌==◌, Bool, true, false, cond, List, [], ◌∷◌, ◌++◌, length, get_or, set, fold, refl, sym, ap, ◌∙◌, arith, subst, append_assoc, length-append}
use Rattle.std.specs.Prelude.{nat_lt, if◌then◌else◌}
use Rattle.std.proofs.lemmas.List.{append-nil}
use Rattle.std.proofs.lemmas.List.Elements.{All-head, All-tail}
use Rattle.std.proofs.lemmas.List.Sums.{fold-append}
use Rattle.std.proofs.lemmas.Bool.Decides.{nat_tests}
use Rattle.hash_rows.specs.declared.shape.Flow.{Flow}
use Rattle.hash_rows.specs.declared.shape.Push.{Push}
use Rattle.hash_rows.specs.Rules.{Rules}
use Rattle.hash_rows.specs.Shapes.{size_of}
use Rattle.hash_rows.specs.Tables.{TableView, put_in}
use Rattle.heavy_keys.specs.Noted.{HeavyTable, noted, fresh_table}
use Rattle.push_history.specs.Front.{front_of, uptos_of}
use Rattle.push_history.specs.LiveHeavy.{notes_of}
use Rattle.push_history.specs.Shown.{told_cells}
use Rattle.live_state.specs.declared.layout.Layout.{Layout}
use Rattle.live_state.specs.Fold.{StateView, most, fits, added, absorbed, fresh_state, Fit, layout_of, key_noted, front_raised}
use Rattle.live_state.proofs.Layouts.{added_layout, fresh_layout}
use Rattle.live_state.proofs.Lists.{filter_length}
use Rattle.push_history.proofs.MoreMessages.{cells_none, cells_more, front_at, front_none, front_more, upto_none, upto_more}
use Rattle.push_history.proofs.Notes.{notes_push}

-- the heavy keys after some keys were noted with their estimates
abbrev pub all_noted : HeavyTable → List Flow → HeavyTable
all_noted heavy notes = fold (λ h note. noted h note.key note.estimate) heavy notes

-- those after the keys of the messages, where estimates depend on the key
abbrev pub heavy_after : Rules → Layout → List Push → HeavyTable
heavy_after r l messages = all_noted (fresh_table l.heavy l.least) (if r.keyed then notes_of r l.shape messages else [])

-- what is kept of some messages
pub record Kept (r : Rules) (l : Layout) (messages : List Push) (s : StateView) : Type 0 where
  pub layout : layout_of s ≡ l
  pub cells : s.table.cells ≡ told_cells r l.shape messages
  pub front : s.front ≡ front_of l.workers messages
  pub upto : s.upto ≡ uptos_of l.workers messages
  pub folded : s.folded ≡ length messages
  pub heavy : s.heavy ≡ heavy_after r l messages

both : (a b : Bool) → (a && b) ≡ true → (a ≡ true) × (b ≡ true)
both true true h = (refl, refl)
both true false h = (refl, h)
both false b h = absurd (cc h)

below : (a b : ℕ) → nat_lt a b ≡ true → a < b
below a b h = grind (arith, nat_tests)

-- a count of 64 bits has room for one message more
front_raised_is : (workers : ℕ) (messages : List Push) (m : Push) (front : List ℕ) → front ≡ front_of workers messages → m.worker < workers → length messages < most
    → front_raised front m.worker ≡ front_of workers (messages ++ m ∷ [])
front_raised_is workers messages m front is inside short =
    let at = ap (λ l. get_or l m.worker 0) is ∙ front_at workers messages m.worker inside in
    let few = filter_length (λ (x : Push). x.worker == m.worker) messages in
    ap (set front m.worker) (omega (arith, at, few, short)) ∙ front_more workers messages m front is inside

-- the heavy keys

heavy_none : (r : Rules) (l : Layout) → fresh_table l.heavy l.least ≡ heavy_after r l []
unfolding notes_of
heavy_none r l = by r.keyed
  where
    by : (b : Bool) → fresh_table l.heavy l.least ≡ all_noted (fresh_table l.heavy l.least) (cond b (notes_of r l.shape []) [])
    by true = refl
    by false = refl

heavy_more : (r : Rules) (l : Layout) (messages : List Push) (m : Push) (heavy : HeavyTable) (table : TableView) → heavy ≡ heavy_after r l messages
    → table.shape ≡ l.shape → table.cells ≡ told_cells r l.shape (messages ++ m ∷ []) → (b : Bool) → r.keyed ≡ b → key_noted r table heavy m.key ≡ heavy_after r l (messages ++ m ∷ [])
heavy_more r l messages m heavy table is shape cells true keyed =
    let fresh = fresh_table l.heavy l.least in
    let note : Flow = record { key = m.key; estimate = r.estimate l.shape (told_cells r l.shape (messages ++ m ∷ [])) m.key } in
    let estimate : r.estimate table.shape table.cells m.key ≡ note.estimate = λ i. r.estimate (shape i) (cells i) m.key in
    let before : heavy ≡ all_noted fresh (notes_of r l.shape messages) = is ∙ ap (λ b. all_noted fresh (cond b (notes_of r l.shape messages) [])) keyed in
    let one : key_noted r table heavy m.key ≡ noted heavy m.key (r.estimate table.shape table.cells m.key) = ap (λ b. cond b (noted heavy m.key (r.estimate table.shape table.cells m.key)) heavy) keyed in
    let all : heavy_after r l (messages ++ m ∷ []) ≡ noted (all_noted fresh (notes_of r l.shape messages)) note.key note.estimate =
    ap (λ b. all_noted fresh (cond b (notes_of r l.shape (messages ++ m ∷ [])) [])) keyed
    ∙ (ap (all_noted fresh) (notes_push r l.shape messages m) ∙ fold-append (λ (h : HeavyTable) (n : Flow). noted h n.key n.estimate) fresh (notes_of r l.shape messages) (note ∷ [])) in
    one ∙ ((λ i. noted (before i) m.key (estimate i)) ∙ sym all)
heavy_more r l messages m heavy table is shape cells false keyed =
    let fresh = fresh_table l.heavy l.least in
    let before : heavy ≡ fresh = is ∙ ap (λ b. all_noted fresh (cond b (notes_of r l.shape messages) [])) keyed in
    let one : key_noted r table heavy m.key ≡ heavy = ap (λ b. cond b (noted heavy m.key (r.estimate table.shape table.cells m.key)) heavy) keyed in
    one ∙ (before ∙ sym (ap (λ b. all_noted fresh (cond b (notes_of r l.shape (messages ++ m ∷ [])) [])) keyed))

module _ (r : Rules) (l : Layout) where
  pub kept_none : Kept r l [] (fresh_state l)
  kept_none = record {
    layout = fresh_layout l;
    cells = cells_none r l.shape;
    front = front_none l.workers;
    upto = upto_none l.workers;
    folded = refl;
    heavy = heavy_none r l;
  }

  kept_added : (messages : List Push) (m : Push) (s : StateView) → Kept r l messages s → fits r l m ≡ true → length messages < most → Kept r l (messages ++ m ∷ []) (added r s m)
  kept_added messages m s h fit short =
      let in_worker = both (nat_lt m.worker l.workers) _ fit in
      let in_cell = both (nat_lt m.cell (size_of l.shape)) _ in_worker.1 in
      let worker : m.worker < l.workers = below m.worker l.workers in_worker.0 in
      let cell : m.cell < size_of l.shape = below m.cell (size_of l.shape) in_cell.0 in
      let shape : s.table.shape ≡ l.shape = ap (λ (x : Layout). x.shape) h.layout in
      let cells = cells_more r l.shape messages m s.table.cells h.cells cell in
      record {
        layout = added_layout r s m ∙ h.layout;
        cells = cells;
        front = front_raised_is l.workers messages m s.front h.front worker short;
        upto = upto_more l.workers messages m s.upto h.upto worker;
        folded = omega (arith, h.folded, short, length-append messages (m ∷ []));
        heavy = heavy_more r l messages m s.heavy (put_in r.join s.table m.cell m.amount) h.heavy shape cells r.keyed refl;
      }

  absorbed_fit : (m : Push) (s : StateView) → layout_of s ≡ l → fits r l m ≡ true → absorbed r s m ≡ added r s m
  absorbed_fit m s is fit = ap (λ b. cond b (added r s m) s) (ap (λ x. fits r x m) is ∙ fit)

  pub kept_more : (messages : List Push) (m : Push) (s : StateView) → Kept r l messages s → fits r l m ≡ true → length messages < most → Kept r l (messages ++ m ∷ []) (absorbed r s m)
  kept_more messages m s h fit short = subst (Kept r l (messages ++ m ∷ [])) (sym (absorbed_fit m s h.layout fit)) (kept_added messages m s h fit short)

  pub kept_all : (messages rest : List Push) (s : StateView) → Kept r l messages s → Fit r l rest → length messages + length rest ≤ most → Kept r l (messages ++ rest) (fold (absorbed r) s rest)
  kept_all messages [] s h fit short = subst (λ xs. Kept r l xs s) (sym (append-nil messages)) h
  kept_all messages (m ∷ rest) s h fit short =
      let one = kept_more messages m s h (All-head (λ (x : Push). fits r l x ≡ true) m rest fit) (omega arith) in
      subst (λ xs. Kept r l xs (fold (absorbed r) (absorbed r s m) rest)) (append_assoc messages (m ∷ []) rest)
      (kept_all (messages ++ m ∷ []) rest (absorbed r s m) one (All-tail (λ (x : Push). fits r l x ≡ true) m rest fit) (omega (arith, length-append messages (m ∷ []))))
