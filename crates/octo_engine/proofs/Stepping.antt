-- Counting updates one after another.
use Rattle.std.proofs.Common.{◌≡◌, ◌<◌, ◌≤◌, ℕ, ℤ, suc, ◌+◌, ◌-◌, ◌*◌, min, ◌==◌, List, [], ◌++◌, length, Bool, true, false, if◌then◌else◌, nat_lt, max, refl, sym, ap, ◌∙◌, subst, arith, append_assoc, true≢false, length-append, length-take}
use Rattle.std.proofs.lemmas.List.{append-nil}
use Rattle.hash_rows.specs.declared.options.Full.{Full}
use Rattle.hash_rows.specs.declared.options.Options.{Options}
use Rattle.hash_rows.specs.declared.options.Full.TheVariants.{Leave, Wait}
use Rattle.hash_rows.specs.declared.shape.Push.{Push}
use Rattle.push_history.specs.declared.event.Reply.{Reply}
use Rattle.push_history.specs.declared.event.Reply.TheVariants.{Counted, Over}
use Rattle.push_history.specs.LagRun.{Terms, Worker, updates_by, count_step, pushes, meets_full, message_of}
use Rattle.push_history.specs.OwnSteps.{counts, counted_in_round, uncounted_of}
use Rattle.push_history.specs.Pushes.{distance_at}
use Rattle.push_history.specs.Updates.{update_at, update_in_row}
use Rattle.hash_rows.specs.declared.shape.Shape.{Shape}
use Rattle.hash_rows.specs.declared.shape.Packet.{Packet}
use Rattle.hash_rows.specs.Rules.{Rules}
use Rattle.hash_rows.specs.Shapes.{cell_of}
use Rattle.push_history.specs.Rounds.{is_waits}
use Rattle.push_rule.specs.Counters.{CounterView, KeepsSettings, Extends}
use Rattle.push_rule.specs.Keeps.{Keeps}
use Rattle.octo_engine.specs.Counts.{HasMoved, HasCounted, AreNext, IsFit}

step_counted_by : (over quiet free : Bool) (y : Worker) (m : Push) (full : Full) → over ≡ false → is_waits (if over then (y, Over) else if quiet then (record { counted = y.counted + 1; sent = y.sent; refused = y.refused; taken = y.taken }, Counted) else if free then pushes m y else meets_full full y).1 ≡ false
    → (if over then (y, Over) else if quiet then (record { counted = y.counted + 1; sent = y.sent; refused = y.refused; taken = y.taken }, Counted) else if free then pushes m y else meets_full full y).0.counted ≡ y.counted + 1
step_counted_by true quiet free y m full more not = absurd (true≢false more)
step_counted_by false true free y m full more not = refl
step_counted_by false false true y m full more not = refl
step_counted_by false false false y m Leave more not = refl
step_counted_by false false false y m Wait more not = absurd (true≢false not)

-- an update that doesn't wait is counted
pub step_counts : (t : Terms) (w : ℕ) (y : Worker) → y.counted < length (updates_by t w) → is_waits (count_step t w y).1 ≡ false → (count_step t w y).0.counted ≡ y.counted + 1
unfolding count_step
step_counts t w y lt not =
    let updates = updates_by t w in
    let more : (y.counted == length updates) ≡ false = grind arith in
    step_counted_by (y.counted == length updates) (nat_lt (distance_at t.rules updates y.sent y.counted) t.threshold) (nat_lt (length y.sent - y.taken) t.capacity) y
    (message_of t.rules w updates y.sent y.counted) t.full more not

module _ {H : Type 0} (stands : H → ℤ → ℤ → Type 0) (t : Terms) (w : ℕ) where
  pub counted_none : (x : Worker) (d : CounterView H) → Keeps stands t w d x → HasCounted stands t w x 0 false d
  counted_none x d keeps = record { now = x; keeps = keeps; counted = λ _. omega arith; rest = λ more. ap (λ k. counts t w k x) (omega arith) }

  -- one update more
  pub counted_more : (x : Worker) (n : ℕ) (d d' : CounterView H) (reply : Reply) (h : HasCounted stands t w x n false d) → h.now.counted < length (updates_by t w)
      → Keeps stands t w d' (count_step t w h.now).0 → reply ≡ (count_step t w h.now).1 → HasCounted stands t w x (n + 1) (is_waits reply) d'
  counted_more x n d d' reply h lt keeps is =
      let step = count_step t w h.now in
      let number : is_waits reply ≡ false → step.0.counted ≡ x.counted + (n + 1) = λ not.
      let one = step_counts t w h.now lt (ap is_waits (sym is) ∙ not) in
      let before = h.counted refl in
      omega (arith, one, before) in
      let rest : (more : ℕ) → counts t w (n + 1 + more) x ≡ (if is_waits reply then step.0 else counts t w more step.0) = λ more.
      let same : n + 1 + more ≡ n + suc more = omega arith in
      ap (λ k. counts t w k x) same ∙ h.rest (suc more) ∙ ap (λ (r : Reply). if is_waits r then step.0 else counts t w more step.0) (sym is) in
      record { now = step.0; keeps = keeps; counted = number; rest = rest }

  -- the worker after n updates, and then after m more
  pub counted_then : (x : Worker) (n m : ℕ) (b : Bool) (d d' : CounterView H) (h : HasCounted stands t w x n false d) → HasCounted stands t w h.now m b d' → HasCounted stands t w x (n + m) b d'
  counted_then x n m b d d' h k =
      let number : b ≡ false → k.now.counted ≡ x.counted + (n + m) = λ not.
      let one = h.counted refl in
      let two = k.counted not in
      omega (arith, one, two) in
      let rest : (more : ℕ) → counts t w (n + m + more) x ≡ (if b then k.now else counts t w more k.now) = λ more.
      let same : n + m + more ≡ n + (m + more) = omega arith in
      ap (λ z. counts t w z x) same ∙ h.rest (m + more) ∙ k.rest more in
      record { now = k.now; keeps = k.keeps; counted = number; rest = rest }

module _ {H : Type 0} where
  pub same_desk : (a b c : CounterView H) → KeepsSettings a b → KeepsSettings b c → KeepsSettings a c
  same_desk a b c x y = record {
    worker = y.worker ∙ x.worker;
    lane = y.lane ∙ x.lane;
    full = y.full ∙ x.full;
    room = y.room ∙ x.room;
    taken = y.taken ∙ x.taken;
    threshold = y.threshold ∙ x.threshold;
    updates = y.updates ∙ x.updates;
    cells = y.cells ∙ x.cells;
  }

  pub itself : (a : CounterView H) → KeepsSettings a a
  itself a = record { worker = refl; lane = refl; full = refl; room = refl; taken = refl; threshold = refl; updates = refl; cells = refl }

pub extends_none : {A : Type 0} (xs : List A) → Extends xs xs
extends_none xs = record { more = []; parts = sym (append-nil xs) }

pub extends_then : {A : Type 0} (xs ys zs : List A) → Extends xs ys → Extends ys zs → Extends xs zs
extends_then xs ys zs a b = record { more = a.more ++ b.more; parts = b.parts ∙ ap (λ l. l ++ b.more) a.parts ∙ append_assoc xs a.more b.more }

counted_up : (waits : Bool) (old new : ℕ) → new ≡ (if waits then old else old + 1) → (old ≤ new) × (new ≤ old + 1) × (waits ≡ false → new ≡ old + 1)
counted_up true old new is = (omega (arith, is), omega (arith, is), λ not. absurd (true≢false not))
counted_up false old new is = (omega (arith, is), omega (arith, is), λ _. is)

module _ {H : Type 0} where
  pub moved_none : (d : CounterView H) → HasMoved d d 0 false
  moved_none d = record { same = itself d; grows = extends_none d.queue; queue = λ h. h; behind = omega arith; most = omega arith; all = λ _. omega arith }

  pub moved_then : (a b c : CounterView H) (n m : ℕ) (waits : Bool) → HasMoved a b n false → HasMoved b c m waits → HasMoved a c (n + m) waits
  moved_then a b c n m waits x y =
      let before = x.all refl in
      let total : waits ≡ false → c.sketch.counted ≡ a.sketch.counted + (n + m) = λ not. let after = y.all not in omega (arith, before, after) in
      record {
        same = same_desk a b c x.same y.same;
        grows = extends_then a.queue b.queue c.queue x.grows y.grows;
        queue = λ h. y.queue (x.queue h);
        behind = let p = x.behind in let q = y.behind in omega (arith, p, q);
        most = let q = y.most in omega (arith, before, q);
        all = total;
      }

  -- what one update makes of the worker
  pub moved_one : (b c : CounterView H) (waits : Bool) → KeepsSettings b c → length c.queue ≤ max (length b.queue) (b.taken + b.lane) → Extends b.queue c.queue
      → c.sketch.counted ≡ (if waits then b.sketch.counted else b.sketch.counted + 1) → HasMoved b c 1 waits
  moved_one b c waits same lane grows counted =
      let up = counted_up waits b.sketch.counted c.sketch.counted counted in
      let taken = same.taken in
      let room = same.lane in
      record { same = same; grows = grows; queue = λ h. omega (arith, h, lane, taken, room); behind = up.0; most = up.1; all = up.2 }

  pub moved_row : (a b c : CounterView H) (row first : ℕ) (waits : Bool) → first ≤ row → HasMoved a b (row - first) false → HasMoved b c 1 waits → HasMoved a c (row + 1 - first) waits
  moved_row a b c row first waits le x y =
      let same : row - first + 1 ≡ row + 1 - first = omega (arith, le) in
      subst (λ n. HasMoved a c n waits) same (moved_then a b c (row - first) 1 waits x y)

  -- once a push waits, the worker counts no more
  pub moved_ends : (a b : CounterView H) (n m : ℕ) → n ≤ m → HasMoved a b n true → HasMoved a b m true
  moved_ends a b n m le x = record {
    same = x.same;
    grows = x.grows;
    queue = x.queue;
    behind = x.behind;
    most = let most = x.most in omega (arith, le, most);
    all = λ not. absurd (true≢false not);
  }

module _ {H : Type 0} (stands : H → ℤ → ℤ → Type 0) (t : Terms) (w : ℕ) where
  -- once a push waits, no more updates are counted
  pub counted_ends : (x : Worker) (n m : ℕ) (d : CounterView H) → n ≤ m → HasCounted stands t w x n true d → HasCounted stands t w x m true d
  counted_ends x n m d le h =
      let rest : (more : ℕ) → counts t w (m + more) x ≡ h.now = λ more.
      let same : m + more ≡ n + (m - n + more) = omega (arith, le) in
      ap (λ k. counts t w k x) same ∙ h.rest (m - n + more) in
      record { now = h.now; keeps = h.keeps; counted = λ no. absurd (true≢false no); rest = rest }

  -- what all of n updates come to
  pub counted_all : (x : Worker) (n : ℕ) (b : Bool) (d : CounterView H) (h : HasCounted stands t w x n b d) → counts t w n x ≡ h.now
  counted_all x n true d h = ap (λ k. counts t w k x) (omega arith) ∙ h.rest 0
  counted_all x n false d h = ap (λ k. counts t w k x) (omega arith) ∙ h.rest 0

-- the update that a packet adds in a row
pub made : (r : Rules) (shape : Shape) (position : ℕ) (packet : Packet) (row cell : ℕ) (value : ℤ) → cell ≡ cell_of shape packet.key row → value ≡ r.value shape packet row
    → update_in_row r shape position packet row ≡ record { packet = position; key = packet.key; cell = cell; value = value }
unfolding update_in_row
made r shape position packet row cell value place is =
    ap (λ (c : ℕ). record { packet = position; key = packet.key; cell = c; value = r.value shape packet row }) (sym place)
    ∙ ap (λ (v : ℤ). record { packet = position; key = packet.key; cell = cell; value = v }) (sym is)

-- the worker's next update is that of the packet in the row
pub next_is : (t : Terms) (w : ℕ) (x : Worker) (shape : Shape) (packet : Packet) (position first last : ℕ) → AreNext t w x shape packet position first last
    → (row : ℕ) → first ≤ row → row < last → (y : Worker) → y.counted ≡ x.counted + (row - first) → (cell : ℕ) (value : ℤ) → cell ≡ cell_of shape packet.key row → value ≡ t.rules.value shape packet row
    → (y.counted < length (updates_by t w)) × (update_at (updates_by t w) y.counted ≡ record { packet = position; key = packet.key; cell = cell; value = value })
next_is t w x shape packet position first last next row le lt y at cell value place is =
    let inside = next.within in
    let here : first + (row - first) ≡ row = omega (arith, le) in (
      omega (arith, inside, at, le, lt),
      ap (λ k. update_at (updates_by t w) k) at ∙ next.rows (row - first) (omega (arith, le, lt)) ∙ ap (λ k. update_in_row t.rules shape position packet k) here
          ∙ made t.rules shape position packet row cell value place is,
    )

module _ {H : Type 0} (stands : H → ℤ → ℤ → Type 0) (t : Terms) (w : ℕ) where
  -- the counter's number is that of the worker
  pub counted_by : (d : CounterView H) (x : Worker) (n : ℕ) → Keeps stands t w d x → n ≡ d.sketch.counted → n ≡ x.counted
  counted_by d x n keeps is =
      let within = keeps.within in
      let all = keeps.sketch.all_counted in
      let len = length-take x.counted (updates_by t w) in
      omega (arith, is, all, len, within)

  -- after all of the updates, or at one that waits
  pub keeps_counted : (x : Worker) (n : ℕ) (b : Bool) (d : CounterView H) → HasCounted stands t w x n b d → Keeps stands t w d (counts t w n x)
  keeps_counted x n b d h = subst (λ (z : Worker). Keeps stands t w d z) (sym (counted_all stands t w x n b d h)) h.keeps

module _ {H : Type 0} where
  -- counting keeps a counter fit
  pub fit_moved : (o : Options) (packets : ℕ) (share : List ℕ) (a b : CounterView H) (n : ℕ) (waits : Bool) → IsFit o packets share a → HasMoved a b n waits → a.sketch.counted + n ≤ a.sketch.room → IsFit o packets share b
  fit_moved o packets share a b n waits fit moved most =
      let same = moved.same in
      let updates = same.updates in
      let up = moved.most in
      let len = length-append a.queue moved.grows.more in
      let grown = ap length moved.grows.parts in
      let was = fit.taken in
      let taken = same.taken in
      record {
        within = fit.within;
        few = fit.few;
        updates = updates ∙ fit.updates;
        counted = omega (arith, updates, up, most);
        cells = same.cells ∙ fit.cells;
        lane = same.lane ∙ fit.lane;
        queue = moved.queue fit.queue;
        taken = omega (arith, len, grown, was, taken);
      }

module _ {H : Type 0} (stands : H → ℤ → ℤ → Type 0) (t : Terms) (w : ℕ) where
  -- what a worker counts in a round
  pub round_is : (o : Options) (d d' : CounterView H) (x : Worker) (n : ℕ) → Keeps stands t w d x → length (updates_by t w) ≡ d.sketch.room → n ≡ min (o.shape.rows * o.round) (d.sketch.room - d.sketch.counted)
      → Keeps stands t w d' (counts t w n x) → Keeps stands t w d' (counted_in_round t o w x)
  unfolding counted_in_round
  round_is o d d' x n keeps len is kept =
      let number = counted_by stands t w d x d.sketch.counted keeps refl in
      let left : d.sketch.room - d.sketch.counted ≡ uncounted_of t w x = omega (arith, len, number) in
      subst (λ k. Keeps stands t w d' (counts t w k x)) (is ∙ ap (λ k. min (o.shape.rows * o.round) k) left) kept
