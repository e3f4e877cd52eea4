-- What lawful messages hold.
use Rattle.std.proofs.Common.{◌≡◌, ◌<◌, ℕ, ◌^◌, Bool, true, false, List, [], length, get_or, refl, ap, subst, arith, inl, inr}
use Rattle.std.specs.Prelude.{All, nat_lt, ◌&&◌}
use Rattle.std.proofs.lemmas.Bool.{cases_lt}
use Rattle.std.proofs.lemmas.List.{get_or_past}
use Rattle.hash_rows.specs.Lawful.{IsLawful}
use Rattle.hash_rows.specs.Rules.{Rules, AreLaws}
use Rattle.hash_rows.specs.Shapes.{size_of}
use Rattle.hash_rows.specs.declared.options.Full.{Full}
use Rattle.hash_rows.specs.declared.options.Options.{Options}
use Rattle.hash_rows.specs.declared.shape.Packet.{Packet}
use Rattle.hash_rows.specs.declared.shape.Push.{Push}
use Rattle.hash_rows.specs.declared.shape.Update.{Update}
use Rattle.push_history.specs.Front.{messages_of}
use Rattle.push_history.specs.Journal.{rules_in, updates_by_options}
use Rattle.push_history.specs.LawfulJournal.{sent_by}
use Rattle.push_history.specs.Pushes.{LawfulPushes}
use Rattle.push_history.specs.Updates.{HoldValues, update_at}
use Rattle.push_history.proofs.Telling.{amounts_are_values}
use Rattle.fold_law.specs.Folds.{IsFoldOf}
use Rattle.live_state.specs.Fold.{Fit, fits}
use Rattle.live_state.specs.declared.layout.Layout.{Layout}
use Rattle.push_history.proofs.Fitting.{Fits, FitsFor, own_updates_fit, rules_lawful, small_values, updates_there}
use Rattle.thread_law.specs.Ran.{AreLawful, marked_by}

-- each lawful message of a worker names it, and is for a cell of the table and a value of the kind
sent_fits : (r : Rules) → AreLaws r → (size w T L : ℕ) (full : Full) (U : List Update) (S : List Push) (F : List ℕ) → All (Fits r size) U → LawfulPushes r w T L full U S F
    → All (FitsFor r size w) S
sent_fits r laws size w T L full U S F own h = λ k d lt.
    let values : HoldValues r U = λ k d lt. (own k d lt).1 in
    let m : Push = get_or S k d in
    let tells = h.pushes.amounts k d lt in
    let cell : (update_at U m.update).cell < size = (own m.update _ tells.within).0 in
    ((h.named k d lt).its_worker, omega (arith, cell, tells.cell), amounts_are_values r laws T U S F values h.pushes k d lt)

both_true : (a b : Bool) → (a && b) ≡ true → (a ≡ true) × (b ≡ true)
both_true true b h = (refl, h)
both_true false b h = absurd (let no : false ≡ true = h in cc)

fits_by : (r : Rules) (l : Layout) (m : Push) → m.worker < l.workers → m.cell < size_of l.shape → r.is_value m.amount ≡ true → fits r l m ≡ true
fits_by r l m worker cell value =
    let a : nat_lt m.worker l.workers ≡ true = grind (arith, worker) in
    let b : nat_lt m.cell (size_of l.shape) ≡ true = grind (arith, cell) in
    rw (a, b) value

fits_parts : (r : Rules) (l : Layout) (m : Push) → fits r l m ≡ true → (m.worker < l.workers) × (r.is_value m.amount ≡ true)
fits_parts r l m h =
    let a = both_true (nat_lt m.worker l.workers) (nat_lt m.cell (size_of l.shape) && r.is_value m.amount) h in
    let b = both_true (nat_lt m.cell (size_of l.shape)) (r.is_value m.amount) a.1 in
    (let e : nat_lt m.worker l.workers ≡ true = a.0 in grind (arith, e), b.1)

-- what fits tells values of the kind
pub fit_values : (r : Rules) (l : Layout) (folded : List Push) → Fit r l folded → All (λ m. r.is_value m.amount ≡ true) folded
fit_values r l folded fit = λ k d lt. (fits_parts r l (get_or folded k d) (fit k d lt)).1

own_updates : (packets : List Packet) (o : Options) → IsLawful o → All (λ p. p.amount < 2 ^ 32) packets → (w : ℕ) → w < o.workers → All (Fits (rules_in o) (size_of o.shape)) (updates_by_options packets o w)
own_updates packets o lawful small w lt =
    subst (λ (U : List Update). All (Fits (rules_in o) (size_of o.shape)) U) (updates_there packets o w lt)
    (own_updates_fit packets o lawful (small_values (rules_in o) (rules_lawful o.sketch) o.shape packets small) w lt)

-- the updates of each worker have values of the kind
pub own_values : (packets : List Packet) (o : Options) → IsLawful o → All (λ p. p.amount < 2 ^ 32) packets → (w : ℕ) → w < o.workers → HoldValues (rules_in o) (updates_by_options packets o w)
own_values packets o lawful small w lt = λ k d inside. (own_updates packets o lawful small w lt k d inside).1

-- each message names its worker and fits a state of the options' shape and workers
pub all_fit : (packets : List Packet) (o : Options) (l : Layout) (messages : List (List Push)) (refused : ℕ → List ℕ) → IsLawful o → All (λ p. p.amount < 2 ^ 32) packets → length messages ≡ o.workers
    → ((w : ℕ) → w < o.workers → LawfulPushes (rules_in o) w o.threshold o.lane o.full (updates_by_options packets o w) (sent_by messages w) (refused w)) → l.shape ≡ o.shape → l.workers ≡ o.workers
    → (w : ℕ) → All (λ m. (m.worker ≡ w) × (fits (rules_in o) l m ≡ true)) (sent_by messages w)
all_fit packets o l messages refused lawful small same each shape workers w = elim (cases_lt w o.workers) [
  | inl lt ↦ (λ k d below.
      let f = sent_fits (rules_in o) (rules_lawful o.sketch) (size_of o.shape) w o.threshold o.lane o.full _ (sent_by messages w) (refused w) (own_updates packets o lawful small w lt) (each w lt) k d below in
      (f.0, fits_by (rules_in o) l (get_or (sent_by messages w) k d) (omega (arith, f.0, lt, workers)) (omega (arith, f.1, ap size_of shape)) f.2))
  | inr past ↦ (λ k d below. absurd (
      let none : sent_by messages w ≡ [] = get_or_past messages w [] (omega (arith, past, same)) in
      omega (arith, ap (λ (l : List Push). length l) none, below)))
]

pub messages_fit : (packets : List Packet) (o : Options) (l : Layout) (messages : List (List Push)) (bits : List (List Bool)) → IsLawful o → All (λ p. p.amount < 2 ^ 32) packets
    → length messages ≡ o.workers → AreLawful packets o messages bits → l.shape ≡ o.shape → l.workers ≡ o.workers
    → (w : ℕ) → All (λ m. (m.worker ≡ w) × (fits (rules_in o) l m ≡ true)) (sent_by messages w)
messages_fit packets o l messages bits = all_fit packets o l messages (marked_by bits)

-- a list of messages that fit, which has those of each worker in order, is a fold of them
pub fold_of : (r : Rules) (l : Layout) (messages : List (List Push)) (folded : List Push) → l.workers ≡ length messages → Fit r l folded → ((w : ℕ) → messages_of w folded ≡ sent_by messages w)
    → IsFoldOf messages folded
fold_of r l messages folded workers fit own = record {
  of_workers = λ k d lt. omega (arith, (fits_parts r l (get_or folded k d) (fit k d lt)).0, workers);
  in_order = λ w lt. own w;
}
