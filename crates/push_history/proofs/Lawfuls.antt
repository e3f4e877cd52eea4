-- Lawful pushes of a worker go on with each update, and so does each worker of a run.
use Rattle.std.proofs.Common.{◌≡◌, ◌≢◌, ◌<◌, ◌≤◌, ℕ, ◌==◌, List, [], ◌∷◌, ◌++◌, length, Bool, true, false, nat_lt, refl, sym, ap, ◌∙◌, arith, inl, inr}
use Rattle.std.specs.Prelude.{All}
use Rattle.std.proofs.lemmas.Bool.{cases_lt}
use Rattle.std.proofs.lemmas.List.Elements.{All-push}
use Rattle.hash_rows.specs.declared.options.Full.{Full}
use Rattle.hash_rows.specs.declared.options.Full.TheVariants.{Leave}
use Rattle.hash_rows.specs.declared.shape.Update.{Update}
use Rattle.hash_rows.specs.declared.shape.Push.{Push}
use Rattle.hash_rows.specs.Rules.{Rules}
use Rattle.push_history.specs.Updates.{update_at}
use Rattle.push_history.specs.Whole.{whole_of}
use Rattle.push_history.specs.Told.{told_of, messages_before}
use Rattle.push_history.specs.Pushes.{is_refused, IsNamed, LawfulPushes}
use Rattle.push_history.proofs.Lists.{filter_kept}
use Rattle.push_history.proofs.Growing.{update_before, update_last, numbers_within, not_refused, refused_other, before_later, pushes_counted, pushes_refused, pushes_sent, pushes_none}

named_before : (w : ℕ) (U : List Update) (u : Update) (m : Push) → m.update < length U → IsNamed w U m → IsNamed w (U ++ u ∷ []) m
named_before w U u m within h = record {
  its_worker = h.its_worker;
  packet = h.packet ∙ ap (λ (x : Update). x.packet) (sym (update_before U u m.update within));
  key = h.key ∙ ap (λ (x : Update). x.key) (sym (update_before U u m.update within));
}

all_named : (w : ℕ) (U : List Update) (u : Update) (S : List Push) → All (λ m. m.update < length U) S → All (IsNamed w U) S → All (IsNamed w (U ++ u ∷ [])) S
all_named w U u S within named = λ k d lt. named_before w U u _ (within k d lt) (named k d lt)

-- a number that is refused is that of an update
refused_below : (n k : ℕ) (F : List ℕ) → All (λ j. j < n) F → is_refused k F ≡ true → k < n
refused_below n k F all is = elim (cases_lt k n) [
  | inl below ↦ below
  | inr above ↦ absurd (let no : is_refused k F ≡ false = not_refused k F (λ i d lt. omega (arith, all i d lt, above)) in let bad : true ≡ false = sym is ∙ no in cc)
]

-- an update that makes no push due
pub lawful_counted : (r : Rules) (w T L : ℕ) (full : Full) (U : List Update) (u : Update) (S : List Push) (F : List ℕ) → LawfulPushes r w T L full U S F
    → r.distance (told_of r u.cell S) (whole_of r u.cell (U ++ u ∷ [])) < T → LawfulPushes r w T L full (U ++ u ∷ []) S F
lawful_counted r w T L full U u S F h small = record {
  pushes = pushes_counted r T U u S F h.pushes small;
  named = all_named w U u S (numbers_within r U S S h.pushes.amounts) h.named;
  full_lane = h.full_lane;
  waiting = h.waiting;
}

lane_by : (L n k : ℕ) (S : List Push) (F : List ℕ) → All (λ m. m.update < n) S → L ≤ length S → ((j : ℕ) → is_refused j F ≡ true → L ≤ length (messages_before j S))
    → (b : Bool) → (n == k) ≡ b → is_refused k (F ++ n ∷ []) ≡ true → L ≤ length (messages_before k S)
lane_by L n k S F within many lanes true same is =
    let e : k ≡ n = grind arith in
    let all : messages_before k S ≡ S = filter_kept (λ m. nat_lt m.update k) S (λ i d lt. let below = within i d lt in grind arith) in
    rw all many
lane_by L n k S F within many lanes false other is =
    let ne : n ≢ k = (λ e. let yes : (n == k) ≡ true = grind arith in let no : true ≡ false = sym yes ∙ other in absurd (cc)) in
    lanes k (sym (refused_other k n F ne) ∙ is)

-- a due update that meets a full lane
pub lawful_refused : (r : Rules) (w T L : ℕ) (U : List Update) (u : Update) (S : List Push) (F : List ℕ) → LawfulPushes r w T L Leave U S F
    → T ≤ r.distance (told_of r u.cell S) (whole_of r u.cell (U ++ u ∷ [])) → L ≤ length S → LawfulPushes r w T L Leave (U ++ u ∷ []) S (F ++ length U ∷ [])
lawful_refused r w T L U u S F h far many =
    let within = numbers_within r U S S h.pushes.amounts in
    record {
      pushes = pushes_refused r T U u S F h.pushes far;
      named = all_named w U u S within h.named;
      full_lane = λ k is. lane_by L (length U) k S F within many h.full_lane (length U == k) refl is;
      waiting = λ e. absurd (cc);
    }

-- a due update that is sent
pub lawful_sent : (r : Rules) (w T L : ℕ) (full : Full) (U : List Update) (u : Update) (S : List Push) (F : List ℕ) (m : Push) → LawfulPushes r w T L full U S F
    → T ≤ r.distance (told_of r u.cell S) (whole_of r u.cell (U ++ u ∷ []))
    → m.worker ≡ w → m.packet ≡ u.packet → m.update ≡ length U → m.key ≡ u.key → m.cell ≡ u.cell
    → m.amount ≡ r.gap (told_of r u.cell S) (whole_of r u.cell (U ++ u ∷ [])) → LawfulPushes r w T L full (U ++ u ∷ []) (S ++ m ∷ []) F
lawful_sent r w T L full U u S F m h far worker packet number key cell amount =
    let within = numbers_within r U S S h.pushes.amounts in
    let last : update_at (U ++ u ∷ []) m.update ≡ u = ap (update_at (U ++ u ∷ [])) number ∙ update_last U u in
    record {
      pushes = pushes_sent r T U u S F m h.pushes far number cell amount;
      named = All-push (IsNamed w (U ++ u ∷ [])) S m (all_named w U u S within h.named)
          (record { its_worker = worker; packet = packet ∙ ap (λ (x : Update). x.packet) (sym last); key = key ∙ ap (λ (x : Update). x.key) (sym last) });
      full_lane = λ k is.
          let below : k < length U = refused_below (length U) k F h.pushes.refused_within is in
          rw (before_later S m k (omega (arith, below, number))) (h.full_lane k is);
      waiting = h.waiting;
    }

-- no update, no message
pub lawful_none : (r : Rules) (w T L : ℕ) (full : Full) → LawfulPushes r w T L full [] [] []
lawful_none r w T L full = record {
  pushes = pushes_none r T;
  named = λ k d lt. absurd (omega (arith, lt));
  full_lane = λ k is. absurd (let no : false ≡ true = is in cc);
  waiting = λ e. refl;
}
