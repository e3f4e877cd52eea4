-- A worker's rounds in a block, and which of its messages each round folds.
use Rattle.std.proofs.Common.{◌≡◌, ◌<◌, ◌≤◌, ℕ, ℤ, suc, ◌+◌, ◌-◌, ◌*◌, min, List, ◌++◌, length, length-append, length-set, length-drop, take, drop, set, sym, ap, ap₂, ◌∙◌, subst, arith, inl, inr}
use Rattle.std.specs.Prelude.{slice_range}
use Rattle.std.proofs.Math.Nat.{mul-le-mul_right}
use Rattle.std.proofs.Math.Seq.{drop-append-add}
use Rattle.std.proofs.lemmas.Bool.{cases_lt}
use Rattle.std.proofs.lemmas.List.{get_or-set_same, get_or-set_other, take-append-le, drop-append-le}
use Rattle.hash_rows.specs.declared.options.Options.{Options}
use Rattle.hash_rows.specs.declared.shape.Push.{Push}
use Rattle.push_history.specs.LagRun.{Terms, Worker}
use Rattle.push_history.specs.OwnSteps.{counted_in_round, folded_in_round, untaken_of, own_round, with_taken}
use Rattle.push_rule.specs.Counters.{CounterView, Extends, in_lane}
use Rattle.push_rule.specs.Keeps.{Keeps}
use Rattle.round_law.specs.OwnRounds.{own_rounds}
use Rattle.octo_engine.specs.Counts.{IsFit}
use Rattle.octo_engine.specs.Parts.{AreEnds, HasRun, block, cut_at, end_at}

module _ {H : Type 0} (stands : H → ℤ → ℤ → Type 0) (t : Terms) (w : ℕ) where
  pub held_is : (d : CounterView H) (x : Worker) → Keeps stands t w d x → untaken_of x ≡ in_lane d
  held_is d x keeps =
      let taken = keeps.taken in
      let len = ap length keeps.queue in
      let both = length-append keeps.cleared d.queue in
      omega (arith, taken, len, both)

  -- the messages in the lane of the worker are those of the queue that weren't taken
  lane_is : (d : CounterView H) (x : Worker) → Keeps stands t w d x → drop x.taken x.sent ≡ drop d.taken d.queue
  lane_is d x keeps = ap₂ (λ n (l : List Push). drop n l) keeps.taken keeps.queue ∙ drop-append-add keeps.cleared d.queue d.taken

  -- after it counted, the worker gives away as many messages as a batch has
  pub own_is : (o : Options) (mid new : CounterView H) (x : Worker) (count : ℕ) → Keeps stands t w mid (counted_in_round t o w x) → count ≡ min o.batch (in_lane mid)
      → Keeps stands t w new (with_taken (counted_in_round t o w x) count) → Keeps stands t w new (own_round t o w x)
  unfolding own_round
  own_is o mid new x count keeps is kept =
      let c = counted_in_round t o w x in
      subst (λ n. Keeps stands t w new (with_taken c n)) (is ∙ ap (λ n. min o.batch n) (sym (held_is mid c keeps))) kept

  pub given_is : (o : Options) (mid : CounterView H) (x : Worker) (count from to : ℕ) → Keeps stands t w mid (counted_in_round t o w x) → count ≡ min o.batch (in_lane mid)
      → from ≡ mid.taken → to ≡ mid.taken + count → slice_range mid.queue from to ≡ folded_in_round t o w x
  unfolding folded_in_round
  given_is o mid x count from to keeps is starts ends =
      let c = counted_in_round t o w x in
      let many : to - from ≡ min o.batch (untaken_of c) = omega (arith, starts, ends, is, held_is mid c keeps) in
      ap₂ (λ n (l : List Push). take n l) many (ap (λ k. drop k mid.queue) starts ∙ sym (lane_is mid c keeps))

slice_grown : {A : Type 0} (xs more : List A) (a b : ℕ) → a ≤ b → b ≤ length xs → slice_range (xs ++ more) a b ≡ slice_range xs a b
slice_grown xs more a b le within =
    let len = length-drop a xs in
    ap (λ l. take (b - a) l) (drop-append-le a xs more (omega (arith, le, within)))
    ∙ take-append-le (b - a) (drop a xs) more (omega (arith, len, le, within))

-- one round more
pub ends_more : (ends : List ℕ) (n taken more : ℕ) → AreEnds ends n taken → taken ≤ more → n < block → AreEnds (set ends (n + 1) more) (n + 1) more
ends_more ends n taken more e le lt =
    let len : length (set ends (n + 1) more) ≡ block + 1 = length-set ends (n + 1) more ∙ e.len in
    let here : end_at (set ends (n + 1) more) (n + 1) ≡ more = get_or-set_same ends (n + 1) more 0 (omega (arith, e.len, lt)) in
    let there : (k : ℕ) → k ≤ n → end_at (set ends (n + 1) more) k ≡ end_at ends k = λ k below. get_or-set_other ends (n + 1) k more 0 (λ same. omega (arith, same, below)) in
    let last = e.last in
    let rising : (k : ℕ) → k < n + 1 → end_at (set ends (n + 1) more) k ≤ end_at (set ends (n + 1) more) (k + 1) = λ k below.
    elim (cases_lt k n) [
      | inl early ↦ let a = there k (omega (arith, early)) in let b = there (k + 1) (omega (arith, early)) in let rise = e.rising k early in omega (arith, a, b, rise)
      | inr late ↦
          let same : k ≡ n = omega (arith, late, below) in
          subst (λ j. end_at (set ends (n + 1) more) j ≤ end_at (set ends (n + 1) more) (j + 1)) (sym same)
          (let a = there n (omega arith) in omega (arith, a, here, last, le))
    ] in
    let within : (k : ℕ) → k ≤ n + 1 → end_at (set ends (n + 1) more) k ≤ more = λ k below.
    elim (cases_lt k (n + 1)) [
      | inl early ↦ let a = there k (omega (arith, early)) in let most = e.within k (omega (arith, early)) in omega (arith, a, most, le)
      | inr late ↦
          let same : k ≡ n + 1 = omega (arith, late, below) in
          subst (λ j. end_at (set ends (n + 1) more) j ≤ more) (sym same) (omega (arith, here))
    ] in
    record { len = len; rising = rising; within = within; last = here }

pub ends_none : (ends : List ℕ) (taken : ℕ) → length ends ≡ block + 1 → taken ≡ 0 → AreEnds (set ends 0 0) 0 taken
ends_none ends taken len none =
    let here : end_at (set ends 0 0) 0 ≡ 0 = get_or-set_same ends 0 0 0 (omega (arith, len)) in
    record {
      len = length-set ends 0 0 ∙ len;
      rising = λ k lt. absurd (omega (arith, lt));
      within = λ k le. let same : k ≡ 0 = omega (arith, le) in subst (λ j. end_at (set ends 0 0) j ≤ taken) (sym same) (omega (arith, here));
      last = here ∙ sym none;
    }

module _ {H : Type 0} where
  pub run_none : (stands : H → ℤ → ℤ → Type 0) (t : Terms) (o : Options) (w : ℕ) (x : Worker) (ends : List ℕ) (d : CounterView H) → Keeps stands t w d x → HasRun stands t o w x 0 ends d
  run_none stands t o w x ends d keeps = record { keeps = keeps; folded = λ k lt. absurd (omega (arith, lt)) }

  pub run_more : (stands : H → ℤ → ℤ → Type 0) (t : Terms) (o : Options) (w : ℕ) (x : Worker) (n : ℕ) (ends : List ℕ) (d d' : CounterView H) (e : ℕ) → HasRun stands t o w x n ends d → AreEnds ends n d.taken
      → d.taken ≤ length d.queue → Extends d.queue d'.queue → n < block → e ≡ d'.taken
      → Keeps stands t w d' (own_round t o w (own_rounds t o w n x)) → slice_range d'.queue d.taken d'.taken ≡ folded_in_round t o w (own_rounds t o w n x)
      → HasRun stands t o w x (n + 1) (set ends (n + 1) e) d'
  run_more stands t o w x n ends d d' e run are within grows lt is keeps given =
      let here : end_at (set ends (n + 1) e) (n + 1) ≡ d'.taken = get_or-set_same ends (n + 1) e 0 (omega (arith, are.len, lt)) ∙ is in
      let there : (k : ℕ) → k ≤ n → end_at (set ends (n + 1) e) k ≡ end_at ends k = λ k below. get_or-set_other ends (n + 1) k e 0 (λ same. omega (arith, same, below)) in
      let next : suc n ≡ n + 1 = omega arith in
      let folded : (k : ℕ) → k < n + 1 → cut_at (set ends (n + 1) e) k d'.queue ≡ folded_in_round t o w (own_rounds t o w k x) = λ k below.
      elim (cases_lt k n) [
        | inl early ↦
            let rise = are.rising k early in
            let most = are.within (k + 1) (omega (arith, early)) in
            ap₂ (λ a b. slice_range d'.queue a b) (there k (omega (arith, early))) (there (k + 1) (omega (arith, early)))
            ∙ ap (λ (q : List Push). slice_range q (end_at ends k) (end_at ends (k + 1))) grows.parts
            ∙ slice_grown d.queue grows.more (end_at ends k) (end_at ends (k + 1)) rise (omega (arith, most, within))
            ∙ run.folded k early
        | inr late ↦
            let same : k ≡ n = omega (arith, late, below) in
            subst (λ j. cut_at (set ends (n + 1) e) j d'.queue ≡ folded_in_round t o w (own_rounds t o w j x)) (sym same)
            (ap₂ (λ a b. slice_range d'.queue a b) (there n (omega arith) ∙ are.last) here ∙ given)
      ] in
      record { keeps = subst (λ j. Keeps stands t w d' (own_rounds t o w j x)) next keeps; folded = folded }

  pub fit_cleared : (o : Options) (packets : ℕ) (share : List ℕ) (a b : CounterView H) → IsFit o packets share a → b ≡ record a { queue = drop a.taken a.queue; taken = 0 } → IsFit o packets share b
  fit_cleared o packets share a b fit is =
      let queue = fit.queue in
      let taken = fit.taken in
      let len = length-drop a.taken a.queue in
      subst (λ (d : CounterView H). IsFit o packets share d) (sym is) (record {
        within = fit.within;
        few = fit.few;
        updates = fit.updates;
        counted = fit.counted;
        cells = fit.cells;
        lane = fit.lane;
        queue = omega (arith, queue, taken, len);
        taken = omega arith;
      })

pub room_left : (round batch lane taken room : ℕ) → round < block → taken ≤ round * batch → lane + block * batch < room → taken + lane < room
room_left round batch lane taken room lt most less =
    let times : round * batch ≤ (block - 1) * batch = mul-le-mul_right batch (omega (arith, lt)) in
    omega (arith, times, most, less)

pub batch_more : (round batch taken more : ℕ) → taken ≤ round * batch → more ≤ taken + batch → more ≤ (round + 1) * batch
batch_more round batch taken more most less =
    let times : (round + 1) * batch ≡ round * batch + batch = grind arith in
    omega (arith, times, most, less)
