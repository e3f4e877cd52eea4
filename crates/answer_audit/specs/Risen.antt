-- Fronts that don't fall, and how a front stands to them.
use Rattle.std.specs.Prelude.{◌≡◌, ◌≢◌, ◌<◌, ◌-◌, ◌%◌, ℕ, List, length, true}
use Rattle.push_history.specs.Journal.{Journal}
use Rattle.push_history.specs.LawfulJournal.{NoFurther}
use Rattle.audit_law.specs.AnswerTests.{answer_at, order_test}

-- each answer has the number of its place among so many of its reader
abbrev pub AreNumbered : ℕ → Journal → Type 0
AreNumbered asks j = (e : ℕ) → e < length j.answers → (answer_at j e).number ≡ e % asks

-- no front of these answers falls behind the one before
abbrev pub RiseIn : Journal → ℕ → ℕ → Type 0
RiseIn j start end = (e : ℕ) → start < e → e < end → NoFurther (answer_at j (e - 1)).front (answer_at j e).front

-- before this place none falls behind the one before of its reader
abbrev pub HaveRisen : Journal → ℕ → Type 0
HaveRisen j place = (e : ℕ) → e < place → (answer_at j e).number ≢ 0 → NoFurther (answer_at j (e - 1)).front (answer_at j e).front

-- the front is ordered with that of each answer before this place
abbrev pub AreOrderedUpTo : ℕ → List ℕ → Journal → ℕ → Type 0
AreOrderedUpTo line front j place = (e : ℕ) → e < place → (order_test line front (answer_at j e).front).holds ≡ true
