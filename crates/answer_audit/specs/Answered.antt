-- The tests of an answer, part by part.
use Rattle.std.specs.Prelude.{◌≡◌, ◌⊎◌, ◌-◌, ◌==◌, ◌∷◌, ◌++◌, ℕ, ℤ, pos, List, false, length, map, sum, replicate, slice_index_or}
use Rattle.std.specs.List.{range_with_len}
use Rattle.std.specs.Ordering.{int_eq}
use Rattle.packet_key.specs.declared.key.FlowKey.{FlowKey}
use Rattle.hash_rows.specs.Rules.{Rules}
use Rattle.hash_rows.specs.Tables.{TableView}
use Rattle.hash_rows.specs.declared.shape.Push.{Push}
use Rattle.push_history.specs.Journal.{Journal}
use Rattle.push_history.specs.Share.{zero_key}
use Rattle.audit_law.specs.declared.failure.Value.TheVariants.{Number, Signed}
use Rattle.audit_law.specs.Tests.{Test, test}
use Rattle.audit_law.specs.AnswerTests.{answer_at, order_test, rising_tests, within_test}

-- the estimate of key k is what the table says of it
abbrev pub shown_test : ℕ → Rules → TableView → List FlowKey → List ℤ → ℕ → Test
shown_test line r table keys shown k =
    let kept = slice_index_or shown k (pos 0) in
    let lawful = r.estimate table.shape table.cells (slice_index_or keys k zero_key) in
    test line (Signed kept) (Signed lawful) (int_eq kept lawful)

-- the front from which the answer's is reached is that of no message, or that of its reader's answer before
abbrev pub BeginsAt : Journal → ℕ → List ℕ → Type 0
BeginsAt j i front = (front ≡ replicate (length front) 0)
    ⊎ ((((answer_at j i).number == 0) ≡ false) × (front ≡ (answer_at j (i - 1)).front))

-- the tests of an answer's front
abbrev pub front_tests : ℕ → Journal → List (List Push) → ℕ → List Test
front_tests line j messages i =
    let a = answer_at j i in
    test line (Number a.folded) (Number (sum a.front)) (a.folded == sum a.front)
    ∷ (map (within_test line messages a.front) (range_with_len 0 (length messages))
    ++ (rising_tests line j i
    ++ map (λ e. order_test line a.front (answer_at j e).front) (range_with_len 0 i)))
