-- The tests of an answer.
use Rattle.std.specs.Prelude.{ℕ, ℤ, pos, suc, ◌-◌, ◌==◌, ◌||◌, ◌∷◌, ◌++◌, List, [], Bool, if◌then◌else◌, length, map, sum, nat_le, slice_index_or}
use Rattle.std.specs.List.{list_all, range_with_len}
use Rattle.std.specs.Ordering.{int_eq}
use Rattle.hash_rows.specs.declared.options.Options.{Options}
use Rattle.hash_rows.specs.declared.shape.Push.{Push}
use Rattle.push_history.specs.Answers.{AnswerParts}
use Rattle.push_history.specs.Journal.{Journal, keys_of, rules_in}
use Rattle.push_history.specs.LawfulJournal.{sent_by}
use Rattle.push_history.specs.Share.{zero_key}
use Rattle.push_history.specs.Shown.{shown_cells}
use Rattle.audit_law.specs.declared.failure.Value.TheVariants.{Number, Signed}
use Rattle.audit_law.specs.LineNumbers.{answer_line}
use Rattle.audit_law.specs.Tests.{Test, test}

-- an answer of which nothing was read
abbrev pub no_answer : AnswerParts
no_answer = record { reader = 0; number = 0; folded = 0; front = []; shown = [] }

-- answer i
abbrev pub answer_at : Journal → ℕ → AnswerParts
answer_at j i = slice_index_or j.answers i no_answer

-- the front's number for worker w
abbrev pub place_in : List ℕ → ℕ → ℕ
place_in front w = slice_index_or front w 0

-- the front has no more than each worker sent
unfoldable pub within_test : ℕ → List (List Push) → List ℕ → ℕ → Test
within_test line messages front w =
    test line (Number (place_in front w)) (Number (length (sent_by messages w))) (nat_le (place_in front w) (length (sent_by messages w)))

-- it has no less than the front before
unfoldable pub rising_test : ℕ → List ℕ → List ℕ → ℕ → Test
rising_test line before front w =
    test line (Number (place_in front w)) (Number (place_in before w)) (nat_le (place_in before w) (place_in front w))

-- each place has at most what the other front has there
unfoldable pub is_no_further : List ℕ → List ℕ → Bool
is_no_further front other = list_all (λ w. nat_le (place_in front w) (place_in other w)) (range_with_len 0 (length front))

-- the first place where the fronts aren't equal
abbrev pub first_unlike : List ℕ → List ℕ → ℕ
first_unlike [] other = 0
first_unlike (n ∷ front) [] = 0
first_unlike (n ∷ front) (m ∷ other) = if n == m then suc (first_unlike front other) else 0

-- of the two fronts one is no further than the other
unfoldable pub order_test : ℕ → List ℕ → List ℕ → Test
order_test line front earlier =
    let w = first_unlike front earlier in
    test line (Number (place_in front w)) (Number (place_in earlier w)) (is_no_further earlier front || is_no_further front earlier)

-- what the messages up to the front say of asked key k
unfoldable pub estimate_shown : Options → List (List Push) → List ℕ → ℕ → ℤ
estimate_shown o messages front k =
    (rules_in o).estimate o.shape (shown_cells (rules_in o) o.shape messages front) (slice_index_or (keys_of o) k zero_key)

-- the answer shows just this
unfoldable pub estimate_test : ℕ → Options → List (List Push) → AnswerParts → ℕ → Test
estimate_test line o messages a k =
    let kept = slice_index_or a.shown k (pos 0) in
    let lawful = estimate_shown o messages a.front k in
    test line (Signed kept) (Signed lawful) (int_eq kept lawful)

-- the front doesn't fall behind that of the reader's answer before
unfoldable pub rising_tests : ℕ → Journal → ℕ → List Test
rising_tests line j i =
    if (answer_at j i).number == 0 then []
    else map (rising_test line (answer_at j (i - 1)).front (answer_at j i).front) (range_with_len 0 (length (answer_at j i).front))

-- the sum of the front; the front by itself; beside the one before of its reader, and beside each earlier one; and the
-- estimates
unfoldable pub answer_tests : Options → Journal → List (List Push) → ℕ → List Test
answer_tests o j messages i =
    let a = answer_at j i in
    let line = answer_line j i in
    test line (Number a.folded) (Number (sum a.front)) (a.folded == sum a.front)
    ∷ (map (within_test line messages a.front) (range_with_len 0 (length messages))
    ++ (rising_tests line j i
    ++ (map (λ e. order_test line a.front (answer_at j e).front) (range_with_len 0 i)
    ++ map (estimate_test line o messages a) (range_with_len 0 (length (keys_of o))))))
