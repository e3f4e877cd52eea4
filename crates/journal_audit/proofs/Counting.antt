-- Runs counted one after another.
use Rattle.std.proofs.Common.{◌≡◌, ◌≤◌, ◌+◌, ℕ, List, [], ◌∷◌, Bool, length, cond, nat_le, ap, ◌∙◌, arith}
use Rattle.std.specs.Prelude.{count_by}
use Rattle.std.proofs.Math.ListN.{drop_of_length-le}
use Rattle.std.proofs.lemmas.List.Sums.{sum_by-cons}
use Rattle.hash_rows.specs.Marks.{marked_from}
use Rattle.octo_text.specs.Runs.{runs_of}
use Rattle.octo_text.proofs.RunLemmas.{marked_behind}

-- no run begins behind all bits
pub none_behind : (bits : List Bool) (start : ℕ) → length bits ≤ start → runs_of (marked_behind start bits) ≡ []
none_behind bits start past = ap (λ (t : List Bool). runs_of (marked_from start t)) (drop_of_length-le bits past)

-- one run more, where it begins early enough
pub one_counted : (last start end count : ℕ) (runs rest : List (ℕ × ℕ)) → runs ≡ (start, end) ∷ rest → (all one : ℕ) → count + count_by (λ run. nat_le run.0 last) runs ≡ all
    → one ≡ cond (nat_le start last) 1 0 → count + one + count_by (λ run. nat_le run.0 last) rest ≡ all
one_counted last start end count runs rest is all one counted one_is =
    let more : count_by (λ run. nat_le run.0 last) runs ≡ cond (nat_le start last) 1 0 + count_by (λ run. nat_le run.0 last) rest =
    ap (count_by (λ run. nat_le run.0 last)) is ∙ sum_by-cons (λ (run : ℕ × ℕ). cond (nat_le run.0 last) 1 0) (start, end) rest in
    omega (arith, more, counted, one_is)
