-- The tests of how many were missed that Count-Min alone is put to.
use Rattle.std.specs.Prelude.{ℕ, ◌||◌, ◌∷◌, List, [], length, not, nat_le}
use Rattle.hash_rows.specs.declared.options.Options.{Options}
use Rattle.hash_rows.specs.declared.shape.Push.{Push}
use Rattle.push_history.specs.Journal.{Journal}
use Rattle.push_history.specs.LawfulJournal.{possible_missed, sure_missed}
use Rattle.audit_law.specs.declared.failure.Value.TheVariants.{Number}
use Rattle.audit_law.specs.Tests.{Test, test}
use Rattle.audit_law.specs.LiveTests.{is_count_min}

-- at least the sure ones, and at most the possible ones
abbrev pub bounds_tests : ℕ → Options → Journal → List (List Push) → List Test
bounds_tests line o j messages =
    let sure = length (sure_missed o messages j.live) in
    let possible = length (possible_missed o messages j.live) in
    test line (Number j.missed) (Number sure) (not (is_count_min o.sketch) || nat_le sure j.missed)
    ∷ test line (Number j.missed) (Number possible) (not (is_count_min o.sketch) || nat_le j.missed possible) ∷ []
