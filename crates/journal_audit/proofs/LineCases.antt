-- The lines of a journal, from what was counted.
use Rattle.std.proofs.Common.{◌≡◌, ◌+◌, ℕ, List, [], Bool, length, map, get_or, take, sym, ap, ap₂, ◌∙◌}
use Rattle.std.specs.Prelude.{Some, sum, count_by, nat_le, slice_get}
use Rattle.std.proofs.lemmas.List.{get_or-map, take-map}
use Rattle.std.proofs.lemmas.Option.{slice_get_within, get_or_from_slice_get}
use Rattle.hash_rows.specs.Marks.{marked}
use Rattle.push_history.specs.Journal.{with_journal}
use Rattle.octo_text.specs.Content.{content_of}
use Rattle.octo_text.specs.Runs.{runs_of}
use Rattle.octo_text.specs.declared.journal.Journal.{Journal}
use Rattle.audit_law.specs.LineNumbers.{lines_of_worker, worker_line, refused_line}

pub worker_line_is : (j : Journal) (w : ℕ) (rows : List (List Bool)) → rows ≡ take w j.lists.refused.items
    → 3 + length j.options.watch.items + sum (map lines_of_worker (map marked rows)) ≡ worker_line (content_of j) w
unfolding worker_line content_of with_journal
worker_line_is j w rows is =
    ap (λ (t : List (List ℕ)). 3 + length j.options.watch.items + sum (map lines_of_worker t)) (ap (map marked) is ∙ sym (take-map marked w j.lists.refused.items))

pub refused_line_is : (j : Journal) (w k line runs : ℕ) (bits : List Bool) → slice_get j.lists.refused.items w ≡ Some bits → line ≡ worker_line (content_of j) w
    → runs ≡ count_by (λ run. nat_le run.0 k) (runs_of (marked bits)) → line + runs ≡ refused_line (content_of j) w k
unfolding refused_line content_of
refused_line_is j w k line runs bits at is counted =
    let here : get_or (map marked j.lists.refused.items) w [] ≡ marked bits =
    get_or-map marked j.lists.refused.items w [] [] (slice_get_within j.lists.refused.items w bits at) ∙ ap marked (get_or_from_slice_get j.lists.refused.items w bits [] at) in
    ap₂ (λ (a b : ℕ). a + b) is (counted ∙ ap (λ (t : List ℕ). count_by (λ (run : ℕ × ℕ). nat_le run.0 k) (runs_of t)) (sym here))
