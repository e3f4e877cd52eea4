-- The workers of a journal, one after another.
use Rattle.std.proofs.Common.{◌≡◌, ℕ, ◌<◌, Bool, List, [], length, get_or, map, ap, sym, ◌∙◌, zero-add, arith}
use Rattle.std.specs.List.{enumerate_from, zip}
use Rattle.std.proofs.lemmas.List.{length-map, get_or-map}
use Rattle.std.proofs.lemmas.List.FromFn.{length-enumerate_from, get_or-enumerate_from}
use Rattle.std.proofs.lemmas.Slice.Zip.{get_or-zip, length-zip}
use Rattle.hash_rows.specs.Marks.{marked}

-- each worker with the number of its pushes and its refused updates
abbrev pub workers_of : List ℕ → List (List Bool) → List (ℕ × (ℕ × List ℕ))
workers_of pushes refused = enumerate_from 0 (zip pushes (map marked refused))

abbrev pub no_worker : ℕ × (ℕ × List ℕ)
no_worker = (0, (0, []))

pub length-workers : (pushes : List ℕ) (refused : List (List Bool)) → length pushes ≡ length refused → length (workers_of pushes refused) ≡ length pushes
length-workers pushes refused same =
    omega (arith, length-enumerate_from 0 (zip pushes (map marked refused)), length-zip pushes (map marked refused), length-map refused marked)

pub worker_at : (pushes : List ℕ) (refused : List (List Bool)) (w : ℕ) (bits : List Bool) → length pushes ≡ length refused → w < length pushes → bits ≡ get_or refused w bits
    → (w, (get_or pushes w 0, marked bits)) ≡ get_or (workers_of pushes refused) w no_worker
worker_at pushes refused w bits same within item =
    let many : w < length (map marked refused) = omega (arith, length-map refused marked) in
    let zipped : w < length (zip pushes (map marked refused)) = omega (arith, length-zip pushes (map marked refused)) in
    let marks : get_or (map marked refused) w [] ≡ marked bits =
    get_or-map marked refused w bits [] (omega arith) ∙ ap marked (sym item) in
    let pair : get_or (zip pushes (map marked refused)) w (0, []) ≡ (get_or pushes w 0, marked bits) =
    get_or-zip pushes (map marked refused) w (0, []) within many ∙ ap (λ (ns : List ℕ). (get_or pushes w 0, ns)) marks in
    sym (get_or-enumerate_from 0 (zip pushes (map marked refused)) w no_worker zipped
    ∙ ap (λ (n : ℕ). (n, get_or (zip pushes (map marked refused)) w (0, []))) (zero-add w)
    ∙ ap (λ (p : ℕ × List ℕ). (w, p)) pair)
