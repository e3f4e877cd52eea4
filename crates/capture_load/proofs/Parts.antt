-- What a generated source has left while it gives a part.
use Rattle.std.proofs.Common.{◌≡◌, ◌≤◌, ◌<◌, ℕ, ◌+◌, ◌-◌, List, [], ◌++◌, length, take, drop, sym, ap, ◌∙◌, subst, arith, append_assoc, add-zero, zero, suc, length-take, length-drop}
use Rattle.std.specs.List.{flat_map, range_with_len}
use Rattle.std.proofs.lemmas.List.{take-append-drop, drop-take, take-take, drop-drop}
use Rattle.std.proofs.Math.Seq.{take-length}
use Rattle.capture_load.specs.Generated.{generated_from, generated_record}
use Rattle.capture_load.specs.Sources.{left_of}
use Rattle.capture_load.specs.declared.generated.GenSource.{GenSource}

-- the first n bytes of the part from a place on, and what is left behind them
pub given_part : (p g : List ℕ) (at end n : ℕ) → at + n ≤ end → drop at (take end p) ++ g ≡ take n (drop at p) ++ (drop (at + n) (take end p) ++ g)
given_part p g at end n le =
    let q = take end p in
    let inside : drop at q ≡ take (end - at) (drop at p) =
    subst (λ (m : ℕ). drop at (take m p) ≡ take (end - at) (drop at p)) (omega (arith, le)) (drop-take at (end - at) p) in
    let front : take n (drop at q) ≡ take n (drop at p) = ap (λ (t : List ℕ). take n t) inside ∙ take-take n (end - at) (drop at p) (omega (arith, le)) in
    sym (ap (λ (t : List ℕ). t ++ g) (take-append-drop n (drop at q)))
    ∙ append_assoc (take n (drop at q)) (drop n (drop at q)) g
    ∙ ap (λ (t : List ℕ). t ++ (drop n (drop at q) ++ g)) front
    ∙ ap (λ (t : List ℕ). take n (drop at p) ++ (t ++ g)) (drop-drop n at q)

-- the next record stands in front of those behind it
pub next_record : (start next ahead : ℕ) → 0 < ahead → generated_record start next ++ generated_from start (next + 1) (ahead - 1) ≡ generated_from start next ahead
unfolding generated_from
next_record start next zero some = absurd (omega (arith, some))
next_record start next (suc k) some = ap (λ (m : ℕ). generated_record start next ++ flat_map (generated_record start) (range_with_len (next + 1) m)) (omega arith)

-- a part that is given as a whole
pub whole_part : (p : List ℕ) → length p ≡ 58 → drop 0 (take 58 p) ≡ p
whole_part p whole = subst (λ (n : ℕ). take n p ≡ p) whole (take-length p)

taken_whole : (n : ℕ) (p : List ℕ) → drop n (take n p) ≡ []
taken_whole n p = subst (λ (m : ℕ). drop n (take m p) ≡ []) (add-zero n) (drop-take n 0 p)

-- where the part was given to its end, the records ahead are left
pub ended : (s : GenSource) → s.at ≡ s.end → left_of s ≡ generated_from s.start s.next s.ahead
ended s done = ap (λ (t : List ℕ). t ++ generated_from s.start s.next s.ahead) (subst (λ (m : ℕ). drop s.at (take m s.part) ≡ []) done (taken_whole s.at s.part))

pub nothing_left : (s : GenSource) → s.at ≡ s.end → s.ahead ≡ 0 → left_of s ≡ []
unfolding generated_from
nothing_left s done none = ended s done ∙ ap (λ (m : ℕ). flat_map (generated_record s.start) (range_with_len s.next m)) none

-- what was put in front of a buffer
pub put_front : (into p : List ℕ) (at n end : ℕ) → at + n ≤ length p → end ≡ 0 + length (take (at + n - at) (drop at p))
    → take end into ≡ take (at + n - at) (drop at p) → take n into ≡ take n (drop at p)
put_front into p at n end within end_is front =
    let same : at + n - at ≡ n = omega arith in
    let ends : end ≡ n = end_is ∙ ap (λ (m : ℕ). 0 + length (take m (drop at p))) same ∙ omega (arith, within, length-take n (drop at p), length-drop at p) in
    subst (λ (m : ℕ). take m into ≡ take n (drop at p)) ends (front ∙ ap (λ (m : ℕ). take m (drop at p)) same)
