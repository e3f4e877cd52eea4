-- What a packet adds in one row more, counted again.
use Rattle.std.proofs.Common.{◌≡◌, ◌<◌, ℕ, zero, suc, ◌+◌, ◌==◌, ◌||◌, List, [], ◌∷◌, ◌++◌, length, map, get_or, Bool, true, false, refl, sym, ap, ◌∙◌, arith, append_assoc, take}
use Rattle.std.specs.List.{flat_map, range_with_len}
use Rattle.std.proofs.lemmas.Bool.{eq-eqb}
use Rattle.std.proofs.lemmas.List.{take_more, append-nil}
use Rattle.std.proofs.lemmas.List.FromFn.{map-range_with_len_more}
use Rattle.std.proofs.lemmas.Grind.{flat_map-append}
use Rattle.hash_rows.specs.declared.shape.Packet.{Packet}
use Rattle.hash_rows.specs.declared.shape.Shape.{Shape}
use Rattle.hash_rows.specs.declared.shape.Update.{Update}
use Rattle.hash_rows.specs.Marks.{marked_from, marked}
use Rattle.hash_rows.specs.Rules.{Rules}
use Rattle.push_history.specs.Pushes.{is_refused}
use Rattle.push_history.specs.Updates.{updates_of, updates_at}

-- a bit that is set is that of a refused update
refused_from : (bits : List Bool) (place k : ℕ) → k < place → is_refused k (marked_from place bits) ≡ false
refused_from [] place k lt = refl
refused_from (true ∷ bits) place k lt =
    let other : (place == k) ≡ false = grind (arith, lt) in
    ap (λ (b : Bool). b || is_refused k (marked_from (place + 1) bits)) other ∙ refused_from bits (place + 1) k (omega (arith, lt))
refused_from (false ∷ bits) place k lt = refused_from bits (place + 1) k (omega (arith, lt))

refused_at : (bits : List Bool) (place k : ℕ) → get_or bits k false ≡ is_refused (place + k) (marked_from place bits)
refused_at [] place k = refl
refused_at (true ∷ bits) place zero = sym (ap (λ (b : Bool). b || is_refused (place + 0) (marked_from (place + 1) bits)) (eq-eqb place (place + 0) (omega arith)))
refused_at (false ∷ bits) place zero = sym (refused_from bits (place + 1) (place + 0) (omega arith))
refused_at (true ∷ bits) place (suc k) =
    let other : (place == place + suc k) ≡ false = grind arith in
    let at : place + 1 + k ≡ place + suc k = omega arith in
    refused_at bits (place + 1) k ∙ ap (λ (n : ℕ). is_refused n (marked_from (place + 1) bits)) at
    ∙ sym (ap (λ (b : Bool). b || is_refused (place + suc k) (marked_from (place + 1) bits)) other)
refused_at (false ∷ bits) place (suc k) =
    let at : place + 1 + k ≡ place + suc k = omega arith in
    refused_at bits (place + 1) k ∙ ap (λ (n : ℕ). is_refused n (marked_from (place + 1) bits)) at

pub refused_bit : (bits : List Bool) (k : ℕ) → get_or bits k false ≡ is_refused k (marked bits)
refused_bit bits k = refused_at bits 0 k ∙ ap (λ (n : ℕ). is_refused n (marked bits)) (let e : 0 + k ≡ k = omega arith in e)

-- one row more
pub rows_more : (f : ℕ → Update) (U : List Update) (row : ℕ) → (U ++ map f (range_with_len 0 row)) ++ f row ∷ [] ≡ U ++ map f (range_with_len 0 (row + 1))
rows_more f U row =
    append_assoc U (map f (range_with_len 0 row)) (f row ∷ []) ∙ ap (λ (t : List Update). U ++ t) (sym (map-range_with_len_more f 0 row row (omega arith)))

-- one packet more
pub packets_more : (r : Rules) (shape : Shape) (packets : List Packet) (share : List ℕ) (place d : ℕ) → place < length share
    → updates_of r shape packets (take place share) ++ updates_at r shape packets (get_or share place d) ≡ updates_of r shape packets (take (place + 1) share)
unfolding updates_of
packets_more r shape packets share place d lt =
    sym (ap (flat_map (updates_at r shape packets)) (take_more share place d lt)
    ∙ flat_map-append (updates_at r shape packets) (take place share) (get_or share place d ∷ [])
    ∙ ap (λ (t : List Update). flat_map (updates_at r shape packets) (take place share) ++ t) (append-nil (updates_at r shape packets (get_or share place d))))
