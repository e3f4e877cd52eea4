-- Texts that are written part by part.
use Rattle.std.proofs.Common.{◌≡◌, ℕ, suc, ◌+◌, ◌<◌, ◌≤◌, List, [], ◌∷◌, ◌++◌, length, take, drop, get_or, Option, Result, Ok, Err, ◌∙◌, sym, ap, subst, arith}
use Rattle.std.specs.Result.{IsErr}
use Rattle.std.specs.List.{flat_map}
use Rattle.std.proofs.lemmas.List.{append-nil, take_more, take-append-drop}
use Rattle.std.proofs.Math.Seq.{take-length, drop-cons}
use Rattle.std.proofs.lemmas.Grind.{flat_map-append}
use Rattle.flow_base.specs.Flow.{grown, TookFront}
use Rattle.flow_base.specs.Writing.{Writes}
use Rattle.flow_base.proofs.FlowLemmas.{grown-append, grown-nil, took_first, took_second}

-- nothing is written
pub writes_none : {T E : Type 0} (old : Option (List ℕ)) (x : T) → Writes {T = T} {E = E} old old [] (Ok x)
writes_none old x = record { ok = sym (grown-nil old); err = tt }

-- what was written is a front of the text
pub writes_front : {U F : Type 0} (old new : Option (List ℕ)) (text : List ℕ) (result : Result U F) → IsErr result → TookFront old new text → Writes {T = U} {E = F} old new text result
writes_front old new text (Ok y) failed took = cc
writes_front old new text (Err e) failed took = record { ok = tt; err = took }

-- where the first part fails, nothing of the second is written
pub stop : {old new : Option (List ℕ)} {first : List ℕ} (second : List ℕ) → TookFront old new first → TookFront old new (first ++ second)
stop {old = old} {new = new} {first = first} second took = took_first old new first second took

-- the first part whole, and a front of the second
pub then_stop : {T E : Type 0} {old mid new : Option (List ℕ)} {first second : List ℕ} {x : T} → Writes {T = T} {E = E} old mid first (Ok x) → TookFront mid new second → TookFront old new (first ++ second)
then_stop {old = old} {mid = mid} {new = new} {first = first} {second = second} before took = took_second old mid new first second before.ok took

-- the first part, and then the second
pub writes_then : {T U E F : Type 0} {old mid new : Option (List ℕ)} {first second : List ℕ} {x : T} (result : Result U F)
    → Writes {T = T} {E = E} old mid first (Ok x) → Writes {T = U} {E = F} mid new second result → Writes {T = U} {E = F} old new (first ++ second) result
writes_then {old = old} {mid = mid} {new = new} {first = first} {second = second} (Ok y) before wrote = record {
  ok = wrote.ok ∙ ap (λ (h : Option (List ℕ)). grown h second) before.ok ∙ grown-append old first second;
  err = tt;
}
writes_then {old = old} {mid = mid} {new = new} {first = first} {second = second} (Err e) before wrote = record {
  ok = tt;
  err = took_second old mid new first second before.ok wrote.err;
}

one_more : {X : Type 0} (text : X → List ℕ) (done : List X) (x : X) → flat_map text done ++ text x ≡ flat_map text (done ++ x ∷ [])
one_more text done x =
    ap (λ (t : List ℕ). flat_map text done ++ t) (sym (append-nil (text x))) ∙ sym (flat_map-append text done (x ∷ []))

-- in a loop that writes a text for each item, one more item
pub writes_more : {T U E F X : Type 0} {old mid new : Option (List ℕ)} {a : T} {b : U} (text : X → List ℕ) (done : List X) (x : X) (z : T)
    → Writes {T = T} {E = E} old mid (flat_map text done) (Ok a) → Writes {T = U} {E = F} mid new (text x) (Ok b)
    → Writes {T = T} {E = E} old new (flat_map text (done ++ x ∷ [])) (Ok z)
writes_more {T = T} {E = E} {old = old} {mid = mid} {new = new} text done x z before wrote =
    let both : Writes {T = T} {E = E} old new (flat_map text done ++ text x) (Ok z) = writes_then (Ok z) before (record { ok = wrote.ok; err = tt }) in
    subst (λ (t : List ℕ). Writes {T = T} {E = E} old new t (Ok z)) (one_more text done x) both

-- and where it fails, a front of the texts of all items stands
pub writes_more_stop : {T U E F G X : Type 0} {old mid new : Option (List ℕ)} {a : T} {e : F} (text : X → List ℕ) (done : List X) (x : X) (rest : List X) (result : Result T G) → IsErr result
    → Writes {T = T} {E = E} old mid (flat_map text done) (Ok a) → Writes {T = U} {E = F} mid new (text x) (Err e)
    → Writes {T = T} {E = G} old new (flat_map text (done ++ x ∷ rest)) result
writes_more_stop {T = T} {G = G} {old = old} {new = new} text done x rest result failed before wrote =
    subst (λ (t : List ℕ). Writes {T = T} {E = G} old new t result) (sym (flat_map-append text done (x ∷ rest)))
    (writes_front old new (flat_map text done ++ (text x ++ flat_map text rest)) result failed (then_stop before (stop (flat_map text rest) wrote.err)))

-- the same, where the items are those of a list up to an index
pub writes_item : {T U E F X : Type 0} {old mid new : Option (List ℕ)} {a : T} {b : U} (text : X → List ℕ) (xs : List X) (i : ℕ) (d : X) (z : T) → i < length xs
    → Writes {T = T} {E = E} old mid (flat_map text (take i xs)) (Ok a) → Writes {T = U} {E = F} mid new (text (get_or xs i d)) (Ok b)
    → Writes {T = T} {E = E} old new (flat_map text (take (i + 1) xs)) (Ok z)
writes_item {T = T} {E = E} {X = X} {old = old} {new = new} text xs i d z within before wrote =
    subst (λ (ys : List X). Writes {T = T} {E = E} old new (flat_map text ys) (Ok z)) (sym (take_more xs i d within)) (writes_more text (take i xs) (get_or xs i d) z before wrote)

pub writes_item_stop : {T U E F G X : Type 0} {old mid new : Option (List ℕ)} {a : T} {e : F} (text : X → List ℕ) (xs : List X) (i : ℕ) (d : X) (result : Result T G) → i < length xs → IsErr result
    → Writes {T = T} {E = E} old mid (flat_map text (take i xs)) (Ok a) → Writes {T = U} {E = F} mid new (text (get_or xs i d)) (Err e)
    → Writes {T = T} {E = G} old new (flat_map text xs) result
writes_item_stop {T = T} {G = G} {X = X} {old = old} {new = new} text xs i d result within failed before wrote =
    let parts : take i xs ++ get_or xs i d ∷ drop (suc i) xs ≡ xs =
    ap (λ (ys : List X). take i xs ++ ys) (sym (drop-cons xs i d within)) ∙ take-append-drop i xs in
    subst (λ (ys : List X). Writes {T = T} {E = G} old new (flat_map text ys) result) parts
    (writes_more_stop text (take i xs) (get_or xs i d) (drop (suc i) xs) result failed before wrote)

-- at its end, all of them
pub writes_items : {T E : Type 0} {X : Type 0} {old new : Option (List ℕ)} {x : T} (text : X → List ℕ) (xs : List X) (i : ℕ) → length xs ≤ i → i ≤ length xs
    → Writes {T = T} {E = E} old new (flat_map text (take i xs)) (Ok x) → Writes {T = T} {E = E} old new (flat_map text xs) (Ok x)
writes_items {T = T} {E = E} {old = old} {new = new} {x = x} text xs i past within wrote =
    let all : take i xs ≡ xs = ap (λ (n : ℕ). take n xs) (omega arith) ∙ take-length xs in
    subst (λ (t : List ℕ). Writes {T = T} {E = E} old new t (Ok x)) (ap (flat_map text) all) wrote
