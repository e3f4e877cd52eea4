-- The notes of messages, one message more.
use Rattle.std.proofs.Common.{◌≡◌, ◌<◌, ◌≤◌, ℕ, zero, suc, ◌+◌, pos, List, [], ◌∷◌, ◌++◌, length, refl, ap, ap₂, ◌∙◌, arith}
use Rattle.std.specs.Prelude.{map}
use Rattle.std.specs.List.{range_with_len}
use Rattle.std.proofs.lemmas.List.{get_or_append_left, get_or_push, length_push, take-append-le, take_all}
use Rattle.std.proofs.lemmas.List.FromFn.{map-range_with_len_more}
use Rattle.hash_rows.specs.declared.shape.Flow.{Flow}
use Rattle.hash_rows.specs.declared.shape.Push.{Push}
use Rattle.hash_rows.specs.declared.shape.Shape.{Shape}
use Rattle.hash_rows.specs.Rules.{Rules}
use Rattle.push_history.specs.Share.{zero_key}
use Rattle.push_history.specs.LiveHeavy.{note_at, notes_of}
use Rattle.push_history.specs.Shown.{told_cells}

-- functions that agree on some numbers
pub map_range_same : {X : Type 0} (f g : ℕ → X) (first n : ℕ) → ((k : ℕ) → first ≤ k → k < first + n → f k ≡ g k) → map f (range_with_len first n) ≡ map g (range_with_len first n)
map_range_same f g first zero same = refl
map_range_same f g first (suc n) same =
    ap₂ (λ x t. x ∷ t) (same first (omega arith) (omega arith)) (map_range_same f g (first + 1) n (λ k from to. same k (omega (arith, from)) (omega (arith, to))))

-- the note of a message
abbrev pub note_by : Rules → Shape → List Push → Push → Flow
note_by r shape before m = record { key = m.key; estimate = r.estimate shape (told_cells r shape (before ++ m ∷ [])) m.key }

note_before : (r : Rules) (shape : Shape) (messages : List Push) (m : Push) (p : ℕ) → p < length messages → note_at r shape (messages ++ m ∷ []) p ≡ note_at r shape messages p
unfolding note_at
note_before r shape messages m p lt =
    ap₂ (λ (x : Push) (t : List Push). record { key = x.key; estimate = r.estimate shape (told_cells r shape t) x.key })
    (get_or_append_left messages (m ∷ []) (record { worker = 0; packet = 0; update = 0; key = zero_key; cell = 0; amount = pos 0 }) p lt)
    (take-append-le (p + 1) messages (m ∷ []) (omega arith))

note_last : (r : Rules) (shape : Shape) (messages : List Push) (m : Push) → note_at r shape (messages ++ m ∷ []) (length messages) ≡ note_by r shape messages m
unfolding note_at
note_last r shape messages m =
    ap₂ (λ (x : Push) (t : List Push). record { key = x.key; estimate = r.estimate shape (told_cells r shape t) x.key })
    (get_or_push messages m (record { worker = 0; packet = 0; update = 0; key = zero_key; cell = 0; amount = pos 0 }) (length messages) refl)
    (take_all (length messages + 1) (messages ++ m ∷ []) (omega (arith, length_push messages m)))

-- one message more is one note more
pub notes_push : (r : Rules) (shape : Shape) (messages : List Push) (m : Push) → notes_of r shape (messages ++ m ∷ []) ≡ notes_of r shape messages ++ note_by r shape messages m ∷ []
unfolding notes_of
notes_push r shape messages m =
    ap (λ (n : ℕ). map (note_at r shape (messages ++ m ∷ [])) (range_with_len 0 n)) (length_push messages m)
    ∙ map-range_with_len_more (note_at r shape (messages ++ m ∷ [])) 0 (length messages) (length messages) (omega arith)
    ∙ ap₂ (λ t x. t ++ x ∷ [])
    (map_range_same (note_at r shape (messages ++ m ∷ [])) (note_at r shape messages) 0 (length messages) (λ k from to. note_before r shape messages m k (omega (arith, to))))
    (note_last r shape messages m)

pub notes_none : (r : Rules) (shape : Shape) → notes_of r shape [] ≡ []
unfolding notes_of
notes_none r shape = refl
