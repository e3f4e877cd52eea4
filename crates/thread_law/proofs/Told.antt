-- What the messages up to a front tell is what a beginning of the fold tells.
use Rattle.std.proofs.Common.{◌≡◌, ◌<◌, ◌+◌, ℕ, List, [], length, take, get_or, true, sym, ap, ◌∙◌, arith}
use Rattle.std.specs.Prelude.{All, map}
use Rattle.std.specs.List.{zip}
use Rattle.std.proofs.lemmas.List.{length-take}
use Rattle.std.proofs.lemmas.List.Elements.{All-take}
use Rattle.std.proofs.lemmas.Option.{get_or_from_slice_get, slice_get_within, slice_get-get_or}
use Rattle.hash_rows.specs.declared.shape.Push.{Push}
use Rattle.hash_rows.specs.declared.shape.Shape.{Shape}
use Rattle.hash_rows.specs.Rules.{Rules, AreLaws}
use Rattle.hash_rows.specs.Shapes.{size_of}
use Rattle.push_history.specs.Front.{IsFront, front_of, messages_of, upto_of, uptos_of}
use Rattle.push_history.specs.LawfulJournal.{sent_by}
use Rattle.push_history.specs.Shown.{shown_cells, shown_of, told_cells}
use Rattle.push_history.specs.Told.{told_of}
use Rattle.push_history.proofs.Folded.{fold_shown}
use Rattle.push_history.proofs.MoreMessages.{front_at, front_len, upto_firsts}
use Rattle.push_history.proofs.Notes.{map_range_same}
use Rattle.fold_law.specs.Folds.{IsFoldOf}
use Rattle.push_history.proofs.PlaceLists.{map_zip_from}
use Rattle.fold_law.proofs.Fronts.{begins_all}

module _ (messages : List (List Push)) (folded : List Push) (fold : IsFoldOf messages folded) (k : ℕ) where
  -- the worker's messages in the first k of the fold are its first ones
  own_firsts : (w : ℕ) → w < length messages → messages_of w (take k folded) ≡ take (length (messages_of w (take k folded))) (sent_by messages w)
  own_firsts w lt = begins_all w folded k ∙ ap (take (length (messages_of w (take k folded)))) (fold.in_order w lt)

  pub is_front : IsFront messages (front_of (length messages) (take k folded))
  is_front = record {
    workers = front_len (length messages) (take k folded);
    within = λ w lt.
        let at = front_at (length messages) (take k folded) w lt in
        let len = ap length (own_firsts w lt) in
        omega (arith, at, len, length-take (length (messages_of w (take k folded))) (sent_by messages w));
  }

  pub cells_shown : (r : Rules) → AreLaws r → (shape : Shape) → All (λ m. r.is_value m.amount ≡ true) folded
      → told_cells r shape (take k folded) ≡ shown_cells r shape messages (front_of (length messages) (take k folded))
  unfolding shown_cells told_cells
  cells_shown r laws shape values =
      map_range_same (λ cell. told_of r cell (take k folded)) (shown_of r messages (front_of (length messages) (take k folded))) 0 (size_of shape)
      (λ cell _ _. sym (fold_shown r laws (length messages) messages (take k folded) (omega arith)
      (All-take (λ m. m.worker < length messages) k folded fold.of_workers) (All-take (λ m. r.is_value m.amount ≡ true) k folded values)
      (λ w sent is. own_firsts w (slice_get_within messages w sent is) ∙ ap (take (length (messages_of w (take k folded)))) (get_or_from_slice_get messages w sent [] is)) cell))

  -- the last updates of the first k of the fold are those of their front
  pub uptos_match : uptos_of (length messages) (take k folded) ≡ map (λ p. upto_of p.0 p.1) (zip messages (front_of (length messages) (take k folded)))
  unfolding uptos_of front_of
  uptos_match =
      let count : ℕ → ℕ = λ w. length (messages_of w (take k folded)) in
      let f : List Push × ℕ → ℕ = λ p. upto_of p.0 p.1 in
      sym (map_zip_from f count (λ w. upto_of (messages_of w (take k folded)) (count w)) messages 0 (length messages) (omega arith)
      (λ i d lt.
      let at : i ≡ 0 + i = omega arith in
      let own : get_or messages i d ≡ sent_by messages i = sym (get_or_from_slice_get messages i (get_or messages i d) [] (slice_get-get_or messages i d lt)) in
      ap (λ (b : List Push). upto_of b (count (0 + i))) own
      ∙ ap (λ (b : ℕ). upto_of (sent_by messages i) (count b)) (sym at)
      ∙ upto_firsts (messages_of i (take k folded)) (sent_by messages i) (own_firsts i lt)
      ∙ ap (λ (b : ℕ). upto_of (messages_of b (take k folded)) (count b)) at))
