-- Rows and packets, one after another.
use Rattle.std.proofs.Common.{◌≡◌, ℕ, ℤ, ◌+◌, ◌<◌, List, [], ◌∷◌, ◌++◌, length, get_or, take, refl, sym, ap, ◌∙◌, subst, arith, append_assoc, append-nil}
use Rattle.std.specs.List.{flat_map}
use Rattle.std.proofs.lemmas.List.{take_more}
use Rattle.std.proofs.lemmas.List.FromFn.{map-range_with_len_more}
use Rattle.std.proofs.lemmas.Grind.{flat_map-append}
use Rattle.hash_rows.specs.declared.options.Full.{Full}
use Rattle.hash_rows.specs.declared.shape.Packet.{Packet}
use Rattle.hash_rows.specs.declared.shape.Shape.{Shape}
use Rattle.hash_rows.specs.declared.shape.Update.{Update}
use Rattle.hash_rows.specs.Rules.{Rules}
use Rattle.hash_rows.specs.Shapes.{cell_of}
use Rattle.push_history.specs.Share.{packet_at}
use Rattle.push_history.specs.Updates.{update_in_row, updates_at, updates_of}
use Rattle.push_lane.specs.Views.{InView}
use Rattle.hash_rows.specs.declared.shape.Push.{Push}
use Rattle.push_history.specs.Pushes.{LawfulPushes}
use Rattle.push_history.proofs.Lawfuls.{lawful_none}
use Rattle.push_rule.specs.Stands.{PrivateView, StandsFor}
use Rattle.thread_work.specs.Worked.{HasTold, KeepsSketch, updates_of_packet}

pub same_then : {H : Type 0} (a b c : PrivateView H) → KeepsSketch a b → KeepsSketch b c → KeepsSketch a c
same_then a b c x y = record { threshold = y.threshold ∙ x.threshold; room = y.room ∙ x.room; cells = y.cells ∙ x.cells }

pub same_self : {H : Type 0} (a : PrivateView H) → KeepsSketch a a
same_self a = record { threshold = refl; room = refl; cells = refl }

made : (r : Rules) (shape : Shape) (position : ℕ) (packet : Packet) (row cell : ℕ) (value : ℤ) → cell ≡ cell_of shape packet.key row → value ≡ r.value shape packet row
    → update_in_row r shape position packet row ≡ record { packet = position; key = packet.key; cell = cell; value = value }
unfolding update_in_row
made r shape position packet row cell value place is =
    ap (λ (c : ℕ). record { packet = position; key = packet.key; cell = c; value = r.value shape packet row }) (sym place)
    ∙ ap (λ (v : ℤ). record { packet = position; key = packet.key; cell = cell; value = v }) (sym is)

module _ {H : Type 0} (stands : H → ℤ → ℤ → Type 0) (r : Rules) (w L : ℕ) (full : Full) (sketch : PrivateView H) (pass : InView) where
  -- one row more of a packet
  pub told_row : (shape : Shape) (packet : Packet) (position row cell : ℕ) (value : ℤ) (U : List Update) → cell ≡ cell_of shape packet.key row → value ≡ r.value shape packet row
      → HasTold stands r w L full sketch pass (U ++ updates_of_packet r shape position packet row ++ record { packet = position; key = packet.key; cell = cell; value = value } ∷ [])
      → HasTold stands r w L full sketch pass (U ++ updates_of_packet r shape position packet (row + 1))
  told_row shape packet position row cell value U place is h =
      let u : Update = record { packet = position; key = packet.key; cell = cell; value = value } in
      let before = updates_of_packet r shape position packet row in
      let more : updates_of_packet r shape position packet (row + 1) ≡ before ++ u ∷ [] =
      map-range_with_len_more (update_in_row r shape position packet) 0 row row (omega arith) ∙ ap (λ (x : Update). before ++ x ∷ []) (made r shape position packet row cell value place is) in
      subst (HasTold stands r w L full sketch pass) (append_assoc U before (u ∷ []) ∙ ap (λ (l : List Update). U ++ l) (sym more)) h

  -- one packet more of a share
  pub told_packet : (shape : Shape) (packets : List Packet) (share : List ℕ) (place position : ℕ) → place < length share → position ≡ get_or share place 0
      → HasTold stands r w L full sketch pass (updates_of r shape packets (take place share) ++ updates_of_packet r shape position (packet_at packets position) shape.rows)
      → HasTold stands r w L full sketch pass (updates_of r shape packets (take (place + 1) share))
  unfolding updates_of updates_at
  told_packet shape packets share place position lt is h =
      let f = updates_at r shape packets in
      let all : flat_map f (take (place + 1) share) ≡ flat_map f (take place share) ++ (f position ++ []) =
      ap (flat_map f) (take_more share place 0 lt) ∙ ap (λ (n : ℕ). flat_map f (take place share ++ n ∷ [])) (sym is) ∙ flat_map-append f (take place share) (position ∷ []) in
      subst (HasTold stands r w L full sketch pass) (ap (λ (l : List Update). flat_map f (take place share) ++ l) (sym (append-nil (f position))) ∙ sym all) h

-- nothing is told
pub told_none : {H : Type 0} (stands : H → ℤ → ℤ → Type 0) (r : Rules) (w L : ℕ) (full : Full) (sketch : PrivateView H) (pass : InView) (shape : Shape) (packets : List Packet) → StandsFor stands r sketch [] [] [] → pass.sent ≡ [] → pass.fulls ≡ 0
    → HasTold stands r w L full sketch pass (updates_of r shape packets [])
unfolding updates_of
told_none stands r w L full sketch pass shape packets stood sent fulls = record {
  refused = [];
  sketch_is = subst (λ (S : List Push). StandsFor stands r sketch [] S []) (sym sent) stood;
  lawful = subst (λ (S : List Push). LawfulPushes r w sketch.threshold L full [] S []) (sym sent) (lawful_none r w sketch.threshold L full);
  fulls = λ _. fulls;
  few = omega arith;
}
