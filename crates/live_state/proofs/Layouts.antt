-- A message leaves what a state is made for.
use Rattle.std.proofs.Common.{◌≡◌, ℕ, ℤ, Bool, true, false, cond, List, [], ◌∷◌, length, fold, refl, ◌∙◌}
use Rattle.std.specs.Prelude.{nat_lt}
use Rattle.std.proofs.lemmas.List.{length-set, length-replicate}
use Rattle.packet_key.specs.declared.key.FlowKey.{FlowKey}
use Rattle.hash_rows.specs.declared.shape.Push.{Push}
use Rattle.hash_rows.specs.Rules.{Rules}
use Rattle.hash_rows.specs.Tables.{put_in}
use Rattle.heavy_keys.specs.Noted.{HeavyTable, is_due, noted}
use Rattle.live_state.specs.declared.layout.Layout.{Layout}
use Rattle.live_state.specs.Fold.{StateView, fits, added, absorbed, fresh_state, layout_of, key_noted, front_raised}

abbrev terms_of : HeavyTable → ℕ × ℤ
terms_of h = (h.limit, h.least)

chosen_terms : (b : Bool) (h g : HeavyTable) → terms_of g ≡ terms_of h → terms_of (cond b g h) ≡ terms_of h
chosen_terms true h g e = e
chosen_terms false h g e = refl

either_terms : (b : Bool) (h g k : HeavyTable) → terms_of g ≡ terms_of h → terms_of k ≡ terms_of h → terms_of (cond b g k) ≡ terms_of h
either_terms true h g k e f = e
either_terms false h g k e f = f

noted_terms : (h : HeavyTable) (key : FlowKey) (estimate : ℤ) → terms_of (noted h key estimate) ≡ terms_of h
noted_terms h key estimate = chosen_terms (is_due h key estimate) h _ (either_terms (nat_lt (length h.keys) h.limit) h _ _ refl refl)

module _ (r : Rules) where
  pub added_layout : (s : StateView) (m : Push) → layout_of (added r s m) ≡ layout_of s
  added_layout s m =
      let table = put_in r.join s.table m.cell m.amount in
      let heavy : terms_of (key_noted r table s.heavy m.key) ≡ terms_of s.heavy = chosen_terms r.keyed s.heavy _ (noted_terms s.heavy m.key (r.estimate table.shape table.cells m.key)) in
      let front : length (front_raised s.front m.worker) ≡ length s.front = length-set s.front m.worker _ in
      λ i. record { shape = s.table.shape; workers = front i; heavy = (heavy i).0; least = (heavy i).1 }

  chosen_layout : (b : Bool) (s t : StateView) → layout_of t ≡ layout_of s → layout_of (cond b t s) ≡ layout_of s
  chosen_layout true s t e = e
  chosen_layout false s t e = refl

  pub absorbed_layout : (s : StateView) (m : Push) → layout_of (absorbed r s m) ≡ layout_of s
  absorbed_layout s m = chosen_layout (fits r (layout_of s) m) s (added r s m) (added_layout s m)

  pub layout_all : (s : StateView) (messages : List Push) → layout_of (fold (absorbed r) s messages) ≡ layout_of s
  layout_all s [] = refl
  layout_all s (m ∷ messages) = layout_all (absorbed r s m) messages ∙ absorbed_layout s m

pub fresh_layout : (l : Layout) → layout_of (fresh_state l) ≡ l
fresh_layout l = λ i. record { shape = l.shape; workers = length-replicate {A = ℕ} l.workers 0 i; heavy = l.heavy; least = l.least }
