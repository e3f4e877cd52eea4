-- What a copy of the live state shows.
use Rattle.std.proofs.Common.{◌≡◌, ◌<◌, ◌≤◌, ℕ, zero, suc, ◌+◌, min, List, [], ◌∷◌, ◌++◌, length, length-append, slice_get, Some, refl, sym, ap, ap₂, ◌∙◌, subst, arith, inl, inr, ◌⊎◌}
use Rattle.std.specs.Prelude.{map}
use Rattle.std.proofs.lemmas.Option.{slice_get_within}
use Rattle.packet_key.specs.declared.key.FlowKey.{FlowKey}
use Rattle.listed.specs.Listed.{Listed}
use Rattle.hash_rows.specs.declared.answer.Answer.{Answer}
use Rattle.hash_rows.specs.declared.options.Options.{Options}
use Rattle.hash_rows.specs.Rules.{Rules}
use Rattle.push_history.specs.Journal.{keys_of}
use Rattle.push_history.specs.LagRun.{Terms}
use Rattle.push_history.specs.Shown.{told_cells}
use Rattle.live_state.specs.Copies.{IsCopyOf}
use Rattle.live_state.specs.Fold.{StateView, state_after, layout_in}
use Rattle.live_state.proofs.Live.{shows_all}
use Rattle.round_law.specs.OwnRounds.{folded_after}
use Rattle.push_history.specs.Looks.{IsLook}
use Rattle.octo_engine.specs.Looks.{AreAllLooks, AreLooks, AreMoreLooks, Runs}

-- a list with one item more, place by place
pub at_end : {A : Type 0} (xs : List A) (x : A) (k : ℕ) (y : A) → slice_get (xs ++ x ∷ []) k ≡ Some y → (slice_get xs k ≡ Some y) ⊎ ((k ≡ length xs) × (y ≡ x))
at_end [] x zero y is = inr (refl, sym (search is))
at_end [] x (suc k) y is = absurd (let below = slice_get_within [] k y is in omega (arith, below))
at_end (z ∷ xs) x zero y is = inl is
at_end (z ∷ xs) x (suc k) y is = elim (at_end xs x k y is) [ inl h ↦ inl h | inr h ↦ inr (omega (arith, h.0), h.1) ]

module _ (r : Rules) (t : Terms) (o : Options) (runs : Runs r t o) where
  -- a copy of the state after some rounds
  pub look_is : (n : ℕ) (s : StateView) (keys : List FlowKey) (a : Answer) → s ≡ state_after r (layout_in o) (folded_after t o n) → keys ≡ keys_of o → IsCopyOf r s keys a → IsLook r o (folded_after t o n) a
  look_is n s keys a is asked copy =
      let messages = folded_after t o n in
      let few = runs.few n in
      let shows = shows_all r (layout_in o) messages (runs.fit n) (omega (arith, few)) in
      record {
        folded = copy.folded ∙ ap (λ z. z.folded) is ∙ shows.folded;
        front = copy.front ∙ ap (λ z. z.front) is ∙ shows.front;
        upto = copy.upto ∙ ap (λ z. z.upto) is ∙ shows.upto;
        shown = copy.shown
            ∙ ap (λ (z : StateView). map (r.estimate z.table.shape z.table.cells) keys) is
            ∙ ap₂ (λ sh cells. map (r.estimate sh cells) keys) shows.shape shows.cells
            ∙ ap (λ (ks : List FlowKey). map (r.estimate o.shape (told_cells r o.shape messages)) ks) asked;
      }

  pub looks_more : (n : ℕ) (looks new : Listed Answer) (a : Answer) → AreLooks r t o n looks → length looks.items < looks.room → IsLook r o (folded_after t o (n + 1)) a
      → new.items ≡ looks.items ++ a ∷ [] → new.room ≡ looks.room → AreLooks r t o (n + 1) new
  looks_more n looks new a are less look items room =
      let len = are.len in
      let was = are.room in
      let long = ap length items ∙ length-append looks.items (a ∷ []) in
      let here : length looks.items ≡ n = omega (arith, len, was, less) in
      let each : (k : ℕ) (b : Answer) → slice_get new.items k ≡ Some b → IsLook r o (folded_after t o (k + 1)) b = λ k b is.
      elim (at_end looks.items a k b (ap (λ (l : List Answer). slice_get l k) (sym items) ∙ is)) [
        | inl early ↦ are.each k b early
        | inr last ↦
            let place : n + 1 ≡ k + 1 = omega (arith, here, last.0) in
            subst (λ (z : Answer). IsLook r o (folded_after t o (k + 1)) z) (sym last.1) (subst (λ m. IsLook r o (folded_after t o m) a) place look)
      ] in
      record { room = room ∙ was; len = omega (arith, len, was, less, long, here); each = each }

  pub looks_enough : (n : ℕ) (looks : Listed Answer) → AreLooks r t o n looks → looks.room ≤ length looks.items → AreLooks r t o (n + 1) looks
  looks_enough n looks are full =
      let len = are.len in
      let room = are.room in
      record { room = room; len = omega (arith, len, room, full); each = are.each }

  pub looks_begin : (n : ℕ) (looks : Listed Answer) → AreLooks r t o n looks → AreMoreLooks r t o n looks
  looks_begin n looks are =
      let len = are.len in
      record {
        room = are.room;
        most = omega (arith, len);
        least = omega (arith, len);
        each = λ k a is.
            let below = slice_get_within looks.items k a is in
            let same : k + 1 ≡ min (k + 1) n = omega (arith, below, len) in
            subst (λ m. IsLook r o (folded_after t o m) a) same (are.each k a is);
      }

  pub looks_fill : (n : ℕ) (looks new : Listed Answer) (a : Answer) → AreMoreLooks r t o n looks → length looks.items < looks.room → IsLook r o (folded_after t o n) a
      → new.items ≡ looks.items ++ a ∷ [] → new.room ≡ looks.room → AreMoreLooks r t o n new
  looks_fill n looks new a are less look items room =
      let most = are.most in
      let least = are.least in
      let was = are.room in
      let long = ap length items ∙ length-append looks.items (a ∷ []) in
      let each : (k : ℕ) (b : Answer) → slice_get new.items k ≡ Some b → IsLook r o (folded_after t o (min (k + 1) n)) b = λ k b is.
      elim (at_end looks.items a k b (ap (λ (l : List Answer). slice_get l k) (sym items) ∙ is)) [
        | inl early ↦ are.each k b early
        | inr last ↦
            let place : n ≡ min (k + 1) n = omega (arith, least, was, less, last.0) in
            subst (λ (z : Answer). IsLook r o (folded_after t o (min (k + 1) n)) z) (sym last.1) (subst (λ m. IsLook r o (folded_after t o m) a) place look)
      ] in
      record { room = room ∙ was; most = omega (arith, was, less, long); least = omega (arith, least, long); each = each }

  pub looks_all : (n : ℕ) (looks : Listed Answer) → AreMoreLooks r t o n looks → looks.room ≤ length looks.items → AreAllLooks r t o n looks.items
  looks_all n looks are full =
      let most = are.most in
      let room = are.room in
      record { len = omega (arith, most, room, full); each = are.each }
