-- One update more, counted again.
use Rattle.std.proofs.Common.{◌≡◌, ◌<◌, ◌≤◌, ℕ, ℤ, ◌-◌, ◌||◌, List, [], ◌∷◌, ◌++◌, length, Bool, true, false, nat_lt, if◌then◌else◌, refl, sym, ap, ap₂, ◌∙◌, subst, arith}
use Rattle.std.specs.Prelude.{Option, Some, MatchOption}
use Rattle.std.proofs.lemmas.List.{length_push}
use Rattle.packet_key.specs.declared.key.FlowKey.{FlowKey}
use Rattle.hash_rows.specs.declared.shape.Update.{Update}
use Rattle.hash_rows.specs.declared.shape.Push.{Push}
use Rattle.hash_rows.specs.Rules.{Rules}
use Rattle.push_history.specs.Pushes.{is_refused}
use Rattle.push_history.specs.Told.{told_of}
use Rattle.push_history.specs.Whole.{whole_of}
use Rattle.push_rule.specs.Stands.{PrivateView, StandsAt, StandsFor, Owes}
use Rattle.push_rule.proofs.Standing.{whole_own}
use Rattle.given_law.specs.Given.{given_messages}
use Rattle.given_law.proofs.Determined.{given_push, push_of}

module _ (r : Rules) (w T : ℕ) (F : List ℕ) (U : List Update) (u : Update) (S : List Push) (is : S ≡ given_messages r w T U F) where
  -- what is told of the update's cell, and how far that is from the whole with it
  abbrev pub told_here : ℤ
  told_here = told_of r u.cell S

  abbrev pub distance_here : ℕ
  distance_here = r.distance told_here (r.join (whole_of r u.cell U) u.value)

  abbrev pub amount_here : ℤ
  amount_here = r.gap told_here (whole_of r u.cell (U ++ u ∷ []))

  next_is : given_messages r w T (U ++ u ∷ []) F
      ≡ (if nat_lt distance_here T || is_refused (length U) F then S else S ++ push_of w u.packet (length U) u.key u.cell amount_here ∷ [])
  next_is =
      given_push r w T U u F S is
      ∙ ap (λ (z : ℤ). if nat_lt (r.distance told_here z) T || is_refused (length U) F then S else S ++ push_of w u.packet (length U) u.key u.cell amount_here ∷ []) (whole_own r U u)

  pub after_quiet : distance_here < T → S ≡ given_messages r w T (U ++ u ∷ []) F
  after_quiet near =
      let low : nat_lt distance_here T ≡ true = grind arith in
      sym (next_is ∙ ap (λ (b : Bool). if b || is_refused (length U) F then S else S ++ push_of w u.packet (length U) u.key u.cell amount_here ∷ []) low)

  pub after_refused : is_refused (length U) F ≡ true → S ≡ given_messages r w T (U ++ u ∷ []) F
  after_refused refused =
      sym (next_is
      ∙ ap (λ (b : Bool). if nat_lt distance_here T || b then S else S ++ push_of w u.packet (length U) u.key u.cell amount_here ∷ []) refused
      ∙ elim (nat_lt distance_here T) as (λ b. (if b || true then S else S ++ push_of w u.packet (length U) u.key u.cell amount_here ∷ []) ≡ S) [ true ↦ refl | false ↦ refl ])

  pub after_sent : T ≤ distance_here → is_refused (length U) F ≡ false → S ++ push_of w u.packet (length U) u.key u.cell amount_here ∷ [] ≡ given_messages r w T (U ++ u ∷ []) F
  after_sent far free =
      let high : nat_lt distance_here T ≡ false = grind arith in
      sym (next_is ∙ ap₂ (λ (a b : Bool). if a || b then S else S ++ push_of w u.packet (length U) u.key u.cell amount_here ∷ []) high free)

  module _ {H : Type 0} (stands : H → ℤ → ℤ → Type 0) (old : PrivateView H) (kept : List ℕ) (was : StandsFor stands r old U S kept) (threshold : old.threshold ≡ T) where
    -- what the count says
    pub owes_here : (v : ℤ) → v ≡ u.value → (answer : Option ℤ)
        → ((told whole : ℤ) → StandsAt stands old.held u.cell told whole → Owes r old.threshold told (r.join whole v) answer)
        → Owes r T told_here (r.join (whole_of r u.cell U) u.value) answer
    owes_here v value answer h =
        subst (λ (n : ℕ). Owes r n told_here (r.join (whole_of r u.cell U) u.value) answer) threshold
        (subst (λ (z : ℤ). Owes r old.threshold told_here (r.join (whole_of r u.cell U) z) answer) value
        (h told_here (whole_of r u.cell U) (was.cells u.cell)))

    pub counted_here : (v : ℤ) → v ≡ u.value → (mid : PrivateView H)
        → ((packet : ℕ) (key : FlowKey) (updates : List Update) (messages : List Push) (refused : List ℕ) → StandsFor stands r old updates messages refused
        → StandsFor stands r mid (updates ++ record { packet = packet; key = key; cell = u.cell; value = v } ∷ []) messages refused)
        → StandsFor stands r mid (U ++ u ∷ []) S kept
    counted_here v value mid h =
        subst (λ (z : ℤ). StandsFor stands r mid (U ++ record { packet = u.packet; key = u.key; cell = u.cell; value = z } ∷ []) S kept) value
        (h u.packet u.key U S kept was)

    pub sent_here : (mid new : PrivateView H) → mid.due ≡ Some u.cell → StandsFor stands r mid (U ++ u ∷ []) S kept
        → ((worker packet : ℕ) (key : FlowKey) (updates : List Update) (messages : List Push) (refused : List ℕ) → StandsFor stands r mid updates messages refused
        → MatchOption mid.due (StandsFor stands r new updates messages refused)
        (λ cell. StandsFor stands r new updates (messages ++ record {
          worker = worker;
          packet = packet;
          update = mid.counted - 1;
          key = key;
          cell = cell;
          amount = r.gap (told_of r cell messages) (whole_of r cell updates);
        } ∷ []) refused))
        → StandsFor stands r new (U ++ u ∷ []) (S ++ push_of w u.packet (length U) u.key u.cell amount_here ∷ []) kept
    sent_here mid new due stood h =
        let number : mid.counted - 1 ≡ length U = omega (arith, stood.all_counted, length_push U u) in
        let at = subst (λ (o : Option ℕ). MatchOption o (StandsFor stands r new (U ++ u ∷ []) S kept)
        (λ cell. StandsFor stands r new (U ++ u ∷ []) (S ++ push_of w u.packet (mid.counted - 1) u.key cell (r.gap (told_of r cell S) (whole_of r cell (U ++ u ∷ []))) ∷ []) kept)) due
        (h w u.packet u.key (U ++ u ∷ []) S kept stood) in
        subst (λ (n : ℕ). StandsFor stands r new (U ++ u ∷ []) (S ++ push_of w u.packet n u.key u.cell amount_here ∷ []) kept) number at

  pub message_here : (worker number : ℕ) (amount : ℤ) → worker ≡ w → number ≡ length U → amount ≡ amount_here
      → push_of worker u.packet number u.key u.cell amount ≡ push_of w u.packet (length U) u.key u.cell amount_here
  message_here worker number amount a b c =
      ap (λ (n : ℕ). push_of n u.packet number u.key u.cell amount) a
      ∙ ap₂ (λ (n : ℕ) (z : ℤ). push_of w u.packet n u.key u.cell z) b c
