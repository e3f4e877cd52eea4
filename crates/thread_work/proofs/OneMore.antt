-- A worker takes up one update more.
use Rattle.std.proofs.Common.{◌≡◌, ◌<◌, ◌≤◌, ℕ, ℤ, ◌+◌, ◌-◌, ◌^◌, List, [], ◌∷◌, ◌++◌, length, sym, ap, ◌∙◌, subst, arith}
use Rattle.std.specs.Prelude.{Option, Some, MatchOption}
use Rattle.std.proofs.lemmas.List.{length_push}
use Rattle.packet_key.specs.declared.key.FlowKey.{FlowKey}
use Rattle.hash_rows.specs.declared.options.Full.{Full}
use Rattle.hash_rows.specs.declared.options.Full.TheVariants.{Leave}
use Rattle.hash_rows.specs.declared.shape.Update.{Update}
use Rattle.hash_rows.specs.declared.shape.Push.{Push}
use Rattle.hash_rows.specs.Rules.{Rules}
use Rattle.push_history.specs.Pushes.{LawfulPushes}
use Rattle.push_history.specs.Told.{told_of}
use Rattle.push_history.specs.Whole.{whole_of}
use Rattle.push_history.proofs.Lawfuls.{lawful_counted, lawful_refused, lawful_sent}
use Rattle.push_lane.specs.Views.{InView, one_more_or_last}
use Rattle.push_rule.specs.Stands.{PrivateView, StandsFor, StandsAt, Owes}
use Rattle.push_rule.proofs.Standing.{whole_own}
use Rattle.thread_work.specs.Worked.{HasTold}

module _ {H : Type 0} (stands : H → ℤ → ℤ → Type 0) (r : Rules) (w L : ℕ) (full : Full) (old : PrivateView H) (pass : InView) (U : List Update) (u : Update)
    (h : HasTold stands r w L full old pass U) where
  -- how far the update's cell is from what was told of it
  abbrev far_next : ℕ
  far_next = r.distance (told_of r u.cell pass.sent) (whole_of r u.cell (U ++ u ∷ []))

  pub owes_next : (v : ℤ) → v ≡ u.value → (answer : Option ℤ)
      → ((told whole : ℤ) → StandsAt stands old.held u.cell told whole → Owes r old.threshold told (r.join whole v) answer)
      → Owes r old.threshold (told_of r u.cell pass.sent) (whole_of r u.cell (U ++ u ∷ [])) answer
  owes_next v is answer owes =
      let at : Owes r old.threshold (told_of r u.cell pass.sent) (r.join (whole_of r u.cell U) v) answer = owes (told_of r u.cell pass.sent) (whole_of r u.cell U) (h.sketch_is.cells u.cell) in
      subst (λ (z : ℤ). Owes r old.threshold (told_of r u.cell pass.sent) z answer) (ap (r.join (whole_of r u.cell U)) is ∙ sym (whole_own r U u)) at

  pub counted_next : (v : ℤ) → v ≡ u.value → (mid : PrivateView H)
      → ((packet : ℕ) (key : FlowKey) (updates : List Update) (messages : List Push) (refused : List ℕ) → StandsFor stands r old updates messages refused
      → StandsFor stands r mid (updates ++ record { packet = packet; key = key; cell = u.cell; value = v } ∷ []) messages refused)
      → StandsFor stands r mid (U ++ u ∷ []) pass.sent h.refused
  counted_next v is mid clause =
      subst (λ (z : ℤ). StandsFor stands r mid (U ++ record { packet = u.packet; key = u.key; cell = u.cell; value = z } ∷ []) pass.sent h.refused) is
      (clause u.packet u.key U pass.sent h.refused h.sketch_is)

  long : length (U ++ u ∷ []) ≡ length U + 1
  long = length_push U u

  -- no push is due
  pub told_quiet : (new : PrivateView H) → new.threshold ≡ old.threshold → far_next < old.threshold → StandsFor stands r new (U ++ u ∷ []) pass.sent h.refused
      → HasTold stands r w L full new pass (U ++ u ∷ [])
  told_quiet new threshold near stood = record {
    refused = h.refused;
    sketch_is = stood;
    lawful = subst (λ (n : ℕ). LawfulPushes r w n L full (U ++ u ∷ []) pass.sent h.refused) (sym threshold) (lawful_counted r w old.threshold L full U u pass.sent h.refused h.lawful near);
    fulls = h.fulls;
    few = omega (arith, h.few, long);
  }

  -- the number of the update that is due
  number_next : (mid : PrivateView H) → StandsFor stands r mid (U ++ u ∷ []) pass.sent h.refused → mid.counted - 1 ≡ length U
  number_next mid stood = omega (arith, stood.all_counted, long)

  -- the push was sent
  pub told_sent : (mid new : PrivateView H) (after : InView) (m : Push) → mid.due ≡ Some u.cell → StandsFor stands r mid (U ++ u ∷ []) pass.sent h.refused
      → new.threshold ≡ old.threshold → old.threshold ≤ far_next
      → m.worker ≡ w → m.packet ≡ u.packet → m.update ≡ old.counted → m.key ≡ u.key → m.cell ≡ u.cell
      → m.amount ≡ r.gap (told_of r u.cell pass.sent) (whole_of r u.cell (U ++ u ∷ []))
      → after.sent ≡ pass.sent ++ m ∷ [] → (full ≡ Leave → after.fulls ≡ pass.fulls)
      → ((worker packet : ℕ) (key : FlowKey) (updates : List Update) (messages : List Push) (refused : List ℕ) → StandsFor stands r mid updates messages refused
      → MatchOption mid.due (StandsFor stands r new updates messages refused)
      (λ cell. StandsFor stands r new updates (messages ++ record {
        worker = worker;
        packet = packet;
        update = mid.counted - 1;
        key = key;
        cell = cell;
        amount = r.gap (told_of r cell messages) (whole_of r cell updates);
      } ∷ []) refused))
      → HasTold stands r w L full new after (U ++ u ∷ [])
  told_sent mid new after m due stood threshold far worker packet number key cell amount sent fulls clause =
      let V = U ++ u ∷ [] in
      let update : m.update ≡ length U = number ∙ h.sketch_is.all_counted in
      let told : ℕ → ℕ → Push = λ n c. record { worker = m.worker; packet = m.packet; update = n; key = m.key; cell = c; amount = r.gap (told_of r c pass.sent) (whole_of r c V) } in
      let one : StandsFor stands r new V (pass.sent ++ told (mid.counted - 1) u.cell ∷ []) h.refused =
      subst (λ (o : Option ℕ). MatchOption o (StandsFor stands r new V pass.sent h.refused) (λ c. StandsFor stands r new V (pass.sent ++ told (mid.counted - 1) c ∷ []) h.refused)) due
      (clause m.worker m.packet m.key V pass.sent h.refused stood) in
      let same : told (mid.counted - 1) u.cell ≡ m =
      ap (λ (n : ℕ). told n u.cell) (number_next mid stood ∙ sym update)
      ∙ ap (λ (z : ℤ). record { worker = m.worker; packet = m.packet; update = m.update; key = m.key; cell = u.cell; amount = z }) (sym amount)
      ∙ ap (λ (c : ℕ). record { worker = m.worker; packet = m.packet; update = m.update; key = m.key; cell = c; amount = m.amount }) (sym cell) in
      let law : LawfulPushes r w old.threshold L full V (pass.sent ++ m ∷ []) h.refused = lawful_sent r w old.threshold L full U u pass.sent h.refused m h.lawful far worker packet update key cell amount in
      record {
        refused = h.refused;
        sketch_is = subst (λ (S : List Push). StandsFor stands r new V S h.refused) (ap (λ (x : Push). pass.sent ++ x ∷ []) same ∙ sym sent) one;
        lawful = subst (λ (S : List Push). LawfulPushes r w new.threshold L full V S h.refused) (sym sent) (subst (λ (n : ℕ). LawfulPushes r w n L full V (pass.sent ++ m ∷ []) h.refused) (sym threshold) law);
        fulls = λ leave. fulls leave ∙ h.fulls leave;
        few = omega (arith, h.few, long);
      }

  -- the push was refused
  pub told_refused : (mid new : PrivateView H) (after : InView) → old.counted < 2 ^ 32 → StandsFor stands r mid (U ++ u ∷ []) pass.sent h.refused
      → new.threshold ≡ old.threshold → old.threshold ≤ far_next → full ≡ Leave → L ≤ length pass.sent
      → after.sent ≡ pass.sent → after.fulls ≡ one_more_or_last pass.fulls
      → ((updates : List Update) (messages : List Push) (refused : List ℕ) → StandsFor stands r mid updates messages refused → StandsFor stands r new updates messages (refused ++ (mid.counted - 1) ∷ []))
      → HasTold stands r w L full new after (U ++ u ∷ [])
  told_refused mid new after small stood threshold far leave many sent fulls clause =
      let V = U ++ u ∷ [] in
      let F = h.refused ++ length U ∷ [] in
      let one : StandsFor stands r new V pass.sent F = subst (λ (n : ℕ). StandsFor stands r new V pass.sent (h.refused ++ n ∷ [])) (number_next mid stood) (clause V pass.sent h.refused stood) in
      let was : LawfulPushes r w old.threshold L Leave U pass.sent h.refused = subst (λ (f : Full). LawfulPushes r w old.threshold L f U pass.sent h.refused) leave h.lawful in
      let law : LawfulPushes r w old.threshold L full V pass.sent F = subst (λ (f : Full). LawfulPushes r w old.threshold L f V pass.sent F) (sym leave) (lawful_refused r w old.threshold L U u pass.sent h.refused was far many) in
      let more : length F ≡ length h.refused + 1 = length_push h.refused (length U) in
      let count : pass.fulls ≡ length h.refused = h.fulls leave in
      let least : length h.refused < 2 ^ 32 = omega (arith, h.few, h.sketch_is.all_counted, small) in
      record {
        refused = F;
        sketch_is = subst (λ (S : List Push). StandsFor stands r new V S F) (sym sent) one;
        lawful = subst (λ (S : List Push). LawfulPushes r w new.threshold L full V S F) (sym sent) (subst (λ (n : ℕ). LawfulPushes r w n L full V pass.sent F) (sym threshold) law);
        fulls = λ _. omega (arith, fulls, count, more, least);
        few = omega (arith, h.few, long, more);
      }
