-- Each answer of a run over Count-Min is near the true estimate.
use Rattle.std.proofs.Common.{◌≡◌, ◌<◌, ◌^◌, ℕ, ℤ, Bool, List, [], length, take, sym, ap, ◌∙◌, subst, arith}
use Rattle.std.specs.Prelude.{All, map, slice_index_or}
use Rattle.packet_key.specs.declared.key.FlowKey.{FlowKey}
use Rattle.hash_rows.specs.Amounts.{total_amount}
use Rattle.hash_rows.specs.Lawful.{IsLawful}
use Rattle.hash_rows.specs.Marks.{marked}
use Rattle.hash_rows.specs.Rules.{Rules}
use Rattle.hash_rows.specs.Sketches.{count_min_estimate}
use Rattle.hash_rows.specs.declared.answer.Answer.{Answer}
use Rattle.hash_rows.specs.declared.options.Options.{Options}
use Rattle.hash_rows.specs.declared.options.Sketch.TheVariants.{CountMin}
use Rattle.hash_rows.specs.declared.shape.Packet.{Packet}
use Rattle.hash_rows.specs.declared.shape.Push.{Push}
use Rattle.hash_rows.specs.declared.shape.Update.{Update}
use Rattle.push_history.specs.Front.{IsFront, front_of}
use Rattle.push_history.specs.Journal.{keys_of, rules_in, terms_of}
use Rattle.push_history.specs.LawfulJournal.{sent_by}
use Rattle.push_history.specs.Pushes.{ArePushes}
use Rattle.push_history.specs.Shown.{shown_cells, told_cells}
use Rattle.bracket.specs.Bracket.{IsNear, updates_of_worker}
use Rattle.bracket.proofs.Bracketed.{answer_below, answer_short}
use Rattle.fold_law.proofs.Sums.{count_min}
use Rattle.push_history.proofs.Fitting.{rules_lawful, terms_len, updates_there}
use Rattle.push_history.proofs.PlaceLists.{all_grid, made_at}
use Rattle.bracket.proofs.Plain.{plain, rules_are}
use Rattle.thread_law.specs.Ran.{AreLawful, HasRan, ShowsNear, marked_by}
use Rattle.thread_law.proofs.Told.{cells_shown, is_front}

module _ (packets : List Packet) (o : Options) (lawful : IsLawful o) (is : o.sketch ≡ CountMin) (total : total_amount packets < 2 ^ 63) (messages : List (List Push)) where
  pushes_are : (w : ℕ) (refused : List ℕ) → w < o.workers → ArePushes (rules_in o) o.threshold (updates_of_worker (terms_of packets o).updates w) (sent_by messages w) refused
      → ArePushes count_min o.threshold (updates_of_worker (terms_of packets o).updates w) (sent_by messages w) refused
  pushes_are w refused lt h =
      subst (λ (r : Rules). ArePushes r o.threshold (updates_of_worker (terms_of packets o).updates w) (sent_by messages w) refused) (rules_are packets o lawful is total) h

  module _ (bits : List (List Bool)) (same : length messages ≡ o.workers) (each : AreLawful packets o messages bits) where
    own_pushes : (w : ℕ) → w < length (terms_of packets o).updates → ArePushes count_min o.threshold (updates_of_worker (terms_of packets o).updates w) (sent_by messages w) (slice_index_or (map marked bits) w [])
    own_pushes w below =
        let lt : w < o.workers = omega (arith, below, terms_len packets o) in
        pushes_are w (marked_by bits w) lt (subst (λ (U : List Update). ArePushes (rules_in o) o.threshold U (sent_by messages w) (marked_by bits w)) (sym (updates_there packets o w lt)) (each w lt).pushes)

    near_front : (front : List ℕ) → IsFront messages front → (key : FlowKey)
        → IsNear o.threshold (terms_of packets o).updates messages (map marked bits) front o.shape key (count_min_estimate o.shape (shown_cells count_min o.shape messages front) key)
    near_front front is_front key =
        let len : length messages ≡ length (terms_of packets o).updates = same ∙ sym (terms_len packets o) in
        let few = plain packets o lawful is total in
        record {
          below = answer_below o.threshold (terms_of packets o).updates messages (map marked bits) front len is_front own_pushes few o.shape key;
          short = λ some none. answer_short o.threshold (terms_of packets o).updates messages (map marked bits) front len is_front own_pushes few o.shape key some none;
        }

pub answers_near : (packets : List Packet) (o : Options) (messages : List (List Push)) (folded : List Push) (bits : List (List Bool)) (pushes : List ℕ) (answers : List Answer) (live : List FlowKey) (missed : ℕ)
    → IsLawful o → o.sketch ≡ CountMin → total_amount packets < 2 ^ 63 → HasRan packets o messages folded bits pushes answers live missed
    → All (ShowsNear packets o messages bits) answers
answers_near packets o messages folded bits pushes answers live missed lawful is total h =
    all_grid (ShowsNear packets o messages bits) o.readers o.asks answers h.answers_are.len
    (λ q k a low high at i key number key_at number_at.
    let look = (h.answers_are.each q k a low high at).look in
    let r = rules_in o in
    let xs : List Push = take a.folded folded in
    let front : front_of (length messages) xs ≡ a.front.items = ap (λ (n : ℕ). front_of n xs) h.messages_len ∙ sym look.front in
    let told : FlowKey → ℤ = r.estimate o.shape (told_cells r o.shape xs) in
    let own : told key ≡ number = made_at told (keys_of o) a.shown.items i key number look.shown key_at number_at in
    let shown : told key ≡ count_min_estimate o.shape (shown_cells count_min o.shape messages a.front.items) key =
    ap (λ (cells : List ℤ). r.estimate o.shape cells key) (cells_shown messages folded h.fold a.folded r (rules_lawful o.sketch) o.shape h.values ∙ ap (shown_cells r o.shape messages) front)
    ∙ ap (λ (s : Rules). s.estimate o.shape (shown_cells s o.shape messages a.front.items) key) (rules_are packets o lawful is total) in
    let is_its : IsFront messages a.front.items = subst (IsFront messages) front (is_front messages folded h.fold a.folded) in
    subst (λ (z : ℤ). IsNear o.threshold (terms_of packets o).updates messages (map marked bits) a.front.items o.shape key z) (sym shown ∙ own)
    (near_front packets o lawful is total messages bits h.messages_len h.each a.front.items is_its key))
