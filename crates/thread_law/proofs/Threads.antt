-- What the parts of a run in threads leave is a lawful journal.
use Rattle.std.proofs.Common.{◌≡◌, ◌<◌, ◌≤◌, ℕ, ◌+◌, ◌*◌, ◌^◌, ℤ, Bool, List, [], ◌∷◌, length, take, get_or, Some, refl, sym, ap, ◌∙◌, subst, arith, inl, inr}
use Rattle.std.specs.Prelude.{All, Contains, map, slice_get, sum}
use Rattle.std.proofs.lemmas.Bool.{cases_lt}
use Rattle.std.proofs.lemmas.List.{length-map, get_or-map}
use Rattle.std.proofs.lemmas.List.Elements.{All-map}
use Rattle.std.proofs.lemmas.Option.{slice_get-get_or}
use Rattle.packet_key.specs.declared.key.FlowKey.{FlowKey}
use Rattle.hash_rows.specs.Amounts.{total_amount}
use Rattle.hash_rows.specs.Lawful.{IsLawful}
use Rattle.hash_rows.specs.Marks.{marked}
use Rattle.hash_rows.specs.Rules.{AreLaws}
use Rattle.hash_rows.specs.declared.answer.Answer.{Answer}
use Rattle.hash_rows.specs.declared.options.Options.{Options}
use Rattle.hash_rows.specs.declared.shape.Packet.{Packet}
use Rattle.hash_rows.specs.declared.shape.Push.{Push}
use Rattle.push_history.specs.Answers.{AnswerParts, parts_of}
use Rattle.push_history.specs.Front.{IsFront, front_of}
use Rattle.push_history.specs.Journal.{journal_in, keys_of, rules_in}
use Rattle.push_history.specs.LawfulJournal.{AreOrdered, IsLawfulAnswer, IsThreadsJournal, LawfulWorkers, NoFurther, places_by, places_of, IsLawfulHeavy}
use Rattle.push_history.specs.LiveHeavy.{live_keys}
use Rattle.push_history.specs.Shown.{shown_cells}
use Rattle.fold_law.proofs.FoldLaw.{fold_lawful}
use Rattle.thread_law.specs.Ran.{HasRan, IsAnswer, IsAnswerNumber}
use Rattle.fold_law.proofs.Fronts.{front_sum, no_further}
use Rattle.push_history.proofs.PlaceLists.{all_grid, grid_at, map_grid}
use Rattle.thread_law.proofs.Told.{cells_shown, is_front}

module _ (packets : List Packet) (o : Options) (messages : List (List Push)) (folded : List Push) (bits : List (List Bool)) (pushes : List ℕ) (answers : List Answer) (live : List FlowKey) (missed : ℕ)
    (lawful : IsLawful o) (total : total_amount packets < 2 ^ 63) (laws : AreLaws (rules_in o)) (h : HasRan packets o messages folded bits pushes answers live missed) where
  workers_lawful : LawfulWorkers packets o (journal_in o bits pushes answers live missed) messages
  workers_lawful = record {
    refused = length-map bits marked ∙ h.bits_len;
    pushes = ap length h.pushes_are ∙ length-map messages (λ (l : List Push). length l) ∙ h.messages_len;
    sent = h.messages_len;
    each = λ w lt. record {
      lawful = h.each w lt;
      pushes = ap (λ (l : List ℕ). get_or l w 0) h.pushes_are ∙ get_or-map (λ (l : List Push). length l) messages w [] 0 (omega (arith, lt, h.messages_len));
    };
  }

  parts_place : Answer → ℕ × ℕ
  parts_place a = (a.reader, a.number)

  places_parts : (xs : List Answer) → places_of (map parts_of xs) ≡ map parts_place xs
  unfolding parts_of parts_place
  places_parts [] = refl
  places_parts (x ∷ xs) = ap (λ t. (x.reader, x.number) ∷ t) (places_parts xs)

  places : places_of (map parts_of answers) ≡ places_by o.readers o.asks
  unfolding parts_place
  places =
      places_parts answers
      ∙ map_grid parts_place (λ q n. (q, n)) o.asks 0 o.readers answers h.answers_are.len
      (λ q k a low high is.
      let its = h.answers_are.each q k a low high is in
      let at : 0 + q ≡ q = omega arith in
      ap (λ (n : ℕ). (n, a.number)) its.reader ∙ ap (λ (n : ℕ). (q, n)) its.number ∙ ap (λ (n : ℕ). (n, k)) (sym at))

  lawful_answer : (q k : ℕ) (a : Answer) → IsAnswer o folded q k a → IsLawfulAnswer o messages (parts_of a)
  unfolding parts_of
  lawful_answer q k a its =
      let n : ℕ = a.folded in
      let front : a.front.items ≡ front_of (length messages) (take n folded) = its.look.front ∙ ap (λ (m : ℕ). front_of m (take n folded)) (sym h.messages_len) in
      record {
        front = subst (IsFront messages) (sym front) (is_front messages folded h.fold n);
        folded = sym (front_sum (length messages) folded h.fold.of_workers n its.within) ∙ ap sum (sym front);
        shown = its.look.shown
            ∙ ap (λ (cells : List ℤ). map ((rules_in o).estimate o.shape cells) (keys_of o))
            (cells_shown messages folded h.fold n (rules_in o) laws o.shape h.values ∙ ap (shown_cells (rules_in o) o.shape messages) (sym front));
      }

  all_lawful : All (IsLawfulAnswer o messages) (map parts_of answers)
  all_lawful =
      All-map (IsLawfulAnswer o messages) parts_of answers
      (all_grid (λ a. IsLawfulAnswer o messages (parts_of a)) o.readers o.asks answers h.answers_are.len (λ q k a low high is. lawful_answer q k a (h.answers_are.each q k a low high is)))

  -- which answer of which reader a part is
  record IsPart (p : AnswerParts) : Type 0 where
    pub q : ℕ
    pub k : ℕ
    pub low : q < o.readers
    pub high : k < o.asks
    pub a : Answer
    pub there : IsAnswerNumber o answers q k a
    pub is : parts_of a ≡ p

  part_at : (p : AnswerParts) → Contains (map parts_of answers) p → IsPart p
  part_at p c =
      let len = length-map answers parts_of in
      let lt : c.0 < length answers = omega (arith, len, c.1) in
      let none : Answer = (record { reader = 0; number = 0; folded = 0; front = record { items = []; room = 0 }; upto = record { items = []; room = 0 }; shown = record { items = []; room = 0 } }) in
      let at = grid_at o.readers o.asks c.0 (omega (arith, lt, h.answers_are.len)) in
      let a : Answer = get_or answers c.0 none in
      let there : slice_get answers (at.0 * o.asks + at.1) ≡ Some a = ap (slice_get answers) (sym at.4) ∙ slice_get-get_or answers c.0 none lt in
      record { q = at.0; k = at.1; low = at.2; high = at.3; a = a; there = there; is = sym (get_or-map parts_of answers c.0 none p lt) ∙ c.2 }

  its_answer : (p : AnswerParts) (x : IsPart p) → IsAnswer o folded x.q x.k x.a
  its_answer p x = h.answers_are.each x.q x.k x.a x.low x.high x.there

  front_is : (p : AnswerParts) (x : IsPart p) → p.front ≡ front_of o.workers (take x.a.folded folded)
  unfolding parts_of
  front_is p x = ap (λ (y : AnswerParts). y.front) (sym x.is) ∙ (its_answer p x).look.front

  reader_is : (p : AnswerParts) (x : IsPart p) → (p.reader ≡ x.q) × (p.number ≡ x.k)
  unfolding parts_of
  reader_is p x = (ap (λ (y : AnswerParts). y.reader) (sym x.is) ∙ (its_answer p x).reader, ap (λ (y : AnswerParts). y.number) (sym x.is) ∙ (its_answer p x).number)

  further : (p s : AnswerParts) (x : IsPart p) (y : IsPart s) → x.a.folded ≤ y.a.folded → NoFurther p.front s.front
  further p s x y le =
      subst (λ (f : List ℕ). NoFurther f s.front) (sym (front_is p x))
      (subst (λ (f : List ℕ). NoFurther (front_of o.workers (take x.a.folded folded)) f) (sym (front_is s y)) (no_further o.workers folded x.a.folded y.a.folded le))

  ordered : AreOrdered (map parts_of answers)
  ordered = record {
    of_reader = λ p s c d same le.
        let x = part_at p c in
        let y = part_at s d in
        let px = reader_is p x in
        let py = reader_is s y in
        let reader : y.q ≡ x.q = sym py.0 ∙ sym same ∙ px.0 in
        let number : x.k ≤ y.k = omega (arith, px.1, py.1, le) in
        further p s x y (h.answers_are.rising x.q x.k y.k x.a y.a x.low number y.high x.there (subst (λ (q : ℕ). IsAnswerNumber o answers q y.k y.a) reader y.there));
    of_any = λ p s c d.
        let x = part_at p c in
        let y = part_at s d in
        elim (cases_lt x.a.folded y.a.folded) [
          | inl lt ↦ inl (further p s x y (omega (arith, lt)))
          | inr le ↦ inr (further s p y x le)
        ];
  }

  heavy : IsLawfulHeavy o messages live missed
  heavy =
      let f = fold_lawful packets o messages (map marked bits) folded lawful total h.messages_len h.each h.fold in
      subst (λ (l : List FlowKey). IsLawfulHeavy o messages l missed) (sym h.live_are) (subst (λ (n : ℕ). IsLawfulHeavy o messages (live_keys (rules_in o) o.shape o.heavy o.least folded) n) (sym h.missed_is) f)

  pub threads_journal : IsThreadsJournal packets o (journal_in o bits pushes answers live missed)
  threads_journal = record {
    messages = messages;
    workers = workers_lawful;
    places = places;
    answers = all_lawful;
    ordered = ordered;
    heavy = heavy;
  }
