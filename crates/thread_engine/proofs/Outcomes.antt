-- What a run comes to, once all that was sent is published.
use Rattle.std.proofs.Common.{◌≡◌, ◌<◌, ◌≤◌, ◌^◌, ℕ, ℤ, pos, Bool, true, false, List, [], ◌∷◌, length, get_or, refl, sym, ap, ap₂, ◌∙◌, subst, arith}
use Rattle.std.specs.Prelude.{All, fold, if◌then◌else◌, map}
use Rattle.std.specs.List.{range_with_len}
use Rattle.std.proofs.lemmas.List.{length-map, get_or-map}
use Rattle.std.proofs.lemmas.List.FromFn.{fill_by_all, get_or-map-range_with_len}
use Rattle.packet_key.specs.declared.key.FlowKey.{FlowKey}
use Rattle.hash_rows.specs.declared.answer.Answer.{Answer}
use Rattle.hash_rows.specs.declared.options.Options.{Options}
use Rattle.hash_rows.specs.declared.shape.Packet.{Packet}
use Rattle.hash_rows.specs.declared.shape.Push.{Push}
use Rattle.hash_rows.specs.declared.shape.Shape.{Shape}
use Rattle.hash_rows.specs.Lawful.{IsLawful}
use Rattle.hash_rows.specs.Marks.{marked}
use Rattle.hash_rows.specs.Rules.{Rules}
use Rattle.hash_rows.specs.Sequential.{sequential, sequential_table}
use Rattle.hash_rows.specs.Shapes.{size_of}
use Rattle.hash_rows.specs.Tables.{TableView, value_at}
use Rattle.push_history.specs.Front.{front_of, messages_of}
use Rattle.push_history.specs.Journal.{rules_in, updates_by_options}
use Rattle.push_history.specs.LawfulJournal.{sent_by}
use Rattle.push_history.specs.LiveHeavy.{live_keys, live_of, notes_of}
use Rattle.push_history.specs.Pushes.{LawfulPushes}
use Rattle.push_history.specs.Shown.{told_cells}
use Rattle.push_history.specs.Told.{told_of}
use Rattle.push_history.proofs.Fitting.{rules_lawful}
use Rattle.push_history.proofs.Joins.{told_value}
use Rattle.push_history.proofs.Marked.{marked_is}
use Rattle.push_history.proofs.PlaceLists.{map_at}
use Rattle.push_rule.specs.Residues.{Counted, HasJoined, residue_of}
use Rattle.push_rule.specs.Stands.{PrivateView, StandsFor}
use Rattle.aggregate.specs.Takens.{AreNamed, AreTaken}
use Rattle.fold_law.specs.Folds.{IsFoldOf}
use Rattle.fold_law.proofs.Live.{live_most}
use Rattle.live_state.specs.Fold.{Fit, StateView, most, state_after, layout_in}
use Rattle.live_state.specs.Shows.{Shows}
use Rattle.live_state.specs.declared.layout.Layout.{Layout}
use Rattle.live_state.proofs.Live.{shows_all}
use Rattle.octo_engine.proofs.Outcomes.{told_len}
use Rattle.thread_law.specs.Ran.{AreAnswers, HasRan, marked_by, settled_of}
use Rattle.thread_law.proofs.Fitting.{all_fit, fit_values, fold_of}
use Rattle.thread_law.proofs.Sequentials.{settled_sequential}
use Rattle.thread_engine.specs.Tellings.{HasToldAll, HaveToldAll}

pub some_item : {A : Type 0} (xs : List A) (n : ℕ) → n < length xs → A
some_item [] n lt = absurd (omega (arith, lt))
some_item (x ∷ xs) n lt = x

live_keys_few : (r : Rules) (shape : Shape) (limit : ℕ) (least : ℤ) (messages : List Push) → length (live_keys r shape limit least messages) ≤ limit
unfolding live_keys
live_keys_few r shape limit least messages =
    elim r.keyed as (λ (b : Bool). length (if b then live_of limit least (notes_of r shape messages) else []) ≤ limit) [ true ↦ live_most limit least (notes_of r shape messages) | false ↦ omega arith ]

module _ {H : Type 0} (stands : H → ℤ → ℤ → Type 0) (packets : List Packet) (o : Options) (lawful : IsLawful o) (small : All (λ p. p.amount < 2 ^ 32) packets)
    (sketches : List (PrivateView H)) (sents : List (List Push)) (fulls : List ℕ) (told : HaveToldAll stands (rules_in o) o packets sketches sents fulls) where
  pub sketch_at : (w : ℕ) → w < o.workers → PrivateView H
  sketch_at w lt = some_item sketches w (omega (arith, lt, told.sketches_len))

  pub its : (w : ℕ) (lt : w < o.workers) → HasToldAll stands (rules_in o) o w (get_or sketches w (sketch_at w lt)) (sent_by sents w) (get_or fulls w 0) (updates_by_options packets o w) (told.refused w)
  unfolding updates_by_options
  its w lt = told.each w (sketch_at w lt) lt

  -- each message names its worker and fits
  pub named : (l : Layout) → l.shape ≡ o.shape → l.workers ≡ o.workers → AreNamed (rules_in o) l sents
  named l shape workers = all_fit packets o l sents told.refused lawful small told.sents_len (λ w lt. (its w lt).lawful) shape workers

  -- what the worker counted, sent and was refused
  abbrev pub counted_by : ℕ → Counted
  counted_by w = record { updates = updates_by_options packets o w; messages = sent_by sents w; refused = told.refused w }

  pub stands_by : (w : ℕ) (s : PrivateView H) → w < length sketches → StandsFor stands (rules_in o) (get_or sketches w s) (counted_by w).updates (counted_by w).messages (counted_by w).refused
  unfolding updates_by_options
  stands_by w s lt = (told.each w s (omega (arith, lt, told.sketches_len))).stands_for

  pub cells_by : (w : ℕ) (s : PrivateView H) → w < length sketches → length (get_or sketches w s).held ≡ size_of o.shape
  cells_by w s lt = (told.each w s (omega (arith, lt, told.sketches_len))).cells

  module _ (published : List Push) (taken : AreTaken (rules_in o) (layout_in o) sents published) (fit : Fit (rules_in o) (layout_in o) published) (few : length published < 2 ^ 64)
      (s : StateView) (state_is : s ≡ state_after (rules_in o) (layout_in o) published) where
    is_fold : IsFoldOf sents published
    is_fold = fold_of (rules_in o) (layout_in o) sents published (sym told.sents_len) fit (taken (named (layout_in o) refl refl))

    values : All (λ m. (rules_in o).is_value m.amount ≡ true) published
    values = fit_values (rules_in o) (layout_in o) published fit

    short : length published ≤ most
    short = omega (arith, few)

    pub shows : Shows (rules_in o) (layout_in o) published s
    shows = subst (λ (z : StateView). Shows (rules_in o) (layout_in o) published z) (sym state_is) (shows_all (rules_in o) (layout_in o) published fit short)

    front_is : front_of o.workers published ≡ map (λ (l : List Push). length l) sents
    unfolding front_of
    front_is = sym (map_at (λ (l : List Push). length l) (λ w. length (messages_of w published)) sents [] o.workers told.sents_len
        (λ w lt. ap (λ (l : List Push). length l) (sym (is_fold.in_order w (omega (arith, lt, told.sents_len))))))

    -- the live keys are at most as many as have room
    pub live_few : length s.heavy.keys ≤ o.heavy
    live_few = omega (arith, ap length shows.keys, live_keys_few (rules_in o) o.shape o.heavy o.least published)

    abbrev zero_joined : ℕ → ℤ
    zero_joined cell = (rules_in o).join (pos 0) (told_of (rules_in o) cell published)

    -- the fold of what all messages tell and of each residue is the sequential sketch
    cell_is : (cell : ℕ) → fold (rules_in o).join (told_of (rules_in o) cell published) (map (λ w. residue_of (rules_in o) (counted_by w) cell) (range_with_len 0 o.workers)) ≡ sequential (rules_in o) o.shape packets cell
    unfolding settled_of
    cell_is cell =
        let r = rules_in o in
        let laws = rules_lawful o.sketch in
        let left = map (λ w. residue_of r (counted_by w) cell) (range_with_len 0 o.workers) in
        let zero_is : zero_joined cell ≡ told_of r cell published = laws.join_zero (told_of r cell published) (told_value r laws cell published values) in
        ap (λ (z : ℤ). fold r.join z left) (sym zero_is)
        ∙ settled_sequential packets o lawful laws small sents told.refused published told.sents_len (λ w lt. (its w lt).lawful.pushes) is_fold values cell

    pub state_size : length s.table.cells ≡ size_of s.table.shape
    state_size = ap length shows.cells ∙ told_len (rules_in o) o published ∙ ap size_of (sym shows.shape)

    pub state_shape : s.table.shape ≡ o.shape
    state_shape = shows.shape

    pub table_is : (old new : TableView) → old ≡ s.table → new.shape ≡ old.shape → length new.cells ≡ size_of new.shape
        → HasJoined (rules_in o).join (λ w. residue_of (rules_in o) (counted_by w)) (length sketches) (size_of old.shape) old.cells new.cells → new ≡ sequential_table (rules_in o) o.shape packets
    unfolding sequential_table told_cells
    table_is old new was shape_is len joined =
        let r = rules_in o in
        let old_shape : old.shape ≡ o.shape = ap (λ (z : TableView). z.shape) was ∙ shows.shape in
        let shape : new.shape ≡ o.shape = shape_is ∙ old_shape in
        let each : (cell : ℕ) → cell < size_of o.shape → get_or new.cells cell (pos 0) ≡ sequential r o.shape packets cell = λ cell lt.
        let before : value_at old.cells cell ≡ told_of r cell published =
        ap (λ (z : TableView). value_at z.cells cell) was ∙ ap (λ (l : List ℤ). value_at l cell) shows.cells
        ∙ get_or-map-range_with_len (λ c. told_of r c published) 0 (size_of o.shape) cell cell (pos 0) lt (omega arith) in
        joined cell (subst (λ (z : Shape). cell < size_of z) (sym old_shape) lt)
        ∙ ap (λ (z : ℤ). fold r.join z (map (λ w. residue_of r (counted_by w) cell) (range_with_len 0 (length sketches)))) before
        ∙ ap (λ (n : ℕ). fold r.join (told_of r cell published) (map (λ w. residue_of r (counted_by w) cell) (range_with_len 0 n))) told.sketches_len
        ∙ cell_is cell in
        let cells = fill_by_all (sequential r o.shape packets) new.cells (size_of o.shape) (pos 0) (len ∙ ap size_of shape) each in
        ap₂ (λ (z : Shape) (l : List ℤ). record { shape = z; cells = l }) shape cells

    module _ (bits : List (List Bool)) (bits_are : bits ≡ map (λ (s : PrivateView H). s.bits) sketches) (lengths : map (λ (b : List Bool). length b) bits ≡ map (λ (s : PrivateView H). s.room) sketches) where
      pub bits_len : length bits ≡ o.workers
      bits_len = ap length bits_are ∙ length-map sketches (λ (s : PrivateView H). s.bits) ∙ told.sketches_len

      row_is : (w : ℕ) (lt : w < o.workers) → get_or bits w [] ≡ (get_or sketches w (sketch_at w lt)).bits
      row_is w lt = ap (λ (l : List (List Bool)). get_or l w []) bits_are ∙ get_or-map (λ (s : PrivateView H). s.bits) sketches w (sketch_at w lt) [] (omega (arith, lt, told.sketches_len))

      row_len : (w : ℕ) (lt : w < o.workers) → length (get_or bits w []) ≡ length (updates_by_options packets o w)
      row_len w lt =
          sym (get_or-map (λ (b : List Bool). length b) bits w [] 0 (omega (arith, lt, bits_len))) ∙ ap (λ (l : List ℕ). get_or l w 0) lengths
          ∙ get_or-map (λ (s : PrivateView H). s.room) sketches w (sketch_at w lt) 0 (omega (arith, lt, told.sketches_len)) ∙ (its w lt).room

      -- the bits of a worker are those of its refused updates
      pub refused_is : (w : ℕ) → w < o.workers → marked_by bits w ≡ told.refused w
      refused_is w lt =
          let pushes = (its w lt).lawful.pushes in
          get_or-map marked bits w [] [] (omega (arith, lt, bits_len))
          ∙ marked_is (get_or bits w []) (told.refused w) pushes.refused_rising (λ k d inside. omega (arith, pushes.refused_within k d inside, row_len w lt))
          (λ k. ap (λ (l : List Bool). get_or l k false) (row_is w lt) ∙ (its w lt).stands_for.marks k)

      pub ran_is : (pushes : List ℕ) (answers : List Answer) (live : List FlowKey) (missed : ℕ) → AreAnswers o published answers → pushes ≡ s.front → live ≡ s.heavy.keys → missed ≡ s.heavy.missed
          → HasRan packets o sents published bits pushes answers live missed
      ran_is pushes answers live missed are fronts keys least = record {
        bits_len = bits_len;
        messages_len = told.sents_len;
        each = λ w lt. subst (λ (F : List ℕ). LawfulPushes (rules_in o) w o.threshold o.lane o.full (updates_by_options packets o w) (sent_by sents w) F) (sym (refused_is w lt)) (its w lt).lawful;
        fold = is_fold;
        values = values;
        pushes_are = fronts ∙ shows.front ∙ front_is;
        answers_are = are;
        live_are = keys ∙ shows.keys;
        missed_is = least ∙ shows.missed;
      }
