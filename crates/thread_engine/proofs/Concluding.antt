-- What all that was published says of the results.
use Rattle.live_state.specs.Fold.{layout_in}
use Rattle.std.proofs.Common.{◌≡◌, ◌<◌, ◌≤◌, ◌^◌, ℕ, ℤ, Bool, List, length, get_or, sym, ap, ◌∙◌, subst, arith}
use Rattle.std.specs.Prelude.{All, map}
use Rattle.packet_key.specs.declared.key.FlowKey.{FlowKey}
use Rattle.hash_rows.specs.declared.options.Full.TheVariants.{Leave}
use Rattle.hash_rows.specs.declared.options.Options.{Options}
use Rattle.hash_rows.specs.declared.shape.Packet.{Packet}
use Rattle.hash_rows.specs.declared.shape.Push.{Push}
use Rattle.hash_rows.specs.Lawful.{IsLawful}
use Rattle.hash_rows.specs.Rules.{Rules}
use Rattle.hash_rows.specs.Sequential.{sequential_table}
use Rattle.hash_rows.specs.Shapes.{size_of}
use Rattle.hash_rows.specs.Tables.{TableView}
use Rattle.push_history.specs.Journal.{rules_in}
use Rattle.push_history.proofs.MoreMessages.{front_len}
use Rattle.push_rule.specs.Residues.{Counted, HasJoined, IsWorkerFor, residue_of}
use Rattle.push_rule.specs.Stands.{PrivateView, StandsFor}
use Rattle.live_state.specs.Shows.{Shows}
use Rattle.thread_ends.specs.Ends.{both_fulls, both_sents}
use Rattle.thread_law.specs.Ran.{HasRan, marked_by}
use Rattle.thread_setup.specs.declared.spare.Spare.{Spare}
use Rattle.thread_engine.specs.Ended.{IsAllPublished}
use Rattle.thread_engine.proofs.Outcomes.{cells_by, counted_by, its, live_few, ran_is, refused_is, shows, stands_by, table_is}

module _ {K H : Type 0} (stands : H → ℤ → ℤ → Type 0) (r : Rules) (o : Options) (packets : List Packet) (is : r ≡ rules_in o) (lawful : IsLawful o) (small : All (λ p. p.amount < 2 ^ 32) packets)
    (published : List Push) (spare : Spare K H) (given : IsAllPublished stands r o packets published spare) where
  h : IsAllPublished stands (rules_in o) o packets published spare
  h = subst (λ (z : Rules). IsAllPublished stands z o packets published spare) is given

  abbrev sketches : List (PrivateView H)
  sketches = spare.sketches.items

  abbrev sents : List (List Push)
  sents = both_sents spare.passes.items

  abbrev fulls : List ℕ
  fulls = both_fulls spare.passes.items

  its_shows : Shows (rules_in o) (layout_in o) published spare.state
  its_shows = shows stands packets o lawful small sketches sents fulls h.told published h.taken h.fit h.few spare.state h.state

  pub fronts_few : length spare.state.front ≤ spare.pushes.room
  fronts_few = omega (arith, ap length its_shows.front, front_len o.workers published, h.pushes.1)

  pub live_room : length spare.state.heavy.keys ≤ spare.live.room
  live_room = omega (arith, live_few stands packets o lawful small sketches sents fulls h.told published h.taken h.fit h.few spare.state h.state, h.live.1)

  abbrev by : ℕ → Counted
  by = counted_by stands packets o lawful small sketches sents fulls h.told

  own : (w : ℕ) (s : PrivateView H) → w < length sketches → StandsFor stands r (get_or sketches w s) (by w).updates (by w).messages (by w).refused
  own w s lt =
      subst (λ (z : Rules). StandsFor stands z (get_or sketches w s) (by w).updates (by w).messages (by w).refused) (sym is)
      (stands_by stands packets o lawful small sketches sents fulls h.told w s lt)

  pub each_for : (w : ℕ) (s : PrivateView H) → w < length sketches → IsWorkerFor stands r spare.state.table.shape (get_or sketches w s)
  each_for w s lt = record {
    counted = by w;
    stands_for = own w s lt;
    cells = cells_by stands packets o lawful small sketches sents fulls h.told w s lt ∙ ap size_of (sym its_shows.shape);
  }

  pub whole_table : (old new : TableView) → old ≡ spare.state.table → new.shape ≡ old.shape → length new.cells ≡ size_of new.shape
      → ((of : ℕ → Counted) → ((w : ℕ) (s : PrivateView H) → w < length sketches → StandsFor stands r (get_or sketches w s) (of w).updates (of w).messages (of w).refused)
      → HasJoined r.join (λ w. residue_of r (of w)) (length sketches) (size_of old.shape) old.cells new.cells) → new ≡ sequential_table r o.shape packets
  whole_table old new was shape len joined =
      let all = subst (λ (z : Rules). HasJoined z.join (λ w. residue_of z (by w)) (length sketches) (size_of old.shape) old.cells new.cells) is (joined by own) in
      subst (λ (z : Rules). new ≡ sequential_table z o.shape packets) (sym is)
      (table_is stands packets o lawful small sketches sents fulls h.told published h.taken h.fit h.few spare.state h.state old new was shape len all)

  module _ (bits : List (List Bool)) (bits_are : bits ≡ map (λ (s : PrivateView H). s.bits) sketches) (lengths : map (λ (b : List Bool). length b) bits ≡ map (λ (s : PrivateView H). s.room) sketches) where
    pub fulls_are : (w : ℕ) → w < o.workers → o.full ≡ Leave → get_or fulls w 0 ≡ length (marked_by bits w)
    fulls_are w lt leave =
        (its stands packets o lawful small sketches sents fulls h.told w lt).fulls_are leave
        ∙ ap length (sym (refused_is stands packets o lawful small sketches sents fulls h.told published h.taken h.fit h.few spare.state h.state bits bits_are lengths w lt))

    pub has_ran : (pushes : List ℕ) (live : List FlowKey) (missed : ℕ) → pushes ≡ spare.state.front → live ≡ spare.state.heavy.keys → missed ≡ spare.state.heavy.missed
        → HasRan packets o sents published bits pushes spare.answers.items live missed
    has_ran pushes live missed fronts keys least =
        ran_is stands packets o lawful small sketches sents fulls h.told published h.taken h.fit h.few spare.state h.state bits bits_are lengths pushes spare.answers.items live missed h.answers fronts keys least
