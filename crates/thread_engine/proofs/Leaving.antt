-- What the parts of a run leave is what settling asks for.
use Rattle.std.proofs.Common.{◌≡◌, ◌<◌, ◌^◌, ℕ, ℤ, ◌*◌, ◌++◌, false, List, length, get_or, sym, ap, ◌∙◌, subst, arith, append-nil}
use Rattle.std.specs.Prelude.{All, None, Option, map}
use Rattle.std.specs.List.{flat_map}
use mathlib.Core.List.{IsPrefix}
use Rattle.packet_key.specs.declared.key.FlowKey.{FlowKey}
use Rattle.hash_rows.specs.declared.options.Options.{Options}
use Rattle.hash_rows.specs.declared.shape.Packet.{Packet}
use Rattle.hash_rows.specs.declared.shape.Push.{Push}
use Rattle.hash_rows.specs.Lawful.{IsLawful}
use Rattle.hash_rows.specs.Rules.{Rules}
use Rattle.push_history.specs.Journal.{keys_of, rules_in}
use Rattle.push_lane.specs.Views.{LaneView}
use Rattle.aggregate.specs.Sweeps.{AggregatorView, kept_by, listed_held}
use Rattle.aggregate.specs.Takens.{AreNamed, AreTaken, takens}
use Rattle.live_state.specs.Fold.{Fit, layout_in}
use Rattle.live_state.specs.declared.layout.Layout.{Layout}
use Rattle.thread_ends.specs.Ends.{kept_in}
use Rattle.thread_law.specs.Ran.{AreAnswers}
use Rattle.thread_run.specs.Readers.{AreAsked, HasAsked}
use Rattle.thread_run.specs.declared.parts.ReaderPart.{ReaderPart}
use Rattle.thread_run.specs.declared.parts.RestPart.{RestPart}
use Rattle.thread_run.specs.declared.parts.WorkerPart.{WorkerPart}
use Rattle.thread_setup.specs.Setups.{IsReader}
use Rattle.thread_setup.specs.declared.spare.Spare.{Spare}
use Rattle.thread_engine.specs.Ended.{HaveEnded}
use Rattle.thread_engine.specs.Tellings.{HaveToldAll}
use Rattle.thread_engine.specs.Readers.{HasSeen}
use Rattle.thread_engine.proofs.Answering.{answers_are, flat_len}
use Rattle.thread_engine.proofs.Ending.{all_told}
use Rattle.thread_engine.proofs.Outcomes.{named}

-- where nothing is held, the aggregator kept what its writer has
kept_is : (a : AggregatorView) → a.held ≡ None → kept_by a ≡ kept_in a.writer
kept_is a none = ap (λ (m : Option Push). a.writer.published ++ a.writer.pending ++ listed_held m) none ∙ append-nil (a.writer.published ++ a.writer.pending)

module _ {K H : Type 0} (stands : H → ℤ → ℤ → Type 0) (r : Rules) (o : Options) (packets : List Packet) (keys : List FlowKey) (lanes : List LaneView) (workers : List (WorkerPart K H))
    (rest : RestPart K H) (spare : Spare K H) (h : HaveEnded stands r o packets keys lanes workers rest spare) where
  pub layout_is : rest.fold.aggregator.writer.layout ≡ layout_in o
  layout_is = h.rested.fold.same.layout ∙ h.begun.layout

  pub keys_are : keys ≡ keys_of o
  keys_are = h.keys_are ∙ h.begun.keys

  pub taken_rest : rest.fold.failed ≡ false → AreTaken r rest.fold.aggregator.writer.layout (takens rest.fold.aggregator.outs) (kept_in rest.fold.aggregator.writer)
  taken_rest well =
      let a = rest.fold.aggregator in
      subst (λ (ms : List Push). AreTaken r a.writer.layout (takens a.outs) ms) (kept_is a (h.rested.fold.none well)) (h.rested.fold.taken well h.begun.begun)

  pub readers_len : length rest.readers.items ≡ o.readers
  readers_len = h.rested.readers.len ∙ h.begun.readers_len

  own_asked : (q : ℕ) (p : ReaderPart K H) → q < o.readers → HasAsked r keys (get_or h.before.rest.readers.items q p) (get_or rest.readers.items q p)
  own_asked q p lt = h.rested.readers.each q p (omega (arith, lt, h.begun.readers_len))

  own_began : (q : ℕ) (p : ReaderPart K H) → q < o.readers → IsReader o h.before.rest.fold.aggregator.writer q (get_or h.before.rest.readers.items q p)
  own_began q p lt = h.begun.readers q p lt

  pub readers_pair : All (λ (p : ReaderPart K H). (p.view.book ≡ rest.fold.aggregator.writer.book) × (p.view.layout ≡ rest.fold.aggregator.writer.layout)) rest.readers.items
  readers_pair = λ q p lt.
      let inside : q < o.readers = omega (arith, lt, readers_len) in
      let asked = own_asked q p inside in
      let began = own_began q p inside in
      (asked.book ∙ began.pair.0 ∙ sym h.rested.fold.same.book, asked.layout ∙ began.pair.1 ∙ sym h.rested.fold.same.layout)

  answer_lengths : (q : ℕ) (p : ReaderPart K H) → q < length rest.readers.items → length (get_or rest.readers.items q p).answers.items ≡ o.asks
  answer_lengths q p lt =
      let inside : q < o.readers = omega (arith, lt, readers_len) in
      (own_asked q p inside).asked.len ∙ (own_began q p inside).asks

  pub answers_len : length (flat_map (λ (p : ReaderPart K H). p.answers.items) rest.readers.items) ≡ o.readers * o.asks
  answers_len = flat_len (λ (p : ReaderPart K H). p.answers.items) o.asks rest.readers.items answer_lengths ∙ ap (λ (n : ℕ). n * o.asks) readers_len

  seen : (published : List Push) → All (λ (p : ReaderPart K H). IsPrefix p.view.known published) rest.readers.items
      → (q : ℕ) (p : ReaderPart K H) → q < o.readers → HasSeen r o published q (get_or rest.readers.items q p).view (get_or rest.readers.items q p).answers.items
  seen published before q p lt =
      let asked = own_asked q p lt in
      let began = own_began q p lt in
      let old = (get_or h.before.rest.readers.items q p).answers.items in
      let new = get_or rest.readers.items q p in
      record {
        before = old;
        asks = began.asks;
        numbered = began.numbered;
        asked = subst (λ (n : ℕ). AreAsked r (keys_of o) old new.view new.answers.items n) began.asks
            (subst (λ (ks : List FlowKey). AreAsked r ks old new.view new.answers.items (length old)) keys_are asked.asked);
        layout = asked.layout ∙ began.pair.1 ∙ h.begun.layout;
        known = before q p (omega (arith, lt, readers_len));
      }

  module _ (is : r ≡ rules_in o) (lawful : IsLawful o) (small : All (λ p. p.amount < 2 ^ 32) packets) where
    pub named_sents : (l : Layout) → l ≡ layout_in o → AreNamed r l (map (λ (p : WorkerPart K H). p.pass.sent) workers)
    named_sents l same =
        let sketches = map (λ (p : WorkerPart K H). p.sketch) workers in
        let sents = map (λ (p : WorkerPart K H). p.pass.sent) workers in
        let fulls = map (λ (p : WorkerPart K H). p.pass.fulls) workers in
        let told : HaveToldAll stands (rules_in o) o packets sketches sents fulls =
        subst (λ (z : Rules). HaveToldAll stands z o packets sketches sents fulls) is (all_told stands r o packets keys lanes workers rest spare h) in
        subst (λ (z : Rules). AreNamed z l sents) (sym is) (named stands packets o lawful small sketches sents fulls told l (ap (λ (x : Layout). x.shape) same) (ap (λ (x : Layout). x.workers) same))

    pub answers_seen : (published : List Push) → Fit r (layout_in o) published → length published < 2 ^ 64 → All (λ (p : ReaderPart K H). IsPrefix p.view.known published) rest.readers.items
        → AreAnswers o published (flat_map (λ (p : ReaderPart K H). p.answers.items) rest.readers.items)
    answers_seen published fit few before =
        answers_are o published (subst (λ (z : Rules). Fit z (layout_in o) published) is fit) few rest.readers.items (λ (p : ReaderPart K H). p.view) (λ (p : ReaderPart K H). p.answers.items) readers_len
        (λ q p lt. subst (λ (z : Rules). HasSeen z o published q (get_or rest.readers.items q p).view (get_or rest.readers.items q p).answers.items) is (seen published before q p lt))
