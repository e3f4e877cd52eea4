-- What lines keep.
use Rattle.std.proofs.Common.{◌≡◌, ◌≢◌, ◌∙◌, ℕ, suc, ◌+◌, ◌-◌, ◌<◌, ◌≤◌, ◌^◌, List, [], ◌∷◌, ◌++◌, refl, sym, ap, subst, arith, length, length-append, inl, inr}
use Rattle.std.specs.Prelude.{All, AllPairs}
use Rattle.std.proofs.lemmas.List.Kept.{AllPairs-cons}
use Rattle.std.specs.List.{range_with_len}
use Rattle.packet_key.specs.declared.key.FlowKey.{FlowKey}
use Rattle.hash_rows.specs.declared.options.Options.{Options}
use Rattle.hash_rows.specs.declared.options.Sketch.{Sketch}
use Rattle.hash_rows.specs.declared.options.Sketch.TheVariants.{CountMin, CountSketch, LogLog}
use Rattle.hash_rows.specs.declared.shape.Shape.{Shape}
use Rattle.hash_rows.specs.Lawful.{IsLawful, Suits}
use Rattle.journal_read.specs.Drafts.{Draft, MayFollow, read_on, in_last, with_watched, Nothing, Titled, Listing, Counted}
use Rattle.journal_read.specs.Entries.{Entry, Head, Terms, Watched, Worker, Run, Answered, Live, Missed, End}
use Rattle.journal_whole.specs.Drafted.{IsProper, HasLengths}
use Rattle.journal_whole.proofs.Judging.{not_both, not_early}
use Rattle.journal_whole.proofs.Places.{order_more}
use Rattle.journal_whole.proofs.Rows.{all_more}

pairs_head : {X : Type 0} (R : X → X → Type 0) (x : X) (xs : List X) → AllPairs R (x ∷ xs) → All (R x) xs
pairs_head R x xs pairs j d lt = pairs 0 (suc j) d (omega arith) (omega (arith, lt))

pairs_tail : {X : Type 0} (R : X → X → Type 0) (x : X) (xs : List X) → AllPairs R (x ∷ xs) → AllPairs R xs
pairs_tail R x xs pairs i j d lt within = pairs (suc i) (suc j) d (omega (arith, lt)) (omega (arith, within))

-- one more key beside those that differ
pairs_more : (ks : List FlowKey) (k : FlowKey) → AllPairs (λ a b. a ≢ b) ks → All (λ l. l ≢ k) ks → AllPairs (λ a b. a ≢ b) (ks ++ k ∷ [])
pairs_more [] k pairs new = AllPairs-cons (λ a b. a ≢ b) k [] (λ i d lt. absurd (omega (arith, lt))) pairs
pairs_more (x ∷ xs) k pairs new =
    AllPairs-cons (λ a b. a ≢ b) x (xs ++ k ∷ []) (all_more (λ b. x ≢ b) xs k (pairs_head (λ a b. a ≢ b) x xs pairs) (new 0 k (omega arith)))
    (pairs_more xs k (pairs_tail (λ a b. a ≢ b) x xs pairs) (λ i d lt. new (suc i) d (omega (arith, lt))))

suits_more : (s : Sketch) (shape : Shape) (ks more : List FlowKey) → s ≢ LogLog → Suits s shape ks → Suits s shape more
suits_more CountMin shape ks more other suits = tt
suits_more CountSketch shape ks more other suits = tt
suits_more LogLog shape ks more other suits = absurd (other refl)

pub lawful_more : (o : Options) (k : FlowKey) → IsLawful o → length o.watch.items < 16 → All (λ l. l ≢ k) o.watch.items → o.sketch ≢ LogLog → IsLawful (with_watched o k)
lawful_more o k law few new other = record {
  shape = law.shape;
  some_workers = law.some_workers;
  workers = law.workers;
  some_threshold = law.some_threshold;
  threshold = law.threshold;
  some_lane = law.some_lane;
  lane = law.lane;
  some_batch = law.some_batch;
  batch = law.batch;
  some_round = law.some_round;
  round = law.round;
  readers = law.readers;
  asks = law.asks;
  watch = omega (arith, few, length-append o.watch.items (k ∷ []));
  distinct = pairs_more o.watch.items k law.distinct new;
  some_heavy = law.some_heavy;
  heavy = law.heavy;
  some_least = law.some_least;
  least = law.least;
  suits = suits_more o.sketch o.shape o.watch.items (o.watch.items ++ k ∷ []) other law.suits;
}

length_in_last : (rows : List (List ℕ)) (ns : List ℕ) → length (in_last rows ns) ≡ length rows
length_in_last [] ns = refl
length_in_last (r ∷ []) ns = refl
length_in_last (r ∷ s ∷ rs) ns = ap suc (length_in_last (s ∷ rs) ns)

some_item : {X : Type 0} (xs : List X) (x : X) → xs ++ x ∷ [] ≡ [] → ⊥
some_item xs x none = omega (arith, ap length none, length-append xs (x ∷ []))

pub proper_on : (d : Draft) (e : Entry) → IsProper d → MayFollow d e → IsProper (read_on d e)
proper_on d Head p may = absurd (not_early d Nothing p may (omega arith))
proper_on d (Terms o) p may = absurd (not_early d Titled p may.0 (omega arith))
proper_on d (Watched k) p may = record {
  lawful = lawful_more d.told.options k p.lawful may.3 may.4 may.5;
  pushes = p.pushes;
  sent = p.sent;
  refused_len = p.refused_len;
  refused = p.refused;
  due = p.due;
  least = p.least;
  early = p.early;
  answers = p.answers;
  answers_fit = subst (All (HasLengths (with_watched d.told.options k))) (sym (p.early may.1).0) (λ i d lt. absurd (omega (arith, lt)));
  places = p.places;
  live = p.live;
  staged = inl may.0;
}
proper_on d (Worker w n r) p may = record {
  lawful = p.lawful;
  pushes = omega (arith, may.2, may.3, length-append d.told.pushes (n ∷ []));
  sent = all_more (λ m. m ≤ 2 ^ 27) d.told.pushes n p.sent may.4;
  refused_len = omega (arith, p.refused_len, length-append d.told.pushes (n ∷ []), length-append d.told.refused ([] ∷ []));
  refused = may.5;
  due = omega arith;
  least = omega arith;
  early = λ none. absurd (some_item d.told.pushes n none);
  answers = p.answers;
  answers_fit = p.answers_fit;
  places = p.places;
  live = p.live;
  staged = inl may.0;
}
proper_on d (Run w a b) p may = record {
  lawful = p.lawful;
  pushes = p.pushes;
  sent = p.sent;
  refused_len = length_in_last d.told.refused (range_with_len a (b + 1 - a)) ∙ p.refused_len;
  refused = p.refused;
  due = omega (arith, p.due);
  least = omega (arith, may.4);
  early = λ none. absurd (omega (arith, may.1, ap length none));
  answers = p.answers;
  answers_fit = p.answers_fit;
  places = p.places;
  live = p.live;
  staged = inl may.0;
}
proper_on d (Answered a) p may = record {
  lawful = p.lawful;
  pushes = p.pushes;
  sent = p.sent;
  refused_len = p.refused_len;
  refused = p.refused;
  due = p.due;
  least = p.least;
  early = λ none. absurd (omega (arith, may.0.workers, p.lawful.some_workers, ap length none));
  answers = omega (arith, may.1, length-append d.told.answers (a ∷ []));
  answers_fit = all_more (HasLengths d.told.options) d.told.answers a p.answers_fit (record { front = may.2.front_len; small = may.2.front; shown = may.2.shown_len });
  places = order_more d.told.options.asks d.told.answers a p.places may.2.reader may.2.number;
  live = p.live;
  staged = inl may.0.listing;
}
proper_on d (Live k) p may = record {
  lawful = p.lawful;
  pushes = p.pushes;
  sent = p.sent;
  refused_len = p.refused_len;
  refused = p.refused;
  due = p.due;
  least = p.least;
  early = p.early;
  answers = p.answers;
  answers_fit = p.answers_fit;
  places = p.places;
  live = omega (arith, may.3, length-append d.told.live (k ∷ []));
  staged = inl may.0.listing;
}
proper_on d (Missed n) p may = record {
  lawful = p.lawful;
  pushes = p.pushes;
  sent = p.sent;
  refused_len = p.refused_len;
  refused = p.refused;
  due = p.due;
  least = p.least;
  early = p.early;
  answers = p.answers;
  answers_fit = p.answers_fit;
  places = p.places;
  live = p.live;
  staged = inr (may.0.workers, may.1, inl refl);
}
proper_on d End p may = record {
  lawful = p.lawful;
  pushes = p.pushes;
  sent = p.sent;
  refused_len = p.refused_len;
  refused = p.refused;
  due = p.due;
  least = p.least;
  early = p.early;
  answers = p.answers;
  answers_fit = p.answers_fit;
  places = p.places;
  live = p.live;
  staged = elim p.staged [ inl a ↦ absurd (not_both d.stage Listing Counted a may (omega arith)) | inr b ↦ inr (b.0, b.1, inr refl) ];
}
