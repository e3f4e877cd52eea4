-- The watched networks of a length, and the options with them.
use Rattle.std.proofs.Common.{◌≡◌, ◌≢◌, ◌∙◌, ◌<◌, ◌≤◌, ◌+◌, ℕ, zero, suc, Bool, true, false, cond, List, [], ◌∷◌, ◌++◌, length, map, filter, take, get_or, refl, sym, ap, subst, arith, All}
use Rattle.std.specs.Prelude.{◌==◌, AllPairs}
use Rattle.std.proofs.lemmas.List.{get_or-map, length-map, map-append, take_more}
use Rattle.std.proofs.lemmas.List.Elements.{All-filter, filter-append}
use Rattle.packet_key.specs.declared.key.FlowKey.{FlowKey}
use Rattle.hash_rows.specs.declared.options.Options.{Options}
use Rattle.hash_rows.specs.declared.shape.Shape.{Shape}
use Rattle.hash_rows.specs.declared.options.Sketch.{Sketch}
use Rattle.hash_rows.specs.declared.options.Sketch.TheVariants.{CountMin}
use Rattle.hash_rows.specs.Lawful.{IsLawful, Suits}
use Rattle.prefixes.specs.declared.network.Prefix.{Prefix}
use Rattle.prefixes.specs.Networks.{AreWatched, prefix_key}
use Rattle.prefix_stack.specs.Descent.{everything}
use Rattle.prefix_stack.specs.Runs.{IsStackRun, level_options, watched_at}

module _ {X : Type 0} (R : X → X → Type 0) where
  pairs_head : (x : X) (xs : List X) → AllPairs R (x ∷ xs) → All (R x) xs
  pairs_head x xs pairs j d lt = pairs 0 (suc j) d (omega arith) (omega (arith, lt))

  pairs_tail : (x : X) (xs : List X) → AllPairs R (x ∷ xs) → AllPairs R xs
  pairs_tail x xs pairs i j d lt within = pairs (suc i) (suc j) d (omega (arith, lt)) (omega (arith, within))

  pairs_cons : (x : X) (xs : List X) → All (R x) xs → AllPairs R xs → AllPairs R (x ∷ xs)
  pairs_cons x xs head tail i zero d lt within = absurd (omega (arith, lt))
  pairs_cons x xs head tail zero (suc j) d lt within = head j d (omega (arith, within))
  pairs_cons x xs head tail (suc i) (suc j) d lt within = tail i j d (omega (arith, lt)) (omega (arith, within))

  pub pairs_filter : (test : X → Bool) (xs : List X) → AllPairs R xs → AllPairs R (filter test xs)
  pairs_filter test [] pairs = pairs
  pairs_filter test (x ∷ xs) pairs = by (test x) (All-filter test (R x) xs (pairs_head x xs pairs)) (pairs_filter test xs (pairs_tail x xs pairs)) where
    by : (b : Bool) → All (R x) (filter test xs) → AllPairs R (filter test xs) → AllPairs R (cond b (x ∷ filter test xs) (filter test xs))
    by true head tail = pairs_cons x (filter test xs) head tail
    by false head tail = tail

pub watched_differ : (bits : ℕ) (watch : List Prefix) → AreWatched watch → AllPairs (λ p q. p ≢ q) (watched_at bits watch)
unfolding watched_at
watched_differ bits watch are = pairs_filter (λ p q. p ≢ q) (λ p. p.length == bits) watch are.differ

-- different networks have different keys
one_prefix : (p q : Prefix) → prefix_key p ≡ prefix_key q → p ≡ q
one_prefix p q same = let bits : p.bits ≡ q.bits = cc in let lengths : p.length ≡ q.length = cc in λ i. record { bits = bits i; length = lengths i }

pub keys_differ : (ps : List Prefix) → AllPairs (λ p q. p ≢ q) ps → AllPairs (λ a b. a ≢ b) (map prefix_key ps)
keys_differ ps differ i j d lt within =
    let inside : j < length ps = omega (arith, within, length-map ps prefix_key) in
    let first = get_or-map prefix_key ps i everything d (omega (arith, lt, inside)) in
    let second = get_or-map prefix_key ps j everything d inside in
    λ same. differ i j everything lt inside (one_prefix _ _ (sym first ∙ same ∙ second))

few_filtered : {X : Type 0} (test : X → Bool) (xs : List X) → length (filter test xs) ≤ length xs
few_filtered test [] = omega arith
few_filtered test (x ∷ xs) = by (test x) (few_filtered test xs) where
  by : (b : Bool) → length (filter test xs) ≤ length xs → length (cond b (x ∷ filter test xs) (filter test xs)) ≤ length (x ∷ xs)
  by true few = omega (arith, few)
  by false few = omega (arith, few)

pub few_watched : (bits : ℕ) (watch : List Prefix) → AreWatched watch → length (watched_at bits watch) ≤ 16
unfolding watched_at
few_watched bits watch are = omega (arith, few_filtered (λ p. p.length == bits) watch, are.most)

-- one network more
pub watched_step : (bits : ℕ) (watch : List Prefix) (k : ℕ) (d : Prefix) (old new : List FlowKey) → k < length watch → old ≡ map prefix_key (watched_at bits (take k watch))
    → new ≡ old ++ map prefix_key (watched_at bits (get_or watch k d ∷ [])) → new ≡ map prefix_key (watched_at bits (take (k + 1) watch))
unfolding watched_at
watched_step bits watch k d old new lt before is =
    let more = ap (filter (λ (p : Prefix). p.length == bits)) (take_more watch k d lt) ∙ filter-append (λ p. p.length == bits) (take k watch) (get_or watch k d ∷ []) in
    is ∙ ap (λ (l : List FlowKey). l ++ map prefix_key (filter (λ p. p.length == bits) (get_or watch k d ∷ []))) before
    ∙ sym (ap (map prefix_key) more ∙ map-append prefix_key (filter (λ p. p.length == bits) (take k watch)) (filter (λ p. p.length == bits) (get_or watch k d ∷ [])))

pub watched_none : (bits : ℕ) → map prefix_key (watched_at bits []) ≡ []
unfolding watched_at
watched_none bits = refl

suits_count_min : (sketch : Sketch) → sketch ≡ CountMin → (shape : Shape) (keys : List FlowKey) → Suits sketch shape keys
suits_count_min sketch is shape keys = subst (λ s. Suits s shape keys) (sym is) tt

-- the options of a level are lawful
pub level_lawful : (o : Options) (watch : List Prefix) (bits : ℕ) → IsStackRun o → AreWatched watch → IsLawful (level_options o watch bits)
unfolding level_options
level_lawful o watch bits is are = record {
  shape = is.lawful.shape;
  some_workers = is.lawful.some_workers;
  workers = is.lawful.workers;
  some_threshold = is.lawful.some_threshold;
  threshold = is.lawful.threshold;
  some_lane = is.lawful.some_lane;
  lane = is.lawful.lane;
  some_batch = is.lawful.some_batch;
  batch = is.lawful.batch;
  some_round = is.lawful.some_round;
  round = is.lawful.round;
  readers = is.lawful.readers;
  asks = is.lawful.asks;
  watch = omega (arith, length-map (watched_at bits watch) prefix_key, few_watched bits watch are);
  distinct = keys_differ (watched_at bits watch) (watched_differ bits watch are);
  some_heavy = is.lawful.some_heavy;
  heavy = is.lawful.heavy;
  some_least = is.lawful.some_least;
  least = is.lawful.least;
  suits = suits_count_min o.sketch is.sketch o.shape (map prefix_key (watched_at bits watch));
}

pub level_sketch : (o : Options) (watch : List Prefix) (bits : ℕ) → (level_options o watch bits).sketch ≡ o.sketch
unfolding level_options
level_sketch o watch bits = refl

pub level_shape : (o : Options) (watch : List Prefix) (bits : ℕ) → (level_options o watch bits).shape ≡ o.shape
unfolding level_options
level_shape o watch bits = refl
