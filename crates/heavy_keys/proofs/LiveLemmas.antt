-- A note keeps that a table holds the live keys.
use Rattle.std.proofs.Common.{◌≡◌, ℕ, ℤ, ◌<◌, ◌≤◌, ◌+◌, Bool, true, false, not, ◌&&◌, List, [], ◌∷◌, ◌++◌, length, take, min, nat_lt, refl, sym, ◌∙◌, ap, subst, arith}
use Rattle.std.specs.Prelude.{int_le, if◌then◌else◌}
use Rattle.std.proofs.lemmas.List.{take_all, length-take, length-append}
use Rattle.packet_key.specs.declared.key.FlowKey.{FlowKey}
use Rattle.hash_rows.specs.declared.shape.Flow.{Flow}
use Rattle.push_history.specs.LiveHeavy.{is_among, distinct_keys, qualifying, live_of, missed_of}
use Rattle.std.proofs.lemmas.Bool.Decides.{nat_tests}
use Rattle.push_history.proofs.Lists.{filter_push_no, filter_push_yes, kept_push}
use Rattle.push_history.proofs.LiveLists.{distinct_push, there_live, new_live, full_live, length_with_key, none_missing_live, missing}
use Rattle.flow_base.specs.Calls.{one_more}
use Rattle.heavy_keys.specs.Noted.{HeavyTable, noted}
use Rattle.heavy_keys.specs.Live.{HoldsLive}

one_more_counted : (count m n : ℕ) → count ≡ min m 18446744073709551615 → n ≡ m + 1 → one_more count ≡ min n 18446744073709551615
one_more_counted count m n h e = omega arith

-- a fresh table
pub holds_none : (t : HeavyTable) → t.keys ≡ [] → t.missed ≡ 0 → HoldsLive t []
unfolding live_of missed_of
holds_none t keys missed = record { keys = keys ∙ sym (take_all t.limit [] (omega arith)); missed = missed }

-- the table that the keys of some qualifying notes make
abbrev HoldsKeys : HeavyTable → List FlowKey → Type 0
HoldsKeys t qs = (t.keys ≡ take t.limit (distinct_keys qs)) × (t.missed ≡ min (length (missing (take t.limit (distinct_keys qs)) qs)) 18446744073709551615)

-- one more key
module _ (t : HeavyTable) (qs : List FlowKey) (k : FlowKey) (h : HoldsKeys t qs) where
  holds_there : is_among t.keys k ≡ true → HoldsKeys t (qs ++ k ∷ [])
  holds_there there =
      let among : is_among (take t.limit (distinct_keys qs)) k ≡ true = subst (λ xs. is_among xs k ≡ true) h.0 there in
      let live = there_live t.limit qs k among in
      let rest : missing (take t.limit (distinct_keys qs)) (qs ++ k ∷ []) ≡ missing (take t.limit (distinct_keys qs)) qs =
      filter_push_no (λ key. not (is_among (take t.limit (distinct_keys qs)) key)) qs k (ap not among) in
      (h.0 ∙ sym live, h.1 ∙ ap (λ xs. min (length xs) 18446744073709551615) (sym rest ∙ ap (λ xs. missing xs (qs ++ k ∷ [])) (sym live)))

  holds_new : is_among t.keys k ≡ false → length t.keys < t.limit → HoldsKeys (record t { keys = t.keys ++ k ∷ [] }) (qs ++ k ∷ [])
  holds_new absent short =
      let away : is_among (take t.limit (distinct_keys qs)) k ≡ false = subst (λ xs. is_among xs k ≡ false) h.0 absent in
      let below : length (take t.limit (distinct_keys qs)) < t.limit = subst (λ (xs : List FlowKey). length xs < t.limit) h.0 short in
      let few : length (distinct_keys qs) < t.limit = omega (arith, length-take t.limit (distinct_keys qs)) in
      let live = new_live t.limit qs k away below in
      let before : missing (take t.limit (distinct_keys qs)) qs ≡ [] = none_missing_live t.limit qs (omega arith) in
      let all : length (distinct_keys (qs ++ k ∷ [])) ≤ t.limit = subst (λ (xs : List FlowKey). length xs ≤ t.limit) (sym (distinct_push qs k)) (length_with_key t.limit (distinct_keys qs) k few) in
      let after : missing (take t.limit (distinct_keys (qs ++ k ∷ []))) (qs ++ k ∷ []) ≡ [] = none_missing_live t.limit (qs ++ k ∷ []) all in (
        ap (λ xs. xs ++ k ∷ []) h.0 ∙ sym live,
        h.1 ∙ ap (λ (xs : List FlowKey). min (length xs) 18446744073709551615) (before ∙ sym after),
      )

  holds_full : is_among t.keys k ≡ false → t.limit ≤ length t.keys → HoldsKeys (record t { missed = one_more t.missed }) (qs ++ k ∷ [])
  holds_full absent full =
      let away : is_among (take t.limit (distinct_keys qs)) k ≡ false = subst (λ xs. is_among xs k ≡ false) h.0 absent in
      let live = full_live t.limit qs k (subst (λ (xs : List FlowKey). t.limit ≤ length xs) h.0 full) in
      let rest : missing (take t.limit (distinct_keys qs)) (qs ++ k ∷ []) ≡ missing (take t.limit (distinct_keys qs)) qs ++ k ∷ [] =
      filter_push_yes (λ key. not (is_among (take t.limit (distinct_keys qs)) key)) qs k (ap not away) in
      let more : length (missing (take t.limit (distinct_keys (qs ++ k ∷ []))) (qs ++ k ∷ [])) ≡ length (missing (take t.limit (distinct_keys qs)) qs) + 1 =
      ap length (ap (λ xs. missing xs (qs ++ k ∷ [])) live ∙ rest) ∙ length-append (missing (take t.limit (distinct_keys qs)) qs) (k ∷ []) in
      (h.0 ∙ sym live, one_more_counted t.missed _ _ h.1 more)

lt_from_nat_lt : (a b : ℕ) → nat_lt a b ≡ true → a < b
lt_from_nat_lt a b h = grind (arith, nat_tests)

ge_from_nat_lt : (a b : ℕ) → nat_lt a b ≡ false → b ≤ a
ge_from_nat_lt a b h = grind (arith, nat_tests)

-- what a note makes, by the answers of its tests
noted_as : (t : HeavyTable) (key : FlowKey) (estimate : ℤ) (a b c : Bool) → int_le t.least estimate ≡ a → is_among t.keys key ≡ b → nat_lt (length t.keys) t.limit ≡ c
    → noted t key estimate ≡ (if a && not b then (if c then record t { keys = t.keys ++ key ∷ [] } else record t { missed = one_more t.missed }) else t)
noted_as t key estimate a b c high there room =
    λ i. if high i && not (there i) then (if room i then record t { keys = t.keys ++ key ∷ [] } else record t { missed = one_more t.missed }) else t

-- the keys of the qualifying notes, with one more note
module _ (least : ℤ) (notes : List Flow) (key : FlowKey) (estimate : ℤ) where
  qualifying_push : (b : Bool) → int_le least estimate ≡ b
      → qualifying least (notes ++ record { key = key; estimate = estimate } ∷ []) ≡ (if b then qualifying least notes ++ key ∷ [] else qualifying least notes)
  qualifying_push b h =
      kept_push (λ note. int_le least note.estimate) (λ note. note.key) notes (record { key = key; estimate = estimate })
      ∙ ap (λ passes. if passes then qualifying least notes ++ key ∷ [] else qualifying least notes) h

live_from_keys : (t : HeavyTable) (notes : List Flow) (qs : List FlowKey) → qualifying t.least notes ≡ qs → HoldsKeys t qs → HoldsLive t notes
unfolding live_of missed_of
live_from_keys t notes qs e h = let g = subst (HoldsKeys t) (sym e) h in record { keys = g.0; missed = g.1 }

keys_from_live : (t : HeavyTable) (notes : List Flow) → HoldsLive t notes → HoldsKeys t (qualifying t.least notes)
unfolding live_of missed_of
keys_from_live t notes h = (h.keys, h.missed)

-- one more note
pub holds_noted : (t : HeavyTable) (notes : List Flow) (key : FlowKey) (estimate : ℤ) → HoldsLive t notes → HoldsLive (noted t key estimate) (notes ++ record { key = key; estimate = estimate } ∷ [])
holds_noted t notes key estimate h = by (int_le t.least estimate) (is_among t.keys key) (nat_lt (length t.keys) t.limit) refl refl refl
  where
    by : (a b c : Bool) → int_le t.least estimate ≡ a → is_among t.keys key ≡ b → nat_lt (length t.keys) t.limit ≡ c → HoldsLive (noted t key estimate) (notes ++ record { key = key; estimate = estimate } ∷ [])
    by false b c high there room =
        subst (λ table. HoldsLive table (notes ++ record { key = key; estimate = estimate } ∷ [])) (sym (noted_as t key estimate false b c high there room))
        (live_from_keys t _ _ (qualifying_push t.least notes key estimate false high) (keys_from_live t notes h))
    by true true c high there room =
        subst (λ table. HoldsLive table (notes ++ record { key = key; estimate = estimate } ∷ [])) (sym (noted_as t key estimate true true c high there room))
        (live_from_keys t _ _ (qualifying_push t.least notes key estimate true high) (holds_there t _ key (keys_from_live t notes h) there))
    by true false true high there room =
        subst (λ table. HoldsLive table (notes ++ record { key = key; estimate = estimate } ∷ [])) (sym (noted_as t key estimate true false true high there room))
        (live_from_keys (record t { keys = t.keys ++ key ∷ [] }) _ _ (qualifying_push t.least notes key estimate true high)
        (holds_new t _ key (keys_from_live t notes h) there (lt_from_nat_lt _ _ room)))
    by true false false high there room =
        subst (λ table. HoldsLive table (notes ++ record { key = key; estimate = estimate } ∷ [])) (sym (noted_as t key estimate true false false high there room))
        (live_from_keys (record t { missed = one_more t.missed }) _ _ (qualifying_push t.least notes key estimate true high)
        (holds_full t _ key (keys_from_live t notes h) there (ge_from_nat_lt _ _ room)))
