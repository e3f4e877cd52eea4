-- From the heaviest by distance to the greatest changes.
use Rattle.std.proofs.Common.{◌≡◌, ◌∙◌, ◌<◌, ◌≤◌, ◌≤ℤ◌, ◌^◌, ℕ, ℤ, pos, ◌-ℤ◌, Bool, true, false, List, map, min, nat_le, refl, sym, ap, subst, arith}
use Rattle.std.specs.Prelude.{unsigned_abs}
use Rattle.std.proofs.lemmas.Int.{ints}
use Rattle.std.proofs.lemmas.List.{length-map, take-map, take_all}
use Rattle.packet_key.specs.declared.key.FlowKey.{FlowKey}
use Rattle.hash_rows.specs.declared.shape.Flow.{Flow}
use Rattle.hash_rows.specs.Tables.{TableView}
use Rattle.heavy_keys.specs.FinalHeavy.{AreHeaviest, IsFinalHeavy}
use Rattle.epoch_run.specs.declared.change.Change.{Change}
use Rattle.epoch_run.specs.Changes.{AreChanges, AreGreatest, AreWithin, change_by, distance_by, estimates_of}
use Rattle.epoch_run.specs.Distances.{capped_distance}
use Rattle.epoch_run.proofs.Bounds.{difference_within, estimate_within}

distance_within : (old new : TableView) → AreWithin (2 ^ 60) old → AreWithin (2 ^ 60) new → (key : FlowKey)
    → unsigned_abs (estimates_of new key -ℤ estimates_of old key) ≤ 2 ^ 61
distance_within old new low high key =
    let far = difference_within (estimates_of new key) (estimates_of old key) (2 ^ 60) (estimate_within new (2 ^ 60) (omega arith) high key) (estimate_within old (2 ^ 60) (omega arith) low key) in
    omega (arith, far)

-- no distance is capped
uncapped : (old new : TableView) → AreWithin (2 ^ 60) old → AreWithin (2 ^ 60) new → capped_distance old new ≡ distance_by (estimates_of old) (estimates_of new)
uncapped old new low high = λ i key. pos (same key i) where
  same : (key : FlowKey) → min (unsigned_abs (estimates_of new key -ℤ estimates_of old key)) 9223372036854775807 ≡ unsigned_abs (estimates_of new key -ℤ estimates_of old key)
  same key = omega (arith, distance_within old new low high key)

-- a least distance that is too great for 64 bits with sign is reached by none
least_capped : (before after : FlowKey → ℤ) (least : ℕ) (keys : List FlowKey) (flows : List Flow) → ((key : FlowKey) → unsigned_abs (after key -ℤ before key) ≤ 2 ^ 61)
    → IsFinalHeavy (distance_by before after) (pos (min least 9223372036854775807)) keys flows → IsFinalHeavy (distance_by before after) (pos least) keys flows
least_capped before after least keys flows near h = by_test (nat_le least 9223372036854775807) refl where
  by_test : (b : Bool) → nat_le least 9223372036854775807 ≡ b → IsFinalHeavy (distance_by before after) (pos least) keys flows
  by_test true fits =
      let same : min least 9223372036854775807 ≡ least = grind arith in
      subst (λ n. IsFinalHeavy (distance_by before after) (pos n) keys flows) same h
  by_test false more =
      let least_is : min least 9223372036854775807 ≡ 9223372036854775807 = grind arith in
      record {
        sorted = h.sorted;
        sound = λ flow c. let s = h.sound flow c in absurd (too_far flow.estimate flow.key s.1 (subst (λ n. pos n ≤ℤ flow.estimate) least_is s.2));
        whole = λ key c far. h.whole key c (subst (λ n. pos n ≤ℤ distance_by before after key) (sym least_is) (absurd (too_far_least key more far)));
      }
    where
      too_far : (estimate : ℤ) (key : FlowKey) → estimate ≡ distance_by before after key → pos 9223372036854775807 ≤ℤ estimate → ⊥
      too_far estimate key is far =
          let le : pos 9223372036854775807 ≤ℤ distance_by before after key = subst (λ z. pos 9223372036854775807 ≤ℤ z) is far in
          omega (arith, ints, le, near key)

      too_far_least : (key : FlowKey) → nat_le least 9223372036854775807 ≡ false → pos least ≤ℤ distance_by before after key → ⊥
      too_far_least key more far =
          let great : 9223372036854775807 < least = grind arith in
          omega (arith, ints, great, far, near key)

pub greatest_from : (old new : TableView) (least : ℕ) (keys : List FlowKey) (most count : ℕ) (flows : List Flow) (changes : List Change)
    → AreWithin (2 ^ 60) old → AreWithin (2 ^ 60) new
    → AreHeaviest (capped_distance old new) (pos (min least 9223372036854775807)) keys most count flows → changes ≡ map (change_by (estimates_of old) (estimates_of new)) flows
    → AreGreatest (estimates_of old) (estimates_of new) least keys most count changes
greatest_from old new least keys most count flows changes low high found listed =
    let change : Flow → Change = change_by (estimates_of old) (estimates_of new) in
    let heavy : IsFinalHeavy (distance_by (estimates_of old) (estimates_of new)) (pos (min least 9223372036854775807)) keys found.all =
    subst (λ (f : FlowKey → ℤ). IsFinalHeavy f (pos (min least 9223372036854775807)) keys found.all) (uncapped old new low high) found.all_heavy in
    record {
      all = map change found.all;
      all_changes = record {
        flows = found.all;
        far_apart = least_capped (estimates_of old) (estimates_of new) least keys found.all (distance_within old new low high) heavy;
        changes_are = refl;
      };
      number = found.number ∙ sym (length-map found.all change);
      first = listed ∙ ap (map change) found.first ∙ sym (take-map change most found.all);
    }

-- all changes, where there are no more than asked for
pub all_listed : (before after : FlowKey → ℤ) (least : ℕ) (keys : List FlowKey) (most count : ℕ) (changes : List Change) → AreGreatest before after least keys most count changes → count ≤ most
    → AreChanges before after least keys changes
all_listed before after least keys most count changes h few =
    subst (AreChanges before after least keys) (sym (h.first ∙ take_all most h.all (omega (arith, h.number, few)))) h.all_changes

-- a lesser bound is kept as well
pub within_more : (m n : ℕ) (table : TableView) → m ≤ n → AreWithin m table → AreWithin n table
within_more m n table le all = λ k d lt. let here = all k d lt in omega (arith, here, le)
