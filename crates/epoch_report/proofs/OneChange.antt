-- An epoch has one list of changes.
use Rattle.std.proofs.Common.{◌≡◌, ◌∙◌, ℕ, ℤ, pos, List, length, map, take, refl, sym, ap}
use Rattle.std.specs.List.{take-map}
use Rattle.std.proofs.lemmas.List.{length-map}
use Rattle.packet_key.specs.declared.key.FlowKey.{FlowKey}
use Rattle.heavy_keys.specs.FinalHeavy.{AreHeaviest}
use Rattle.epoch_run.specs.declared.change.Change.{Change}
use Rattle.epoch_run.specs.Changes.{AreChanges, AreGreatest, change_by, distance_by}
use Rattle.reports.proofs.OneReport.{one_heaviest}

module _ (before after : FlowKey → ℤ) (least : ℕ) (keys : List FlowKey) (most : ℕ) where
  -- the flows that are far apart, as if by an estimate
  as_heaviest : (all : List Change) (are : AreChanges before after least keys all) → AreHeaviest (distance_by before after) (pos least) keys most (length are.flows) (take most are.flows)
  as_heaviest all are = record { all = are.flows; all_heavy = are.far_apart; number = refl; first = refl }

  count_is : (all : List Change) (are : AreChanges before after least keys all) (count : ℕ) → count ≡ length all → count ≡ length are.flows
  count_is all are count is = is ∙ ap length are.changes_are ∙ length-map are.flows (change_by before after)

  first_are : (all : List Change) (are : AreChanges before after least keys all) (changes : List Change) → changes ≡ take most all
      → changes ≡ map (change_by before after) (take most are.flows)
  first_are all are changes is = is ∙ ap (take most) are.changes_are ∙ take-map (change_by before after) most are.flows

  pub one_greatest : (m n : ℕ) (xs ys : List Change) → AreGreatest before after least keys most m xs → AreGreatest before after least keys most n ys → (m ≡ n) × (xs ≡ ys)
  one_greatest m n xs ys a b =
      let x = a.all_changes in
      let y = b.all_changes in
      let same = one_heaviest (distance_by before after) (pos least) keys most (length x.flows) (length y.flows) (take most x.flows) (take most y.flows)
      (as_heaviest a.all x) (as_heaviest b.all y) in (
        count_is a.all x m a.number ∙ same.0 ∙ sym (count_is b.all y n b.number),
        first_are a.all x xs a.first ∙ ap (map (change_by before after)) same.1 ∙ sym (first_are b.all y ys b.first),
      )
