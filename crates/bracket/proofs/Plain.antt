-- What the packets of a run over Count-Min add to a cell, in plain numbers.
use Rattle.std.proofs.Common.{◌≡◌, ◌<◌, ◌≤◌, ◌^◌, ℕ, List, length, sym, ap, ◌∙◌, subst, arith, inl, inr}
use Rattle.std.specs.Prelude.{All, sum_by}
use Rattle.std.specs.List.{range_with_len}
use Rattle.std.proofs.lemmas.Bool.{cases_lt}
use Rattle.std.proofs.lemmas.List.{get_or_past}
use Rattle.hash_rows.specs.Amounts.{total_amount}
use Rattle.hash_rows.specs.Lawful.{IsLawful}
use Rattle.hash_rows.specs.Rules.{Rules, rules_of}
use Rattle.hash_rows.specs.declared.options.Options.{Options}
use Rattle.hash_rows.specs.declared.options.Sketch.TheVariants.{CountMin}
use Rattle.hash_rows.specs.declared.shape.Packet.{Packet}
use Rattle.hash_rows.specs.declared.shape.Shape.{Shape}
use Rattle.hash_rows.specs.declared.shape.Update.{Update}
use Rattle.push_history.specs.Journal.{rules_in, terms_of, updates_by_options}
use Rattle.push_history.specs.LagRun.{updates_by}
use Rattle.push_history.specs.Share.{packet_at, share_of_worker, zero_key}
use Rattle.push_history.specs.Updates.{updates_of}
use Rattle.bracket.specs.Bracket.{updates_of_worker}
use Rattle.bracket.proofs.Bracketed.{ArePlain}
use Rattle.fold_law.proofs.Sums.{count_min, IsPlain, plain_whole}
use Rattle.fold_law.proofs.Totals.{member_le, share_most, shares_total, sum_range_le, updates_plain}
use Rattle.push_history.proofs.Fitting.{AddValues, terms_len, updates_there}

-- no packet has more than all have
amount_most : (packets : List Packet) (i : ℕ) → (packet_at packets i).amount ≤ total_amount packets
unfolding total_amount
amount_most packets i = elim (cases_lt i (length packets)) [
  | inl within ↦ member_le (λ p. p.amount) packets i (record { key = zero_key; amount = 0 }) within
  | inr past ↦ (let none : packet_at packets i ≡ record { key = zero_key; amount = 0 } = get_or_past packets i (record { key = zero_key; amount = 0 }) past in
      omega (arith, ap (λ (p : Packet). p.amount) none))
]

min_values : (packets : List Packet) (shape : Shape) → total_amount packets < 2 ^ 63 → AddValues count_min shape packets
min_values packets shape total i row = let few : (packet_at packets i).amount < 2 ^ 63 = omega (arith, amount_most packets i, total) in grind arith

module _ (packets : List Packet) (o : Options) (lawful : IsLawful o) (is : o.sketch ≡ CountMin) (total : total_amount packets < 2 ^ 63) where
  pub rules_are : rules_in o ≡ count_min
  rules_are = ap rules_of is

  pub rules_is : (terms_of packets o).rules ≡ count_min
  unfolding terms_of
  rules_is = rules_are

  pub values : AddValues (rules_in o) o.shape packets
  values = subst (λ (r : Rules). AddValues r o.shape packets) (sym rules_are) (min_values packets o.shape total)

  own_updates : (w : ℕ) → w < o.workers → updates_by (terms_of packets o) w ≡ updates_of count_min o.shape packets (share_of_worker o.share o.workers packets w)
  unfolding updates_by_options
  own_updates w lt = updates_there packets o w lt ∙ ap (λ (r : Rules). updates_of r o.shape packets (share_of_worker o.share o.workers packets w)) rules_are

  -- what the packets add to a cell is no more than they amount to
  pub plain : ArePlain (terms_of packets o).updates
  plain =
      let len = terms_len packets o in
      let updates = (terms_of packets o).updates in
      let share : ℕ → List ℕ = share_of_worker o.share o.workers packets in
      record {
        plains = λ w lt. subst (λ (U : List Update). All (λ u. IsPlain u.value) U) (sym (own_updates w (omega (arith, lt, len)))) (updates_plain o.shape packets (share w));
        total = λ cell.
            let amount : ℕ → ℕ = λ w. sum_by (λ i. (packet_at packets i).amount) (share w) in
            let most = sum_range_le (λ w. plain_whole cell (updates_of_worker updates w)) amount 0 (length updates)
            (λ w from to. omega (arith, ap (plain_whole cell) (own_updates w (omega (arith, to, len))), share_most o.shape lawful.shape packets cell (share w))) in
            omega (arith, most, ap (λ (n : ℕ). sum_by amount (range_with_len 0 n)) len, shares_total o.share o.workers packets (omega (arith, lawful.some_workers)), total);
      }
