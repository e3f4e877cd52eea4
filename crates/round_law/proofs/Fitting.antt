-- How many messages are folded in rounds, and which numbers they hold.
use Rattle.std.proofs.Common.{◌≡◌, ◌<◌, ◌≤◌, ℕ, zero, suc, ◌+◌, ◌*◌, ◌^◌, List, length, take, true, refl, sym, ap, ◌∙◌, subst, arith}
use Rattle.std.specs.Prelude.{All, filter, sum_by}
use Rattle.std.specs.List.{flat_map, range_with_len}
use Rattle.std.proofs.Math.Nat.{mul-le-mul_right}
use Rattle.std.proofs.lemmas.List.{length-take, take_all}
use Rattle.std.proofs.lemmas.List.Concat.{length-flat_map}
use Rattle.std.proofs.lemmas.List.Sums.{sum_by-cons}
use Rattle.hash_rows.specs.Lawful.{IsLawful}
use Rattle.hash_rows.specs.Shapes.{size_of}
use Rattle.hash_rows.specs.declared.options.Options.{Options}
use Rattle.hash_rows.specs.declared.shape.Packet.{Packet}
use Rattle.hash_rows.specs.declared.shape.Push.{Push}
use Rattle.push_history.specs.Front.{messages_of}
use Rattle.push_history.specs.Journal.{rules_in, terms_of}
use Rattle.push_history.specs.LagRun.{worker_in}
use Rattle.push_history.specs.LawfulRun.{IsLawfulState}
use Rattle.round_law.specs.RoundStates.{round_state}
use Rattle.push_history.proofs.Lists.{filter_kept}
use Rattle.fold_law.proofs.Steps.{count_by_worker, steps}
use Rattle.round_law.specs.OwnRounds.{folded_after}
use Rattle.round_law.proofs.OwnRounds.{rounds_lawful}
use Rattle.push_history.proofs.Fitting.{AddValues, folded_fit, own_updates_fit, rules_lawful, sent_few, small_values, terms_len, updates_few}

-- and in so many rounds of a run
run_fits : (packets : List Packet) (o : Options) (n : ℕ) → IsLawful o → AddValues (rules_in o) o.shape packets
    → All (λ m. (m.worker < o.workers) × (m.cell < size_of o.shape) × ((rules_in o).is_value m.amount ≡ true)) (folded_after (terms_of packets o) o n)
unfolding terms_of
run_fits packets o n lawful values =
    let t = terms_of packets o in
    let len : length t.updates ≡ o.workers = terms_len packets o in
    subst (λ (k : ℕ). All (λ m. (m.worker < k) × (m.cell < size_of o.shape) × ((rules_in o).is_value m.amount ≡ true)) (folded_after t o n)) len
    (folded_fit t (rules_lawful o.sketch) (size_of o.shape) (λ w lt. own_updates_fit packets o lawful values w (omega (arith, lt, len))) (round_state t o n) (rounds_lawful t o n))

pub folded_values : (packets : List Packet) (o : Options) → IsLawful o → AddValues (rules_in o) o.shape packets
    → (n : ℕ) → All (λ m. (terms_of packets o).rules.is_value m.amount ≡ true) (folded_after (terms_of packets o) o n)
unfolding terms_of
folded_values packets o lawful values n = λ k d lt. (run_fits packets o n lawful values k d lt).2

pub folded_fits : (packets : List Packet) (o : Options) (n : ℕ) → IsLawful o → All (λ p. p.amount < 2 ^ 32) packets
    → All (λ m. (m.worker < o.workers) × (m.cell < size_of o.shape) × ((rules_in o).is_value m.amount ≡ true)) (folded_after (terms_of packets o) o n)
folded_fits packets o n lawful small = run_fits packets o n lawful (small_values (rules_in o) (rules_lawful o.sketch) o.shape packets small)

-- as many as each worker has, summed up
sum_most : (f : ℕ → ℕ) (most first n : ℕ) → ((w : ℕ) → first ≤ w → w < first + n → f w ≤ most) → sum_by f (range_with_len first n) ≤ n * most
sum_most f most first zero each = omega arith
sum_most f most first (suc n) each =
    let here = each first (omega arith) (omega arith) in
    let rest = sum_most f most (first + 1) n (λ w from to. each w (omega (arith, from)) (omega (arith, to))) in
    let next : suc n ≡ n + 1 = omega arith in
    let times : suc n * most ≡ n * most + most = ap (λ (m : ℕ). m * most) next ∙ omega arith in
    omega (arith, here, rest, times, sum_by-cons f first (range_with_len (first + 1) n))

all_steps : (H : List Push) (k : ℕ) → steps (λ before m. true) H k ≡ k
all_steps H zero = refl
all_steps H (suc k) = (let rest = all_steps H k in omega (arith, rest))

-- the messages of all workers are all messages
pub length_by_worker : (workers : ℕ) (H : List Push) → All (λ m. m.worker < workers) H → sum_by (λ w. length (messages_of w H)) (range_with_len 0 workers) ≡ length H
length_by_worker workers H within =
    let whole : take (length H) H ≡ H = take_all (length H) H (omega arith) in
    let parts = flat_map (λ w. messages_of w H) (range_with_len 0 workers) in
    sym (length-flat_map (λ w. messages_of w H) (range_with_len 0 workers))
    ∙ ap length (sym (filter_kept (λ (m : Push). true) parts (λ k d lt. refl)))
    ∙ ap (λ (l : List Push). length (filter (λ (m : Push). true) (flat_map (λ w. messages_of w l) (range_with_len 0 workers)))) (sym whole)
    ∙ count_by_worker (λ ms. ms) (λ before m. m) refl (λ before m. refl) (λ m. true) workers H within (length H) (omega arith)
    ∙ all_steps H (length H)

workers_times : (workers most : ℕ) → workers ≤ 16 → most ≤ 134217728 → workers * most ≤ 2147483648
workers_times workers most few less =
    let all : workers * most ≤ 16 * most = mul-le-mul_right most few in
    omega (arith, all, less)

pub folded_few : (packets : List Packet) (o : Options) (n : ℕ) → IsLawful o → length packets ≤ 16777216 → length (folded_after (terms_of packets o) o n) ≤ 2147483648
folded_few packets o n lawful few =
    let t = terms_of packets o in
    let s = round_state t o n in
    let h : IsLawfulState t s = rounds_lawful t o n in
    let len = terms_len packets o in
    let parts = length_by_worker (length t.updates) s.folded h.of_workers in
    let most = sum_most (λ w. length (messages_of w s.folded)) 134217728 0 (length t.updates) (λ w from to.
    let lt : w < length t.updates = omega (arith, to) in
    let x = worker_in s w in
    omega (arith, ap length (h.folded w lt), length-take x.taken x.sent, sent_few t w x (h.each w lt), updates_few packets o w lawful few)) in
    omega (arith, parts, most, workers_times (length t.updates) 134217728 (omega (arith, len, lawful.workers)) (omega arith))
