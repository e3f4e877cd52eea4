-- The workers' parts before the first round.
use Rattle.std.proofs.Common.{◌≡◌, ◌<◌, ◌≤◌, ◌^◌, ℕ, ◌+◌, ◌*◌, ℤ, ◌&&◌, List, [], ◌∷◌, ◌++◌, length, take, get_or, Bool, true, nat_lt, All, refl, sym, ap, ap₂, ◌∙◌, subst, arith, inl, inr}
use Rattle.std.proofs.Math.Seq.{get_or-append_seam, take-append_seam}
use Rattle.std.proofs.lemmas.Bool.{cases_lt}
use Rattle.std.proofs.lemmas.List.{get_or_append_left}
use Rattle.std.proofs.lemmas.List.Sums.{sum_by-le}
use Rattle.std.proofs.lemmas.Option.{slice_get_within}
use Rattle.std.proofs.Math.Nat.{mul-le-mul_right}
use Rattle.listed.specs.Listed.{Listed}
use Rattle.hash_rows.specs.Amounts.{total_amount}
use Rattle.hash_rows.specs.declared.shape.Push.{Push}
use Rattle.push_history.specs.LagRun.{Terms}
use Rattle.hash_rows.specs.declared.answer.Answer.{Answer}
use Rattle.hash_rows.specs.declared.options.Options.{Options}
use Rattle.hash_rows.specs.declared.options.Sketch.{Sketch}
use Rattle.hash_rows.specs.declared.shape.Packet.{Packet}
use Rattle.hash_rows.specs.Lawful.{IsLawful}
use Rattle.hash_rows.specs.Rules.{Rules, rules_of}
use Rattle.hash_rows.specs.Shapes.{size_of}
use Rattle.push_history.specs.Journal.{rules_in, terms_of, updates_by_options}
use Rattle.push_history.specs.Share.{share_of_worker}
use Rattle.push_history.specs.Updates.{updates_of}
use Rattle.live_state.specs.Fold.{Fit, StateView, fresh_state, state_after, layout_in}
use Rattle.round_law.specs.OwnRounds.{folded_after}
use Rattle.round_law.proofs.Fitting.{folded_few, folded_fits}
use Rattle.round_law.proofs.OwnRounds.{folded_none}
use Rattle.push_history.proofs.Fitting.{terms_len, updates_there}
use Rattle.octo_engine.specs.Counts.{HasShare}
use Rattle.octo_engine.specs.Looks.{AreLooks, looks_wanted}
use Rattle.octo_engine.specs.declared.worker.Part.{Part}
use Rattle.octo_engine.specs.Rounds.{AreWorkersAfter, AreTerms, IsAfter, Suit}

fit_by : (a b c : Bool) → a ≡ true → b ≡ true → c ≡ true → (a && (b && c)) ≡ true
fit_by a b c x y z = ap₂ (λ u v. u && v) x (ap₂ (λ u v. u && v) y z)

-- all that the rounds ask of the terms
pub are_terms : (r : Rules) (packets : List Packet) (o : Options) → r ≡ rules_in o → IsLawful o → All (λ p. p.amount < 2 ^ 32) packets → length packets ≤ 16777216 → AreTerms r (terms_of packets o) o packets
unfolding terms_of updates_by_options
are_terms r packets o is lawful small few =
    let t = terms_of packets o in
    let fit : (n : ℕ) → Fit r (layout_in o) (folded_after t o n) = λ n k d lt.
    let m = folded_fits packets o n lawful small k d lt in
    let worker : nat_lt (get_or (folded_after t o n) k d).worker o.workers ≡ true = grind (arith, m.0) in
    let cell : nat_lt (get_or (folded_after t o n) k d).cell (size_of o.shape) ≡ true = grind (arith, m.1) in
    fit_by _ _ _ worker cell (ap (λ (z : Rules). z.is_value (get_or (folded_after t o n) k d).amount) is ∙ m.2) in
    let short : (n : ℕ) → length (folded_after t o n) < 2 ^ 64 = λ n. let most = folded_few packets o n lawful few in omega (arith, most) in
    let shares : (w : ℕ) → w < o.workers → HasShare r t o.shape packets w (share_of_worker o.share o.workers packets w) = λ w lt.
    record { rules = sym is; updates = updates_there packets o w lt ∙ ap (λ (z : Rules). updates_of z o.shape packets (share_of_worker o.share o.workers packets w)) (sym is) } in
    record { runs = record { rules = sym is; workers = terms_len packets o; fit = fit; few = short }; shares = shares; some_lane = lawful.some_lane }

pub suits : (r : Rules) (packets : List Packet) (o : Options) → r ≡ rules_in o → Suit r (terms_of packets o) o
unfolding terms_of
suits r packets o is = record { rules = sym is; threshold = refl; capacity = refl; full = refl }

pub rules_are : (r : Rules) (o : Options) (s : Sketch) → r ≡ rules_of s → o.sketch ≡ s → r ≡ rules_in o
rules_are r o s is same = is ∙ ap rules_of (sym same)

-- what holds of each item holds with one more at the end
pub grown : {A : Type 0} (P : ℕ → A → Type 0) (xs new : List A) (n : ℕ) (x : A) → length xs ≡ n → new ≡ xs ++ x ∷ [] → ((w : ℕ) (d : A) → w < n → P w (get_or xs w d)) → P n x
    → (w : ℕ) (d : A) → w < n + 1 → P w (get_or new w d)
grown {A} P xs new n x len is each here w d lt = elim (cases_lt w n) [
  | inl early ↦ subst (λ (z : A). P w z) (sym (ap (λ (l : List A). get_or l w d) is ∙ get_or_append_left xs (x ∷ []) d w (omega (arith, early, len)))) (each w d early)
  | inr late ↦
      let same : n ≡ w = omega (arith, late, lt) in
      let place : w ≡ length xs = omega (arith, same, len) in
      let at : get_or new w d ≡ x = ap (λ (l : List A). get_or l w d) is ∙ ap (λ k. get_or (xs ++ x ∷ []) k d) place ∙ get_or-append_seam xs x [] d in
      subst (λ (z : A). P w z) (sym at) (subst (λ k. P k x) same here)
]

-- all packets together amount to less than 2 ^ 63
pub few_amounts : (packets : List Packet) → All (λ p. p.amount < 2 ^ 32) packets → length packets ≤ 16777216 → total_amount packets < 2 ^ 63
unfolding total_amount
few_amounts packets small few =
    let each : All (λ p. p.amount ≤ 4294967295) packets = λ k d lt. let less = small k d lt in omega (arith, less) in
    let most = sum_by-le (λ p. p.amount) 4294967295 packets each in
    let times : length packets * 4294967295 ≤ 16777216 * 4294967295 = mul-le-mul_right 4294967295 few in
    omega (arith, most, times)

-- before the first round
pub state_none : (r : Rules) (t : Terms) (o : Options) (s : StateView) → s ≡ fresh_state (layout_in o) → s ≡ state_after r (layout_in o) (folded_after t o 0)
state_none r t o s is = is ∙ ap (λ (ms : List Push). state_after r (layout_in o) ms) (sym (folded_none t o))

pub looks_none : (r : Rules) (t : Terms) (o : Options) (looks : Listed Answer) → looks.items ≡ [] → looks.room ≡ looks_wanted o → AreLooks r t o 0 looks
looks_none r t o looks none room = record {
  room = room;
  len = ap length none ∙ omega arith;
  each = λ k a is. absurd (let below = slice_get_within looks.items k a is in let len = ap length none in omega (arith, below, len));
}

-- what is written back of a slice of a whole vector
pub back : {A : Type 0} (xs ys : List A) (n : ℕ) → length xs ≡ n → xs ≡ take n (xs ++ ys)
back xs ys n len = sym (ap (λ k. take k (xs ++ ys)) (sym len) ∙ take-append_seam xs ys)

module _ {K H : Type 0} (r : Rules) (stands : H → ℤ → ℤ → Type 0) (t : Terms) (o : Options) (packets : List Packet) where
  -- the parts, the state and the looks before the first round
  pub after_none : (made parts : List (Part K H)) (state : StateView) (looks : Listed Answer) → AreWorkersAfter stands t o packets 0 made → parts ≡ made → state ≡ fresh_state (layout_in o) → looks.items ≡ []
      → looks.room ≡ looks_wanted o → IsAfter stands r t o packets parts state looks
  after_none made parts state looks are same is none room = record {
    rounds = 0;
    workers = subst (λ (ps : List (Part K H)). AreWorkersAfter stands t o packets 0 ps) (sym same) are;
    state_is = state_none r t o state is;
    seen = looks_none r t o looks none room;
  }

  -- the parts stand in their vector again once the rounds are over
  pub after_back : (parts rest : List (Part K H)) (n : ℕ) (state : StateView) (looks : Listed Answer) → length parts ≡ n → IsAfter stands r t o packets parts state looks
      → IsAfter stands r t o packets (take n (parts ++ rest)) state looks
  after_back parts rest n state looks len after = subst (λ (ps : List (Part K H)). IsAfter stands r t o packets ps state looks) (back parts rest n len) after
