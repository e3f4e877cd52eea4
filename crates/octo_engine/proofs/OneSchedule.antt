-- A run in rounds has one journal.
use Rattle.std.proofs.Common.{◌≡◌, ◌∙◌, ◌<◌, ◌⊎◌, inl, inr, refl, sym, ap, arith, ℕ, Bool, true, false, true≢false, List, nat_lt}
use Rattle.std.proofs.lemmas.Bool.Decides.{nat_tests}
use Rattle.std.specs.Prelude.{fold}
use Rattle.std.specs.List.{range_with_len}
use Rattle.hash_rows.specs.declared.options.Options.{Options}
use Rattle.hash_rows.specs.declared.shape.Packet.{Packet}
use Rattle.push_history.specs.LagRun.{Terms}
use Rattle.push_history.specs.declared.event.Event.{Event}
use Rattle.push_history.specs.Journal.{Journal, journal_of}
use Rattle.push_history.specs.Rounds.{AreRounds, IsRoundsJournal, ask_at_end, events_of_rounds}

-- rounds end at the first of them behind which no one is busy
one_number : (t : Terms) (o : Options) (a b : List Event) (x : AreRounds t o a) (y : AreRounds t o b) → x.rounds ≡ y.rounds
one_number t o a b x y = by (order x.rounds y.rounds)
  where
    order : (m n : ℕ) → (m ≡ n) ⊎ ((m < n) ⊎ (n < m))
    order m n = test (nat_lt m n) refl (nat_lt n m) refl
      where
        test : (a : Bool) → nat_lt m n ≡ a → (b : Bool) → nat_lt n m ≡ b → (m ≡ n) ⊎ ((m < n) ⊎ (n < m))
        test true e b f = inr (inl (grind (arith, nat_tests)))
        test false e true f = inr (inr (grind (arith, nat_tests)))
        test false e false f = inl (grind (arith, nat_tests))

    by : (x.rounds ≡ y.rounds) ⊎ ((x.rounds < y.rounds) ⊎ (y.rounds < x.rounds)) → x.rounds ≡ y.rounds
    by (inl same) = same
    by (inr (inl less)) = absurd (true≢false (sym (y.busy x.rounds less) ∙ x.idle))
    by (inr (inr more)) = absurd (true≢false (sym (x.busy y.rounds more) ∙ y.idle))

pub one_schedule : (t : Terms) (o : Options) (a b : List Event) → AreRounds t o a → AreRounds t o b → a ≡ b
one_schedule t o a b x y =
    x.all ∙ ap (λ (n : ℕ). fold (ask_at_end o) (events_of_rounds t o n) (range_with_len 0 o.readers)) (one_number t o a b x y) ∙ sym y.all

pub one_journal : (packets : List Packet) (o : Options) (i j : Journal) → IsRoundsJournal packets o i → IsRoundsJournal packets o j → i ≡ j
one_journal packets o i j a b = a.journal ∙ ap (journal_of packets o) (one_schedule _ o a.events b.events a.schedule b.schedule) ∙ sym b.journal
