-- What a reader is answered in a state in which all that was folded is shown.
use Rattle.std.proofs.Common.{◌≡◌, ℕ, ℤ, List, [], length, take, true, sym, ap, ◌∙◌, arith}
use Rattle.std.specs.Prelude.{All, map}
use Rattle.std.proofs.lemmas.List.{append-nil, take_all}
use Rattle.hash_rows.specs.Rules.{AreLaws}
use Rattle.hash_rows.specs.declared.answer.Answer.{Answer}
use Rattle.hash_rows.specs.declared.options.Options.{Options}
use Rattle.push_history.specs.Answers.{answer_in, parts_of}
use Rattle.push_history.specs.Front.{front_of}
use Rattle.push_history.specs.Journal.{keys_of}
use Rattle.push_history.specs.LagRun.{Terms, State}
use Rattle.push_history.specs.LawfulRun.{IsLawfulState}
use Rattle.push_history.specs.Shown.{shown_cells, told_cells}
use Rattle.bracket.proofs.Counted.{messages_in}
use Rattle.push_history.specs.Looks.{IsLook}
use Rattle.round_law.proofs.Firsts.{firsts_of, firsts_shown}

pub look_parts : (t : Terms) → AreLaws t.rules → (o : Options) (q k : ℕ) (s : State) (a : Answer) → IsLawfulState t s → length s.workers ≡ o.workers → s.shown ≡ length s.folded
    → All (λ m. t.rules.is_value m.amount ≡ true) s.folded → a.reader ≡ q → a.number ≡ k → IsLook t.rules o s.folded a
    → parts_of a ≡ answer_in t o.shape (keys_of o) q k s
unfolding parts_of answer_in
look_parts t laws o q k s a h len all values reader number look =
    let whole : take s.shown s.folded ≡ s.folded = take_all s.shown s.folded (omega (arith, all)) in
    let front : front_of o.workers s.folded ≡ front_of (length s.workers) (take s.shown s.folded) =
    ap (λ (n : ℕ). front_of n s.folded) (sym len) ∙ ap (front_of (length s.workers)) (sym whole) in
    let shown : shown_cells t.rules o.shape (messages_in s) (front_of o.workers s.folded) ≡ told_cells t.rules o.shape s.folded =
    firsts_shown t.rules laws o.shape o.workers s s.folded len (λ j d lt. omega (arith, h.of_workers j d lt, h.workers, len)) values (firsts_of t s h s.folded [] (append-nil s.folded)) in
    ap (λ (n : ℕ). record { reader = n; number = a.number; folded = a.folded; front = a.front.items; shown = a.shown.items }) reader
    ∙ ap (λ (n : ℕ). record { reader = q; number = n; folded = a.folded; front = a.front.items; shown = a.shown.items }) number
    ∙ ap (λ (n : ℕ). record { reader = q; number = k; folded = n; front = a.front.items; shown = a.shown.items }) (look.folded ∙ sym all)
    ∙ ap (λ (f : List ℕ). record { reader = q; number = k; folded = s.shown; front = f; shown = a.shown.items }) (look.front ∙ front)
    ∙ ap (λ (l : List ℤ). record { reader = q; number = k; folded = s.shown; front = front_of (length s.workers) (take s.shown s.folded); shown = l })
    (look.shown ∙ ap (λ (cells : List ℤ). map (t.rules.estimate o.shape cells) (keys_of o)) (sym shown ∙ ap (shown_cells t.rules o.shape (messages_in s)) front))
