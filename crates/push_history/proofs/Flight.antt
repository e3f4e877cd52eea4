-- What was counted of a cell is what a front shows, what is in flight behind it, and the residue.
use Rattle.std.proofs.Common.{◌≡◌, ◌≤◌, ℕ, ℤ, List, ◌++◌, length, take, drop, true, nat_lt, sym, ap, ◌∙◌, subst, arith}
use Rattle.std.specs.Prelude.{All}
use Rattle.std.proofs.lemmas.List.{take-append-drop}
use Rattle.std.proofs.lemmas.List.Elements.{All-drop, All-filter, All-take, filter-append, filter_passes}
use Rattle.hash_rows.specs.declared.shape.Push.{Push}
use Rattle.hash_rows.specs.declared.shape.Update.{Update}
use Rattle.hash_rows.specs.Rules.{Rules, AreLaws}
use Rattle.push_history.specs.Front.{upto_of}
use Rattle.push_history.specs.Pushes.{ArePushes}
use Rattle.push_history.specs.Residue.{residue}
use Rattle.push_history.specs.Told.{messages_before, told, told_of}
use Rattle.push_history.specs.Updates.{HoldValues}
use Rattle.push_history.specs.Whole.{whole}
use Rattle.push_history.proofs.Conserved.{told_append}
use Rattle.push_history.proofs.Lists.{filter_kept}
use Rattle.push_history.proofs.Telling.{amounts_are_values, messages_first, whole_is}

-- the messages up to a front are all of updates before its last one, and so before any later one
first_kept : (S : List Push) (j m : ℕ) → messages_before (upto_of S j) S ≡ take j S → upto_of S j ≤ m → messages_before m (take j S) ≡ take j S
first_kept S j m first le =
    filter_kept (λ x. nat_lt x.update m) (take j S)
    (subst (λ (t : List Push). All (λ x. nat_lt x.update m ≡ true) t) first
    (λ k d lt. let before = filter_passes (λ x. nat_lt x.update (upto_of S j)) S k d lt in grind arith))

pub whole_in_flight : (r : Rules) → AreLaws r → (T : ℕ) (U : List Update) (S : List Push) (F : List ℕ) → HoldValues r U → ArePushes r T U S F
    → (j m cell : ℕ) → j ≤ length S → upto_of S j ≤ m → m ≤ length U
    → whole r U m cell ≡ r.join (r.join (told_of r cell (take j S)) (told_of r cell (messages_before m (drop j S)))) (residue r U S m cell)
unfolding residue told
whole_in_flight r laws T U S F values h j m cell le from most =
    let amounts : All (λ x. r.is_value x.amount ≡ true) S = amounts_are_values r laws T U S F values h in
    let flying : List Push = messages_before m (drop j S) in
    let parts : messages_before m S ≡ take j S ++ flying =
    ap (messages_before m) (sym (take-append-drop j S)) ∙ filter-append (λ x. nat_lt x.update m) (take j S) (drop j S)
    ∙ ap (λ (t : List Push). t ++ flying) (first_kept S j m (messages_first S h.rising j le) from) in
    let both : told_of r cell (messages_before m S) ≡ r.join (told_of r cell (take j S)) (told_of r cell flying) =
    ap (told_of r cell) parts
    ∙ told_append r laws cell (take j S) flying (All-take (λ x. r.is_value x.amount ≡ true) j S amounts)
    (All-filter (λ x. nat_lt x.update m) (λ x. r.is_value x.amount ≡ true) (drop j S) (All-drop (λ x. r.is_value x.amount ≡ true) j S amounts)) in
    whole_is r laws T U S F values h m cell most ∙ ap (λ (z : ℤ). r.join z (r.gap (told_of r cell (messages_before m S)) (whole r U m cell))) both
