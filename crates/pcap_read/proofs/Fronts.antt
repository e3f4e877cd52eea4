-- A record that is taken where it stands, at the front of a piece.
use Rattle.std.proofs.Common.{◌≡◌, ◌<◌, ◌≤◌, ℕ, ◌+◌, ◌-◌, List, [], ◌∷◌, ◌++◌, length, take, drop, Some, None, refl, sym, ap, ◌∙◌, subst, arith, length-take}
use Rattle.std.proofs.lemmas.List.{take-append-drop, drop-take}
use Rattle.pcap_read.specs.Records.{Framed, captured, frame_of, original}
use Rattle.pcap_read.specs.Place.{Place, Stands}
use Rattle.pcap_read.proofs.Numbers.{original_append}
use Rattle.pcap_read.proofs.Steps.{holds_front, record_of}
use Rattle.pcap_read.proofs.Stood.{frame_whole, stands_whole}
use Rattle.pcap_read.specs.declared.bad.Order.{Order}

abbrev framed : ℕ → List ℕ → Framed
framed number bytes = record { original = number; bytes = bytes }

original_front : (order : Order) (n : ℕ) (a : List ℕ) → 16 ≤ n → n ≤ length a → original order (take n a) ≡ original order a
original_front order n a long le =
    sym (original_append order (take n a) (drop n a) (omega (arith, length-take n a))) ∙ ap (original order) (take-append-drop n a)

-- the captured bytes of the record
pub behind_head : (piece : List ℕ) (n : ℕ) → 16 ≤ n → drop 16 (take n piece) ≡ take (n - 16) (drop 16 piece)
behind_head piece n long = subst (λ (m : ℕ). drop 16 (take m piece) ≡ take (n - 16) (drop 16 piece)) (omega (arith, long)) (drop-take 16 (n - 16) piece)

-- such a record becomes one more frame
pub front_taken : (old new : Place) (order : Order) (b piece : List ℕ) (n number : ℕ) (fs : List Framed) → old.order ≡ Some order → new.order ≡ Some order → new.limit ≡ old.limit
    → new.kept ≡ None → new.count ≡ old.count + 1 → new.bytes ≡ old.bytes + n → old.held ≡ [] → new.held ≡ [] → 16 ≤ n → n ≤ length piece
    → captured order piece ≤ 262144 → n ≡ 16 + captured order piece → old.count < old.limit → number ≡ original order piece → Stands old b fs
    → Stands new (b ++ take n piece) (fs ++ framed number (take (n - 16) (drop 16 piece)) ∷ [])
front_taken old new order b piece n number fs was is limit going count bytes none no_more long bound small len few number_is stands =
    let x = take n piece in
    let whole = holds_front order piece x n refl long bound small len in
    let frame : frame_of order (record_of x) ≡ framed number (take (n - 16) (drop 16 piece)) =
    sym (frame_whole order x whole) ∙ ap (λ (k : ℕ). framed k (drop 16 x)) (original_front order n piece long bound ∙ sym number_is)
    ∙ ap (λ (t : List ℕ). framed number t) (behind_head piece n long) in
    let stood = stands_whole old new order b x x fs was is limit going count (omega (arith, bytes, bound, length-take n piece)) (ap (λ (t : List ℕ). t ++ x) (sym none)) no_more whole few stands in
    subst (λ (f : Framed). Stands new (b ++ take n piece) (fs ++ f ∷ [])) frame stood
