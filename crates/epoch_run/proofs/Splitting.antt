-- Epochs as pieces of all packets.
use Rattle.std.proofs.Common.{◌≡◌, ◌∙◌, ◌<◌, ◌≤◌, ◌+◌, ◌-◌, ◌*◌, ℕ, zero, suc, List, [], ◌++◌, length, take, drop, min, refl, sym, ap, ap₂, arith, Bool, true, false, nat_le}
use Rattle.std.proofs.lemmas.List.{length-drop, drop-drop, take_all}
use Rattle.std.proofs.Math.Nat.{suc-mul}
use Rattle.std.proofs.Math.Seq.{take-add}
use Rattle.hash_rows.specs.declared.shape.Packet.{Packet}
use Rattle.epoch_run.specs.Epochs.{epoch_packets}
use Rattle.epoch_run.specs.Places.{packets_before}

-- as many as there are at most
take_most : (m n : ℕ) (xs : List Packet) → n ≡ min (length xs) m → take n xs ≡ take m xs
take_most m n xs is = by_test (nat_le m (length xs)) refl where
  by_test : (b : Bool) → nat_le m (length xs) ≡ b → take n xs ≡ take m xs
  by_test true fits = let all : n ≡ m = grind arith in ap (λ k. take k xs) all
  by_test false more =
      let all : n ≡ length xs = grind arith in
      let less : length xs ≤ m = grind arith in
      ap (λ k. take k xs) all ∙ take_all (length xs) xs (omega arith) ∙ sym (take_all m xs less)

pub here_is : (size e end : ℕ) (packets : List Packet) → e * size < length packets → end ≡ min (length packets) (e * size + size)
    → take (end - e * size) (drop (e * size) packets) ≡ epoch_packets size packets e
unfolding epoch_packets
here_is size e end packets within is =
    take_most size (end - e * size) (drop (e * size) packets) (omega (arith, is, within, length-drop (e * size) packets))

pub around_is : (size e end : ℕ) (packets : List Packet) → 0 < e → e * size < length packets → end ≡ min (length packets) (e * size + size)
    → take (end - (e * size - size)) (drop (e * size - size) packets) ≡ packets_before size packets e ++ epoch_packets size packets e
unfolding epoch_packets
around_is size zero end packets some within is = absurd (omega (arith, some))
around_is size (suc e) end packets some within is =
    let start : ℕ = e * size in
    let next : suc e * size ≡ start + size = suc-mul e size in
    let from : suc e * size - size ≡ start = omega (arith, next) in
    let count : end - (suc e * size - size) ≡ size + (end - suc e * size) = omega (arith, next, is, within) in
    let rest : drop size (drop start packets) ≡ drop (suc e * size) packets = drop-drop size start packets ∙ ap (λ k. drop k packets) (sym next) in
    ap₂ (λ n k. take n (drop k packets)) count from
    ∙ take-add size (end - suc e * size) (drop start packets)
    ∙ ap (λ (ps : List Packet). take size (drop start packets) ++ take (end - suc e * size) ps) rest
    ∙ ap (λ (ps : List Packet). take size (drop start packets) ++ ps) (here_is size (suc e) end packets within is)

-- the epoch before the next
pub before_is : (size e : ℕ) (packets : List Packet) → 0 < e → epoch_packets size packets (e - 1) ≡ packets_before size packets e
before_is size zero packets some = absurd (omega (arith, some))
before_is size (suc e) packets some = ap (epoch_packets size packets) (omega arith)

pub none_before : (size e : ℕ) (packets : List Packet) → e ≡ 0 → [] ≡ packets_before size packets e
none_before size e packets first = ap (packets_before size packets) (sym first)

pub earlier : (size e : ℕ) (packets : List Packet) → e * size < length packets → (e - 1) * size < length packets
earlier size zero packets within = within
earlier size (suc e) packets within =
    let less : suc e - 1 ≡ e = omega arith in
    rw less (omega (arith, within, suc-mul e size))
