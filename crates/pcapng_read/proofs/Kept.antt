-- What is held of a block, as its bytes come.
use Rattle.std.proofs.Common.{◌≡◌, ◌≤◌, ℕ, ◌+◌, List, ◌++◌, length, take, drop, sym, ap, ◌∙◌, arith, append_assoc, length-append, length-take, length-drop}
use Rattle.std.proofs.lemmas.List.{append-nil, take-append-drop, take-append-le, drop-append-le, take_all, drop_all, drop-take, drop_at}
use Rattle.byteorder.specs.Endian.{little_number, big_number}
use Rattle.pcap_read.specs.Header.{number_at}
use Rattle.pcap_read.specs.declared.bad.Order.{Order}
use Rattle.pcap_read.specs.declared.bad.Order.TheVariants.{Little, Big}

-- the first k bytes, and those behind the first l
abbrev pub ends_of : ℕ → ℕ → List ℕ → List ℕ
ends_of k l x = take k x ++ drop l x

pub all_kept : (k l : ℕ) (x : List ℕ) → k ≤ l → length x ≤ k → ends_of k l x ≡ x
all_kept k l x le short = ap (λ (t : List ℕ). t ++ drop l x) (take_all k x short) ∙ ap (λ (t : List ℕ). x ++ t) (drop_all l x (omega (arith, le, short))) ∙ append-nil x

-- bytes of the front
pub front_kept : (k l : ℕ) (x y h : List ℕ) → k ≤ l → length x + length y ≤ k → h ≡ ends_of k l x → h ++ y ≡ ends_of k l (x ++ y)
front_kept k l x y h le short is =
    ap (λ (t : List ℕ). t ++ y) (is ∙ all_kept k l x le (omega (arith, short))) ∙ sym (all_kept k l (x ++ y) le (omega (arith, short, length-append x y)))

-- bytes that are passed over
pub middle_kept : (k l : ℕ) (x y h : List ℕ) → k ≤ length x → length x + length y ≤ l → h ≡ ends_of k l x → h ≡ ends_of k l (x ++ y)
middle_kept k l x y h long short is =
    is
    ∙ ap (λ (t : List ℕ). take k x ++ t) (drop_all l x (omega (arith, short)) ∙ sym (drop_all l (x ++ y) (omega (arith, short, length-append x y))))
    ∙ ap (λ (t : List ℕ). t ++ drop l (x ++ y)) (sym (take-append-le k x y long))

-- bytes of the end
pub last_kept : (k l : ℕ) (x y h : List ℕ) → k ≤ length x → l ≤ length x → h ≡ ends_of k l x → h ++ y ≡ ends_of k l (x ++ y)
last_kept k l x y h long last is =
    ap (λ (t : List ℕ). t ++ y) is
    ∙ append_assoc (take k x) (drop l x) y
    ∙ ap (λ (t : List ℕ). take k x ++ t) (sym (drop-append-le l x y last))
    ∙ ap (λ (t : List ℕ). t ++ drop l (x ++ y)) (sym (take-append-le k x y long))

end_dropped : (k l : ℕ) (x : List ℕ) → k ≤ length x → drop k (ends_of k l x) ≡ drop l x
end_dropped k l x long = drop_at (take k x) (drop l x) k (omega (arith, long, length-take k x))

-- the number at the end stands behind the front
pub number_kept : (order : Order) (k l n : ℕ) (x : List ℕ) → k ≤ length x → number_at order n (ends_of k l x) k ≡ number_at order n x l
unfolding number_at
number_kept Little k l n x long = ap (little_number n) (end_dropped k l x long)
number_kept Big k l n x long = ap (big_number n) (end_dropped k l x long)

-- bytes of the front stand where they stood
pub data_kept : (a c : ℕ) (x z : List ℕ) → a + c ≤ length x → take c (drop a (take (a + c) x ++ z)) ≡ take c (drop a x)
data_kept a c x z le =
    let front : length (take (a + c) x) ≡ a + c = omega (arith, le, length-take (a + c) x) in
    let size : length (drop a (take (a + c) x)) ≡ c = omega (arith, front, length-drop a (take (a + c) x)) in
    ap (take c) (drop-append-le a (take (a + c) x) z (omega (arith, front)))
    ∙ take-append-le c (drop a (take (a + c) x)) z (omega (arith, size))
    ∙ take_all c (drop a (take (a + c) x)) (omega (arith, size))
    ∙ drop-take a c x

-- bytes of the front stand in it
pub data_front : (a c n : ℕ) (x : List ℕ) → a + c ≤ n → n ≤ length x → take c (drop a (take n x)) ≡ take c (drop a x)
data_front a c n x le long =
    let size : length (take n x) ≡ n = omega (arith, long, length-take n x) in
    sym (take-append-le c (drop a (take n x)) (drop n x) (omega (arith, size, le, length-drop a (take n x))))
    ∙ ap (take c) (sym (drop-append-le a (take n x) (drop n x) (omega (arith, size, le))))
    ∙ ap (λ (t : List ℕ). take c (drop a t)) (take-append-drop n x)
