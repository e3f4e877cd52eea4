-- The remainder by a power of two.
use Rattle.std.proofs.Common.{◌≡◌, ◌<◌, ◌∙◌, ℕ, ◌-◌, ◌*◌, ◌^◌, ◌%◌, bit_and, sym, ap, arith}
use Rattle.std.proofs.Math.Nat.{mod-eq_of_lt}
use Rattle.std.proofs.Math.Pow.{pow-lt}
use Rattle.std.proofs.lemmas.Nat.{and_mask}

shifted : (bits : ℕ) → bits < 32 → (1 * 2 ^ bits) % 2 ^ 32 ≡ 2 ^ bits
shifted bits few = ap (λ n. n % 2 ^ 32) (omega arith) ∙ mod-eq_of_lt (pow-lt few)

pub masked : (hash columns mask bits : ℕ) → bits < 32 → columns ≡ (1 * 2 ^ bits) % 2 ^ 32 → mask ≡ columns - 1 → bit_and hash mask ≡ hash % columns
masked hash columns mask bits few is below =
    let power = is ∙ shifted bits few in
    ap (bit_and hash) (below ∙ ap (λ n. n - 1) power) ∙ and_mask hash bits ∙ ap (λ n. hash % n) (sym power)
