-- Which format the first bytes tell.
use Rattle.std.proofs.Common.{◌≡◌, ◌<◌, ◌≤◌, ℕ, ◌+◌, List, [], ◌∷◌, ◌++◌, length, take, zero, suc, refl, sym, ap, ◌∙◌, subst, arith, append_assoc, length-take}
use Rattle.std.proofs.lemmas.List.{append-nil}
use Rattle.pcap_read.specs.Header.{IsPartOfHeader, header_refusal}
use Rattle.capture_load.specs.Capture.{IsNg, ng_magic}
use Rattle.capture_load.specs.Loads.{IsOther}

-- four bytes stand
pub ng_long : (bytes : List ℕ) → IsNg bytes → 4 ≤ length bytes
ng_long bytes is = omega (arith, ap length is, length-take 4 bytes)

-- four bytes that stand stay the first ones
pub same_front : (bytes more : List ℕ) → 4 ≤ length bytes → take 4 (bytes ++ more) ≡ take 4 bytes
same_front [] more long = absurd (omega (arith, long))
same_front (a ∷ []) more long = absurd (omega (arith, long))
same_front (a ∷ b ∷ []) more long = absurd (omega (arith, long))
same_front (a ∷ b ∷ c ∷ []) more long = absurd (omega (arith, long))
same_front (a ∷ b ∷ c ∷ d ∷ xs) more long = refl

pub ng_stays : (bytes more : List ℕ) → IsNg bytes → IsNg (bytes ++ more)
ng_stays bytes more is = same_front bytes more (ng_long bytes is) ∙ is

pub other_stays : (bytes more : List ℕ) → IsOther bytes → IsOther (bytes ++ more)
other_stays bytes more other = λ rest is. other (more ++ rest) (subst IsNg (append_assoc bytes more rest) is)

pub other_now : (bytes : List ℕ) → IsOther bytes → IsNg bytes → ⊥
other_now bytes other is = other [] (subst IsNg (sym (append-nil bytes)) is)

-- fewer bytes than four tell no format
pub open_long : (k : ℕ) → k < 4 → length (take k ng_magic) ≡ k
open_long k few = omega (arith, few, length-take k ng_magic)

pub open_not_ng : (k : ℕ) → k < 4 → IsNg (take k ng_magic) → ⊥
open_not_ng k few is = absurd (omega (arith, few, open_long k few, ng_long (take k ng_magic) is))

pub open_short : (k : ℕ) → k < 4 → IsPartOfHeader (take k ng_magic)
unfolding header_refusal
open_short zero few = record { few = omega (arith, few); fine = refl }
open_short (suc zero) few = record { few = omega (arith, few); fine = refl }
open_short (suc (suc zero)) few = record { few = omega (arith, few); fine = refl }
open_short (suc (suc (suc zero))) few = record { few = omega (arith, few); fine = refl }
open_short (suc (suc (suc (suc k)))) few = absurd (omega (arith, few))
