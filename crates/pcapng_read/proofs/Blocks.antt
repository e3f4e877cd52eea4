-- Blocks behind blocks, and what stands behind bytes that hold a refusal.
use Rattle.std.proofs.Common.{◌≡◌, ◌≤◌, ◌<◌, ℕ, ◌-◌, ◌==◌, List, [], ◌∷◌, ◌++◌, length, Some, None, Bool, true, false, refl, sym, ap, ◌∙◌, subst, arith, append_assoc, length-append, nat_lt, if◌then◌else◌}
use Rattle.std.specs.List.{flat_map}
use Rattle.std.proofs.lemmas.List.{append-nil}
use Rattle.pcap_read.specs.Header.{number_at}
use Rattle.pcap_read.specs.Records.{Framed}
use Rattle.pcap_read.proofs.Numbers.{number_at_append}
use Rattle.pcapng_read.specs.Blocks.{start, judged, walk_past, keep_of, told_offset, block_refusal, refusal_by}
use Rattle.pcapng_read.specs.Plans.{IsSoundPlan, Late}
use Rattle.pcapng_read.specs.Capture.{Block, text, IsBlock, AreBlocks, walk_behind, IsPartOfBlock, RefusesNext}
use Rattle.pcapng_read.proofs.Heads.{Goes, judged_goes, judged_late}
use Rattle.pcapng_read.specs.declared.bad.NgBad.{NgBad}
use Rattle.pcapng_read.specs.declared.bad.NgBad.TheVariants.{BadBlock}
use Rattle.pcapng_read.specs.declared.block.Walk.{Walk}
use Rattle.pcapng_read.specs.declared.block.Plan.{Plan}
use Rattle.pcapng_read.specs.declared.block.Judged.{Judged}
use Rattle.pcapng_read.specs.declared.block.Judged.TheVariants.{Waits, Refused, Known}

-- one block more
pub blocks_push : (limit : ℕ) (w : Walk) (bs : List Block) (b : Block) → AreBlocks limit w bs → IsBlock limit (walk_behind w bs) b → AreBlocks limit w (bs ++ b ∷ [])
unfolding AreBlocks
blocks_push limit w [] b all is = (is, tt)
blocks_push limit w (a ∷ bs) b all is = (all.0, blocks_push limit (walk_past w a.plan) bs b all.1 is)

pub walk_push : (w : Walk) (bs : List Block) (b : Block) → walk_behind w (bs ++ b ∷ []) ≡ walk_past (walk_behind w bs) b.plan
walk_push w [] b = refl
walk_push w (a ∷ bs) b = walk_push (walk_past w a.plan) bs b

pub flat_push : {X Y : Type 0} (f : X → List Y) (xs : List X) (x : X) → flat_map f (xs ++ x ∷ []) ≡ flat_map f xs ++ f x
flat_push f [] x = append-nil (f x)
flat_push f (y ∷ ys) x = ap (λ (t : List _). f y ++ t) (flat_push f ys x) ∙ sym (append_assoc (f y) (flat_map f ys) (f x))

-- what is known of a block stays with more bytes behind it
pub known_stays : (limit : ℕ) (w : Walk) (x y : List ℕ) (plan : Plan) → judged limit w x ≡ Known plan → judged limit w (x ++ y) ≡ Known plan
known_stays limit w x y plan known = subst (λ (j : Judged). Goes limit w j (judged limit w (x ++ y))) known (judged_goes limit w x y)

pub refused_stays : (limit : ℕ) (w : Walk) (x y : List ℕ) (bad : NgBad) → judged limit w x ≡ Refused bad → judged limit w (x ++ y) ≡ Refused bad
refused_stays limit w x y bad refused = subst (λ (j : Judged). Goes limit w j (judged limit w (x ++ y))) refused (judged_goes limit w x y)

-- a block that is known is read at least so far as more bytes were wanted before
pub known_late : (limit : ℕ) (w : Walk) (x y : List ℕ) (n : ℕ) (plan : Plan) → judged limit w x ≡ Waits n → judged limit w (x ++ y) ≡ Known plan → n ≤ keep_of plan
known_late limit w x y n plan waits known =
    let late = subst (λ (j : Judged). Goes limit w j (judged limit w (x ++ y))) waits (judged_goes limit w x y) in
    (subst (λ (j : Judged). Late limit w n j) known late).0

pub known_sound : (limit : ℕ) (w : Walk) (x : List ℕ) (plan : Plan) → judged limit w x ≡ Known plan → IsSoundPlan limit w plan
known_sound limit w x plan known = (subst (λ (j : Judged). Late limit w 8 j) known (judged_late limit w x)).1

known_same : (p q : Plan) → Known p ≡ Known q → p ≡ q
known_same p q e = cc

-- the last four bytes of a block that is refused with all of its bytes
if_refused : (a b : Bool) (p q : NgBad) → (if a then None else if b then None else Some p) ≡ Some q → (a ≡ false) × (b ≡ false) × (p ≡ q)
if_refused true b p q e = absurd (cc)
if_refused false true p q e = absurd (cc)
if_refused false false p q e = (refl, refl, cc)

refusal_by_stays : (limit : ℕ) (w : Walk) (x y : List ℕ) (j : Judged) (bad : NgBad) → judged limit w x ≡ j → refusal_by w x j ≡ Some bad → refusal_by w (x ++ y) (judged limit w (x ++ y)) ≡ Some bad
refusal_by_stays limit w x y (Waits n) bad is e = absurd (cc)
refusal_by_stays limit w x y (Refused b) bad is e = ap (refusal_by w (x ++ y)) (refused_stays limit w x y b is) ∙ e
refusal_by_stays limit w x y (Known plan) bad is e =
    let h = if_refused (nat_lt (length x) plan.total) (number_at plan.order 4 x (plan.total - 4) == plan.total) (BadBlock (told_offset w) plan.total) bad e in
    let sound = known_sound limit w x plan is in
    let long : plan.total ≤ length x = let a = h.0 in grind arith in
    let more : nat_lt (length (x ++ y)) plan.total ≡ false = let l : plan.total ≤ length (x ++ y) = omega (arith, long, length-append x y) in grind arith in
    let same = number_at_append plan.order 4 x y (plan.total - 4) (omega (arith, long, sound.room)) in
    ap (refusal_by w (x ++ y)) (known_stays limit w x y plan is) ∙ rw (more, same, h.1) (ap Some h.2)

-- what a block is refused for stays with more bytes behind
pub refusal_stays_block : (limit : ℕ) (w : Walk) (x y : List ℕ) (bad : NgBad) → block_refusal limit w x ≡ Some bad → block_refusal limit w (x ++ y) ≡ Some bad
refusal_stays_block limit w x y bad e = refusal_by_stays limit w x y (judged limit w x) bad refl e

pub refusal_stays : (limit : ℕ) (b x : List ℕ) (fs : List Framed) (bad : NgBad) → RefusesNext limit b fs bad → RefusesNext limit (b ++ x) fs bad
refusal_stays limit b x fs bad r = record {
  blocks = r.blocks;
  rest = r.rest ++ x;
  parts = ap (λ (t : List ℕ). t ++ x) r.parts ∙ append_assoc (flat_map text r.blocks) r.rest x;
  each = r.each;
  frames_are = r.frames_are;
  refused = refusal_stays_block limit (walk_behind start r.blocks) r.rest x bad r.refused;
}

-- no whole block stands at the front
abbrev pub Stops : ℕ → Walk → List ℕ → Type 0
Stops limit w x = (b : Block) (more : List ℕ) → IsBlock limit w b → x ≡ b.bytes ++ more → ⊥

part_stops_by : (limit : ℕ) (w : Walk) (x : List ℕ) (j : Judged) (b : Block) → j ≡ Known b.plan → IsPartOfBlock x j → length x < b.plan.total
part_stops_by limit w x (Waits n) b e part = absurd (cc)
part_stops_by limit w x (Refused bad) b e part = absurd part
part_stops_by limit w x (Known plan) b e part = subst (λ (p : Plan). length x < p.total) (known_same plan b.plan e) part

pub part_stops : (limit : ℕ) (w : Walk) (x : List ℕ) → IsPartOfBlock x (judged limit w x) → Stops limit w x
part_stops limit w x part b more is e =
    let known = ap (judged limit w) e ∙ known_stays limit w b.bytes more b.plan is.known in
    let short = part_stops_by limit w x (judged limit w x) b known part in
    absurd (omega (arith, short, is.whole, ap length e, length-append b.bytes more))

-- a whole block isn't refused
pub block_fine : (limit : ℕ) (w : Walk) (b : Block) (more : List ℕ) (bad : NgBad) → IsBlock limit w b → block_refusal limit w (b.bytes ++ more) ≡ Some bad → ⊥
block_fine limit w b more bad is refused =
    let x = b.bytes ++ more in
    let known = known_stays limit w b.bytes more b.plan is.known in
    let sound = known_sound limit w b.bytes b.plan is.known in
    let e : refusal_by w x (Known b.plan) ≡ Some bad = ap (refusal_by w x) (sym known) ∙ refused in
    let h = if_refused (nat_lt (length x) b.plan.total) (number_at b.plan.order 4 x (b.plan.total - 4) == b.plan.total) (BadBlock (told_offset w) b.plan.total) bad e in
    let same = number_at_append b.plan.order 4 b.bytes more (b.plan.total - 4) (omega (arith, is.whole, sound.room)) in
    let ends : number_at b.plan.order 4 x (b.plan.total - 4) ≡ b.plan.total = same ∙ is.ends in
    let no = h.1 in
    grind arith

pub refusal_stops : (limit : ℕ) (w : Walk) (x : List ℕ) (bad : NgBad) → block_refusal limit w x ≡ Some bad → Stops limit w x
refusal_stops limit w x bad refused b more is e = block_fine limit w b more bad is (ap (block_refusal limit w) (sym e) ∙ refused)

part_fine_by : (w : Walk) (x : List ℕ) (j : Judged) (bad : NgBad) → IsPartOfBlock x j → refusal_by w x j ≡ Some bad → ⊥
part_fine_by w x (Waits n) bad part e = absurd (cc)
part_fine_by w x (Refused b) bad part e = part
part_fine_by w x (Known plan) bad part e =
    let h = if_refused (nat_lt (length x) plan.total) (number_at plan.order 4 x (plan.total - 4) == plan.total) (BadBlock (told_offset w) plan.total) bad e in
    let no = h.0 in
    grind arith

-- part of a block isn't refused
pub part_fine : (limit : ℕ) (w : Walk) (x : List ℕ) (bad : NgBad) → IsPartOfBlock x (judged limit w x) → block_refusal limit w x ≡ Some bad → ⊥
part_fine limit w x bad part e = part_fine_by w x (judged limit w x) bad part e
