-- What the first bytes of a block tell doesn't depend on the bytes behind.
use Rattle.std.proofs.Common.{◌≡◌, ◌≢◌, ◌≤◌, ◌<◌, ℕ, ◌+◌, ◌==◌, not, List, ◌++◌, length, Option, Some, None, Bool, true, false, refl, sym, ap, ◌∙◌, subst, arith, length-append, nat_lt, nat_le, if◌then◌else◌}
use Rattle.pcap_read.specs.Header.{number_at}
use Rattle.pcap_read.specs.Records.{most_captured}
use Rattle.pcap_read.proofs.Numbers.{number_at_append}
use Rattle.pcap_read.specs.declared.bad.Order.{Order}
use Rattle.pcap_read.specs.declared.bad.Order.TheVariants.{Big}
use Rattle.pcapng_read.specs.Blocks.{block_judged, enhanced_judged, first_judged, interface_judged, is_length, judged, judged_in, link_judged, need, numbered_judged, packet_judged, padded, passed_judged, told_offset, plan_of, section_in, section_judged, section_order, section_type, simple_captured, simple_in, simple_judged, version_judged}
use Rattle.pcapng_read.specs.Plans.{Late}
use Rattle.pcapng_read.specs.declared.bad.NgBad.{NgBad}
use Rattle.pcapng_read.specs.declared.bad.NgBad.TheVariants.{BadOrder, BadVersion, BadBlock, NotEthernet, NoInterface, TooLong, TooMany}
use Rattle.pcapng_read.specs.declared.block.Walk.{Walk}
use Rattle.pcapng_read.specs.declared.block.Plan.{Plan}
use Rattle.pcapng_read.specs.declared.block.Body.TheVariants.{Section, Interface, Packet, Passed}
use Rattle.pcapng_read.specs.declared.block.Judged.{Judged}
use Rattle.pcapng_read.specs.declared.block.Judged.TheVariants.{Waits, Refused, Known}

late_if : (limit : ℕ) (w : Walk) (n : ℕ) (b : Bool) (bad : NgBad) (k : Judged) → (b ≡ false → Late limit w n k) → Late limit w n (if b then Refused bad else k)
late_if limit w n true bad k f = tt
late_if limit w n false bad k f = f refl

late_need_by : (limit : ℕ) (w : Walk) (n m : ℕ) (b : Bool) (k : Judged) → Late limit w n k → Late limit w n (if b then Waits m else k)
late_need_by limit w n m true k h = tt
late_need_by limit w n m false k h = h

late_need : (limit : ℕ) (w : Walk) (n m : ℕ) (x : List ℕ) (k : Judged) → Late limit w n k → Late limit w n (need m x k)
late_need limit w n m x k h = late_need_by limit w n m (nat_lt (length x) m) k h

late_both : (limit : ℕ) (w : Walk) (n : ℕ) (b : Bool) (j k : Judged) → Late limit w n j → Late limit w n k → Late limit w n (if b then j else k)
late_both limit w n true j k p q = p
late_both limit w n false j k p q = q

long_by : (least total : ℕ) → not (is_length least total) ≡ false → least ≤ total
long_by least total e = grind arith

other_by : (a b : ℕ) → (a == b) ≡ false → a ≢ b
other_by a b e = grind arith

version_late : (limit : ℕ) (w : Walk) (n : ℕ) (order : Order) (total major minor : ℕ) → n ≤ 16 → 28 ≤ total → w.others ≢ limit → Late limit w n (version_judged order total major minor)
unfolding version_judged
version_late limit w n order total major minor le long few =
    late_if limit w n (not (major == 1)) (BadVersion major minor) (Known (plan_of order total Section))
    (λ _. (le, record { long = omega arith; room = omega (arith, long); small = omega arith; near = omega arith; few = few }))

section_in_late : (limit : ℕ) (w : Walk) (n : ℕ) (x : List ℕ) (o : Option Order) → n ≤ 16 → w.others ≢ limit → Late limit w n (section_in w x o)
unfolding section_in
section_in_late limit w n x None le few = tt
section_in_late limit w n x (Some order) le few =
    late_if limit w n (not (is_length 28 (number_at order 4 x 4))) (BadBlock (told_offset w) (number_at order 4 x 4)) _
    (λ e. late_need limit w n 16 x _ (version_late limit w n order (number_at order 4 x 4) (number_at order 2 x 12) (number_at order 2 x 14) le (long_by 28 (number_at order 4 x 4) e) few))

section_late : (limit : ℕ) (w : Walk) (n : ℕ) (x : List ℕ) → n ≤ 16 → Late limit w n (section_judged limit w x)
unfolding section_judged
section_late limit w n x le =
    late_if limit w n (w.others == limit) TooMany _
    (λ e. late_need limit w n 12 x _ (section_in_late limit w n x (section_order (number_at Big 4 x 8)) le (other_by w.others limit e)))

link_late : (limit : ℕ) (w : Walk) (n : ℕ) (order : Order) (total link snapshot : ℕ) → n ≤ 16 → 20 ≤ total → w.others ≢ limit → Late limit w n (link_judged order total link snapshot)
unfolding link_judged
link_late limit w n order total link snapshot le long few =
    late_if limit w n (not (link == 1)) (NotEthernet link) (Known (plan_of order total (Interface snapshot)))
    (λ _. (le, record { long = omega arith; room = omega (arith, long); small = omega arith; near = omega arith; few = few }))

interface_late : (limit : ℕ) (w : Walk) (n : ℕ) (order : Order) (x : List ℕ) → n ≤ 16 → Late limit w n (interface_judged limit w order x)
unfolding interface_judged
interface_late limit w n order x le =
    late_if limit w n (w.others == limit) TooMany _
    (λ few. late_if limit w n (not (is_length 20 (number_at order 4 x 4))) (BadBlock (told_offset w) (number_at order 4 x 4)) _
    (λ e. late_need limit w n 16 x _ (link_late limit w n order (number_at order 4 x 4) (number_at order 2 x 8) (number_at order 4 x 12) le (long_by 20 (number_at order 4 x 4) e) (other_by w.others limit few))))

-- padding takes no byte away
padded_le : (n : ℕ) → n ≤ padded n
padded_le n = omega arith

packet_late : (limit : ℕ) (w : Walk) (n : ℕ) (order : Order) (total at captured original : ℕ) → n ≤ at → 8 ≤ at → at ≤ 28 → w.packets ≢ limit → Late limit w n (packet_judged w order total at captured original)
unfolding packet_judged
packet_late limit w n order total at captured original le least near few =
    late_if limit w n (nat_lt most_captured captured) (TooLong (told_offset w) captured) _
    (λ s. late_if limit w n (nat_lt total (at + 4 + padded captured)) (BadBlock (told_offset w) total) _
    (λ t.
    let small : captured ≤ most_captured = grind arith in
    let fits : at + 4 + padded captured ≤ total = grind arith in
    let pad = padded_le captured in
    (omega (arith, le), record { long = omega (arith, least); room = omega (arith, fits, pad); small = small; near = near; few = few })))

enhanced_late : (limit : ℕ) (w : Walk) (n : ℕ) (order : Order) (x : List ℕ) → n ≤ 28 → Late limit w n (enhanced_judged limit w order x)
unfolding enhanced_judged numbered_judged
enhanced_late limit w n order x le =
    late_if limit w n (w.packets == limit) TooMany _
    (λ few. late_if limit w n (not (is_length 32 (number_at order 4 x 4))) (BadBlock (told_offset w) (number_at order 4 x 4)) _
    (λ e. late_need limit w n 28 x _
    (late_if limit w n (nat_le w.interfaces (number_at order 4 x 8)) (NoInterface (told_offset w) (number_at order 4 x 8)) _
    (λ _. packet_late limit w n order (number_at order 4 x 4) 28 (number_at order 4 x 20) (number_at order 4 x 24) le (omega arith) (omega arith) (other_by w.packets limit few)))))

simple_late : (limit : ℕ) (w : Walk) (n : ℕ) (order : Order) (x : List ℕ) → n ≤ 12 → Late limit w n (simple_judged limit w order x)
unfolding simple_judged simple_in
simple_late limit w n order x le =
    late_if limit w n (w.packets == limit) TooMany _
    (λ few. late_if limit w n (not (is_length 16 (number_at order 4 x 4))) (BadBlock (told_offset w) (number_at order 4 x 4)) _
    (λ e. late_need limit w n 12 x _
    (late_if limit w n (w.interfaces == 0) (NoInterface (told_offset w) 0) _
    (λ _. packet_late limit w n order (number_at order 4 x 4) 12 (simple_captured w.snapshot (number_at order 4 x 8)) (number_at order 4 x 8) le (omega arith) (omega arith) (other_by w.packets limit few)))))

passed_late : (limit : ℕ) (w : Walk) (n : ℕ) (order : Order) (total : ℕ) → n ≤ 8 → Late limit w n (passed_judged limit w order total)
unfolding passed_judged
passed_late limit w n order total le =
    late_if limit w n (w.others == limit) TooMany _
    (λ few. late_if limit w n (not (is_length 12 total)) (BadBlock (told_offset w) total) (Known (plan_of order total Passed))
    (λ e.
    let long = long_by 12 total e in
    (le, record { long = omega arith; room = omega (arith, long); small = omega arith; near = omega arith; few = other_by w.others limit few })))

block_late : (limit : ℕ) (w : Walk) (n : ℕ) (order : Order) (x : List ℕ) (type : ℕ) → n ≤ 8 → Late limit w n (block_judged limit w order x type)
unfolding block_judged
block_late limit w n order x type le =
    late_both limit w n (type == section_type) _ _ (section_late limit w n x (omega (arith, le)))
    (late_both limit w n (type == 1) _ _ (interface_late limit w n order x (omega (arith, le)))
    (late_both limit w n (type == 6) _ _ (enhanced_late limit w n order x (omega (arith, le)))
    (late_both limit w n (type == 3) _ _ (simple_late limit w n order x (omega (arith, le)))
    (passed_late limit w n order (number_at order 4 x 4) le))))

first_late : (limit : ℕ) (w : Walk) (n : ℕ) (x : List ℕ) (type : ℕ) → n ≤ 8 → Late limit w n (first_judged limit w x type)
unfolding first_judged
first_late limit w n x type le =
    late_both limit w n (type == section_type) _ _ (late_need limit w n 8 x _ (section_late limit w n x (omega (arith, le)))) tt

judged_late_in : (limit : ℕ) (w : Walk) (n : ℕ) (x : List ℕ) (o : Option Order) → n ≤ 8 → Late limit w n (judged_in limit w x o)
unfolding judged_in
judged_late_in limit w n x None le = late_need limit w n 4 x _ (first_late limit w n x (number_at Big 4 x 0) le)
judged_late_in limit w n x (Some order) le = late_need limit w n 8 x _ (block_late limit w n order x (number_at order 4 x 0) le)

-- a block that is known is sound
pub judged_late : (limit : ℕ) (w : Walk) (x : List ℕ) → Late limit w 8 (judged limit w x)
judged_late limit w x = judged_late_in limit w 8 x w.order (omega arith)

-- with more bytes behind, what is known stays; where more were wanted, the block that is known then is read at least so far
abbrev pub Goes : ℕ → Walk → Judged → Judged → Type 0
Goes limit w (Waits n) k = Late limit w n k
Goes limit w (Refused bad) k = k ≡ Refused bad
Goes limit w (Known plan) k = k ≡ Known plan

goes_refl : (limit : ℕ) (w : Walk) (j : Judged) → Goes limit w j j
goes_refl limit w (Waits n) = tt
goes_refl limit w (Refused bad) = refl
goes_refl limit w (Known plan) = refl

-- the same judgement
goes_same : (limit : ℕ) (w : Walk) (j k : Judged) → k ≡ j → Goes limit w j k
goes_same limit w j k e = subst (λ (t : Judged). Goes limit w j t) (sym e) (goes_refl limit w j)

goes_if : (limit : ℕ) (w : Walk) (b : Bool) (bad : NgBad) (j k : Judged) → (b ≡ false → Goes limit w j k) → Goes limit w (if b then Refused bad else j) (if b then Refused bad else k)
goes_if limit w true bad j k f = refl
goes_if limit w false bad j k f = f refl

goes_both : (limit : ℕ) (w : Walk) (b : Bool) (j k p q : Judged) → Goes limit w j k → Goes limit w p q → Goes limit w (if b then j else p) (if b then k else q)
goes_both limit w true j k p q g h = g
goes_both limit w false j k p q g h = h

need_by : (limit : ℕ) (w : Walk) (n : ℕ) (x y : List ℕ) (b : Bool) (j k : Judged) → nat_lt (length x) n ≡ b → Late limit w n k → (n ≤ length x → Goes limit w j k)
    → Goes limit w (if b then Waits n else j) (need n (x ++ y) k)
need_by limit w n x y true j k e late f = late_need limit w n n (x ++ y) k late
need_by limit w n x y false j k e late f =
    let long : n ≤ length x = grind arith in
    let more : n ≤ length (x ++ y) = omega (arith, long, length-append x y) in
    let no : nat_lt (length (x ++ y)) n ≡ false = grind arith in
    subst (λ (b : Bool). Goes limit w j (if b then Waits n else k)) (sym no) (f long)

goes_need : (limit : ℕ) (w : Walk) (n : ℕ) (x y : List ℕ) (j k : Judged) → Late limit w n k → (n ≤ length x → Goes limit w j k) → Goes limit w (need n x j) (need n (x ++ y) k)
goes_need limit w n x y j k late f = need_by limit w n x y (nat_lt (length x) n) j k refl late f

section_by_goes : (limit : ℕ) (w : Walk) (x y : List ℕ) (order : Order) (t : ℕ) → w.others ≢ limit
    → Goes limit w (if not (is_length 28 t) then Refused (BadBlock (told_offset w) t) else need 16 x (version_judged order t (number_at order 2 x 12) (number_at order 2 x 14)))
    (if not (is_length 28 t) then Refused (BadBlock (told_offset w) t) else need 16 (x ++ y) (version_judged order t (number_at order 2 (x ++ y) 12) (number_at order 2 (x ++ y) 14)))
section_by_goes limit w x y order t few =
    goes_if limit w (not (is_length 28 t)) (BadBlock (told_offset w) t) _ _
    (λ e. goes_need limit w 16 x y _ _ (version_late limit w 16 order t (number_at order 2 (x ++ y) 12) (number_at order 2 (x ++ y) 14) (omega arith) (long_by 28 t e) few)
    (λ long. goes_same limit w _ _
    (ap (λ (m : ℕ). version_judged order t m (number_at order 2 (x ++ y) 14)) (number_at_append order 2 x y 12 (omega (arith, long)))
    ∙ ap (λ (m : ℕ). version_judged order t (number_at order 2 x 12) m) (number_at_append order 2 x y 14 (omega (arith, long))))))

section_in_goes : (limit : ℕ) (w : Walk) (x y : List ℕ) (o : Option Order) → 12 ≤ length x → w.others ≢ limit → Goes limit w (section_in w x o) (section_in w (x ++ y) o)
unfolding section_in
section_in_goes limit w x y None long few = ap (λ (m : ℕ). Refused (BadOrder m)) (number_at_append Big 4 x y 8 (omega (arith, long)))
section_in_goes limit w x y (Some order) long few =
    subst (λ (t : ℕ). Goes limit w (section_in w x (Some order))
    (if not (is_length 28 t) then Refused (BadBlock (told_offset w) t) else need 16 (x ++ y) (version_judged order t (number_at order 2 (x ++ y) 12) (number_at order 2 (x ++ y) 14))))
    (sym (number_at_append order 4 x y 4 (omega (arith, long))))
    (section_by_goes limit w x y order (number_at order 4 x 4) few)

section_goes : (limit : ℕ) (w : Walk) (x y : List ℕ) → Goes limit w (section_judged limit w x) (section_judged limit w (x ++ y))
unfolding section_judged
section_goes limit w x y =
    goes_if limit w (w.others == limit) TooMany _ _
    (λ e. goes_need limit w 12 x y _ _ (section_in_late limit w 12 (x ++ y) (section_order (number_at Big 4 (x ++ y) 8)) (omega arith) (other_by w.others limit e))
    (λ long. subst (λ (m : ℕ). Goes limit w (section_in w x (section_order (number_at Big 4 x 8))) (section_in w (x ++ y) (section_order m)))
    (sym (number_at_append Big 4 x y 8 (omega (arith, long))))
    (section_in_goes limit w x y (section_order (number_at Big 4 x 8)) long (other_by w.others limit e))))

interface_by_goes : (limit : ℕ) (w : Walk) (x y : List ℕ) (order : Order) (t : ℕ) → w.others ≢ limit
    → Goes limit w (if not (is_length 20 t) then Refused (BadBlock (told_offset w) t) else need 16 x (link_judged order t (number_at order 2 x 8) (number_at order 4 x 12)))
    (if not (is_length 20 t) then Refused (BadBlock (told_offset w) t) else need 16 (x ++ y) (link_judged order t (number_at order 2 (x ++ y) 8) (number_at order 4 (x ++ y) 12)))
interface_by_goes limit w x y order t few =
    goes_if limit w (not (is_length 20 t)) (BadBlock (told_offset w) t) _ _
    (λ e. goes_need limit w 16 x y _ _ (link_late limit w 16 order t (number_at order 2 (x ++ y) 8) (number_at order 4 (x ++ y) 12) (omega arith) (long_by 20 t e) few)
    (λ long. goes_same limit w _ _
    (ap (λ (m : ℕ). link_judged order t m (number_at order 4 (x ++ y) 12)) (number_at_append order 2 x y 8 (omega (arith, long)))
    ∙ ap (λ (m : ℕ). link_judged order t (number_at order 2 x 8) m) (number_at_append order 4 x y 12 (omega (arith, long))))))

interface_goes : (limit : ℕ) (w : Walk) (x y : List ℕ) (order : Order) → 8 ≤ length x → Goes limit w (interface_judged limit w order x) (interface_judged limit w order (x ++ y))
unfolding interface_judged
interface_goes limit w x y order long =
    goes_if limit w (w.others == limit) TooMany _ _
    (λ e. subst (λ (t : ℕ). Goes limit w
    (if not (is_length 20 (number_at order 4 x 4)) then Refused (BadBlock (told_offset w) (number_at order 4 x 4)) else need 16 x (link_judged order (number_at order 4 x 4) (number_at order 2 x 8) (number_at order 4 x 12)))
    (if not (is_length 20 t) then Refused (BadBlock (told_offset w) t) else need 16 (x ++ y) (link_judged order t (number_at order 2 (x ++ y) 8) (number_at order 4 (x ++ y) 12))))
    (sym (number_at_append order 4 x y 4 (omega (arith, long))))
    (interface_by_goes limit w x y order (number_at order 4 x 4) (other_by w.others limit e)))

numbered_late : (limit : ℕ) (w : Walk) (n : ℕ) (order : Order) (total number captured original : ℕ) → n ≤ 28 → w.packets ≢ limit → Late limit w n (numbered_judged w order total number captured original)
unfolding numbered_judged
numbered_late limit w n order total number captured original le few =
    late_if limit w n (nat_le w.interfaces number) (NoInterface (told_offset w) number) _
    (λ _. packet_late limit w n order total 28 captured original le (omega arith) (omega arith) few)

enhanced_by_goes : (limit : ℕ) (w : Walk) (x y : List ℕ) (order : Order) (t : ℕ) → w.packets ≢ limit
    → Goes limit w (if not (is_length 32 t) then Refused (BadBlock (told_offset w) t) else need 28 x (numbered_judged w order t (number_at order 4 x 8) (number_at order 4 x 20) (number_at order 4 x 24)))
    (if not (is_length 32 t) then Refused (BadBlock (told_offset w) t) else need 28 (x ++ y) (numbered_judged w order t (number_at order 4 (x ++ y) 8) (number_at order 4 (x ++ y) 20) (number_at order 4 (x ++ y) 24)))
enhanced_by_goes limit w x y order t few =
    goes_if limit w (not (is_length 32 t)) (BadBlock (told_offset w) t) _ _
    (λ e. goes_need limit w 28 x y _ _
    (numbered_late limit w 28 order t (number_at order 4 (x ++ y) 8) (number_at order 4 (x ++ y) 20) (number_at order 4 (x ++ y) 24) (omega arith) few)
    (λ long. goes_same limit w _ _
    (ap (λ (m : ℕ). numbered_judged w order t m (number_at order 4 (x ++ y) 20) (number_at order 4 (x ++ y) 24)) (number_at_append order 4 x y 8 (omega (arith, long)))
    ∙ ap (λ (m : ℕ). numbered_judged w order t (number_at order 4 x 8) m (number_at order 4 (x ++ y) 24)) (number_at_append order 4 x y 20 (omega (arith, long)))
    ∙ ap (λ (m : ℕ). numbered_judged w order t (number_at order 4 x 8) (number_at order 4 x 20) m) (number_at_append order 4 x y 24 (omega (arith, long))))))

enhanced_goes : (limit : ℕ) (w : Walk) (x y : List ℕ) (order : Order) → 8 ≤ length x → Goes limit w (enhanced_judged limit w order x) (enhanced_judged limit w order (x ++ y))
unfolding enhanced_judged
enhanced_goes limit w x y order long =
    goes_if limit w (w.packets == limit) TooMany _ _
    (λ e. subst (λ (t : ℕ). Goes limit w
    (if not (is_length 32 (number_at order 4 x 4)) then Refused (BadBlock (told_offset w) (number_at order 4 x 4)) else need 28 x (numbered_judged w order (number_at order 4 x 4) (number_at order 4 x 8) (number_at order 4 x 20) (number_at order 4 x 24)))
    (if not (is_length 32 t) then Refused (BadBlock (told_offset w) t) else need 28 (x ++ y) (numbered_judged w order t (number_at order 4 (x ++ y) 8) (number_at order 4 (x ++ y) 20) (number_at order 4 (x ++ y) 24))))
    (sym (number_at_append order 4 x y 4 (omega (arith, long))))
    (enhanced_by_goes limit w x y order (number_at order 4 x 4) (other_by w.packets limit e)))

simple_in_late : (limit : ℕ) (w : Walk) (n : ℕ) (order : Order) (total original : ℕ) → n ≤ 12 → w.packets ≢ limit → Late limit w n (simple_in w order total original)
unfolding simple_in
simple_in_late limit w n order total original le few =
    late_if limit w n (w.interfaces == 0) (NoInterface (told_offset w) 0) _
    (λ _. packet_late limit w n order total 12 (simple_captured w.snapshot original) original le (omega arith) (omega arith) few)

simple_by_goes : (limit : ℕ) (w : Walk) (x y : List ℕ) (order : Order) (t : ℕ) → w.packets ≢ limit
    → Goes limit w (if not (is_length 16 t) then Refused (BadBlock (told_offset w) t) else need 12 x (simple_in w order t (number_at order 4 x 8)))
    (if not (is_length 16 t) then Refused (BadBlock (told_offset w) t) else need 12 (x ++ y) (simple_in w order t (number_at order 4 (x ++ y) 8)))
simple_by_goes limit w x y order t few =
    goes_if limit w (not (is_length 16 t)) (BadBlock (told_offset w) t) _ _
    (λ e. goes_need limit w 12 x y _ _ (simple_in_late limit w 12 order t (number_at order 4 (x ++ y) 8) (omega arith) few)
    (λ long. goes_same limit w _ _ (ap (λ (m : ℕ). simple_in w order t m) (number_at_append order 4 x y 8 (omega (arith, long))))))

simple_goes : (limit : ℕ) (w : Walk) (x y : List ℕ) (order : Order) → 8 ≤ length x → Goes limit w (simple_judged limit w order x) (simple_judged limit w order (x ++ y))
unfolding simple_judged
simple_goes limit w x y order long =
    goes_if limit w (w.packets == limit) TooMany _ _
    (λ e. subst (λ (t : ℕ). Goes limit w
    (if not (is_length 16 (number_at order 4 x 4)) then Refused (BadBlock (told_offset w) (number_at order 4 x 4)) else need 12 x (simple_in w order (number_at order 4 x 4) (number_at order 4 x 8)))
    (if not (is_length 16 t) then Refused (BadBlock (told_offset w) t) else need 12 (x ++ y) (simple_in w order t (number_at order 4 (x ++ y) 8))))
    (sym (number_at_append order 4 x y 4 (omega (arith, long))))
    (simple_by_goes limit w x y order (number_at order 4 x 4) (other_by w.packets limit e)))

block_goes : (limit : ℕ) (w : Walk) (x y : List ℕ) (order : Order) (type : ℕ) → 8 ≤ length x → Goes limit w (block_judged limit w order x type) (block_judged limit w order (x ++ y) type)
unfolding block_judged
block_goes limit w x y order type long =
    goes_both limit w (type == section_type) _ _ _ _ (section_goes limit w x y)
    (goes_both limit w (type == 1) _ _ _ _ (interface_goes limit w x y order long)
    (goes_both limit w (type == 6) _ _ _ _ (enhanced_goes limit w x y order long)
    (goes_both limit w (type == 3) _ _ _ _ (simple_goes limit w x y order long)
    (goes_same limit w _ _ (ap (λ (t : ℕ). passed_judged limit w order t) (number_at_append order 4 x y 4 (omega (arith, long))))))))

first_goes : (limit : ℕ) (w : Walk) (x y : List ℕ) (type : ℕ) → Goes limit w (first_judged limit w x type) (first_judged limit w (x ++ y) type)
unfolding first_judged
first_goes limit w x y type =
    goes_both limit w (type == section_type) _ _ _ _
    (goes_need limit w 8 x y _ _ (section_late limit w 8 (x ++ y) (omega arith)) (λ long. section_goes limit w x y)) refl

judged_goes_in : (limit : ℕ) (w : Walk) (x y : List ℕ) (o : Option Order) → Goes limit w (judged_in limit w x o) (judged_in limit w (x ++ y) o)
unfolding judged_in
judged_goes_in limit w x y None =
    goes_need limit w 4 x y _ _ (first_late limit w 4 (x ++ y) (number_at Big 4 (x ++ y) 0) (omega arith))
    (λ long. subst (λ (m : ℕ). Goes limit w (first_judged limit w x (number_at Big 4 x 0)) (first_judged limit w (x ++ y) m))
    (sym (number_at_append Big 4 x y 0 (omega (arith, long)))) (first_goes limit w x y (number_at Big 4 x 0)))
judged_goes_in limit w x y (Some order) =
    goes_need limit w 8 x y _ _ (block_late limit w 8 order (x ++ y) (number_at order 4 (x ++ y) 0) (omega arith))
    (λ long. subst (λ (m : ℕ). Goes limit w (block_judged limit w order x (number_at order 4 x 0)) (block_judged limit w order (x ++ y) m))
    (sym (number_at_append order 4 x y 0 (omega (arith, long)))) (block_goes limit w x y order (number_at order 4 x 0) long))

pub judged_goes : (limit : ℕ) (w : Walk) (x y : List ℕ) → Goes limit w (judged limit w x) (judged limit w (x ++ y))
judged_goes limit w x y = judged_goes_in limit w x y w.order

-- where more bytes are wanted, fewer have come
abbrev pub Wants : ℕ → Judged → Type 0
Wants len (Waits n) = len < n
Wants len (Refused bad) = Unit {0}
Wants len (Known plan) = Unit {0}

wants_if : (len : ℕ) (b : Bool) (bad : NgBad) (k : Judged) → Wants len k → Wants len (if b then Refused bad else k)
wants_if len true bad k h = tt
wants_if len false bad k h = h

wants_both : (len : ℕ) (b : Bool) (j k : Judged) → Wants len j → Wants len k → Wants len (if b then j else k)
wants_both len true j k g h = g
wants_both len false j k g h = h

wants_need_by : (len n : ℕ) (b : Bool) (k : Judged) → nat_lt len n ≡ b → Wants len k → Wants len (if b then Waits n else k)
wants_need_by len n true k e h = grind arith
wants_need_by len n false k e h = h

wants_need : (n : ℕ) (x : List ℕ) (k : Judged) → Wants (length x) k → Wants (length x) (need n x k)
wants_need n x k h = wants_need_by (length x) n (nat_lt (length x) n) k refl h

wants_known : (len : ℕ) (plan : Plan) → Wants len (Known plan)
wants_known len plan = tt

version_wants : (len : ℕ) (order : Order) (total major minor : ℕ) → Wants len (version_judged order total major minor)
unfolding version_judged
version_wants len order total major minor = wants_if len (not (major == 1)) (BadVersion major minor) _ (wants_known len (plan_of order total Section))

section_in_wants : (w : Walk) (x : List ℕ) (o : Option Order) → Wants (length x) (section_in w x o)
unfolding section_in
section_in_wants w x None = tt
section_in_wants w x (Some order) =
    wants_if (length x) (not (is_length 28 (number_at order 4 x 4))) (BadBlock (told_offset w) (number_at order 4 x 4)) _
    (wants_need 16 x _ (version_wants (length x) order (number_at order 4 x 4) (number_at order 2 x 12) (number_at order 2 x 14)))

section_wants : (limit : ℕ) (w : Walk) (x : List ℕ) → Wants (length x) (section_judged limit w x)
unfolding section_judged
section_wants limit w x = wants_if (length x) (w.others == limit) TooMany _ (wants_need 12 x _ (section_in_wants w x (section_order (number_at Big 4 x 8))))

link_wants : (len : ℕ) (order : Order) (total link snapshot : ℕ) → Wants len (link_judged order total link snapshot)
unfolding link_judged
link_wants len order total link snapshot = wants_if len (not (link == 1)) (NotEthernet link) _ (wants_known len (plan_of order total (Interface snapshot)))

interface_wants : (limit : ℕ) (w : Walk) (order : Order) (x : List ℕ) → Wants (length x) (interface_judged limit w order x)
unfolding interface_judged
interface_wants limit w order x =
    wants_if (length x) (w.others == limit) TooMany _
    (wants_if (length x) (not (is_length 20 (number_at order 4 x 4))) (BadBlock (told_offset w) (number_at order 4 x 4)) _
    (wants_need 16 x _ (link_wants (length x) order (number_at order 4 x 4) (number_at order 2 x 8) (number_at order 4 x 12))))

packet_wants : (len : ℕ) (w : Walk) (order : Order) (total at captured original : ℕ) → Wants len (packet_judged w order total at captured original)
unfolding packet_judged
packet_wants len w order total at captured original =
    wants_if len (nat_lt most_captured captured) (TooLong (told_offset w) captured) _
    (wants_if len (nat_lt total (at + 4 + padded captured)) (BadBlock (told_offset w) total) _
    (wants_known len (plan_of order total (Packet at captured original))))

numbered_wants : (len : ℕ) (w : Walk) (order : Order) (total number captured original : ℕ) → Wants len (numbered_judged w order total number captured original)
unfolding numbered_judged
numbered_wants len w order total number captured original =
    wants_if len (nat_le w.interfaces number) (NoInterface (told_offset w) number) _ (packet_wants len w order total 28 captured original)

enhanced_wants : (limit : ℕ) (w : Walk) (order : Order) (x : List ℕ) → Wants (length x) (enhanced_judged limit w order x)
unfolding enhanced_judged
enhanced_wants limit w order x =
    wants_if (length x) (w.packets == limit) TooMany _
    (wants_if (length x) (not (is_length 32 (number_at order 4 x 4))) (BadBlock (told_offset w) (number_at order 4 x 4)) _
    (wants_need 28 x _ (numbered_wants (length x) w order (number_at order 4 x 4) (number_at order 4 x 8) (number_at order 4 x 20) (number_at order 4 x 24))))

simple_in_wants : (len : ℕ) (w : Walk) (order : Order) (total original : ℕ) → Wants len (simple_in w order total original)
unfolding simple_in
simple_in_wants len w order total original =
    wants_if len (w.interfaces == 0) (NoInterface (told_offset w) 0) _ (packet_wants len w order total 12 (simple_captured w.snapshot original) original)

simple_wants : (limit : ℕ) (w : Walk) (order : Order) (x : List ℕ) → Wants (length x) (simple_judged limit w order x)
unfolding simple_judged
simple_wants limit w order x =
    wants_if (length x) (w.packets == limit) TooMany _
    (wants_if (length x) (not (is_length 16 (number_at order 4 x 4))) (BadBlock (told_offset w) (number_at order 4 x 4)) _
    (wants_need 12 x _ (simple_in_wants (length x) w order (number_at order 4 x 4) (number_at order 4 x 8))))

passed_wants : (limit : ℕ) (w : Walk) (order : Order) (len total : ℕ) → Wants len (passed_judged limit w order total)
unfolding passed_judged
passed_wants limit w order len total =
    wants_if len (w.others == limit) TooMany _
    (wants_if len (not (is_length 12 total)) (BadBlock (told_offset w) total) _ (wants_known len (plan_of order total Passed)))

block_wants : (limit : ℕ) (w : Walk) (order : Order) (x : List ℕ) (type : ℕ) → Wants (length x) (block_judged limit w order x type)
unfolding block_judged
block_wants limit w order x type =
    wants_both (length x) (type == section_type) _ _ (section_wants limit w x)
    (wants_both (length x) (type == 1) _ _ (interface_wants limit w order x)
    (wants_both (length x) (type == 6) _ _ (enhanced_wants limit w order x)
    (wants_both (length x) (type == 3) _ _ (simple_wants limit w order x)
    (passed_wants limit w order (length x) (number_at order 4 x 4)))))

first_wants : (limit : ℕ) (w : Walk) (x : List ℕ) (type : ℕ) → Wants (length x) (first_judged limit w x type)
unfolding first_judged
first_wants limit w x type = wants_both (length x) (type == section_type) _ (Refused (BadOrder type)) (wants_need 8 x _ (section_wants limit w x)) tt

judged_wants_in : (limit : ℕ) (w : Walk) (x : List ℕ) (o : Option Order) → Wants (length x) (judged_in limit w x o)
unfolding judged_in
judged_wants_in limit w x None = wants_need 4 x _ (first_wants limit w x (number_at Big 4 x 0))
judged_wants_in limit w x (Some order) = wants_need 8 x _ (block_wants limit w order x (number_at order 4 x 0))

pub judged_wants : (limit : ℕ) (w : Walk) (x : List ℕ) → Wants (length x) (judged limit w x)
judged_wants limit w x = judged_wants_in limit w x w.order
