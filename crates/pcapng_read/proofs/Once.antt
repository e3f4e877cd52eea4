-- A list of bytes is a pcapng capture, or refused, in one way only.
use Rattle.std.proofs.Common.{◌≡◌, ℕ, List, [], ◌∷◌, ◌++◌, length, take, drop, Some, refl, sym, ap, ◌∙◌, subst, inl, inr, arith, append_assoc}
use Rattle.std.specs.List.{flat_map}
use Rattle.std.proofs.lemmas.List.{take_at, drop_at}
use Rattle.pcap_read.specs.Records.{Framed}
use Rattle.pcapng_read.specs.Blocks.{start, judged, walk_past, block_refusal}
use Rattle.pcapng_read.specs.Capture.{Block, text, framed, IsBlock, AreBlocks, walk_behind, Cuts, IsNgCapture, RefusesNext, NgOutcome, NgWhole, NgRefused, NgCaptureOf}
use Rattle.pcapng_read.proofs.Blocks.{Stops, known_stays, part_stops, refusal_stops, part_fine}
use Rattle.pcapng_read.specs.declared.bad.NgBad.{NgBad}
use Rattle.pcapng_read.specs.declared.block.Walk.{Walk}
use Rattle.pcapng_read.specs.declared.block.Plan.{Plan}
use Rattle.pcapng_read.specs.declared.block.Judged.TheVariants.{Known}

plans_same : (p q : Plan) → Known p ≡ Known q → p ≡ q
plans_same p q e = cc

same_block : (b c : Block) → b.bytes ≡ c.bytes → b.plan ≡ c.plan → b ≡ c
same_block b c e f = ap (λ (t : List ℕ). let k : Block = record { bytes = t; plan = b.plan } in k) e ∙ ap (λ (p : Plan). let k : Block = record { bytes = c.bytes; plan = p } in k) f

-- two lists that begin with a whole block begin with the same one
first_same : (limit : ℕ) (w : Walk) (b c : Block) (x y : List ℕ) → IsBlock limit w b → IsBlock limit w c → b.bytes ++ x ≡ c.bytes ++ y → (b ≡ c) × (x ≡ y)
first_same limit w b c x y is also e =
    let plans : b.plan ≡ c.plan =
    plans_same b.plan c.plan (sym (known_stays limit w b.bytes x b.plan is.known) ∙ ap (judged limit w) e ∙ known_stays limit w c.bytes y c.plan also.known) in
    let len : length b.bytes ≡ length c.bytes = is.whole ∙ ap (λ (p : Plan). p.total) plans ∙ sym also.whole in
    let front : b.bytes ≡ c.bytes = sym (take_at b.bytes x (length b.bytes) refl) ∙ ap (take (length b.bytes)) e ∙ take_at c.bytes y (length b.bytes) (sym len) in
    let back : x ≡ y = sym (drop_at b.bytes x (length b.bytes) refl) ∙ ap (drop (length b.bytes)) e ∙ drop_at c.bytes y (length b.bytes) (sym len) in
    (same_block b c front plans, back)

pub firsts_same : (limit : ℕ) (w : Walk) (b c : Block) (bs cs : List Block) (x y : List ℕ) → IsBlock limit w b → IsBlock limit w c
    → flat_map text (b ∷ bs) ++ x ≡ flat_map text (c ∷ cs) ++ y → (b ≡ c) × (flat_map text bs ++ x ≡ flat_map text cs ++ y)
firsts_same limit w b c bs cs x y is also e =
    first_same limit w b c (flat_map text bs ++ x) (flat_map text cs ++ y) is also
    (sym (append_assoc b.bytes (flat_map text bs) x) ∙ e ∙ append_assoc c.bytes (flat_map text cs) y)

-- a list of bytes is cut in one way into whole blocks and what has none at its front
pub cut_once : (limit : ℕ) (w : Walk) (bs cs : List Block) (x y : List ℕ) → AreBlocks limit w bs → AreBlocks limit w cs
    → Stops limit (walk_behind w bs) x → Stops limit (walk_behind w cs) y → flat_map text bs ++ x ≡ flat_map text cs ++ y → (bs ≡ cs) × (x ≡ y)
unfolding AreBlocks
cut_once limit w [] [] x y ab ac sx sy e = (refl, e)
cut_once limit w [] (c ∷ cs) x y ab ac sx sy e = absurd (sx c (flat_map text cs ++ y) ac.0 (e ∙ append_assoc c.bytes (flat_map text cs) y))
cut_once limit w (b ∷ bs) [] x y ab ac sx sy e = absurd (sy b (flat_map text bs ++ x) ab.0 (sym e ∙ append_assoc b.bytes (flat_map text bs) x))
cut_once limit w (b ∷ bs) (c ∷ cs) x y ab ac sx sy e =
    let same = firsts_same limit w b c bs cs x y ab.0 ac.0 e in
    let here = ap (λ (t : Block). walk_past w t.plan) same.0 in
    let others = cut_once limit (walk_past w b.plan) bs cs x y ab.1
    (subst (λ (v : Walk). AreBlocks limit v cs) (sym here) ac.1) sx
    (subst (λ (v : Walk). Stops limit (walk_behind v cs) y) (sym here) sy) same.1 in
    (ap (λ (t : Block). t ∷ bs) same.0 ∙ ap (λ (t : List Block). c ∷ t) others.0, others.1)

-- how far behind blocks that are all whole
pub record Cut (limit : ℕ) (bytes : List ℕ) (blocks : List Block) (rest : List ℕ) : Type 0 where
  pub parts : bytes ≡ flat_map text blocks ++ rest
  pub each : AreBlocks limit start blocks
  pub stops : Stops limit (walk_behind start blocks) rest

pub same_cut : (limit : ℕ) (bytes : List ℕ) (bs cs : List Block) (x y : List ℕ) → Cut limit bytes bs x → Cut limit bytes cs y → (bs ≡ cs) × (x ≡ y)
same_cut limit bytes bs cs x y a b = cut_once limit start bs cs x y a.each b.each a.stops b.stops (sym a.parts ∙ b.parts)

pub cut_part : (limit : ℕ) (bytes : List ℕ) (bs : List Block) (x : List ℕ) → Cuts limit bytes bs x → Cut limit bytes bs x
cut_part limit bytes bs x cut = record { parts = cut.parts; each = cut.each; stops = part_stops limit (walk_behind start bs) x cut.partial }

pub cut_refused : (limit : ℕ) (bytes : List ℕ) (fs : List Framed) (bad : NgBad) → (r : RefusesNext limit bytes fs bad) → Cut limit bytes r.blocks r.rest
cut_refused limit bytes fs bad r = record { parts = r.parts; each = r.each; stops = refusal_stops limit (walk_behind start r.blocks) r.rest bad r.refused }

-- a capture is read in one way only
pub one_reading : (limit : ℕ) (bytes : List ℕ) (fs gs : List Framed) (x y : List ℕ) → IsNgCapture limit bytes fs x → IsNgCapture limit bytes gs y → (fs ≡ gs) × (x ≡ y)
one_reading limit bytes fs gs x y a b =
    let same = same_cut limit bytes a.blocks b.blocks x y (cut_part limit bytes a.blocks x a.cut) (cut_part limit bytes b.blocks y b.cut) in
    (a.frames_are ∙ ap (flat_map framed) same.0 ∙ sym b.frames_are, same.1)

-- bytes that are cut are not refused
pub cuts_fine : (limit : ℕ) (bytes : List ℕ) (bs : List Block) (x : List ℕ) (gs : List Framed) (bad : NgBad) → Cuts limit bytes bs x → RefusesNext limit bytes gs bad → ⊥
cuts_fine limit bytes bs x gs bad cut r =
    let same = same_cut limit bytes r.blocks bs r.rest x (cut_refused limit bytes gs bad r) (cut_part limit bytes bs x cut) in
    part_fine limit (walk_behind start bs) x bad cut.partial
    (ap (block_refusal limit (walk_behind start bs)) (sym same.1) ∙ ap (λ (t : List Block). block_refusal limit (walk_behind start t) r.rest) (sym same.0) ∙ r.refused)

-- a capture isn't refused
pub capture_fine : (limit : ℕ) (bytes : List ℕ) (fs gs : List Framed) (x : List ℕ) (bad : NgBad) → IsNgCapture limit bytes fs x → RefusesNext limit bytes gs bad → ⊥
capture_fine limit bytes fs gs x bad a r = cuts_fine limit bytes a.blocks x gs bad a.cut r

-- a list of bytes has one refusal at most, behind one list of packets
pub one_refusal : (limit : ℕ) (bytes : List ℕ) (fs gs : List Framed) (p q : NgBad) → RefusesNext limit bytes fs p → RefusesNext limit bytes gs q → (fs ≡ gs) × (p ≡ q)
one_refusal limit bytes fs gs p q a b =
    let same = same_cut limit bytes a.blocks b.blocks a.rest b.rest (cut_refused limit bytes fs p a) (cut_refused limit bytes gs q b) in
    let e : Some p ≡ Some q =
    sym a.refused
    ∙ ap (λ (t : List Block). block_refusal limit (walk_behind start t) a.rest) same.0
    ∙ ap (block_refusal limit (walk_behind start b.blocks)) same.1
    ∙ b.refused in
    (a.frames_are ∙ ap (flat_map framed) same.0 ∙ sym b.frames_are, cc)

some_none : (limit : ℕ) (bytes : List ℕ) (fs : List Framed) (x : List ℕ) → IsNgCapture limit bytes fs x → Cuts limit bytes [] bytes → ⊥
some_none limit bytes fs x a short =
    let same = same_cut limit bytes a.blocks [] x bytes (cut_part limit bytes a.blocks x a.cut) (cut_part limit bytes [] bytes short) in
    absurd (omega (arith, a.some, ap length same.0))

-- an input has one outcome at most
pub one_outcome : (limit : ℕ) (bytes : List ℕ) (a b : NgOutcome) → NgCaptureOf limit bytes a → NgCaptureOf limit bytes b → a ≡ b
one_outcome limit bytes (NgWhole fs n) (NgWhole gs m) a b =
    let same = one_reading limit bytes fs gs a.0 b.0 a.1 b.1 in
    let cut : n ≡ m = a.2 ∙ ap length same.1 ∙ sym b.2 in
    ap (λ (t : List Framed). NgWhole t n) same.0 ∙ ap (NgWhole gs) cut
one_outcome limit bytes (NgWhole fs n) (NgRefused q) a (inl b) = absurd (capture_fine limit bytes fs b.0 a.0 q a.1 b.1)
one_outcome limit bytes (NgWhole fs n) (NgRefused q) a (inr b) = absurd (some_none limit bytes fs a.0 a.1 b.0)
one_outcome limit bytes (NgRefused p) (NgWhole gs m) (inl a) b = absurd (capture_fine limit bytes gs a.0 b.0 p b.1 a.1)
one_outcome limit bytes (NgRefused p) (NgWhole gs m) (inr a) b = absurd (some_none limit bytes gs b.0 b.1 a.0)
one_outcome limit bytes (NgRefused p) (NgRefused q) (inl a) (inl b) = ap NgRefused (one_refusal limit bytes a.0 b.0 p q a.1 b.1).1
one_outcome limit bytes (NgRefused p) (NgRefused q) (inl a) (inr b) = absurd (cuts_fine limit bytes [] bytes a.0 p b.0 a.1)
one_outcome limit bytes (NgRefused p) (NgRefused q) (inr a) (inl b) = absurd (cuts_fine limit bytes [] bytes b.0 q a.0 b.1)
one_outcome limit bytes (NgRefused p) (NgRefused q) (inr a) (inr b) = ap NgRefused (a.1 ∙ sym b.1)
