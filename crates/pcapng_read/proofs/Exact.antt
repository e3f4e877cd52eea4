-- A reader refuses a piece where a refusal stands in it.
use Rattle.std.proofs.Common.{◌≡◌, ℕ, List, [], ◌∷◌, ◌++◌, length, take, drop, Ok, Err, Result, MatchBool, Bool, true, false, IfOk, refl, sym, ap, ◌∙◌, subst, arith, append_assoc, length-append}
use Rattle.std.specs.List.{flat_map}
use Rattle.std.proofs.lemmas.Grind.{flat_map-append}
use Rattle.std.proofs.lemmas.List.{take-append-drop, take_all, length_push}
use Rattle.pcap_read.specs.Records.{Framed}
use Rattle.pcapng_read.specs.Blocks.{start, walk_past}
use Rattle.pcapng_read.specs.Capture.{Block, text, framed, AreBlocks, walk_behind, RefusesNext}
use Rattle.pcapng_read.specs.View.{NgReaderView, Stands}
use Rattle.pcapng_read.specs.Takes.{Takes, TakesPacket, GoesOn}
use Rattle.pcapng_read.proofs.Blocks.{Stops, refusal_stops}
use Rattle.pcapng_read.proofs.Once.{cuts_fine, firsts_same, one_refusal}
use Rattle.pcapng_read.specs.declared.bad.NgBad.{NgBad}
use Rattle.pcapng_read.specs.declared.block.Walk.{Walk}
use Rattle.pcapng_read.specs.declared.reader.NgTaken.{NgTaken}

-- where a reader stands nothing was refused
pub stood_fine : (view : NgReaderView) (b : List ℕ) (fs gs : List Framed) (bad : NgBad) → Stands view b fs → RefusesNext view.limit b gs bad → ⊥
stood_fine view b fs gs bad h refused = cuts_fine view.limit b h.blocks h.rest gs bad h.cut refused

-- whole blocks stand at the front of all the whole blocks
blocks_front : (limit : ℕ) (w : Walk) (bs cs : List Block) (x y : List ℕ) → AreBlocks limit w bs → AreBlocks limit w cs → Stops limit (walk_behind w cs) y
    → flat_map text bs ++ x ≡ flat_map text cs ++ y → (ms : List Block) × (cs ≡ bs ++ ms)
unfolding AreBlocks
blocks_front limit w [] cs x y ab ac stop e = (cs, refl)
blocks_front limit w (b ∷ bs) [] x y ab ac stop e = absurd (stop b (flat_map text bs ++ x) ab.0 (sym e ∙ append_assoc b.bytes (flat_map text bs) x))
blocks_front limit w (b ∷ bs) (c ∷ cs) x y ab ac stop e =
    let same = firsts_same limit w b c bs cs x y ab.0 ac.0 e in
    let here = ap (λ (t : Block). walk_past w t.plan) same.0 in
    let others = blocks_front limit (walk_past w b.plan) bs cs x y ab.1
    (subst (λ (v : Walk). AreBlocks limit v cs) (sym here) ac.1)
    (subst (λ (v : Walk). Stops limit (walk_behind v cs) y) (sym here) stop) same.1 in
    (others.0, ap (λ (t : Block). t ∷ cs) (sym same.0) ∙ ap (λ (t : List Block). b ∷ t) others.1)

-- a packet that is whole comes before the refusals behind it
packet_first : (view : NgReaderView) (a z : List ℕ) (fs : List Framed) (next : Framed) (bad : NgBad) → Stands view a (fs ++ next ∷ []) → RefusesNext view.limit (a ++ z) fs bad → ⊥
packet_first view a z fs next bad h r =
    let parts : flat_map text h.blocks ++ (h.rest ++ z) ≡ flat_map text r.blocks ++ r.rest =
    sym (append_assoc (flat_map text h.blocks) h.rest z) ∙ ap (λ (t : List ℕ). t ++ z) (sym h.cut.parts) ∙ r.parts in
    let more = blocks_front view.limit start h.blocks r.blocks (h.rest ++ z) r.rest h.cut.each r.each (refusal_stops view.limit (walk_behind start r.blocks) r.rest bad r.refused) parts in
    let all : fs ≡ (fs ++ next ∷ []) ++ flat_map framed more.0 =
    r.frames_are ∙ ap (flat_map framed) more.1 ∙ flat_map-append framed h.blocks more.0 ∙ ap (λ (t : List Framed). t ++ flat_map framed more.0) (sym h.frames_are) in
    absurd (omega (arith, ap length all, length-append (fs ++ next ∷ []) (flat_map framed more.0), length_push fs next))

ok_fine : (new : NgReaderView) (piece b : List ℕ) (fs : List Framed) (bad : NgBad) (used : ℕ) (p : Bool)
    → MatchBool p (TakesPacket new (b ++ take used piece) fs) (Stands new (b ++ take used piece) fs) → (p ≡ false → used ≡ length piece)
    → RefusesNext new.limit (b ++ piece) fs bad → ⊥
ok_fine new piece b fs bad used true taken all refused =
    let split : b ++ piece ≡ (b ++ take used piece) ++ drop used piece =
    ap (λ (t : List ℕ). b ++ t) (sym (take-append-drop used piece)) ∙ sym (append_assoc b (take used piece) (drop used piece)) in
    packet_first new (b ++ take used piece) (drop used piece) fs taken.next bad taken.stands
    (subst (λ (t : List ℕ). RefusesNext new.limit t fs bad) split refused)
ok_fine new piece b fs bad used false stands all refused =
    let whole : take used piece ≡ piece = take_all used piece (omega (arith, all refl)) in
    stood_fine new (b ++ take used piece) fs fs bad stands
    (subst (λ (t : List ℕ). RefusesNext new.limit (b ++ t) fs bad) (sym whole) refused)

-- a refusal that stands in the piece before the next packet block's end is answered
pub refused_exactly : (old from new : NgReaderView) (piece : List ℕ) (result : Result NgTaken NgBad) → Takes old new piece result → new.limit ≡ old.limit
    → IfOk result (λ taken. GoesOn from new piece taken)
    → (b : List ℕ) (fs : List Framed) (bad : NgBad) → Stands old b fs → RefusesNext old.limit (b ++ piece) fs bad → result ≡ Err bad
refused_exactly old from new piece (Ok taken) takes limit on b fs bad stands refused =
    absurd (ok_fine new piece b fs bad taken.used taken.packet (takes b fs stands) on.all (subst (λ (n : ℕ). RefusesNext n (b ++ piece) fs bad) (sym limit) refused))
refused_exactly old from new piece (Err other) takes limit on b fs bad stands refused =
    ap Err (one_refusal old.limit (b ++ piece) fs fs other bad (takes b fs stands) refused).1
