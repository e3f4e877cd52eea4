-- Readers that have taken the first bytes of a pcapng capture.
use Rattle.std.proofs.Common.{◌≡◌, ◌<◌, ℕ, ◌+◌, List, [], ◌∷◌, ◌++◌, length, take, Bool, true, false, MatchBool, Some, None, refl, sym, ap, ◌∙◌, subst, arith, length-take, length-append}
use Rattle.std.specs.List.{flat_map}
use Rattle.std.specs.Prelude.{if◌then◌else◌}
use Rattle.std.proofs.lemmas.List.{take_all}
use Rattle.pcap_read.specs.Header.{number_at}
use Rattle.pcap_read.specs.Records.{Framed}
use Rattle.pcapng_read.proofs.Blocks.{known_sound}
use Rattle.pcapng_read.specs.Blocks.{start, judged_in, first_judged, block_refusal}
use Rattle.pcapng_read.specs.Capture.{AreBlocks, Block, RefusesNext, framed, text, walk_behind}
use Rattle.pcapng_read.specs.Takes.{GoesOn as NgGoesOn, TakesPacket, taken_by}
use Rattle.pcapng_read.specs.View.{NgReaderView, Stands as NgStands}
use Rattle.pcapng_read.specs.declared.bad.NgBad.{NgBad}
use Rattle.pcapng_read.specs.declared.reader.NgTaken.{NgTaken}
use Rattle.capture_load.specs.Capture.{ng_magic}

-- a whole block has more than eight bytes
no_block : (limit : ℕ) (bytes : List ℕ) (b : Block) (bs : List Block) (rest : List ℕ) → length bytes < 8 → bytes ≡ flat_map text (b ∷ bs) ++ rest → AreBlocks limit start (b ∷ bs) → ⊥
unfolding AreBlocks
no_block limit bytes b bs rest few parts each =
    let sound = known_sound limit start b.bytes b.plan each.0.known in
    let parts' : bytes ≡ (b.bytes ++ flat_map text bs) ++ rest = parts in
    absurd (omega (arith, few, ap length parts', length-append (b.bytes ++ flat_map text bs) rest, length-append b.bytes (flat_map text bs), each.0.whole, sound.room, sound.long))

no_packet : (view : NgReaderView) (bytes : List ℕ) (blocks : List Block) (rest : List ℕ) (next : Framed) → length bytes < 8 → bytes ≡ flat_map text blocks ++ rest → AreBlocks view.limit start blocks
    → next ∷ [] ≡ flat_map framed blocks → ⊥
no_packet view bytes [] rest next few parts each frames = let e : next ∷ [] ≡ [] = frames in cc
no_packet view bytes (b ∷ bs) rest next few parts each frames = no_block view.limit bytes b bs rest few parts each

pub record NgBegun (old new : NgReaderView) (piece : List ℕ) : Type 0 where
  pub stands : NgStands new piece []
  pub count : new.walk.packets ≡ old.walk.packets
  pub bytes : taken_by new ≡ taken_by old + length piece

pub ng_begun : (old new : NgReaderView) (piece : List ℕ) (taken : NgTaken) → length piece < 8
    → MatchBool taken.packet (TakesPacket new ([] ++ take taken.used piece) []) (NgStands new ([] ++ take taken.used piece) []) → NgGoesOn old new piece taken → NgBegun old new piece
ng_begun old new piece taken few takes on = by taken.packet refl takes
  where
    by : (p : Bool) → taken.packet ≡ p → MatchBool p (TakesPacket new (take taken.used piece) []) (NgStands new (take taken.used piece) []) → NgBegun old new piece
    by true is whole =
        let s = whole.stands in
        absurd (no_packet new (take taken.used piece) s.blocks s.rest whole.next (omega (arith, few, length-take taken.used piece)) s.cut.parts s.cut.each s.frames_are)
    by false is stands =
        let used : taken.used ≡ length piece = on.all is in
        record {
          stands = subst (λ (b : List ℕ). NgStands new b []) (take_all taken.used piece (omega (arith, used))) stands;
          count = on.count ∙ ap (λ (b : Bool). if b then old.walk.packets + 1 else old.walk.packets) is;
          bytes = on.bytes ∙ ap (λ (n : ℕ). taken_by old + n) used;
        }

-- the first four bytes of a pcapng capture aren't refused
fine : (limit : ℕ) (bad : NgBad) → block_refusal limit start ng_magic ≡ Some bad → ⊥
unfolding judged_in first_judged number_at
fine limit bad is = let e : None ≡ Some bad = is in cc

fine_behind : (limit : ℕ) (bad : NgBad) (blocks : List Block) (rest : List ℕ) → ng_magic ≡ flat_map text blocks ++ rest → AreBlocks limit start blocks
    → block_refusal limit (walk_behind start blocks) rest ≡ Some bad → ⊥
fine_behind limit bad [] rest parts each refused = fine limit bad (subst (λ (b : List ℕ). block_refusal limit start b ≡ Some bad) (sym parts) refused)
fine_behind limit bad (b ∷ bs) rest parts each refused = no_block limit ng_magic b bs rest (omega arith) parts each

pub magic_fine : (limit : ℕ) (frames : List Framed) (bad : NgBad) → RefusesNext limit ng_magic frames bad → ⊥
magic_fine limit frames bad r = fine_behind limit bad r.blocks r.rest r.parts r.each r.refused
