-- One frame more, of those that were read.
use Rattle.std.proofs.Common.{◌≡◌, ℕ, ◌+◌, List, [], ◌∷◌, ◌++◌, Bool, true, false, MatchBool, refl, sym, ap, ◌∙◌, subst, arith, add-zero, length, length-append}
use Rattle.std.specs.Prelude.{Some, Result, Ok, Err, count_by, cond, OnOk, not}
use Rattle.std.proofs.lemmas.List.{append-nil}
use Rattle.std.proofs.lemmas.List.Elements.{filter_map-append}
use Rattle.std.proofs.lemmas.List.Sums.{sum_by-append, sum_by-cons}
use Rattle.packet_key.specs.declared.key.FlowKey.{FlowKey}
use Rattle.packet_key.specs.declared.key.Skip.{Skip}
use Rattle.packet_key.specs.declared.key.Skip.TheVariants.{ShortFrame, NotIp, BadIp, ManyTags}
use Rattle.packet_key.specs.Frame.{key_of}
use Rattle.hash_rows.specs.declared.options.Amount.{Amount}
use Rattle.hash_rows.specs.declared.shape.Packet.{Packet}
use Rattle.hash_rows.specs.declared.shape.Tallies.{Tallies}
use Rattle.pcap_read.specs.Records.{Framed}
use Rattle.pcap_read.specs.Place.{Place, Stands}
use Rattle.pcap_read.specs.Takes.{TakesWhole}
use Rattle.pcapng_read.specs.Takes.{TakesPacket}
use Rattle.pcapng_read.specs.View.{NgReaderView, Stands as NgStands}
use Rattle.capture_load.specs.Loads.{KeepsPackets, NgNoted, PcapNoted}
use Rattle.capture_load.specs.Notes.{number_of, tallied}
use Rattle.capture_load.specs.Packets.{packets_of, packet_in, amount_of, tallies_of, is_short, is_not_ip, is_bad_ip, is_tagged}
use Rattle.capture_load.specs.declared.notes.Notes.{Notes}

pub packets_append : (amount : Amount) (fs gs : List Framed) → packets_of amount (fs ++ gs) ≡ packets_of amount fs ++ packets_of amount gs
unfolding packets_of
packets_append amount fs gs = filter_map-append (packet_in amount) fs gs

-- a frame with a key
pub one_packet : (amount : Amount) (f : Framed) (key : FlowKey) → Ok key ≡ key_of f.bytes → packets_of amount (f ∷ []) ≡ record { key = key; amount = amount_of amount f.original } ∷ []
unfolding packets_of
one_packet amount f key is = rw (sym is) refl

-- and one without
pub no_packet : (amount : Amount) (f : Framed) (why : Skip) → Err why ≡ key_of f.bytes → packets_of amount (f ∷ []) ≡ []
unfolding packets_of
no_packet amount f why is = rw (sym is) refl

count_push : (p : Framed → Bool) (fs : List Framed) (f : Framed) → count_by p (fs ++ f ∷ []) ≡ count_by p fs + cond (p f) 1 0
count_push p fs f = sum_by-append (λ x. cond (p x) 1 0) fs (f ∷ []) ∙ ap (λ n. count_by p fs + n) (sum_by-cons (λ x. cond (p x) 1 0) f [] ∙ omega arith)

tallied_by : (t : Tallies) (k : Result FlowKey Skip)
    → record { short = t.short + cond (is_short k) 1 0; not_ip = t.not_ip + cond (is_not_ip k) 1 0; bad_ip = t.bad_ip + cond (is_bad_ip k) 1 0; tags = t.tags + cond (is_tagged k) 1 0 } ≡ tallied t k
tallied_by t (Ok key) = simp add-zero refl
tallied_by t (Err ShortFrame) = simp add-zero refl
tallied_by t (Err (NotIp ethertype)) = simp add-zero refl
tallied_by t (Err BadIp) = simp add-zero refl
tallied_by t (Err ManyTags) = simp add-zero refl

-- what follows from an Ok
pub on_ok : {T E A B : Type 0} (r : Result T E) → (A → B) → OnOk r A → OnOk r B
on_ok (Ok v) f h = f h
on_ok (Err e) f h = tt

pub tallies_push : (fs : List Framed) (f : Framed) → tallies_of (fs ++ f ∷ []) ≡ tallied (tallies_of fs) (key_of f.bytes)
unfolding tallies_of
tallies_push fs f =
    let make : ℕ → ℕ → ℕ → ℕ → Tallies = λ a b c d. record { short = a; not_ip = b; bad_ip = c; tags = d } in
    let k : Framed → Result FlowKey Skip = λ x. key_of x.bytes in
    ap (λ n. make n (count_by (λ x. is_not_ip (k x)) (fs ++ f ∷ [])) (count_by (λ x. is_bad_ip (k x)) (fs ++ f ∷ [])) (count_by (λ x. is_tagged (k x)) (fs ++ f ∷ []))) (count_push (λ x. is_short (k x)) fs f)
    ∙ ap (λ n. make (count_by (λ x. is_short (k x)) fs + cond (is_short (k f)) 1 0) n (count_by (λ x. is_bad_ip (k x)) (fs ++ f ∷ [])) (count_by (λ x. is_tagged (k x)) (fs ++ f ∷ []))) (count_push (λ x. is_not_ip (k x)) fs f)
    ∙ ap (λ n. make (count_by (λ x. is_short (k x)) fs + cond (is_short (k f)) 1 0) (count_by (λ x. is_not_ip (k x)) fs + cond (is_not_ip (k f)) 1 0) n (count_by (λ x. is_tagged (k x)) (fs ++ f ∷ []))) (count_push (λ x. is_bad_ip (k x)) fs f)
    ∙ ap (λ n. make (count_by (λ x. is_short (k x)) fs + cond (is_short (k f)) 1 0) (count_by (λ x. is_not_ip (k x)) fs + cond (is_not_ip (k f)) 1 0) (count_by (λ x. is_bad_ip (k x)) fs + cond (is_bad_ip (k f)) 1 0) n) (count_push (λ x. is_tagged (k x)) fs f)
    ∙ tallied_by (tallies_of fs) (key_of f.bytes)

count_cons : (p : Framed → Bool) (f : Framed) (fs : List Framed) → count_by p (f ∷ fs) ≡ cond (p f) 1 0 + count_by p fs
count_cons p f fs = sum_by-cons (λ x. cond (p x) 1 0) f fs

one_noted : (amount : Amount) (f : Framed) (k : Result FlowKey Skip) → k ≡ key_of f.bytes
    → cond (is_short k) 1 0 + cond (is_not_ip k) 1 0 + cond (is_bad_ip k) 1 0 + cond (is_tagged k) 1 0 + length (packets_of amount (f ∷ [])) ≡ 1
one_noted amount f (Ok key) is = omega (arith, ap length (one_packet amount f key is))
one_noted amount f (Err ShortFrame) is = omega (arith, ap length (no_packet amount f ShortFrame is))
one_noted amount f (Err (NotIp ethertype)) is = omega (arith, ap length (no_packet amount f (NotIp ethertype) is))
one_noted amount f (Err BadIp) is = omega (arith, ap length (no_packet amount f BadIp is))
one_noted amount f (Err ManyTags) is = omega (arith, ap length (no_packet amount f ManyTags is))

-- each frame has a packet or is skipped
all_noted : (amount : Amount) (fs : List Framed)
    → count_by (λ f. is_short (key_of f.bytes)) fs + count_by (λ f. is_not_ip (key_of f.bytes)) fs + count_by (λ f. is_bad_ip (key_of f.bytes)) fs + count_by (λ f. is_tagged (key_of f.bytes)) fs
    + length (packets_of amount fs) ≡ length fs
unfolding packets_of
all_noted amount [] = refl
all_noted amount (f ∷ fs) =
    omega (
      arith,
      count_cons (λ f. is_short (key_of f.bytes)) f fs,
      count_cons (λ f. is_not_ip (key_of f.bytes)) f fs,
      count_cons (λ f. is_bad_ip (key_of f.bytes)) f fs,
      count_cons (λ f. is_tagged (key_of f.bytes)) f fs,
      ap length (packets_append amount (f ∷ []) fs),
      length-append (packets_of amount (f ∷ [])) (packets_of amount fs),
      one_noted amount f (key_of f.bytes) refl,
      all_noted amount fs,
    )

-- as many frames are noted as there were
pub number_noted : (notes : Notes) (frames : List Framed) → KeepsPackets notes frames → number_of notes ≡ length frames
unfolding tallies_of
number_noted notes frames keeps =
    let sum : Tallies → ℕ → ℕ = λ t n. t.short + t.not_ip + t.bad_ip + t.tags + n in
    ap (λ t. sum t (length notes.packets.items)) keeps.skipped ∙ ap (λ (ps : List Packet). sum (tallies_of frames) (length ps)) keeps.packets ∙ all_noted notes.amount frames

-- one frame more was noted
pub keeps_more : (old new : Notes) (frames : List Framed) (f : Framed) → KeepsPackets old frames → new.amount ≡ old.amount
    → new.packets.items ≡ old.packets.items ++ packets_of old.amount (f ∷ []) → new.skipped ≡ tallied old.skipped (key_of f.bytes) → KeepsPackets new (frames ++ f ∷ [])
keeps_more old new frames f keeps amount packets skipped = record {
  packets = packets ∙ ap (λ (ps : List Packet). ps ++ packets_of old.amount (f ∷ [])) keeps.packets ∙ sym (packets_append old.amount frames (f ∷ []))
      ∙ ap (λ a. packets_of a (frames ++ f ∷ [])) (sym amount);
  skipped = skipped ∙ ap (λ t. tallied t (key_of f.bytes)) keeps.skipped ∙ sym (tallies_push frames f);
}

-- the record that became whole is the one that is lent
pub pcap_whole : (reader : Place) (bytes : List ℕ) (frames : List Framed) (f : Framed) → TakesWhole reader bytes frames → reader.lent ≡ Some f → Stands reader bytes (frames ++ f ∷ [])
pcap_whole reader bytes frames f whole lent =
    let both : Some whole.next ≡ Some f = sym whole.lent ∙ lent in
    let next : whole.next ≡ f = cc in
    subst (λ (g : Framed). Stands reader bytes (frames ++ g ∷ [])) next whole.stands

pub ng_whole : (reader : NgReaderView) (bytes : List ℕ) (frames : List Framed) (f : Framed) → TakesPacket reader bytes frames → reader.lent ≡ Some f → NgStands reader bytes (frames ++ f ∷ [])
ng_whole reader bytes frames f whole lent =
    let both : Some whole.next ≡ Some f = sym whole.lent ∙ lent in
    let next : whole.next ≡ f = cc in
    subst (λ (g : Framed). NgStands reader bytes (frames ++ g ∷ [])) next whole.stands

-- no record became whole
pub pcap_part : (reader : Place) (notes : Notes) (bytes : List ℕ) (frames : List Framed) → Stands reader bytes frames → KeepsPackets notes frames
    → (more : List Framed) × PcapNoted reader notes bytes (frames ++ more)
pcap_part reader notes bytes frames stands keeps =
    ([], subst (λ (fs : List Framed). PcapNoted reader notes bytes fs) (sym (append-nil frames)) (record { stands = stands; keeps = keeps }))

pub ng_part : (reader : NgReaderView) (notes : Notes) (bytes : List ℕ) (frames : List Framed) → NgStands reader bytes frames → KeepsPackets notes frames
    → (more : List Framed) × NgNoted reader notes bytes (frames ++ more)
ng_part reader notes bytes frames stands keeps =
    ([], subst (λ (fs : List Framed). NgNoted reader notes bytes fs) (sym (append-nil frames)) (record { stands = stands; keeps = keeps }))

pub when_not : (A B : Type 0) (b : Bool) → not b ≡ true → MatchBool b A B → B
when_not A B true is h = absurd (let e : false ≡ true = is in cc)
when_not A B false is h = h

pub when_so : (A B : Type 0) (b : Bool) → not b ≡ false → MatchBool b A B → A
when_so A B true is h = h
when_so A B false is h = absurd (let e : true ≡ false = is in cc)
