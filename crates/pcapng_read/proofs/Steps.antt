-- Where a reader stands after it took bytes.
use Rattle.std.proofs.Common.{◌≡◌, ◌≢◌, ◌≤◌, ◌<◌, ℕ, ◌+◌, ◌-◌, ◌==◌, List, [], ◌∷◌, ◌++◌, length, take, drop, Some, false, refl, sym, ap, ◌∙◌, subst, arith, append_assoc, length-append, length-take, nat_lt}
use Rattle.std.specs.List.{flat_map}
use Rattle.std.proofs.lemmas.List.{append-nil, take-append-drop, nil_from_length}
use Rattle.pcap_read.specs.Header.{number_at}
use Rattle.pcap_read.specs.Records.{Framed}
use Rattle.pcap_read.proofs.Numbers.{number_at_append}
use Rattle.pcapng_read.specs.Blocks.{start, judged, judged_in, walk_past, behind_by, keep_of, keep_in, told_offset, block_refusal, refusal_by}
use Rattle.pcapng_read.specs.Plans.{Late}
use Rattle.pcapng_read.specs.Capture.{Block, text, framed, frame_in, IsBlock, walk_behind, IsPartOfBlock, Cuts, RefusesNext}
use Rattle.pcapng_read.specs.View.{NgReaderView, Stands, kept_in, kept_of}
use Rattle.pcapng_read.proofs.Heads.{Goes, Wants, judged_goes, judged_wants}
use Rattle.pcapng_read.proofs.Blocks.{blocks_push, walk_push, flat_push, known_stays, known_sound, refusal_stays}
use Rattle.pcapng_read.proofs.Kept.{number_kept, data_kept, data_front}
use Rattle.pcap_read.specs.declared.bad.Order.{Order}
use Rattle.pcapng_read.specs.declared.bad.NgBad.{NgBad}
use Rattle.pcapng_read.specs.declared.bad.NgBad.TheVariants.{BadBlock}
use Rattle.pcapng_read.specs.declared.block.Walk.{Walk}
use Rattle.pcapng_read.specs.declared.block.Plan.{Plan}
use Rattle.pcapng_read.specs.declared.block.Body.{Body}
use Rattle.pcapng_read.specs.declared.block.Body.TheVariants.{Section, Interface, Packet, Passed}
use Rattle.pcapng_read.specs.declared.block.Judged.{Judged}
use Rattle.pcapng_read.specs.declared.block.Judged.TheVariants.{Waits, Refused, Known}

-- bytes of the unfinished block
pub stands_part : (old new : NgReaderView) (b x : List ℕ) (fs : List Framed) (h : Stands old b fs) → new.limit ≡ old.limit → new.walk ≡ old.walk
    → new.judged ≡ judged old.limit old.walk (h.rest ++ x) → IsPartOfBlock (h.rest ++ x) new.judged → new.seen ≡ old.seen + length x → new.held ≡ kept_of (h.rest ++ x) new.judged
    → Stands new (b ++ x) fs
stands_part old new b x fs h limit walk judged_is part seen held =
    let here : new.judged ≡ judged old.limit (walk_behind start h.blocks) (h.rest ++ x) = judged_is ∙ ap (λ (w : Walk). judged old.limit w (h.rest ++ x)) h.walk in
    let cut : Cuts old.limit (b ++ x) h.blocks (h.rest ++ x) = record {
      parts = ap (λ (t : List ℕ). t ++ x) h.cut.parts ∙ append_assoc (flat_map text h.blocks) h.rest x;
      each = h.cut.each;
      partial = subst (λ (j : Judged). IsPartOfBlock (h.rest ++ x) j) here part;
    } in
    record {
      blocks = h.blocks;
      rest = h.rest ++ x;
      cut = subst (λ (n : ℕ). Cuts n (b ++ x) h.blocks (h.rest ++ x)) (sym limit) cut;
      frames_are = h.frames_are;
      walk = walk ∙ h.walk;
      judged_is = judged_is ∙ ap (λ (w : Walk). judged old.limit w (h.rest ++ x)) (sym walk) ∙ ap (λ (n : ℕ). judged n new.walk (h.rest ++ x)) (sym limit);
      seen = omega (arith, seen, h.seen, length-append h.rest x);
      held = held;
    }

-- while more bytes are wanted, all that came are held
pub held_all : (view : NgReaderView) (b : List ℕ) (fs : List Framed) (n : ℕ) (h : Stands view b fs) → view.judged ≡ Waits n → view.held ≡ h.rest
held_all view b fs n h waits = h.held ∙ ap (kept_of h.rest) waits

-- first bytes of a block
pub takes_head : (old new : NgReaderView) (b x : List ℕ) (fs : List Framed) (n : ℕ) → old.judged ≡ Waits n → new.limit ≡ old.limit → new.walk ≡ old.walk
    → new.judged ≡ judged old.limit old.walk (old.held ++ x) → IsPartOfBlock (old.held ++ x) new.judged → new.seen ≡ old.seen + length x
    → new.held ≡ old.held ++ x → kept_of (old.held ++ x) new.judged ≡ old.held ++ x → Stands old b fs → Stands new (b ++ x) fs
takes_head old new b x fs n waits limit walk judged_is part seen held kept h =
    let all = held_all old b fs n h waits in
    stands_part old new b x fs h limit walk
    (judged_is ∙ ap (λ (t : List ℕ). judged old.limit old.walk (t ++ x)) all)
    (subst (λ (t : List ℕ). IsPartOfBlock (t ++ x) new.judged) all part) seen
    (subst (λ (t : List ℕ). new.held ≡ kept_of (t ++ x) new.judged) all (held ∙ sym kept))

-- the first bytes of a block are refused
pub refuses_block : (old : NgReaderView) (b x more : List ℕ) (fs : List Framed) (bad : NgBad) (h : Stands old b fs) → block_refusal old.limit old.walk (h.rest ++ x) ≡ Some bad
    → RefusesNext old.limit (b ++ (x ++ more)) fs bad
refuses_block old b x more fs bad h refused =
    let here : RefusesNext old.limit (b ++ x) fs bad = record {
      blocks = h.blocks;
      rest = h.rest ++ x;
      parts = ap (λ (t : List ℕ). t ++ x) h.cut.parts ∙ append_assoc (flat_map text h.blocks) h.rest x;
      each = h.cut.each;
      frames_are = h.frames_are;
      refused = ap (λ (w : Walk). block_refusal old.limit w (h.rest ++ x)) (sym h.walk) ∙ refused;
    } in
    subst (λ (t : List ℕ). RefusesNext old.limit t fs bad) (append_assoc b x more) (refusal_stays old.limit (b ++ x) more fs bad here)

pub refuses_head : (old : NgReaderView) (b x more : List ℕ) (fs : List Framed) (n : ℕ) (bad : NgBad) → old.judged ≡ Waits n → judged old.limit old.walk (old.held ++ x) ≡ Refused bad
    → Stands old b fs → RefusesNext old.limit (b ++ (x ++ more)) fs bad
refuses_head old b x more fs n bad waits refused h =
    let all = held_all old b fs n h waits in
    let here : judged old.limit old.walk (h.rest ++ x) ≡ Refused bad = ap (λ (t : List ℕ). judged old.limit old.walk (t ++ x)) (sym all) ∙ refused in
    refuses_block old b x more fs bad h (ap (refusal_by old.walk (h.rest ++ x)) here)

-- bytes of a block that is known
known_more : (old : NgReaderView) (b x : List ℕ) (fs : List Framed) (plan : Plan) (h : Stands old b fs) → old.judged ≡ Known plan → judged old.limit old.walk (h.rest ++ x) ≡ Known plan
known_more old b x fs plan h known = known_stays old.limit old.walk h.rest x plan (sym h.judged_is ∙ known)

-- what is held of a block that is known grows with its bytes
abbrev pub Keeps : Plan → ℕ → List ℕ → List ℕ → List ℕ → Type 0
Keeps plan seen old new x = (r : List ℕ) → length r ≡ seen → old ≡ kept_in plan r → new ≡ kept_in plan (r ++ x)

kept_known : (old : NgReaderView) (b : List ℕ) (fs : List Framed) (plan : Plan) (h : Stands old b fs) → old.judged ≡ Known plan → old.held ≡ kept_in plan h.rest
kept_known old b fs plan h known = h.held ∙ ap (kept_of h.rest) known

pub takes_body : (old new : NgReaderView) (b x : List ℕ) (fs : List Framed) (plan : Plan) → old.judged ≡ Known plan → new.limit ≡ old.limit → new.walk ≡ old.walk
    → new.judged ≡ Known plan → new.seen ≡ old.seen + length x → new.seen < plan.total → Keeps plan old.seen old.held new.held x
    → Stands old b fs → Stands new (b ++ x) fs
takes_body old new b x fs plan known limit walk still seen short keeps h =
    stands_part old new b x fs h limit walk (still ∙ sym (known_more old b x fs plan h known))
    (subst (λ (j : Judged). IsPartOfBlock (h.rest ++ x) j) (sym still) (omega (arith, short, seen, h.seen, length-append h.rest x))) seen
    (keeps h.rest (sym h.seen) (kept_known old b fs plan h known) ∙ ap (kept_of (h.rest ++ x)) (sym still))

-- nothing of the next block has come
pub ready : (limit : ℕ) (w : Walk) (order : Order) (total : ℕ) (body : Body) → judged limit (behind_by w order total body) [] ≡ Waits 8
unfolding judged_in
ready limit w order total Section = refl
ready limit w order total (Interface snapshot) = refl
ready limit w order total (Packet at captured original) = refl
ready limit w order total Passed = refl

frame_kept : (x z : List ℕ) (body : Body) → keep_in body ≤ length x → frame_in (take (keep_in body) x ++ z) body ≡ frame_in x body
frame_kept x z Section le = refl
frame_kept x z (Interface snapshot) le = refl
frame_kept x z (Packet at captured original) le =
    ap (λ (t : List ℕ). let f : Framed = record { original = original; bytes = t } in f ∷ []) (data_kept at captured x z le)
frame_kept x z Passed le = refl

-- the captured bytes stand before the end of the block
frame_front : (x : List ℕ) (n : ℕ) (body : Body) → keep_in body ≤ n → n ≤ length x → frame_in (take n x) body ≡ frame_in x body
frame_front x n Section le long = refl
frame_front x n (Interface snapshot) le long = refl
frame_front x n (Packet at captured original) le long =
    ap (λ (t : List ℕ). let f : Framed = record { original = original; bytes = t } in f ∷ []) (data_front at captured n x le long)
frame_front x n Passed le long = refl

-- a block became whole
pub stands_whole : (old new : NgReaderView) (b x : List ℕ) (fs : List Framed) (plan : Plan) (h : Stands old b fs) → new.limit ≡ old.limit → new.walk ≡ walk_past old.walk plan
    → new.judged ≡ Waits 8 → new.seen ≡ 0 → new.held ≡ [] → judged old.limit old.walk (h.rest ++ x) ≡ Known plan → length (h.rest ++ x) ≡ plan.total
    → number_at plan.order 4 (h.rest ++ x) (plan.total - 4) ≡ plan.total → Stands new (b ++ x) (fs ++ frame_in (h.rest ++ x) plan.body)
stands_whole old new b x fs plan h limit walk waits seen none known whole ends =
    let k : Block = record { bytes = h.rest ++ x; plan = plan } in
    let is : IsBlock old.limit (walk_behind start h.blocks) k = record {
      known = ap (λ (w : Walk). judged old.limit w (h.rest ++ x)) (sym h.walk) ∙ known;
      whole = whole;
      ends = ends;
    } in
    let behind_is : new.walk ≡ walk_behind start (h.blocks ++ k ∷ []) = walk ∙ ap (λ (w : Walk). walk_past w plan) h.walk ∙ sym (walk_push start h.blocks k) in
    let fresh : judged old.limit new.walk [] ≡ Waits 8 = ap (λ (w : Walk). judged old.limit w []) walk ∙ ready old.limit old.walk plan.order plan.total plan.body in
    let cut : Cuts old.limit (b ++ x) (h.blocks ++ k ∷ []) [] = record {
      parts = ap (λ (t : List ℕ). t ++ x) h.cut.parts ∙ append_assoc (flat_map text h.blocks) h.rest x ∙ sym (flat_push text h.blocks k) ∙ sym (append-nil (flat_map text (h.blocks ++ k ∷ [])));
      each = blocks_push old.limit start h.blocks k h.cut.each is;
      partial = subst (λ (w : Walk). IsPartOfBlock [] (judged old.limit w [])) behind_is (subst (λ (j : Judged). IsPartOfBlock [] j) (sym fresh) tt);
    } in
    record {
      blocks = h.blocks ++ k ∷ [];
      rest = [];
      cut = subst (λ (n : ℕ). Cuts n (b ++ x) (h.blocks ++ k ∷ []) []) (sym limit) cut;
      frames_are = ap (λ (t : List Framed). t ++ frame_in (h.rest ++ x) plan.body) h.frames_are ∙ sym (flat_push framed h.blocks k);
      walk = behind_is;
      judged_is = waits ∙ sym fresh ∙ ap (λ (n : ℕ). judged n new.walk []) (sym limit);
      seen = seen;
      held = none ∙ ap (kept_of []) (sym waits);
    }

-- and its bytes came in parts
pub takes_whole : (old new : NgReaderView) (b x held : List ℕ) (fs : List Framed) (plan : Plan) → old.judged ≡ Known plan → new.limit ≡ old.limit → new.walk ≡ walk_past old.walk plan
    → new.judged ≡ Waits 8 → new.seen ≡ 0 → new.held ≡ [] → old.seen + length x ≡ plan.total → Keeps plan old.seen old.held held x
    → number_at plan.order 4 held (keep_of plan) ≡ plan.total → Stands old b fs → Stands new (b ++ x) (fs ++ frame_in held plan.body)
takes_whole old new b x held fs plan known limit walk waits seen none whole keeps ends h =
    let y = h.rest ++ x in
    let is = known_more old b x fs plan h known in
    let sound = known_sound old.limit old.walk y plan is in
    let size : length y ≡ plan.total = omega (arith, whole, h.seen, length-append h.rest x) in
    let long : keep_of plan ≤ length y = omega (arith, size, sound.room) in
    let kept : held ≡ kept_in plan y = keeps h.rest (sym h.seen) (kept_known old b fs plan h known) in
    let number : number_at plan.order 4 y (plan.total - 4) ≡ plan.total =
    sym (number_kept plan.order (keep_of plan) (plan.total - 4) 4 y long) ∙ ap (λ (t : List ℕ). number_at plan.order 4 t (keep_of plan)) (sym kept) ∙ ends in
    let frame : frame_in y plan.body ≡ frame_in held plan.body =
    sym (frame_kept y (drop (plan.total - 4) y) plan.body long) ∙ ap (λ (t : List ℕ). frame_in t plan.body) (sym kept) in
    subst (λ (f : List Framed). Stands new (b ++ x) (fs ++ f)) frame (stands_whole old new b x fs plan h limit walk waits seen none is size number)

-- a packet's block
pub takes_packet : (old new : NgReaderView) (b x held : List ℕ) (fs gs : List Framed) (plan : Plan) → frame_in held plan.body ≡ gs → old.judged ≡ Known plan → new.limit ≡ old.limit
    → new.walk ≡ walk_past old.walk plan → new.judged ≡ Waits 8 → new.seen ≡ 0 → new.held ≡ [] → old.seen + length x ≡ plan.total → Keeps plan old.seen old.held held x
    → number_at plan.order 4 held (keep_of plan) ≡ plan.total → Stands old b fs → Stands new (b ++ x) (fs ++ gs)
takes_packet old new b x held fs gs plan frames known limit walk waits seen none whole keeps ends h =
    subst (λ (t : List Framed). Stands new (b ++ x) (fs ++ t)) frames (takes_whole old new b x held fs plan known limit walk waits seen none whole keeps ends h)

-- another block
pub takes_other : (old new : NgReaderView) (b x held : List ℕ) (fs : List Framed) (plan : Plan) → frame_in held plan.body ≡ [] → old.judged ≡ Known plan → new.limit ≡ old.limit
    → new.walk ≡ walk_past old.walk plan → new.judged ≡ Waits 8 → new.seen ≡ 0 → new.held ≡ [] → old.seen + length x ≡ plan.total → Keeps plan old.seen old.held held x
    → number_at plan.order 4 held (keep_of plan) ≡ plan.total → Stands old b fs → Stands new (b ++ x) fs
takes_other old new b x held fs plan frames known limit walk waits seen none whole keeps ends h =
    subst (λ (t : List Framed). Stands new (b ++ x) t) (append-nil fs)
    (takes_packet old new b x held fs [] plan frames known limit walk waits seen none whole keeps ends h)

other_number : (a b : ℕ) → a ≢ b → (a == b) ≡ false
other_number a b ne = grind arith

-- a block whose end isn't its total length
pub refuses_end : (old : NgReaderView) (b x more held : List ℕ) (fs : List Framed) (plan : Plan) (bad : NgBad) → old.judged ≡ Known plan → old.seen + length x ≡ plan.total
    → Keeps plan old.seen old.held held x → number_at plan.order 4 held (keep_of plan) ≢ plan.total → bad ≡ BadBlock (told_offset old.walk) plan.total
    → Stands old b fs → RefusesNext old.limit (b ++ (x ++ more)) fs bad
refuses_end old b x more held fs plan bad known whole keeps wrong bad_is h =
    let y = h.rest ++ x in
    let is = known_more old b x fs plan h known in
    let sound = known_sound old.limit old.walk y plan is in
    let size : length y ≡ plan.total = omega (arith, whole, h.seen, length-append h.rest x) in
    let long : keep_of plan ≤ length y = omega (arith, size, sound.room) in
    let kept : held ≡ kept_in plan y = keeps h.rest (sym h.seen) (kept_known old b fs plan h known) in
    let number : number_at plan.order 4 held (keep_of plan) ≡ number_at plan.order 4 y (plan.total - 4) =
    ap (λ (t : List ℕ). number_at plan.order 4 t (keep_of plan)) kept ∙ number_kept plan.order (keep_of plan) (plan.total - 4) 4 y long in
    let other : (number_at plan.order 4 y (plan.total - 4) == plan.total) ≡ false = other_number (number_at plan.order 4 y (plan.total - 4)) plan.total (λ e. wrong (number ∙ e)) in
    let stands : nat_lt (length y) plan.total ≡ false = grind arith in
    refuses_block old b x more fs bad h (ap (refusal_by old.walk y) is ∙ rw (stands, other) (ap Some (sym bad_is)))

front_known_by : (limit : ℕ) (w : Walk) (x y : List ℕ) (j : Judged) (plan : Plan) → Goes limit w j (judged limit w (x ++ y)) → Wants (length x) j
    → judged limit w (x ++ y) ≡ Known plan → keep_of plan < length x → j ≡ Known plan
front_known_by limit w x y (Waits n) plan goes wants known long =
    let late = (subst (λ (j : Judged). Late limit w n j) known goes).0 in
    absurd (omega (arith, late, wants, long))
front_known_by limit w x y (Refused bad) plan goes wants known long = let e : Refused bad ≡ Known plan = sym goes ∙ known in absurd (cc)
front_known_by limit w x y (Known p) plan goes wants known long = sym goes ∙ known

-- a block that is known from more bytes than its own is known from its own
pub front_known : (limit : ℕ) (w : Walk) (x y : List ℕ) (plan : Plan) → judged limit w (x ++ y) ≡ Known plan → keep_of plan < length x → judged limit w x ≡ Known plan
front_known limit w x y plan known long = front_known_by limit w x y (judged limit w x) plan (judged_goes limit w x y) (judged_wants limit w x) known long

-- a packet's block that stands whole at the front of a piece
pub takes_front : (old new : NgReaderView) (b piece : List ℕ) (fs : List Framed) (plan : Plan) → old.seen ≡ 0 → new.limit ≡ old.limit → new.walk ≡ walk_past old.walk plan
    → new.judged ≡ Waits 8 → new.seen ≡ 0 → new.held ≡ [] → judged old.limit old.walk piece ≡ Known plan → plan.total ≤ length piece
    → number_at plan.order 4 piece (plan.total - 4) ≡ plan.total → Stands old b fs → Stands new (b ++ take plan.total piece) (fs ++ frame_in piece plan.body)
takes_front old new b piece fs plan zero limit walk waits seen none known whole ends h =
    let x = take plan.total piece in
    let y = drop plan.total piece in
    let all : x ++ y ≡ piece = take-append-drop plan.total piece in
    let sound = known_sound old.limit old.walk piece plan known in
    let size : length x ≡ plan.total = omega (arith, whole, length-take plan.total piece) in
    let here : judged old.limit old.walk x ≡ Known plan =
    front_known old.limit old.walk x y plan (ap (judged old.limit old.walk) all ∙ known) (omega (arith, size, sound.room)) in
    let nothing : h.rest ≡ [] = nil_from_length h.rest (sym h.seen ∙ zero) in
    let rest : h.rest ++ x ≡ x = ap (λ (t : List ℕ). t ++ x) nothing in
    let number : number_at plan.order 4 x (plan.total - 4) ≡ plan.total =
    sym (number_at_append plan.order 4 x y (plan.total - 4) (omega (arith, size, sound.room))) ∙ ap (λ (t : List ℕ). number_at plan.order 4 t (plan.total - 4)) all ∙ ends in
    let frame : frame_in (h.rest ++ x) plan.body ≡ frame_in piece plan.body =
    ap (λ (t : List ℕ). frame_in t plan.body) rest ∙ frame_front piece plan.total plan.body (omega (arith, sound.room)) (omega (arith, whole)) in
    subst (λ (f : List Framed). Stands new (b ++ x) (fs ++ f)) frame
    (stands_whole old new b x fs plan h limit walk waits seen none
    (ap (judged old.limit old.walk) rest ∙ here) (ap length rest ∙ size) (ap (λ (t : List ℕ). number_at plan.order 4 t (plan.total - 4)) rest ∙ number))

-- and its packet
pub lends_front : (old new : NgReaderView) (b piece : List ℕ) (fs gs : List Framed) (plan : Plan) → frame_in piece plan.body ≡ gs → old.seen ≡ 0 → new.limit ≡ old.limit
    → new.walk ≡ walk_past old.walk plan → new.judged ≡ Waits 8 → new.seen ≡ 0 → new.held ≡ [] → judged old.limit old.walk piece ≡ Known plan → plan.total ≤ length piece
    → number_at plan.order 4 piece (plan.total - 4) ≡ plan.total → Stands old b fs → Stands new (b ++ take plan.total piece) (fs ++ gs)
lends_front old new b piece fs gs plan frames zero limit walk waits seen none known whole ends h =
    subst (λ (t : List Framed). Stands new (b ++ take plan.total piece) (fs ++ t)) frames (takes_front old new b piece fs plan zero limit walk waits seen none known whole ends h)
