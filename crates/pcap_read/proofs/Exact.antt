-- A reader refuses a piece where a refusal stands in it.
use Rattle.std.proofs.Common.{◌≡◌, ◌≤◌, ℕ, ◌+◌, List, [], ◌∷◌, ◌++◌, length, take, drop, map, Option, Some, None, Ok, Err, Result, MatchOption, MatchBool, Bool, true, false, IfOk, refl, sym, ap, ◌∙◌, subst, inl, inr, arith, append_assoc}
use Rattle.std.specs.List.{flat_map, AllByRecursion}
use Rattle.std.proofs.lemmas.List.{take-append-drop, take_all, length-map, length_push}
use Rattle.pcap_read.specs.Records.{Record, Framed, frame_of, text, IsRecord}
use Rattle.pcap_read.specs.Capture.{IsLaidOut, RefusesNext}
use Rattle.pcap_read.specs.Place.{Place, Stands, InHeader, InBody}
use Rattle.pcap_read.specs.Takes.{Takes, TakesWhole, GoesOn}
use Rattle.pcap_read.proofs.Steps.{header_stays, drop_header}
use Rattle.pcap_read.proofs.Once.{Stops, cut_within, cut_refused, short_fine, capture_fine, one_refusal}
use Rattle.pcap_read.specs.declared.bad.Order.{Order}
use Rattle.pcap_read.specs.declared.bad.Bad.{Bad}
use Rattle.pcap_read.specs.declared.reader.Taken.{Taken}

stood_by : (place : Place) (o : Option Order) (b : List ℕ) (fs gs : List Framed) (bad : Bad) → MatchOption o (InHeader place b fs) (InBody place b fs) → RefusesNext place.limit b gs bad → ⊥
stood_by place None b fs gs bad at refused = short_fine place.limit b gs bad at.short refused
stood_by place (Some order) b fs gs bad at refused =
    capture_fine place.limit b fs gs place.held bad (record { order = order; records = at.records; laid = at.laid; frames_are = at.frames_are }) refused

-- where a reader stands nothing was refused
pub stood_fine : (place : Place) (b : List ℕ) (fs gs : List Framed) (bad : Bad) → Stands place b fs → RefusesNext place.limit b gs bad → ⊥
stood_fine place b fs gs bad stands refused = stood_by place place.order b fs gs bad stands.at refused

count_by : (place : Place) (o : Option Order) (b : List ℕ) (fs : List Framed) → MatchOption o (InHeader place b fs) (InBody place b fs) → place.count ≡ length fs
count_by place None b fs at = at.count ∙ ap length (sym at.none)
count_by place (Some order) b fs at = at.count ∙ sym (length-map at.records (frame_of order)) ∙ ap length (sym at.frames_are)

-- a reader counts its frames
pub stood_count : (place : Place) (b : List ℕ) (fs : List Framed) → Stands place b fs → place.count ≡ length fs
stood_count place b fs stands = count_by place place.order b fs stands.at

-- a record that is whole comes before the refusals behind it
whole_first : (limit : ℕ) (order : Order) (a z rest : List ℕ) (rs : List Record) (fs : List Framed) (next : Framed) (bad : Bad) → IsLaidOut order limit a rs rest
    → fs ++ next ∷ [] ≡ map (frame_of order) rs → RefusesNext limit (a ++ z) fs bad → ⊥
whole_first limit order a z rest rs fs next bad laid are (inl front) =
    let header = header_stays order a z laid.header in
    let none : None ≡ Some bad = sym header.fine ∙ front.1 in
    absurd (cc)
whole_first limit order a z rest rs fs next bad laid are (inr r) =
    let header = header_stays order a z laid.header in
    let o : Some order ≡ Some r.0 = sym header.order_is ∙ r.4.header.order_is in
    let same : order ≡ r.0 = cc in
    let cut = cut_refused r.0 limit (a ++ z) bad r.1 r.2 r.4 in
    let parts : flat_map text rs ++ (rest ++ z) ≡ flat_map text r.1 ++ r.2 =
    sym (append_assoc (flat_map text rs) rest z) ∙ sym (drop_header order a z (flat_map text rs ++ rest) laid.header laid.body.parts) ∙ r.4.parts in
    let few : length rs ≤ length r.1 =
    cut_within r.0 limit 0 rs r.1 (rest ++ z) r.2
    (subst (λ (o : Order). AllByRecursion (IsRecord o) rs) same laid.body.each) r.4.each (omega (arith, laid.body.few))
    (let zero : length r.1 ≡ 0 + length r.1 = omega arith in subst (λ (k : ℕ). Stops r.0 limit k r.2) zero cut.stops) parts in
    let one : length fs + 1 ≡ length rs = sym (length_push fs next) ∙ ap length are ∙ length-map rs (frame_of order) in
    let all : length fs ≡ length r.1 = ap length r.3 ∙ length-map r.1 (frame_of r.0) in
    absurd (omega (arith, few, one, all))

whole_by : (new : Place) (o : Option Order) (a z : List ℕ) (fs : List Framed) (next : Framed) (bad : Bad)
    → MatchOption o (InHeader new a (fs ++ next ∷ [])) (InBody new a (fs ++ next ∷ [])) → RefusesNext new.limit (a ++ z) fs bad → ⊥
whole_by new None a z fs next bad at refused = absurd (omega (arith, ap length at.none, length_push fs next))
whole_by new (Some order) a z fs next bad at refused = whole_first new.limit order a z new.held at.records fs next bad at.laid at.frames_are refused

ok_fine : (new : Place) (piece b : List ℕ) (fs : List Framed) (bad : Bad) (used : ℕ) (w : Bool)
    → MatchBool w (TakesWhole new (b ++ take used piece) fs) (Stands new (b ++ take used piece) fs) → (w ≡ false → used ≡ length piece)
    → RefusesNext new.limit (b ++ piece) fs bad → ⊥
ok_fine new piece b fs bad used true taken all refused =
    let split : b ++ piece ≡ (b ++ take used piece) ++ drop used piece =
    ap (λ (t : List ℕ). b ++ t) (sym (take-append-drop used piece)) ∙ sym (append_assoc b (take used piece) (drop used piece)) in
    whole_by new new.order (b ++ take used piece) (drop used piece) fs taken.next bad taken.stands.at
    (subst (λ (t : List ℕ). RefusesNext new.limit t fs bad) split refused)
ok_fine new piece b fs bad used false stands all refused =
    let whole : take used piece ≡ piece = take_all used piece (omega (arith, all refl)) in
    stood_fine new (b ++ take used piece) fs fs bad stands
    (subst (λ (t : List ℕ). RefusesNext new.limit (b ++ t) fs bad) (sym whole) refused)

-- a refusal that stands in the piece before the next record's end is answered
pub refused_exactly : (old from new : Place) (piece : List ℕ) (result : Result Taken Bad) → Takes old new piece result → new.limit ≡ old.limit
    → IfOk result (λ taken. GoesOn from new piece taken)
    → (b : List ℕ) (fs : List Framed) (bad : Bad) → Stands old b fs → RefusesNext old.limit (b ++ piece) fs bad → result ≡ Err bad
refused_exactly old from new piece (Ok taken) takes limit on b fs bad stands refused =
    absurd (ok_fine new piece b fs bad taken.used taken.whole (takes b fs stands) on.all (subst (λ (n : ℕ). RefusesNext n (b ++ piece) fs bad) (sym limit) refused))
refused_exactly old from new piece (Err other) takes limit on b fs bad stands refused =
    ap Err (one_refusal old.limit (b ++ piece) fs fs other bad (takes b fs stands) refused).1
