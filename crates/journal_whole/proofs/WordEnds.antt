-- The same of the lines of keys and of options.
use Rattle.std.proofs.Common.{ℕ, ◌*◌, ◌/◌, ◌%◌, ◌^◌, ◌<◌, ◌≤◌, List, [], ◌∷◌, length, length-append, get_or, decimal, refl, arith, codes}
use Rattle.std.specs.Int.{to_be_bytes, w32}
use Rattle.std.specs.Char.{digit_char}
use Rattle.std.specs.List.{flat_map}
use Rattle.std.specs.Net.Addr.{segments_of}
use Rattle.std.specs.Net.Text.{groups_text, hex, leading_zero_digits}
use Rattle.std.proofs.lemmas.Fmt.{length-decimal-le}
use Rattle.std.proofs.lemmas.List.{length-drop}
use Rattle.packet_key.specs.declared.key.FlowKey.{FlowKey}
use Rattle.packet_key.specs.declared.key.FlowKey.TheVariants.{V4, V6}
use Rattle.packet_key.specs.KeyText.{IsAddress, IsKey, v4_end, v6_end, flow_text, text_of}
use Rattle.packet_key.proofs.Bytes.{octets_fit, Lacks-text_of}
use Rattle.hash_rows.specs.declared.options.Options.{Options}
use Rattle.hash_rows.specs.declared.options.Amount.{Amount}
use Rattle.hash_rows.specs.declared.options.Amount.TheVariants.{Packets, Bytes}
use Rattle.hash_rows.specs.declared.options.Full.{Full}
use Rattle.hash_rows.specs.declared.options.Full.TheVariants.{Leave, Wait}
use Rattle.hash_rows.specs.declared.options.Mode.{Mode}
use Rattle.hash_rows.specs.declared.options.Mode.TheVariants.{Rounds, Threads}
use Rattle.hash_rows.specs.declared.options.Share.{Share}
use Rattle.hash_rows.specs.declared.options.Share.TheVariants.{Turn, Key}
use Rattle.hash_rows.specs.declared.options.Sketch.{Sketch}
use Rattle.hash_rows.specs.declared.options.Sketch.TheVariants.{CountMin, CountSketch, LogLog}
use Rattle.hash_rows.specs.Lawful.{IsLawful}
use Rattle.hash_rows.specs.OptionTexts.{sketch_text, amount_text, share_text, full_text, mode_text}
use Rattle.octo_text.specs.Lines.{key_line, sketch_words}
use Rattle.octo_text.specs.JournalText.{options_line, share_words, lane_words, query_words}
use Rattle.journal_read.proofs.Grouped.{least_small}
use Rattle.journal_whole.proofs.LineEnds.{Piece, both, wider, word, wide, signed, HasEnd, ends}

small : (n : ℕ) → n < 2 ^ 64 → length (decimal n) ≤ 20
small n fits = length-decimal-le 20 n (omega arith) (omega (arith, fits)) fits

hex_short : (n : ℕ) → length (hex n) ≤ 4
unfolding hex
hex_short n =
    let four : List ℕ = digit_char (n / 0x1000) ∷ digit_char (n / 0x100 % 16) ∷ digit_char (n / 0x10 % 16) ∷ digit_char (n % 16) ∷ [] in
    omega (arith, length-drop (leading_zero_digits n) four)

more_short : (xs : List ℕ) → length (flat_map (λ t. 58 ∷ hex t) xs) ≤ length xs * 5
more_short [] = omega arith
more_short (x ∷ xs) = omega (arith, length-append (58 ∷ hex x) (flat_map (λ t. 58 ∷ hex t) xs), hex_short x, more_short xs)

groups_short : (xs : List ℕ) → length (groups_text xs) ≤ length xs * 5
groups_short [] = omega arith
groups_short (x ∷ xs) = omega (arith, length-append (hex x) (flat_map (λ t. 58 ∷ hex t) xs), hex_short x, more_short xs)

segments_short : (xs : List ℕ) → length (segments_of xs) ≤ length xs
segments_short [] = omega arith
segments_short (a ∷ []) = omega arith
segments_short (a ∷ b ∷ xs) = omega (arith, segments_short xs)

v4_short : (address port : ℕ) → port < 2 ^ 16 → length (v4_end address port) ≤ 110
unfolding v4_end
v4_short address port fits =
    let o = to_be_bytes w32 address in
    let octet : (k : ℕ) → length (decimal (get_or o k 0)) ≤ 20 = λ k. let few = octets_fit address k in small (get_or o k 0) (omega (arith, few)) in
    let first = octet 0 in
    let second = octet 1 in
    let third = octet 2 in
    let fourth = octet 3 in
    let last = small port (omega (arith, fits)) in
    simp length-append (omega (arith, first, second, third, fourth, last))

v6_short : (address : List ℕ) (port : ℕ) → IsAddress address → port < 2 ^ 16 → length (v6_end address port) ≤ 110
unfolding v6_end
v6_short address port is fits =
    let groups = groups_short (segments_of address) in
    let few = segments_short address in
    let last = small port (omega (arith, fits)) in
    simp length-append (omega (arith, groups, few, is.len, last))

flow_short : (s d : List ℕ) (proto : ℕ) → length s ≤ 110 → length d ≤ 110 → proto < 2 ^ 8 → length (flow_text s d proto) ≤ 250
unfolding flow_text
flow_short s d proto few₁ few₂ fits =
    let last = small proto (omega (arith, fits)) in
    simp length-append (omega (arith, few₁, few₂, last))

text_short : (k : FlowKey) → IsKey k → length (text_of k) ≤ 250
unfolding text_of
text_short (V4 src dst sport dport proto) is =
    flow_short (v4_end src sport) (v4_end dst dport) proto (v4_short src sport is.2) (v4_short dst dport is.3) is.4
text_short (V6 src dst sport dport proto) is =
    flow_short (v6_end src sport) (v6_end dst dport) proto (v6_short src sport is.0 is.2) (v6_short dst dport is.1 is.3) is.4

key_piece : (k : FlowKey) → IsKey k → Piece 250 (text_of k)
key_piece k is = record { clear = Lacks-text_of 10 refl k is; most = text_short k is }

pub watched_end : (k : FlowKey) → IsKey k → HasEnd (key_line (codes "watched") k)
unfolding key_line
watched_end k is = ends (both (both (word (codes "watched") refl) (word (codes " ") refl)) (key_piece k is)) (omega arith)

pub live_end : (k : FlowKey) → IsKey k → HasEnd (key_line (codes "live") k)
unfolding key_line
live_end k is = ends (both (both (word (codes "live") refl) (word (codes " ") refl)) (key_piece k is)) (omega arith)

sketch_piece : (s : Sketch) → Piece 12 (sketch_text s)
unfolding sketch_text
sketch_piece CountMin = wider 12 (word (codes "count-min") refl) (omega arith)
sketch_piece CountSketch = wider 12 (word (codes "count-sketch") refl) (omega arith)
sketch_piece LogLog = wider 12 (word (codes "loglog") refl) (omega arith)

amount_piece : (a : Amount) → Piece 12 (amount_text a)
unfolding amount_text
amount_piece Packets = wider 12 (word (codes "packets") refl) (omega arith)
amount_piece Bytes = wider 12 (word (codes "bytes") refl) (omega arith)

share_piece : (s : Share) → Piece 12 (share_text s)
unfolding share_text
share_piece Turn = wider 12 (word (codes "turn") refl) (omega arith)
share_piece Key = wider 12 (word (codes "key") refl) (omega arith)

full_piece : (f : Full) → Piece 12 (full_text f)
unfolding full_text
full_piece Leave = wider 12 (word (codes "leave") refl) (omega arith)
full_piece Wait = wider 12 (word (codes "wait") refl) (omega arith)

mode_piece : (m : Mode) → Piece 12 (mode_text m)
unfolding mode_text
mode_piece Rounds = wider 12 (word (codes "rounds") refl) (omega arith)
mode_piece Threads = wider 12 (word (codes "threads") refl) (omega arith)

sketch_words_piece : (o : Options) → IsLawful o → Piece 150 (sketch_words o.sketch o.shape o.amount)
unfolding sketch_words
sketch_words_piece o law =
    let rows = both (both (both (word (codes "sketch ") refl) (sketch_piece o.sketch)) (word (codes " rows ") refl)) (wide o.shape.rows (omega (arith, law.shape.rows))) in
    let columns = both (both rows (word (codes " columns ") refl)) (wide o.shape.columns (omega (arith, law.shape.columns))) in
    wider 150 (both (both columns (word (codes " amount ") refl)) (amount_piece o.amount)) (omega arith)

share_words_piece : (o : Options) → IsLawful o → Piece 150 (share_words o)
unfolding share_words
share_words_piece o law =
    let share = both (word (codes " share ") refl) (share_piece o.share) in
    let workers = both (both share (word (codes " workers ") refl)) (wide o.workers (omega (arith, law.workers))) in
    wider 150 (both (both workers (word (codes " threshold ") refl)) (wide o.threshold (omega (arith, law.threshold)))) (omega arith)

lane_words_piece : (o : Options) → IsLawful o → Piece 150 (lane_words o)
unfolding lane_words
lane_words_piece o law =
    let lane = both (word (codes " lane ") refl) (wide o.lane (omega (arith, law.lane))) in
    let batch = both (both lane (word (codes " batch ") refl)) (wide o.batch (omega (arith, law.batch))) in
    let round = both (both batch (word (codes " round ") refl)) (wide o.round (omega (arith, law.round))) in
    wider 150 (both (both round (word (codes " full ") refl)) (full_piece o.full)) (omega arith)

query_words_piece : (o : Options) → IsLawful o → Piece 150 (query_words o)
unfolding query_words
query_words_piece o law =
    let mode = both (word (codes " mode ") refl) (mode_piece o.mode) in
    let readers = both (both mode (word (codes " readers ") refl)) (wide o.readers (omega (arith, law.readers))) in
    let asks = both (both readers (word (codes " asks ") refl)) (wide o.asks (omega (arith, law.asks))) in
    let heavy = both (both asks (word (codes " heavy ") refl)) (wide o.heavy (omega (arith, law.heavy))) in
    wider 150 (both (both heavy (word (codes " least ") refl)) (signed o.least (least_small o.least law.some_least law.least))) (omega arith)

pub options_end : (o : Options) → IsLawful o → HasEnd (options_line o)
unfolding options_line
options_end o law =
    let sketch = both (word (codes "options ") refl) (sketch_words_piece o law) in
    let shares = both sketch (share_words_piece o law) in
    ends (both (both shares (lane_words_piece o law)) (query_words_piece o law)) (omega arith)
