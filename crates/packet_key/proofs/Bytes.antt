-- Which bytes stand in the text of a key.
use Rattle.std.proofs.Common.{◌≡◌, ◌∙◌, ℕ, zero, suc, ◌/◌, ◌%◌, ◌^◌, ◌<◌, true, false, true≢false, List, [], ◌∷◌, ◌++◌, length, get_or, flat_map, decimal, All, length-append, inl, inr, refl, sym, ap, arith}
use Rattle.std.proofs.lemmas.Bool.Decides.{nat_tests}
use Rattle.std.proofs.lemmas.List.Elements.{All-nil, All-cons, All-append, All-drop, All-from_get_or, All-weaker}
use Rattle.std.proofs.lemmas.Fmt.{decimal_is_IsNumeral}
use Rattle.std.proofs.lemmas.Str.Parse.{digit_at}
use Rattle.std.specs.Int.{IsInRange, to_be_bytes, w32}
use Rattle.std.specs.Char.{digit_char}
use Rattle.std.specs.Str.{IsAscii}
use Rattle.std.proofs.lemmas.Bool.{cases_lt}
use Rattle.std.proofs.lemmas.List.{get_or_past}
use Rattle.std.specs.Net.Addr.{segments_of}
use Rattle.std.specs.Net.Text.{ipv4_text, hex, groups_text, leading_zero_digits}
use Rattle.packet_key.specs.declared.key.FlowKey.{FlowKey}
use Rattle.packet_key.specs.declared.key.FlowKey.TheVariants.{V4, V6}
use Rattle.packet_key.specs.Alphabet.{is_end_byte, is_key_byte, Lacks, IsOf}
use Rattle.packet_key.specs.Ends.{protocol_of}
use Rattle.packet_key.specs.KeyText.{IsAddress, IsKey, v4_end, v6_end, flow_text, text_of}

abbrev EndByte : ℕ → Type 0
EndByte b = is_end_byte b ≡ true

-- in a record, so that antt reads the lists off a goal
pub record Made (xs : List ℕ) : Type 0 where
  all : IsOf is_end_byte xs

nil : Made []
nil = record { all = All-nil EndByte }

and : (xs ys : List ℕ) → Made xs → Made ys → Made (xs ++ ys)
and xs ys h k = record { all = All-append EndByte xs ys h.all k.all }

one : (x : ℕ) → is_end_byte x ≡ true → Made (x ∷ [])
one x h = record { all = All-cons EndByte x [] h (All-nil EndByte) }

cons : {x : ℕ} {xs : List ℕ} → Made (x ∷ []) → Made xs → Made (x ∷ xs)
cons {x} {xs} = and (x ∷ []) xs

digit_is : (c : ℕ) → IsInRange 48 57 c → is_end_byte c ≡ true
digit_is c h = grind (arith, nat_tests)

Made-decimal : (n : ℕ) → n < 2 ^ 16 → Made (decimal n)
Made-decimal n fits = record {
  all = All-from_get_or EndByte (decimal n) 0 (λ i h. digit_is _ (digit_at (decimal n) i (decimal_is_IsNumeral n (omega arith)).0.1 h));
}

Made-ipv4_text : (o : List ℕ) → ((k : ℕ) → get_or o k 0 < 256) → Made (ipv4_text o)
Made-ipv4_text o fits =
    let number : (k : ℕ) → Made (decimal (get_or o k 0)) = λ k. let small = fits k in Made-decimal _ (omega arith) in
    let dot = one 46 refl in
    let first = and _ _ (and _ _ (number 0) dot) (number 1) in
    let second = and _ _ (and _ _ first dot) (number 2) in
    and _ _ (and _ _ second dot) (number 3)

hex_digit : (d : ℕ) → d < 16 → Made (digit_char d ∷ [])
hex_digit d h = one _ (grind (arith, nat_tests))

Made-hex : (n : ℕ) → n < 2 ^ 16 → Made (hex n)
unfolding hex
Made-hex n fits =
    let four = cons (hex_digit (n / 0x1000) (omega arith)) (cons (hex_digit (n / 0x100 % 16) (omega arith)) (cons (hex_digit (n / 0x10 % 16) (omega arith)) (hex_digit (n % 16) (omega arith)))) in
    record { all = All-drop EndByte (leading_zero_digits n) (digit_char (n / 0x1000) ∷ digit_char (n / 0x100 % 16) ∷ digit_char (n / 0x10 % 16) ∷ digit_char (n % 16) ∷ []) four.all }

-- each number has 16 bits
abbrev pub AreGroups : List ℕ → Type 0
AreGroups xs = (k : ℕ) → get_or xs k 0 < 2 ^ 16

more_groups : (xs : List ℕ) → AreGroups xs → Made (flat_map (λ t. 58 ∷ hex t) xs)
more_groups [] h = nil
more_groups (x ∷ xs) h = and (58 ∷ hex x) _ (cons (one 58 refl) (Made-hex x (h 0))) (more_groups xs (λ j. h (suc j)))

Made-groups_text : (xs : List ℕ) → AreGroups xs → Made (groups_text xs)
Made-groups_text [] h = nil
Made-groups_text (x ∷ xs) h = and (hex x) _ (Made-hex x (h 0)) (more_groups xs (λ j. h (suc j)))

-- the groups of an address have 16 bits
pub groups_fit : (address : List ℕ) → ((k : ℕ) → get_or address k 0 < 256) → AreGroups (segments_of address)
groups_fit [] fits k = omega arith
groups_fit (a ∷ []) fits k = omega arith
groups_fit (a ∷ b ∷ rest) fits k =
    let high : a < 256 = fits 0 in
    let low : b < 256 = fits 1 in
    let later = groups_fit rest (λ j. fits (suc (suc j))) in
    elim k as (λ j. get_or (segments_of (a ∷ b ∷ rest)) j 0 < 2 ^ 16) [ zero ↦ omega arith | suc j ↦ later j ]

pub octets_fit : (n k : ℕ) → get_or (to_be_bytes w32 n) k 0 < 256
octets_fit n k = grind arith

Made-v4_end : (address port : ℕ) → port < 2 ^ 16 → Made (v4_end address port)
unfolding v4_end
Made-v4_end address port fits = and _ _ (and _ _ (Made-ipv4_text (to_be_bytes w32 address) (octets_fit address)) (one 58 refl)) (Made-decimal port fits)

Made-v6_end : (address : List ℕ) (port : ℕ) → IsAddress address → port < 2 ^ 16 → Made (v6_end address port)
unfolding v6_end
Made-v6_end address port is fits =
    let groups = Made-groups_text _ (groups_fit address is.bytes) in
    and _ _ (and _ _ (and (91 ∷ []) _ (one 91 refl) groups) (cons (one 93 refl) (one 58 refl))) (Made-decimal port fits)

-- the text of a key's source
abbrev pub source_text : FlowKey → List ℕ
source_text (V4 src dst sport dport proto) = v4_end src sport
source_text (V6 src dst sport dport proto) = v6_end src sport

-- the text of its destination
abbrev pub destination_text : FlowKey → List ℕ
destination_text (V4 src dst sport dport proto) = v4_end dst dport
destination_text (V6 src dst sport dport proto) = v6_end dst dport

pub Made-source : (k : FlowKey) → IsKey k → Made (source_text k)
Made-source (V4 src dst sport dport proto) is = Made-v4_end src sport is.2
Made-source (V6 src dst sport dport proto) is = Made-v6_end src sport is.0 is.2

pub Made-destination : (k : FlowKey) → IsKey k → Made (destination_text k)
Made-destination (V4 src dst sport dport proto) is = Made-v4_end dst dport is.3
Made-destination (V6 src dst sport dport proto) is = Made-v6_end dst dport is.1 is.3

pub protocol_fits : (k : FlowKey) → IsKey k → protocol_of k < 256
protocol_fits (V4 src dst sport dport proto) is = is.4
protocol_fits (V6 src dst sport dport proto) is = is.4

-- a byte of another sort stands in no end
pub lacks : (byte : ℕ) (xs : List ℕ) → is_end_byte byte ≡ false → Made xs → Lacks byte xs
lacks byte xs other made k d lt same = true≢false (sym (made.all k d lt) ∙ ap is_end_byte same ∙ other)

pub text_parts : (k : FlowKey) → text_of k ≡ flow_text (source_text k) (destination_text k) (protocol_of k)
unfolding text_of
text_parts (V4 src dst sport dport proto) = refl
text_parts (V6 src dst sport dport proto) = refl

below : (b : ℕ) → is_key_byte b ≡ true → b < 128
below b is = grind (arith, nat_tests)

abbrev KeyByte : ℕ → Type 0
KeyByte b = is_key_byte b ≡ true

in_key : (xs : List ℕ) → Made xs → All KeyByte xs
in_key xs made = All-weaker EndByte KeyByte (λ b h. rw h refl) xs made.all

-- the bytes of a key's text
pub IsOf-text_of : (k : FlowKey) → IsKey k → IsOf is_key_byte (text_of k)
unfolding flow_text
IsOf-text_of k is =
    let front = All-append KeyByte _ (62 ∷ []) (in_key _ (Made-source k is)) (All-cons KeyByte 62 [] refl (All-nil KeyByte)) in
    let middle = All-append KeyByte _ _ front (in_key _ (Made-destination k is)) in
    let before = All-append KeyByte _ (47 ∷ []) middle (All-cons KeyByte 47 [] refl (All-nil KeyByte)) in
    let proto = in_key _ (Made-decimal (protocol_of k) (let fits = protocol_fits k is in omega arith)) in
    rw (text_parts k) (All-append KeyByte _ _ before proto)

-- a byte of another sort, as a comma, a space or a line feed, stands in no key's text
pub Lacks-text_of : (byte : ℕ) → is_key_byte byte ≡ false → (k : FlowKey) → IsKey k → Lacks byte (text_of k)
Lacks-text_of byte other k is i d lt same = true≢false (sym (IsOf-text_of k is i d lt) ∙ ap is_key_byte same ∙ other)

-- a key's text is ASCII
pub IsAscii-text_of : (k : FlowKey) → IsKey k → IsAscii (text_of k)
IsAscii-text_of k is i =
    elim (cases_lt i (length (text_of k))) [
      | inl inside ↦ below _ (IsOf-text_of k is i 0 inside)
      | inr past ↦ rw (get_or_past (text_of k) i 0 past) (omega arith)
    ]

-- a key's text has bytes
pub length-text_of : (k : FlowKey) → 0 < length (text_of k)
unfolding flow_text
length-text_of k = rw (text_parts k) (simp length-append (omega arith))
