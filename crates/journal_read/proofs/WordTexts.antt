-- Which word stands at the front of a text.
use Rattle.std.proofs.Common.{◌≡◌, ◌∙◌, ℕ, List, [], ◌++◌, refl, ap, drop, length, get_or, arith}
use Rattle.std.proofs.Math.Seq.{drop-append_seam}
use Rattle.hash_rows.specs.declared.options.Amount.TheVariants.{Packets, Bytes}
use Rattle.hash_rows.specs.declared.options.Full.TheVariants.{Leave, Wait}
use Rattle.hash_rows.specs.declared.options.Mode.TheVariants.{Rounds, Threads}
use Rattle.hash_rows.specs.declared.options.Share.TheVariants.{Turn, Key}
use Rattle.hash_rows.specs.declared.options.Sketch.TheVariants.{CountMin, CountSketch, LogLog}
use Rattle.hash_rows.specs.OptionTexts.{sketch_text, amount_text, share_text, full_text, mode_text}
use Rattle.journal_read.specs.Numbers.{ReadsWord}

pub word_behind : {E : Type 0} (text_of : E → List ℕ) (text words back : List ℕ) (word : E) (behind : List ℕ) → back ≡ drop (length words) text
    → ReadsWord text_of back [] word behind → ReadsWord text_of text words word behind
word_behind text_of text words back word behind skipped reads e rest is =
    reads e rest (skipped ∙ ap (drop (length words)) is ∙ drop-append_seam words (text_of e ++ rest))

-- the byte at the place of a text that is known
byte : (text whole : List ℕ) (place b : ℕ) → text ≡ whole → get_or whole place 0 ≡ b → get_or text place 0 ≡ b
byte text whole place b is at = ap (λ (t : List ℕ). get_or t place 0) is ∙ at

pub sketch_loglog : (text : List ℕ) → get_or text 0 0 ≡ 108 → ReadsWord sketch_text text [] LogLog (drop 6 text)
unfolding sketch_text
sketch_loglog text first LogLog rest is = (refl, ap (drop 6) is)
sketch_loglog text first CountMin rest is = absurd (omega (arith, first, byte text (sketch_text CountMin ++ rest) 0 99 is refl))
sketch_loglog text first CountSketch rest is = absurd (omega (arith, first, byte text (sketch_text CountSketch ++ rest) 0 99 is refl))

pub sketch_min : (text : List ℕ) → (get_or text 0 0 ≡ 108 → ⊥) → get_or text 6 0 ≡ 109 → ReadsWord sketch_text text [] CountMin (drop 9 text)
unfolding sketch_text
sketch_min text other sixth LogLog rest is = absurd (other (byte text (sketch_text LogLog ++ rest) 0 108 is refl))
sketch_min text other sixth CountMin rest is = (refl, ap (drop 9) is)
sketch_min text other sixth CountSketch rest is = absurd (omega (arith, sixth, byte text (sketch_text CountSketch ++ rest) 6 115 is refl))

pub sketch_count : (text : List ℕ) → (get_or text 0 0 ≡ 108 → ⊥) → (get_or text 6 0 ≡ 109 → ⊥) → ReadsWord sketch_text text [] CountSketch (drop 12 text)
unfolding sketch_text
sketch_count text other more LogLog rest is = absurd (other (byte text (sketch_text LogLog ++ rest) 0 108 is refl))
sketch_count text other more CountMin rest is = absurd (more (byte text (sketch_text CountMin ++ rest) 6 109 is refl))
sketch_count text other more CountSketch rest is = (refl, ap (drop 12) is)

pub amount_packets : (text : List ℕ) → get_or text 0 0 ≡ 112 → ReadsWord amount_text text [] Packets (drop 7 text)
unfolding amount_text
amount_packets text first Packets rest is = (refl, ap (drop 7) is)
amount_packets text first Bytes rest is = absurd (omega (arith, first, byte text (amount_text Bytes ++ rest) 0 98 is refl))

pub amount_bytes : (text : List ℕ) → (get_or text 0 0 ≡ 112 → ⊥) → ReadsWord amount_text text [] Bytes (drop 5 text)
unfolding amount_text
amount_bytes text other Packets rest is = absurd (other (byte text (amount_text Packets ++ rest) 0 112 is refl))
amount_bytes text other Bytes rest is = (refl, ap (drop 5) is)

pub share_turn : (text : List ℕ) → get_or text 0 0 ≡ 116 → ReadsWord share_text text [] Turn (drop 4 text)
unfolding share_text
share_turn text first Turn rest is = (refl, ap (drop 4) is)
share_turn text first Key rest is = absurd (omega (arith, first, byte text (share_text Key ++ rest) 0 107 is refl))

pub share_key : (text : List ℕ) → (get_or text 0 0 ≡ 116 → ⊥) → ReadsWord share_text text [] Key (drop 3 text)
unfolding share_text
share_key text other Turn rest is = absurd (other (byte text (share_text Turn ++ rest) 0 116 is refl))
share_key text other Key rest is = (refl, ap (drop 3) is)

pub full_leave : (text : List ℕ) → get_or text 0 0 ≡ 108 → ReadsWord full_text text [] Leave (drop 5 text)
unfolding full_text
full_leave text first Leave rest is = (refl, ap (drop 5) is)
full_leave text first Wait rest is = absurd (omega (arith, first, byte text (full_text Wait ++ rest) 0 119 is refl))

pub full_wait : (text : List ℕ) → (get_or text 0 0 ≡ 108 → ⊥) → ReadsWord full_text text [] Wait (drop 4 text)
unfolding full_text
full_wait text other Leave rest is = absurd (other (byte text (full_text Leave ++ rest) 0 108 is refl))
full_wait text other Wait rest is = (refl, ap (drop 4) is)

pub mode_rounds : (text : List ℕ) → get_or text 0 0 ≡ 114 → ReadsWord mode_text text [] Rounds (drop 6 text)
unfolding mode_text
mode_rounds text first Rounds rest is = (refl, ap (drop 6) is)
mode_rounds text first Threads rest is = absurd (omega (arith, first, byte text (mode_text Threads ++ rest) 0 116 is refl))

pub mode_threads : (text : List ℕ) → (get_or text 0 0 ≡ 114 → ⊥) → ReadsWord mode_text text [] Threads (drop 7 text)
unfolding mode_text
mode_threads text other Rounds rest is = absurd (other (byte text (mode_text Rounds ++ rest) 0 114 is refl))
mode_threads text other Threads rest is = (refl, ap (drop 7) is)
