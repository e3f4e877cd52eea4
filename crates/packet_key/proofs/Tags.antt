-- One step of the walk over the tags of a frame.
use Rattle.std.proofs.Common.{◌≡◌, ◌∙◌, ℕ, zero, suc, ◌+◌, ◌-◌, ◌<◌, ◌≤◌, List, length, true, false, Err, refl, ap, arith}
use Rattle.std.proofs.lemmas.Bool.{le-ltb, lt-ltb}
use Rattle.packet_key.specs.declared.key.Skip.TheVariants.{ShortFrame, ManyTags}
use Rattle.packet_key.specs.Frame.{u16_of, is_tag, announced, key_behind, key_of}

pub behind_addresses : (frame : List ℕ) → 14 ≤ length frame → key_behind 2 frame 12 ≡ key_of frame
unfolding key_of
behind_addresses frame long = rw (le-ltb (length frame) 14 long) refl

pub tag_passed : (tags : ℕ) (frame : List ℕ) (p : ℕ) → is_tag (u16_of frame p) ≡ true → 0 < tags → p + 6 ≤ length frame
    → key_behind (tags - 1) frame (p + 4) ≡ key_behind tags frame p
unfolding key_behind
tag_passed zero frame p is some fits = absurd (omega arith)
tag_passed (suc tags) frame p is some fits =
    let less : suc tags - 1 ≡ tags = omega arith in
    ap (λ n. key_behind n frame (p + 4)) less ∙ (rw (is, le-ltb (length frame) (p + 6) fits) refl)

pub no_tag_left : (tags : ℕ) (frame : List ℕ) (p : ℕ) → is_tag (u16_of frame p) ≡ true → tags ≡ 0
    → key_behind tags frame p ≡ Err ManyTags
unfolding key_behind
no_tag_left zero frame p is none = rw is refl
no_tag_left (suc tags) frame p is none = absurd (omega arith)

pub tag_cut : (tags : ℕ) (frame : List ℕ) (p : ℕ) → is_tag (u16_of frame p) ≡ true → 0 < tags → length frame < p + 6
    → key_behind tags frame p ≡ Err ShortFrame
unfolding key_behind
tag_cut zero frame p is some cut = absurd (omega arith)
tag_cut (suc tags) frame p is some cut = rw (is, lt-ltb (length frame) (p + 6) cut) refl

pub no_tag : (tags : ℕ) (frame : List ℕ) (p : ℕ) → is_tag (u16_of frame p) ≡ false
    → key_behind tags frame p ≡ announced (u16_of frame p) frame (p + 2)
unfolding key_behind
no_tag zero frame p is = rw is refl
no_tag (suc tags) frame p is = rw is refl
