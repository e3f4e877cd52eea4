-- The hash of a key's bytes, which are hashed part by part.
use Rattle.std.proofs.Common.{◌≡◌, ◌∙◌, ℕ, ◌++◌, fold, sym, ap}
use Rattle.std.proofs.lemmas.List.Sums.{fold-append}
use Rattle.std.specs.Int.{to_be_bytes, w32}
use Rattle.packet_key.specs.KeyBytes.{tail_of}
use Rattle.packet_key.specs.declared.key.FlowKey.TheVariants.{V4}
use Rattle.hash_rows.specs.Hash.{fnv_of, fnv_step, key_hash_of}

pub hashed_v4 : (src dst sport dport proto first second third : ℕ) → first ≡ fold fnv_step 0xCBF29CE484222325 (to_be_bytes w32 src) → second ≡ fold fnv_step first (to_be_bytes w32 dst)
    → third ≡ fold fnv_step second (tail_of sport dport proto) → third ≡ key_hash_of (V4 src dst sport dport proto)
unfolding key_hash_of fnv_of
hashed_v4 src dst sport dport proto first second third of_src of_dst of_tail =
    let a = to_be_bytes w32 src in
    let b = to_be_bytes w32 dst in
    let c = tail_of sport dport proto in
    of_tail
    ∙ ap (λ h. fold fnv_step h c) (of_dst ∙ ap (λ h. fold fnv_step h b) of_src ∙ sym (fold-append fnv_step 0xCBF29CE484222325 a b))
    ∙ sym (fold-append fnv_step 0xCBF29CE484222325 (a ++ b) c)
