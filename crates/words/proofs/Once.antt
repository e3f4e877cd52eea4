-- Parts give at most one set of options.
use Rattle.std.proofs.Common.{◌≡◌, ◌∙◌, ◌<◌, ◌^◌, ℕ, refl, sym, ap, subst, arith, List, Option, Some, None, codes}
use Rattle.std.specs.Prelude.{ℤ, pos}
use Rattle.std.proofs.lemmas.Fmt.{decimal_injective}
use Rattle.hash_rows.specs.OptionTexts.{amount_text, full_text, mode_text, share_text, sketch_text}
use Rattle.hash_rows.specs.declared.options.Amount.{Amount}
use Rattle.hash_rows.specs.declared.options.Amount.TheVariants.{Packets, Bytes}
use Rattle.hash_rows.specs.declared.options.Full.{Full}
use Rattle.hash_rows.specs.declared.options.Full.TheVariants.{Leave, Wait}
use Rattle.hash_rows.specs.declared.options.Mode.{Mode}
use Rattle.hash_rows.specs.declared.options.Mode.TheVariants.{Rounds, Threads}
use Rattle.hash_rows.specs.declared.options.Options.{Options}
use Rattle.hash_rows.specs.declared.options.Share.{Share}
use Rattle.hash_rows.specs.declared.options.Share.TheVariants.{Turn, Key}
use Rattle.hash_rows.specs.declared.options.Sketch.{Sketch}
use Rattle.hash_rows.specs.declared.options.Sketch.TheVariants.{CountMin, CountSketch, LogLog}
use Rattle.hash_rows.specs.declared.shape.Shape.{Shape}
use Rattle.packet_key.specs.declared.key.FlowKey.{FlowKey}
use Rattle.packet_key.specs.KeyText.{IsKey, text_of}
use Rattle.packet_key.proofs.Bytes.{Lacks-text_of}
use Rattle.packet_key.proofs.OneText.{one_key}
use Rattle.prefixes.specs.declared.network.Prefix.{Prefix}
use Rattle.prefixes.specs.Networks.{IsNetwork}
use Rattle.prefixes.specs.Texts.{prefix_text}
use Rattle.prefixes.proofs.Texts.{Lacks-prefix_text, one_network}
use Rattle.words.specs.Grammar.{Part, Text, value_in}
use Rattle.words.specs.Options.{GivesOptions, GivesShape, most_rows, usual_rows, usual_threshold}
use Rattle.words.specs.Values.{NeedsNumber, ReadsChoice, ReadsInteger, ReadsKeys, ReadsNetworks, IsNumberOf}
use Rattle.words.proofs.WatchedLists.{same_list}

-- a value gives at most one number
pub same_number : (low high d : ℕ) (v : Option Text) (m n : ℕ) → high < 2 ^ 64 → IsNumberOf low high d v m → IsNumberOf low high d v n → m ≡ n
same_number low high d None m n fits p q = p ∙ sym q
same_number low high d (Some t) m n fits p q = decimal_injective m n (omega arith) (omega arith) (sym p.0 ∙ q.0)

pub same_needed : (low high : ℕ) (v : Option Text) (m n : ℕ) → high < 2 ^ 64 → NeedsNumber low high v m → NeedsNumber low high v n → m ≡ n
same_needed low high None m n fits p q = absurd p
same_needed low high (Some t) m n fits p q = decimal_injective m n (omega arith) (omega arith) (sym p.0 ∙ q.0)

pub same_integer : (low high d : ℕ) (v : Option Text) (y z : ℤ) → high < 2 ^ 64 → ReadsInteger low high d v y → ReadsInteger low high d v z → y ≡ z
same_integer low high d None y z fits p q = p ∙ sym q
same_integer low high d (Some t) y z fits p q = p.1 ∙ ap pos (same_number low high d (Some t) p.0 q.0 fits p.2 q.2) ∙ sym q.1

-- a value names at most one choice, where the choices have different texts
pub same_choice : {C : Type 0} (text_for : C → Text) (d : C) (v : Option Text) (a b : C) → ((x y : C) → text_for x ≡ text_for y → x ≡ y)
    → ReadsChoice text_for d v a → ReadsChoice text_for d v b → a ≡ b
same_choice text_for d None a b apart p q = p ∙ sym q
same_choice text_for d (Some t) a b apart p q = apart a b (sym p ∙ q)

pub same_sketch : (s t : Sketch) → sketch_text s ≡ sketch_text t → s ≡ t
unfolding sketch_text
same_sketch CountMin CountMin e = refl
same_sketch CountSketch CountSketch e = refl
same_sketch LogLog LogLog e = refl
same_sketch CountMin CountSketch e = cc
same_sketch CountMin LogLog e = cc
same_sketch CountSketch CountMin e = cc
same_sketch CountSketch LogLog e = cc
same_sketch LogLog CountMin e = cc
same_sketch LogLog CountSketch e = cc

same_amount : (s t : Amount) → amount_text s ≡ amount_text t → s ≡ t
unfolding amount_text
same_amount Packets Packets e = refl
same_amount Bytes Bytes e = refl
same_amount Packets Bytes e = cc
same_amount Bytes Packets e = cc

same_share : (s t : Share) → share_text s ≡ share_text t → s ≡ t
unfolding share_text
same_share Turn Turn e = refl
same_share Key Key e = refl
same_share Turn Key e = cc
same_share Key Turn e = cc

same_full : (s t : Full) → full_text s ≡ full_text t → s ≡ t
unfolding full_text
same_full Leave Leave e = refl
same_full Wait Wait e = refl
same_full Leave Wait e = cc
same_full Wait Leave e = cc

same_mode : (s t : Mode) → mode_text s ≡ mode_text t → s ≡ t
unfolding mode_text
same_mode Rounds Rounds e = refl
same_mode Threads Threads e = refl
same_mode Rounds Threads e = cc
same_mode Threads Rounds e = cc

same_shape : (parts : List Part) (k : Sketch) (s t : Shape) → GivesShape parts k s → GivesShape parts k t → s ≡ t
same_shape parts k s t g h =
    let rows = same_number 1 (most_rows k) (usual_rows k) _ s.rows t.rows (few k) g.rows h.rows in
    let columns = same_number 1 65536 2048 _ s.columns t.columns (omega arith) g.columns h.columns in
    λ i. record { rows = rows i; columns = columns i }
  where
    few : (k : Sketch) → most_rows k < 2 ^ 64
    few CountMin = omega arith
    few CountSketch = omega arith
    few LogLog = omega arith

same_keys : (v : Option Text) (ks ls : List FlowKey) → ReadsKeys v ks → ReadsKeys v ls → ks ≡ ls
same_keys = same_list IsKey text_of (Lacks-text_of 44 refl) one_key

-- a value lists the texts of at most one list of networks
pub same_networks : (v : Option Text) (ps qs : List Prefix) → ReadsNetworks v ps → ReadsNetworks v qs → ps ≡ qs
same_networks = same_list IsNetwork prefix_text (Lacks-prefix_text 44 refl) one_network

-- parts give at most one set of options
pub same_options : (usual : Sketch) (keys : Option Text) (parts : List Part) (o d : Options) → GivesOptions usual keys parts o → GivesOptions usual keys parts d → o ≡ d
same_options usual keys parts o d g h =
    let sketch = same_choice sketch_text usual _ o.sketch d.sketch same_sketch g.sketch h.sketch in
    let back = λ (P : Sketch → Type 0) (p : P d.sketch). subst P (sym sketch) p in
    let shape = same_shape parts o.sketch o.shape d.shape g.shape (back (λ (s : Sketch). GivesShape parts s d.shape) h.shape) in
    let amount = same_choice amount_text Packets _ o.amount d.amount same_amount g.amount h.amount in
    let share = same_choice share_text Turn _ o.share d.share same_share g.share h.share in
    let workers = same_number 1 16 4 _ o.workers d.workers (omega arith) g.workers h.workers in
    let threshold = same_number 1 1099511627776 (usual_threshold o.sketch) _ o.threshold d.threshold (omega arith) g.threshold
    (back (λ (s : Sketch). IsNumberOf 1 1099511627776 (usual_threshold s) (value_in (codes "threshold") parts) d.threshold) h.threshold) in
    let lane = same_number 1 4096 64 _ o.lane d.lane (omega arith) g.lane h.lane in
    let batch = same_number 1 1024 32 _ o.batch d.batch (omega arith) g.batch h.batch in
    let round = same_number 1 65536 64 _ o.round d.round (omega arith) g.round h.round in
    let full = same_choice full_text Leave _ o.full d.full same_full g.full h.full in
    let mode = same_choice mode_text Rounds _ o.mode d.mode same_mode g.mode h.mode in
    let readers = same_number 0 4 0 _ o.readers d.readers (omega arith) g.readers h.readers in
    let asks = same_number 0 1024 0 _ o.asks d.asks (omega arith) g.asks h.asks in
    let items = same_keys _ o.watch.items d.watch.items g.watch h.watch in
    let room = g.room ∙ sym h.room in
    let heavy = same_number 1 1024 64 _ o.heavy d.heavy (omega arith) g.heavy h.heavy in
    let least = same_integer 1 1099511627776 1024 _ o.least d.least (omega arith) g.least h.least in
    let journal = g.journal ∙ sym h.journal in
    λ i. record {
      sketch = sketch i;
      shape = shape i;
      amount = amount i;
      share = share i;
      workers = workers i;
      threshold = threshold i;
      lane = lane i;
      batch = batch i;
      round = round i;
      full = full i;
      mode = mode i;
      readers = readers i;
      asks = asks i;
      watch = record { items = items i; room = room i };
      heavy = heavy i;
      least = least i;
      journal = journal i;
    }
