-- What the end of input says of all the bytes.
use Rattle.std.proofs.Common.{◌≡◌, ◌<◌, ℕ, List, [], ◌∷◌, length, Option, Some, None, refl, sym, ap, ◌∙◌, subst, inr, arith}
use Rattle.pcap_read.specs.Records.{Framed}
use Rattle.pcap_read.specs.declared.bad.Order.{Order}
use Rattle.pcapng_read.specs.Blocks.{start, walk_past, behind_by}
use Rattle.pcapng_read.specs.Capture.{Block, Cuts, NgCaptureOf, walk_behind}
use Rattle.pcapng_read.specs.View.{NgReaderView, Stands}
use Rattle.pcapng_read.specs.Takes.{end_in, outcome_of}
use Rattle.pcapng_read.specs.declared.bad.NgBad.TheVariants.{ShortSection}
use Rattle.pcapng_read.specs.declared.block.Walk.{Walk}
use Rattle.pcapng_read.specs.declared.block.Body.{Body}
use Rattle.pcapng_read.specs.declared.block.Body.TheVariants.{Section, Interface, Packet, Passed}

has_order : (w : Walk) (order : Order) (total : ℕ) (body : Body) → (behind_by w order total body).order ≡ Some order
has_order w order total Section = refl
has_order w order total (Interface snapshot) = refl
has_order w order total (Packet at captured original) = refl
has_order w order total Passed = refl

-- behind blocks there is an order
still_order : (w : Walk) (bs : List Block) (order : Order) → w.order ≡ Some order → (walk_behind w bs).order ≡ None → ⊥
still_order w [] order is none = let e : Some order ≡ None = sym is ∙ none in absurd (cc)
still_order w (b ∷ bs) order is none = still_order (walk_past w b.plan) bs b.plan.order (has_order w b.plan.order b.plan.total b.plan.body) none

-- before the first block there is none
some_blocks : (bs : List Block) (order : Order) → (walk_behind start bs).order ≡ Some order → 0 < length bs
some_blocks [] order is = let e : None ≡ Some order = is in absurd (cc)
some_blocks (b ∷ bs) order is = omega arith

ends_none : (limit : ℕ) (bytes : List ℕ) (bs : List Block) (rest : List ℕ) (fs : List Framed) (seen : ℕ) → Cuts limit bytes bs rest → (walk_behind start bs).order ≡ None → seen ≡ length rest
    → NgCaptureOf limit bytes (outcome_of fs (end_in seen None))
ends_none limit bytes [] rest fs seen cut none is =
    let same : bytes ≡ rest = cut.parts in
    inr (subst (λ (t : List ℕ). Cuts limit bytes [] t) (sym same) cut, ap ShortSection (is ∙ ap length (sym same)))
ends_none limit bytes (b ∷ bs) rest fs seen cut none is =
    absurd (still_order (walk_past start b.plan) bs b.plan.order (has_order start b.plan.order b.plan.total b.plan.body) none)

ends_by : (view : NgReaderView) (bytes : List ℕ) (fs : List Framed) (o : Option Order) (h : Stands view bytes fs) → view.walk.order ≡ o
    → NgCaptureOf view.limit bytes (outcome_of fs (end_in view.seen o))
ends_by view bytes fs None h is = ends_none view.limit bytes h.blocks h.rest fs view.seen h.cut (ap (λ (w : Walk). w.order) (sym h.walk) ∙ is) h.seen
ends_by view bytes fs (Some order) h is = (
  h.rest,
  record {
    blocks = h.blocks;
    some = some_blocks h.blocks order (ap (λ (w : Walk). w.order) (sym h.walk) ∙ is);
    cut = h.cut;
    frames_are = h.frames_are;
  },
  h.seen,
)

-- a reader that wasn't refused ends with what the whole input is
pub ends : (view : NgReaderView) (bytes : List ℕ) (fs : List Framed) → Stands view bytes fs → NgCaptureOf view.limit bytes (outcome_of fs (end_in view.seen view.walk.order))
ends view bytes fs h = ends_by view bytes fs view.walk.order h refl
