-- A reader's view while no packet is lent.
use Rattle.std.proofs.Common.{◌≡◌, ◌≤◌, ◌<◌, ℕ, ◌+◌, List, [], ◌∷◌, Option, Some, None, Bool, true, false, IsTrue, IsSome, ◌↔◌, if◌then◌else◌, take, drop, MatchOption, MatchBool, refl, ap, sym, ◌∙◌, subst, arith}
use Rattle.pcap_read.specs.Records.{Framed}
use Rattle.pcapng_read.specs.Blocks.{behind_by, keep_in}
use Rattle.pcapng_read.specs.Plans.{count_in}
use Rattle.pcapng_read.specs.Capture.{frame_in}
use Rattle.pcapng_read.specs.Inside.{view_of, lent_in, data_of, IsInBlock, IsLending}
use Rattle.pcapng_read.specs.View.{NgReaderView, Stands}
use Rattle.pcap_read.specs.declared.bad.Order.{Order}
use Rattle.pcapng_read.specs.declared.block.Walk.{Walk}
use Rattle.pcapng_read.specs.declared.block.Body.{Body}
use Rattle.pcapng_read.specs.declared.block.Body.TheVariants.{Section, Interface, Packet, Passed}
use Rattle.pcapng_read.specs.declared.block.Judged.{Judged}
use Rattle.pcapng_read.specs.declared.reader.Data.{Data}
use Rattle.pcapng_read.specs.declared.reader.NgReader.TheInside.{Inside}

abbrev pub plain_view : Inside → NgReaderView
plain_view a = record { limit = a.limit; walk = a.walk; judged = a.judged; seen = a.seen; held = a.held.items; lent = None }

going_view : (a : Inside) → a.packet ≡ None → view_of a ≡ plain_view a
going_view a f = rw f refl

not_lending_by : (o : Option Data) (held : List ℕ) → lent_in held o ≡ None → o ≡ None
not_lending_by None held e = refl
not_lending_by (Some d) held e = absurd (cc)

pub not_lending : (a : Inside) (p : NgReaderView) → view_of a ≡ p → p.lent ≡ None → a.packet ≡ None
not_lending a p view none = not_lending_by a.packet a.held.items (ap (λ (q : NgReaderView). q.lent) view ∙ none)

-- an open reader that lends nothing stands where it stood closed
pub stands_inside : (a : Inside) (p : NgReaderView) (b : List ℕ) (fs : List Framed) → view_of a ≡ p → a.packet ≡ None → Stands p b fs → Stands (plain_view a) b fs
stands_inside a p b fs view f stands = subst (λ (q : NgReaderView). Stands q b fs) (sym view ∙ going_view a f) stands

-- where it stands in the block
pub in_block : (a : Inside) (j : Judged) → a.packet ≡ None → a.judged ≡ j → MatchOption a.packet (IsInBlock a a.judged) (IsLending a) → IsInBlock a j
in_block a j f is within = subst (λ (k : Judged). IsInBlock a k) is (subst (λ (o : Option Data). MatchOption o (IsInBlock a a.judged) (IsLending a)) f within)

abbrev pub frame_at : Data → List ℕ → Framed
frame_at d held = record { original = d.original; bytes = take d.captured (drop d.at held) }

pub no_frame : (body : Body) (held : List ℕ) → None ≡ data_of body → frame_in held body ≡ []
no_frame Section held e = refl
no_frame (Interface snapshot) held e = refl
no_frame (Packet at captured original) held e = absurd (cc)
no_frame Passed held e = refl

some_same : (d e : Data) → Some d ≡ Some e → d ≡ e
some_same d e h = cc

pub some_frame : (body : Body) (held : List ℕ) (d : Data) → Some d ≡ data_of body → frame_in held body ≡ frame_at d held ∷ []
some_frame Section held d e = absurd (cc)
some_frame (Interface snapshot) held d e = absurd (cc)
some_frame (Packet at captured original) held d e = ap (λ (k : Data). frame_at k held ∷ []) (sym (some_same d (record { at = at; captured = captured; original = original }) e))
some_frame Passed held d e = absurd (cc)

pub some_keep : (body : Body) (d : Data) → Some d ≡ data_of body → d.at + d.captured ≡ keep_in body
some_keep Section d e = absurd (cc)
some_keep (Interface snapshot) d e = absurd (cc)
some_keep (Packet at captured original) d e = ap (λ (k : Data). k.at + k.captured) (some_same d (record { at = at; captured = captured; original = original }) e)
some_keep Passed d e = absurd (cc)

-- one more of its sort is within the limit
pub behind_few : (limit : ℕ) (w : Walk) (order : Order) (total : ℕ) (body : Body) → w.packets ≤ limit → w.others ≤ limit → count_in w body < limit
    → ((behind_by w order total body).packets ≤ limit) × ((behind_by w order total body).others ≤ limit)
behind_few limit w order total Section p o lt = (p, omega (arith, lt))
behind_few limit w order total (Interface snapshot) p o lt = (p, omega (arith, lt))
behind_few limit w order total (Packet at captured original) p o lt = (omega (arith, lt), o)
behind_few limit w order total Passed p o lt = (p, omega (arith, lt))

pub count_below : (limit : ℕ) (w : Walk) (body : Body) → w.packets ≤ limit → w.others ≤ limit → (count_in w body ≡ limit → ⊥) → count_in w body < limit
count_below limit w Section p o ne = omega (arith, o, ne)
count_below limit w (Interface snapshot) p o ne = omega (arith, o, ne)
count_below limit w (Packet at captured original) p o ne = omega (arith, p, ne)
count_below limit w Passed p o ne = omega (arith, o, ne)

abbrev pub forgotten : NgReaderView → NgReaderView
forgotten p = record p { lent = None }

-- a reader that lets its packet go stands where it stood
pub stands_forgotten : (p : NgReaderView) (b : List ℕ) (fs : List Framed) → Stands p b fs → Stands (forgotten p) b fs
stands_forgotten p b fs h = record {
  blocks = h.blocks;
  rest = h.rest;
  cut = h.cut;
  frames_are = h.frames_are;
  walk = h.walk;
  judged_is = h.judged_is;
  seen = h.seen;
  held = h.held;
}

pub when_not : (A B : Type 0) (b : Bool) → b ≡ false → MatchBool b A B → B
when_not A B true is h = absurd (cc)
when_not A B false is h = h

pub when_so : (A B : Type 0) (b : Bool) → b ≡ true → MatchBool b A B → A
when_so A B true is h = h
when_so A B false is h = absurd (cc)

pub none_by : (b : Bool) (o : Option Framed) → (IsTrue b ↔ IsSome o) → b ≡ false → o ≡ None
none_by b None h e = refl
none_by true (Some f) h e = absurd (cc)
none_by false (Some f) h e = absurd (let no : false ≡ true = h.1 refl in cc)

pub count_not : (b : Bool) (n m : ℕ) → n ≡ (if b then m + 1 else m) → b ≡ false → n ≡ m
count_not true n m is e = absurd (cc)
count_not false n m is e = is

pub count_so : (b : Bool) (n m : ℕ) → n ≡ (if b then m + 1 else m) → b ≡ true → n ≡ m + 1
count_so true n m is e = is
count_so false n m is e = absurd (cc)
