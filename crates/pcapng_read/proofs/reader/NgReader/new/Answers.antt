use Rattle.std.proofs.Common.{arith, refl, ◌≡◌, []}
use Rattle.pcapng_read.specs.Blocks.{start, judged, judged_in}
use Rattle.pcapng_read.specs.Capture.{AreBlocks}
use Rattle.pcapng_read.specs.declared.block.Judged.TheVariants.{Waits}
use Rattle.std.specs.Prelude.{ℕ}
use Rattle.std.proofs.Common.{ap, sym, ◌∙◌, subst}
use Rattle.pcapng_read.specs.Capture.{IsPartOfBlock}
use Rattle.pcapng_read.specs.declared.block.Judged.{Judged}
use Rattle.pcapng_read.proofs.reader.NgReader.new.Goals as goal

first : (limit : ℕ) → judged limit start [] ≡ Waits 4
unfolding judged_in
first limit = refl

pub invariant_of-result : goal.invariant_of-result
invariant_of-result c = record {
  room = omega (arith, c.in-Ok.ensures.capacity);
  counted = record { interfaces = omega arith; packets = omega arith; others = omega arith; offset = omega arith };
  packets = omega arith;
  others = omega arith;
  within = (c.in-Ok.ensures.len, omega arith, omega arith, ap (judged c.args.limit start) c.in-Ok.ensures.items ∙ first c.args.limit);
}

pub returns-in-Ok-clause-start : goal.returns-in-Ok-clause-start
unfolding AreBlocks
returns-in-Ok-clause-start c = record {
  blocks = [];
  rest = [];
  cut = record { parts = refl; each = tt; partial = subst (λ (j : Judged). IsPartOfBlock [] j) (sym (first c.args.limit)) tt };
  frames_are = refl;
  walk = refl;
  judged_is = sym (first c.args.limit);
  seen = refl;
  held = c.in-Ok.ensures.items;
}
