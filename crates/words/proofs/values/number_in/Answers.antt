use Rattle.std.proofs.Common.{rules, ◌≡◌, ◌<◌, ◌⊎◌, arith, inl, inr, true}
use Rattle.words.specs.Forms.{is_plain}
use Rattle.words.proofs.Numbers.{not_in_range, not_parsed, not_plain, parsed_number}
use Rattle.words.proofs.values.number_in.Goals as goal
use Rattle.words.proofs.values.number_in.Goals.{then-n-low-via-then-n-low, then-n-low-via-else-n-low+then-high-n}

pub returns-then-not-is_plain : goal.returns-then-not-is_plain
returns-then-not-is_plain c = not_plain c.args.low c.args.high c.args.text.now (omega (arith, c.ranges.high)) (search rules)

pub returns-in_default : goal.returns-in_default
returns-in_default c = not_parsed c.args.low c.args.high c.args.text.now c.parse.result _ (omega (arith, c.ranges.high)) c.parse.ensures.value.0 c.in_default.is

pub returns-then-n-low : goal.returns-then-n-low
returns-then-n-low c =
    let out : (c.in-Ok.n < c.args.low) ⊎ (c.args.high < c.in-Ok.n) = elim c.then-n-low.branch [
      | then-n-low-via-then-n-low w ↦ inl w.if-n-low.true
      | then-n-low-via-else-n-low+then-high-n w ↦ inr w.if-high-n.true
    ] in
    not_in_range c.args.low c.args.high c.in-Ok.n c.args.text.now c.parse.result (omega (arith, c.ranges.high)) c.parse.ensures.value.0 c.in-Ok.is out

pub returns : goal.returns
returns c =
    let plain : is_plain c.args.text.now ≡ true = search rules in
    parsed_number c.args.low c.args.high c.in-Ok.n c.args.text.now c.parse.result c.parse.ensures.value.0 c.in-Ok.is plain (omega arith) (omega arith)
