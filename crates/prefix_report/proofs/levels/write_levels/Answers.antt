use Rattle.std.proofs.Common.{arith, ◌<◌, ◌∙◌, ℕ, Bool, List, length, get_or, Ok, Err, ap, subst}
use Rattle.listed.specs.Listed.{Listed}
use Rattle.hash_rows.specs.declared.answer.Answer.{Answer}
use Rattle.flow_base.specs.Writing.{Writes}
use Rattle.flow_base.specs.declared.flow.Failed.{Failed}
use Rattle.flow_base.proofs.WritingLemmas.{writes_item, writes_item_stop}
use Rattle.prefix_report.specs.PrefixText.{level_lines, levels_in}
use Rattle.prefix_report.proofs.LevelList.{four_levels, level_at, no_level}
use Rattle.prefix_report.proofs.levels.write_levels.Goals as goal

pub returns-in_err-write_level-clause-writes : goal.returns-in_err-write_level-clause-writes
returns-in_err-write_level-clause-writes g c =
    let r = c.args.report.now in
    let place = c.loop-place.place in
    let row = c.answers-item.result in
    let lt : c.loop-place.place < 4 = omega (arith, c.loop-place-test.true, ap length c.as_slice-answers-items.ensures, c.requires.four) in
    let is = c.answers-item.is ∙ ap (λ (rows : List (Listed Answer)). get_or rows place row) c.as_slice-answers-items.ensures in
    writes_item_stop (level_lines r) (levels_in r) place (no_level row) c.from_residual.result
    (omega (arith, lt, four_levels r c.requires.four c.requires.more)) c.from_residual.ensures.0 c.loop-place.invariant.0
    (subst (λ (x : ℕ × (Listed Answer × Bool)). Writes {T = Unit {0}} {E = Failed} (g.T.Sink.holds c.loop-place.out) (g.T.Sink.holds c.write_level.new.out) (level_lines r x) (Err c.in_err-write_level.field-0.0))
    (level_at r place row c.requires.four c.requires.more lt is) c.in_err-write_level.ensures.writes)

pub loop-place-preserved : goal.loop-place-preserved
loop-place-preserved g c =
    let r = c.args.report.now in
    let place = c.loop-place.place in
    let row = c.answers-item.result in
    let lt : c.loop-place.place < 4 = omega (arith, c.loop-place-test.true, ap length c.as_slice-answers-items.ensures, c.requires.four) in
    let is = c.answers-item.is ∙ ap (λ (rows : List (Listed Answer)). get_or rows place row) c.as_slice-answers-items.ensures in (
      writes_item (level_lines r) (levels_in r) place (no_level row) tt
          (omega (arith, lt, four_levels r c.requires.four c.requires.more)) c.loop-place.invariant.0
          (subst (λ (x : ℕ × (Listed Answer × Bool)). Writes {T = Unit {0}} {E = Failed} (g.T.Sink.holds c.loop-place.out) (g.T.Sink.holds c.write_level.new.out) (level_lines r x) (Ok c.in_ok-write_level.field-0))
          (level_at r place row c.requires.four c.requires.more lt is) c.in_ok-write_level.ensures.writes),
      omega (arith, c.in_ok-write_level.ensures.cause.later),
    )
