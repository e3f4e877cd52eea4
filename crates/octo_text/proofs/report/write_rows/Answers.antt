use Rattle.std.proofs.Common.{arith, ◌≡◌, ℕ, ◌<◌, ◌∙◌, List, length, get_or, Ok, Err, ap, sym, subst, zero-add}
use Rattle.std.specs.List.{enumerate_from}
use Rattle.std.proofs.lemmas.List.FromFn.{length-enumerate_from, get_or-enumerate_from}
use Rattle.flow_base.specs.Writing.{Writes}
use Rattle.flow_base.specs.declared.flow.Failed.{Failed}
use Rattle.flow_base.proofs.WritingLemmas.{writes_none, writes_item, writes_item_stop, writes_items}
use Rattle.octo_text.specs.ReportText.{row_line}
use Rattle.octo_text.proofs.report.write_rows.Goals as goal

row_is : (used : List ℕ) (row : ℕ) → row < length used → (row, get_or used row 0) ≡ get_or (enumerate_from 0 used) row (0, 0)
row_is used row within = sym (get_or-enumerate_from 0 used row (0, 0) within ∙ ap (λ (n : ℕ). (n, get_or used row 0)) (zero-add row))

within : (used : List ℕ) (row : ℕ) → row < length used → row < length (enumerate_from 0 used)
within used row lt = omega (arith, length-enumerate_from 0 used)

pub loop-row-init : goal.loop-row-init
loop-row-init g c = (writes_none _ tt, omega arith)

pub returns-in_err-write_row-clause-writes : goal.returns-in_err-write_row-clause-writes
returns-in_err-write_row-clause-writes g c =
    let used = c.args.used.now in
    let row = c.loop-row.row in
    writes_item_stop row_line (enumerate_from 0 used) row (0, 0) c.from_residual.result (within used row c.loop-row-test.true) c.from_residual.ensures.0 c.loop-row.invariant.0
    (subst (λ (x : ℕ × ℕ). Writes {T = Unit {0}} {E = Failed} (g.T.Sink.holds c.loop-row.out) (g.T.Sink.holds c.write_row.new.out) (row_line x) (Err c.in_err-write_row.field-0.0)) (row_is used row c.loop-row-test.true) c.in_err-write_row.ensures.writes)

pub loop-row-preserved : goal.loop-row-preserved
loop-row-preserved g c =
    let used = c.args.used.now in
    let row = c.loop-row.row in (
      writes_item row_line (enumerate_from 0 used) row (0, 0) tt (within used row c.loop-row-test.true) c.loop-row.invariant.0
          (subst (λ (x : ℕ × ℕ). Writes {T = Unit {0}} {E = Failed} (g.T.Sink.holds c.loop-row.out) (g.T.Sink.holds c.write_row.new.out) (row_line x) (Ok c.in_ok-write_row.field-0)) (row_is used row c.loop-row-test.true) c.in_ok-write_row.ensures.writes),
      omega (arith, c.in_ok-write_row.ensures.cause.later),
    )

pub returns-clause-writes : goal.returns-clause-writes
returns-clause-writes g c =
    writes_items row_line (enumerate_from 0 c.args.used.now) c.loop-row.row (omega (arith, c.loop-row-test.false, length-enumerate_from 0 c.args.used.now)) (omega (arith, length-enumerate_from 0 c.args.used.now)) c.loop-row.invariant.0
