use Rattle.std.proofs.Common.{◌≡◌, ◌-◌, ◌<◌, ◌++◌, ◌∷◌, [], ℕ, List, length, ap, sym, subst, ◌∙◌, arith}
use Rattle.std.proofs.lemmas.List.{append_assoc}
use Rattle.std.specs.List.{flat_map}
use Rattle.flow_base.specs.Writing.{Writes}
use Rattle.flow_base.specs.declared.flow.Failed.{Failed}
use Rattle.flow_base.proofs.WritingLemmas.{writes_none, writes_more, writes_more_stop}
use Rattle.hash_rows.specs.Marks.{marked}
use Rattle.octo_text.specs.JournalText.{run_line}
use Rattle.octo_text.specs.Runs.{runs_of}
use Rattle.octo_text.proofs.RunLemmas.{marked_behind, marked_clear, next_run, past_set}
use Rattle.octo_text.proofs.runs.write_runs.Goals as goal

pub loop-start-init : goal.loop-start-init
loop-start-init g c =
    let first = c.next-start.ensures in (
      [],
      ap runs_of (marked_clear c.next-start.result c.args.bits.now 0 c.next-start.result (omega arith) first.high first.before),
      writes_none _ tt,
      c.len-len.ensures,
      first.high,
      first.found,
      omega arith,
    )

-- the runs are those that are written, the one from `start` on, and the runs behind it
pub returns-in_err-write_run-clause-writes : goal.returns-in_err-write_run-clause-writes
returns-in_err-write_run-clause-writes g c =
    let bits = c.args.bits.now in
    let start = c.loop-start.start in
    let end = c.run_end-end.result in
    let i = c.loop-start.invariant in
    let n = c.run_end-end.ensures in
    let within : start < length bits = omega (arith, i.3, c.loop-start-test.true) in
    let past : start < end = past_set bits start end within (i.5 within) n.low n.found in
    let run : runs_of (marked_behind start bits) ≡ (start, end - 1) ∷ runs_of (marked_behind end bits) =
    next_run bits start (end - 1) end end (omega arith) (omega arith) n.high n.before n.found (omega arith) n.high (λ k low high. absurd (omega arith)) in
    let all : runs_of (marked bits) ≡ i.0 ++ (start, end - 1) ∷ runs_of (marked_behind end bits) = i.1 ∙ ap (λ (rs : List (ℕ × ℕ)). i.0 ++ rs) run in
    subst (λ (rs : List (ℕ × ℕ)). Writes {T = Unit {0}} {E = Failed} (g.T.Sink.holds c.args.out.now) (g.T.Sink.holds c.write_run.new.out) (flat_map (run_line c.args.worker) rs) c.from_residual.result)
    (sym all)
    (writes_more_stop (run_line c.args.worker) i.0 (start, end - 1) (runs_of (marked_behind end bits)) c.from_residual.result c.from_residual.ensures.0 i.2 c.in_err-write_run.ensures.writes)

pub loop-start-preserved : goal.loop-start-preserved
loop-start-preserved g c =
    let bits = c.args.bits.now in
    let start = c.loop-start.start in
    let end = c.run_end-end.result in
    let next = c.next-start-in-loop-start.result in
    let i = c.loop-start.invariant in
    let n = c.run_end-end.ensures in
    let m = c.next-start-in-loop-start.ensures in
    let within : start < length bits = omega (arith, i.3, c.loop-start-test.true) in
    let past : start < end = past_set bits start end within (i.5 within) n.low n.found in
    let run : runs_of (marked_behind start bits) ≡ (start, end - 1) ∷ runs_of (marked_behind next bits) =
    next_run bits start (end - 1) end next (omega arith) (omega arith) n.high n.before n.found m.low m.high m.before in
    let all : runs_of (marked bits) ≡ (i.0 ++ (start, end - 1) ∷ []) ++ runs_of (marked_behind next bits) =
    i.1 ∙ ap (λ (rs : List (ℕ × ℕ)). i.0 ++ rs) run ∙ sym (append_assoc i.0 ((start, end - 1) ∷ []) (runs_of (marked_behind next bits))) in (
      i.0 ++ (start, end - 1) ∷ [],
      all,
      writes_more (run_line c.args.worker) i.0 (start, end - 1) tt i.2 c.in_ok-write_run.ensures.writes,
      i.3,
      m.high,
      m.found,
      omega (arith, i.6, c.in_ok-write_run.ensures.cause.later),
    )
