use Rattle.std.proofs.Common.{◌≡◌, ◌-◌, ◌<◌, ◌∷◌, ℕ, length, ap, arith}
use Rattle.hash_rows.specs.Marks.{marked}
use Rattle.octo_text.specs.Runs.{runs_of}
use Rattle.octo_text.proofs.RunLemmas.{marked_behind, marked_clear, next_run, past_set}
use Rattle.journal_audit.proofs.Counting.{none_behind}
use Rattle.journal_audit.proofs.runs.count_runs.Goals as goal

pub loop-start-init : goal.loop-start-init
loop-start-init c =
    let first = c.next-start.ensures in
    let all : runs_of (marked c.args.bits.now) ≡ runs_of (marked_behind c.next-start.result c.args.bits.now) =
    ap runs_of (marked_clear c.next-start.result c.args.bits.now 0 c.next-start.result (omega arith) first.high first.before) in
    record {
      count = omega (arith, ap (length {A = ℕ × ℕ}) all);
      few = omega arith;
      len = c.len-len.ensures;
      within = first.high;
      set = first.found;
    }

pub loop-start-preserved : goal.loop-start-preserved
loop-start-preserved c =
    let bits = c.args.bits.now in
    let start = c.loop-start.start in
    let end = c.run_end-end.result in
    let next = c.next-start-in-loop-start.result in
    let i = c.loop-start.invariant in
    let n = c.run_end-end.ensures in
    let m = c.next-start-in-loop-start.ensures in
    let within : start < length bits = omega (arith, i.len, c.loop-start-test.true) in
    let past : start < end = past_set bits start end within (i.set within) n.low n.found in
    let run : runs_of (marked_behind start bits) ≡ (start, end - 1) ∷ runs_of (marked_behind next bits) =
    next_run bits start (end - 1) end next (omega arith) (omega arith) n.high n.before n.found m.low m.high m.before in
    record {
      count = omega (arith, i.count, ap (length {A = ℕ × ℕ}) run);
      few = omega (arith, i.few, past, m.low);
      len = i.len;
      within = m.high;
      set = m.found;
    }

pub returns : goal.returns
returns c =
    let i = c.loop-start.invariant in
    let none = none_behind c.args.bits.now c.loop-start.start (omega (arith, i.len, c.loop-start-test.false)) in
    record { count = omega (arith, i.count, ap (length {A = ℕ × ℕ}) none); most = omega (arith, i.few, i.within) }
