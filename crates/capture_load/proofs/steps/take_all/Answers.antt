use Rattle.std.proofs.Common.{arith, subst, ◌≤◌, ◌+◌, ◌-◌, ◌++◌, ◌∙◌, List, ℕ, length, take, drop, length-take, append_assoc}
use Rattle.pcap_read.specs.Records.{Framed}
use Rattle.capture_load.proofs.Fed.{more_taken}
use Rattle.capture_load.proofs.steps.take_all.Goals as goal

pub loop-at-preserved : goal.loop-at-preserved
loop-at-preserved g c =
    let piece = c.args.piece.now in
    let at = c.loop-at.at in
    let used = c.in-Ok.used in
    let bound : used ≤ length piece - at = omega (arith, c.in-Ok.ensures.bound, length-take (length piece - at) (drop at piece)) in (
      c.in-Ok.ensures.counted,
      (λ bytes frames noted.
          let was = c.loop-at.invariant.1 bytes frames noted in
          let s = c.in-Ok.ensures.stepped (bytes ++ take at piece) (frames ++ was.0) was.1 in (
            was.0 ++ s.0,
            subst (λ (fs : List Framed). g.F.Frames.noted c.step.new.self c.step.new.notes (bytes ++ take (at + used) piece) fs) (append_assoc frames was.0 s.0)
                (subst (λ (b : List ℕ). g.F.Frames.noted c.step.new.self c.step.new.notes b (frames ++ was.0 ++ s.0)) (more_taken bytes piece at used) s.1),
          )),
      omega arith,
      omega (arith, c.in-Ok.ensures.bytes, c.loop-at.invariant.3),
      (λ _. c.in-Ok.ensures.most),
      c.step.ensures.amount ∙ c.loop-at.invariant.5,
    )
