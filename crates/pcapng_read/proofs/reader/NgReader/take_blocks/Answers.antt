use Rattle.std.proofs.Common.{arith, ◌≡◌, ◌≤◌, ◌-◌, ◌++◌, ℕ, List, length, take, drop, ap, ◌∙◌, subst, append_assoc, length-take, length-drop}
use Rattle.std.proofs.lemmas.List.{take-append-drop, take_rest}
use Rattle.pcap_read.proofs.Pieces.{more_taken}
use Rattle.pcapng_read.specs.Capture.{RefusesNext}
use Rattle.pcapng_read.specs.View.{Stands}
use Rattle.pcapng_read.specs.Takes.{TakesPacket}
use Rattle.pcapng_read.proofs.Views.{when_not, when_so, none_by, count_not}
use Rattle.pcapng_read.proofs.reader.NgReader.take_blocks.Goals as goal

pub loop-at-preserved : goal.loop-at-preserved
loop-at-preserved c =
    let piece = c.args.piece.now in
    let at = c.loop-at.at in
    let used = c.in-Ok.taken.used in
    let on = c.in-Ok.ensures.on in
    let bound : used ≤ length piece - at = omega (arith, on.bound, length-take (length piece - at) (drop at piece), length-drop at piece) in
    record {
      within = omega (arith, bound, c.loop-at.invariant.within, c.loop-at-test);
      going = on.going;
      lent = none_by c.in-Ok.taken.packet c.step.new.self.lent on.packet c.if-taken.false;
      stands = λ b fs h.
          subst (λ (t : List ℕ). Stands c.step.new.self t fs) (more_taken b piece at used)
          (when_not _ _ c.in-Ok.taken.packet c.if-taken.false (c.in-Ok.ensures.takes (b ++ take at piece) fs (c.loop-at.invariant.stands b fs h)));
      limit = on.limit ∙ c.loop-at.invariant.limit;
      count = count_not c.in-Ok.taken.packet c.step.new.self.walk.packets c.loop-at.self.walk.packets on.count c.if-taken.false ∙ c.loop-at.invariant.count;
      bytes = omega (arith, on.bytes, c.loop-at.invariant.bytes);
      few = λ _. on.few;
      most = λ _. on.most;
    }

pub returns-in-Err-clause-takes : goal.returns-in-Err-clause-takes
returns-in-Err-clause-takes c = λ b fs h.
    let piece = c.args.piece.now in
    let at = c.loop-at.at in
    let r = c.in-Err.ensures.takes (b ++ take at piece) fs (c.loop-at.invariant.stands b fs h) in
    let all : (b ++ take at piece) ++ take (length piece - at) (drop at piece) ≡ b ++ piece =
    append_assoc b (take at piece) (take (length piece - at) (drop at piece))
    ∙ ap (λ (t : List ℕ). b ++ (take at piece ++ t)) (take_rest piece at)
    ∙ ap (λ (t : List ℕ). b ++ t) (take-append-drop at piece) in
    subst (λ (n : ℕ). RefusesNext n (b ++ piece) fs c.in-Err.bad) c.loop-at.invariant.limit
    (subst (λ (t : List ℕ). RefusesNext c.loop-at.self.limit t fs c.in-Err.bad) all r)

pub returns-then-taken-clause-takes : goal.returns-then-taken-clause-takes
returns-then-taken-clause-takes c = λ b fs h.
    let piece = c.args.piece.now in
    let at = c.loop-at.at in
    let used = c.in-Ok.taken.used in
    subst (λ (t : List ℕ). TakesPacket c.step.new.self t fs) (more_taken b piece at used)
    (when_so _ _ c.in-Ok.taken.packet c.if-taken.true (c.in-Ok.ensures.takes (b ++ take at piece) fs (c.loop-at.invariant.stands b fs h)))
