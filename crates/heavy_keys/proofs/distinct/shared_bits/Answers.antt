use Rattle.std.proofs.Common.{◌/◌, subst, sym}
use Rattle.std.proofs.lemmas.List.{take_all}
use Rattle.heavy_keys.specs.SharedBits.{AreShared}
use Rattle.heavy_keys.proofs.Sharing.{sharing_more}
use Rattle.heavy_keys.proofs.distinct.shared_bits.Goals as goal

pub loop-candidate-preserved : goal.loop-candidate-preserved
loop-candidate-preserved c = sharing_more c.bits_for-len.result (c.bits_for-len.result / 8) c.loop-candidate.candidate-index c.args.candidates.now (record { fingerprint = 0; place = 0 })
    c.loop-candidate.touched c.loop-candidate.shared c.touch.new.touched c.touch.new.shared c.loop-candidate-test.true c.touch.ensures.inside
    c.loop-candidate.invariant c.touch.ensures.touched c.touch.ensures.again c.touch.ensures.kept c.touch.ensures.length

pub returns-clause-shared : goal.returns-clause-shared
returns-clause-shared c =
    let all = take_all c.loop-candidate.candidate-index c.args.candidates.now c.loop-candidate-test.false in
    subst (λ len. AreShared len c.args.candidates.now c.loop-candidate.shared) (sym c.loop-candidate.invariant.1)
    (subst (λ xs. AreShared (c.bits_for-len.result / 8) xs c.loop-candidate.shared) all c.loop-candidate.invariant.3)
