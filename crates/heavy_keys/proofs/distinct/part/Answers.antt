use Rattle.std.proofs.Common.{◌≡◌, ◌∙◌, ap, sym, subst, refl, arith, filter, not, false, slice_index_or, ◌≤◌, ◌+◌}
use Rattle.std.specs.List.{count_by}
use Rattle.std.proofs.lemmas.List.{take_all}
use Rattle.heavy_keys.specs.SharedBits.{bit_of, is_shared}
use Rattle.heavy_keys.specs.declared.candidates.Candidate.{Candidate}
use Rattle.heavy_keys.proofs.Parting.{one_lone, one_shared}
use Rattle.heavy_keys.proofs.distinct.part.Goals as goal
use Rattle.heavy_keys.proofs.distinct.part.Goals.{then-get+in_ok-push, else-get}

pub loop-candidate-init : goal.loop-candidate-init
loop-candidate-init c = (omega arith, record { lone_are = refl; rest_are = c.new-rest.ensures.items })

pub loop-candidate-preserved : goal.loop-candidate-preserved
loop-candidate-preserved c =
    let d : Candidate = record { fingerprint = 0; place = 0 } in
    let here : Candidate = slice_index_or c.args.candidates.now c.loop-candidate.candidate-index d in
    let is : c.get.result ≡ is_shared c.args.shared.now here =
    c.get.ensures ∙ ap (λ n. slice_index_or c.args.shared.now n false) (c.bit_in.ensures.bit ∙ ap (bit_of here.fingerprint) c.len.ensures) in
    elim c.if-get.branch [
      | then-get+in_ok-push w ↦ (
        subst (λ n. n ≤ c.loop-candidate.candidate-index + 1) (sym w.lone-is) (omega (arith, c.loop-candidate.invariant.0)),
        one_shared c.args.shared.now c.args.candidates.now c.loop-candidate.candidate-index d c.loop-candidate.lone c.if-get.lone c.loop-candidate.rest.items c.if-get.rest.items
            c.loop-candidate-test.true c.loop-candidate.invariant.1 (sym is ∙ w.if-get.true) w.lone-is (ap (λ v. v.items) w.rest-is ∙ w.in_ok-push.ensures),
      )
      | else-get w ↦ (
        subst (λ n. n ≤ c.loop-candidate.candidate-index + 1) (sym w.lone-is) (omega (arith, c.loop-candidate.invariant.0)),
        one_lone c.args.shared.now c.args.candidates.now c.loop-candidate.candidate-index d c.loop-candidate.lone c.if-get.lone c.loop-candidate.rest.items c.if-get.rest.items
            c.loop-candidate-test.true c.loop-candidate.invariant.1 (sym is ∙ w.if-get.false) w.lone-is (ap (λ v. v.items) w.rest-is),
      )
    ]

pub returns-clause-lone : goal.returns-clause-lone
returns-clause-lone c = c.loop-candidate.invariant.1.lone_are
    ∙ ap (count_by (λ (x : Candidate). not (is_shared c.args.shared.now x))) (take_all c.loop-candidate.candidate-index c.args.candidates.now c.loop-candidate-test.false)

pub returns-clause-rest : goal.returns-clause-rest
returns-clause-rest c = c.loop-candidate.invariant.1.rest_are
    ∙ ap (filter (is_shared c.args.shared.now)) (take_all c.loop-candidate.candidate-index c.args.candidates.now c.loop-candidate-test.false)
