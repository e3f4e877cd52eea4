use Rattle.std.proofs.Common.{◌≡◌, refl, subst, sym, List, ℕ, ◌++◌}
use Rattle.std.specs.Prelude.{Some}
use Rattle.capture_load.specs.Generated.{generated}
use Rattle.octo_tests.proofs.ToldText.{given_all, told}
use Rattle.octo_run.specs.Audits.{IsAuditText}
use Rattle.octo_run.specs.Epochs.{IsEpochsText}
use Rattle.octo_run.specs.Networks.{IsPrefixText}
use Rattle.octo_run.specs.Runs.{IsRunText}
use Rattle.words.specs.declared.command.Command.TheVariants.{Run, Load, Prefix, Epochs, Audit}
use Rattle.octo_tests.proofs.headline.whole_run.Goals as goal

pub returns-clause-run : goal.returns-clause-run
returns-clause-run g c = λ is o gives rounds text tells.
    let left : c.in_ok-source.source.left ≡ c.args.bytes.now = λ i. (c.in_ok-source.ensures i).left in
    told (IsRunText o) (λ given s t. c.one_text.ensures o given s t rounds) c.args.out.now.held c.octo.new.out.held c.in_ok-source.source.left
    (given_all (IsRunText o) (Some c.args.out.now.held) (Some c.octo.new.out.held) c.in_ok-source.source.left c.octo.new.source.left
    c.octo.ensures.front.0 c.octo.ensures.front.1 (c.octo.ensures.done is (Run o) gives)) text
    (subst (λ (bytes : List ℕ). IsRunText o bytes text) (sym left) tells)

pub returns-clause-load : goal.returns-clause-load
returns-clause-load g c = λ is n k o gives rounds text tells.
    told (IsRunText o) (λ given s t. c.one_text.ensures o given s t rounds) c.args.out.now.held c.octo.new.out.held (generated n k)
    (c.octo.ensures.done is (Load n k o) gives) text tells

pub returns-clause-prefix : goal.returns-clause-prefix
returns-clause-prefix g c = λ is o w gives text tells.
    let left : c.in_ok-source.source.left ≡ c.args.bytes.now = λ i. (c.in_ok-source.ensures i).left in
    let IsText : List ℕ → List ℕ → Type 0 = IsPrefixText o w.items in
    told IsText (λ given s t. c.one_prefix_text.ensures o w.items given s t) c.args.out.now.held c.octo.new.out.held c.in_ok-source.source.left
    (given_all IsText (Some c.args.out.now.held) (Some c.octo.new.out.held) c.in_ok-source.source.left c.octo.new.source.left
    c.octo.ensures.front.0 c.octo.ensures.front.1 (c.octo.ensures.done is (Prefix o w) gives)) text
    (subst (λ (bytes : List ℕ). IsText bytes text) (sym left) tells)

pub returns-clause-epochs : goal.returns-clause-epochs
returns-clause-epochs g c = λ is size change o gives text tells.
    let left : c.in_ok-source.source.left ≡ c.args.bytes.now = λ i. (c.in_ok-source.ensures i).left in
    let IsText : List ℕ → List ℕ → Type 0 = IsEpochsText size change o in
    told IsText
    (λ given s t. c.one_epochs_text.ensures size change o o given s t (record { sketch = refl; shape = refl; amount = refl; watch = refl; heavy = refl; least = refl }))
    c.args.out.now.held c.octo.new.out.held c.in_ok-source.source.left
    (given_all IsText (Some c.args.out.now.held) (Some c.octo.new.out.held) c.in_ok-source.source.left c.octo.new.source.left
    c.octo.ensures.front.0 c.octo.ensures.front.1 (c.octo.ensures.done is (Epochs size change o) gives)) text
    (subst (λ (bytes : List ℕ). IsText bytes text) (sym left) tells)

pub returns-clause-audit : goal.returns-clause-audit
returns-clause-audit g c = λ is gives.
    let left : c.in_ok-source.source.left ≡ c.args.bytes.now = λ i. (c.in_ok-source.ensures i).left in
    let reported = given_all IsAuditText (Some c.args.out.now.held) (Some c.octo.new.out.held) c.in_ok-source.source.left c.octo.new.source.left
    c.octo.ensures.front.0 c.octo.ensures.front.1 (c.octo.ensures.done is Audit gives) in
    let grew : Some c.octo.new.out.held ≡ Some (c.args.out.now.held ++ reported.1) = reported.3 in
    let now : c.octo.new.out.held ≡ c.args.out.now.held ++ reported.1 = cc in
    (reported.1, subst (λ (bytes : List ℕ). IsAuditText bytes reported.1) left reported.2, now)
