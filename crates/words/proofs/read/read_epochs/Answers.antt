use Rattle.std.proofs.Common.{◌∙◌, refl, subst, codes, arith}
use Rattle.words.specs.Values.{NeedsNumber, IsNumberOf}
use Rattle.words.specs.declared.command.Command.TheVariants.{Epochs}
use Rattle.words.proofs.Once.{same_needed, same_number}
use Rattle.words.proofs.read.read_epochs.Goals as goal

pub returns-clause-once : goal.returns-clause-once
returns-clause-once c = λ n k d g.
    let found = c.in_ok-matches.ensures.ok.matches g.0 g.1 in
    let packets = same_needed 256 16777216 _ c.in-Some.packets n (omega arith)
    (subst (λ v. NeedsNumber 256 16777216 v c.in-Some.packets) (c.get_str.ensures ∙ found.values (codes "packets") refl) c.in-Some.ensures) g.3 in
    let change = same_number 1 1099511627776 1024 _ c.in-Some-number_or.change k (omega arith)
    (subst (λ v. IsNumberOf 1 1099511627776 1024 v c.in-Some-number_or.change) (c.get_str-2.ensures ∙ found.values (codes "change") refl) c.in-Some-number_or.ensures) g.4 in
    let options = c.in_ok-options.ensures.once g.0 found d g.2 in
    λ i. Epochs (packets i) (change i) (options i)
