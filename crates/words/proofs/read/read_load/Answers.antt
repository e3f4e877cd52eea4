use Rattle.std.proofs.Common.{◌∙◌, refl, subst, codes, arith}
use Rattle.words.specs.Values.{NeedsNumber}
use Rattle.words.specs.declared.command.Command.TheVariants.{Load}
use Rattle.words.proofs.Once.{same_needed}
use Rattle.words.proofs.read.read_load.Goals as goal

pub returns-clause-once : goal.returns-clause-once
returns-clause-once c = λ n k d g.
    let found = c.in_ok-matches.ensures.ok.matches g.0 g.1 in
    let records = same_needed 0 1048576 _ c.in-Some.records n (omega arith)
    (subst (λ v. NeedsNumber 0 1048576 v c.in-Some.records) (c.get_str.ensures ∙ found.values (codes "records") refl) c.in-Some.ensures) g.3 in
    let start = same_needed 0 4294967295 _ c.in-Some-number_of.start k (omega arith)
    (subst (λ v. NeedsNumber 0 4294967295 v c.in-Some-number_of.start) (c.get_str-2.ensures ∙ found.values (codes "start") refl) c.in-Some-number_of.ensures) g.4 in
    let options = c.in_ok-options.ensures.once g.0 found d g.2 in
    λ i. Load (records i) (start i) (options i)
