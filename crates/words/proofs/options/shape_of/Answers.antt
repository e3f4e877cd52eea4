use Rattle.std.proofs.Common.{rules, ◌∙◌, refl, subst, codes, arith}
use Rattle.words.specs.Options.{HasRegisters}
use Rattle.words.specs.Values.{IsNumberOf}
use Rattle.words.proofs.Once.{same_number}
use Rattle.words.proofs.options.shape_of.Goals as goal

pub returns-then-not-has_columns : goal.returns-then-not-has_columns
returns-then-not-has_columns c = λ parts am s g.
    let number = subst (λ v. IsNumberOf 1 65536 2048 v c.in_ok-columns.columns) (c.get_str-2.ensures ∙ am.values (codes "columns") refl) c.in_ok-columns.ensures in
    let same = same_number 1 65536 2048 _ _ _ (omega arith) g.columns number in
    c.has_columns.ensures.no (search rules) (subst (HasRegisters c.args.sketch) same g.registers)
