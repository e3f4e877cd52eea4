use Rattle.std.proofs.Common.{rules, ◌≡◌, ◌∙◌, ◌++◌, ap, [], map}
use Rattle.std.proofs.lemmas.Result.{IfOk-weaker}
use Rattle.clap.specs.Words.{app_of}
use Rattle.words.specs.Names.{names_of}
use Rattle.words.specs.Rules.{app_of_names, flag_name, option_name}
use Rattle.words.proofs.parser.parser_of.Goals as goal

pub returns : goal.returns
returns c =
    let begun : app_of c.disable_help_flag-begun.result ≡ app_of_names [] = search rules in
    let shared = c.in_ok-shared.ensures [] begun in
    let whole = c.in_ok-whole.ensures _ shared in
    let names : (map option_name c.shared_options.result.now ++ map option_name c.own_options.result.now) ++ map flag_name c.own_flags.result.now ≡ names_of c.args.verb
    = λ i. (c.shared_options.ensures i ++ c.own_options.ensures i) ++ c.own_flags.ensures i in
    IfOk-weaker c.with_flags.result _ _ (λ p is. is ∙ ap app_of_names names) (c.with_flags.ensures _ whole)
