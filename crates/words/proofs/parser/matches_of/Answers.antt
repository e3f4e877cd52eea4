use Rattle.std.proofs.Common.{rules, ◌≡◌, ◌∙◌, ◌⊎◌, ap, subst, true, false, map, List, [], string_bytes}
use Rattle.std.specs.List.{list_all}
use Rattle.clap.specs.Words.{App, app_of, fault_of, is_simple, kind_of, matches_of}
use Rattle.clap.specs.Faults.{is_simple_and_free}
use Rattle.clap.specs.Kinds.{IsAmong}
use Rattle.clap.specs.declared.error.kind.ErrorKind.TheVariants.{OutOfMemory}
use Rattle.words.specs.Grammar.{Name, Text}
use Rattle.words.specs.Rules.{app_of_names}
use Rattle.words.specs.Names.{names_of}
use Rattle.words.specs.Forms.{is_form}
use Rattle.words.proofs.Apps.{app_is_free, app_is_simple, fault_is_no_line, form_is_no_line, ok_is_line}
use Rattle.words.proofs.Tables.{fitted, named}
use Rattle.words.proofs.parser.matches_of.Goals as goal

pub returns-then-not-are_forms-clause-usage : goal.returns-then-not-are_forms-clause-usage
returns-then-not-are_forms-clause-usage c =
    let bad : list_all is_form (map string_bytes c.args.words.now) ≡ false = search rules in
    λ e. form_is_no_line (names_of c.args.verb) (map string_bytes c.args.words.now) (named c.args.verb) bad

pub returns-in-Ok-try_get_matches_from-clause-ok : goal.returns-in-Ok-try_get_matches_from-clause-ok
returns-in-Ok-try_get_matches_from-clause-ok c =
    let ws : List Text = map string_bytes c.args.words.now in
    let names : List Name = names_of c.args.verb in
    let forms : list_all is_form ws ≡ true = search rules in
    let app : app_of c.in-Ok.parser ≡ app_of_names names = c.in-Ok.ensures in
    let parse = c.in-Ok-try_get_matches_from.ensures in
    let faultless = subst (λ (a : App). fault_of a ws ≡ []) app (parse.kinds (ap is_simple_and_free app ∙ app_is_free names)) in
    let rows = (parse.matches (ap is_simple app ∙ app_is_simple names)).0 ∙ ap (λ (a : App). matches_of a ws) app in
    ok_is_line names ws c.in-Ok-try_get_matches_from.matches (named c.args.verb) (fitted c.args.verb) forms faultless rows

pub returns : goal.returns
returns c =
    let ws : List Text = map string_bytes c.args.words.now in
    let names : List Name = names_of c.args.verb in
    let app : app_of c.in-Ok.parser ≡ app_of_names names = c.in-Ok.ensures in
    let error = c.in-Err-try_get_matches_from.error in
    let parse = c.in-Err-try_get_matches_from.ensures in
    let has = subst (λ (a : App). (kind_of error ≡ OutOfMemory) ⊎ IsAmong (kind_of error) (fault_of a ws)) app (parse.kinds (ap is_simple_and_free app ∙ app_is_free names)) in
    let other : kind_of error ≡ OutOfMemory → ⊥ = λ e. c.in_default.not-OutOfMemory (c.kind.ensures ∙ e) in
    record { ok = tt; usage = λ e. fault_is_no_line names ws (kind_of error) (named c.args.verb) other has }
