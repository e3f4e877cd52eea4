use Rattle.std.proofs.Common.{rules, ◌≡◌, ◌∷◌, codes, map, string_bytes}
use Rattle.std.proofs.lemmas.Result.{IfErr-weaker, IfOk-weaker}
use Rattle.words.proofs.Commands.{audit_gives, audit_lawful, audit_once, epochs_gives, epochs_lawful, epochs_once, load_gives, load_lawful, load_once, prefix_gives, prefix_lawful, prefix_once, run_gives, run_lawful, run_once}
use Rattle.words.proofs.read.read_words.Goals as goal

pub returns-in-run-clause-once : goal.returns-in-run-clause-once
returns-in-run-clause-once c =
    let words : map string_bytes c.args.words.now ≡ codes "run" ∷ map string_bytes c.in-Some.rest.now = search rules in
    IfOk-weaker c.read_run.result _ _ (λ d once. run_once _ _ d words once) c.read_run.ensures.once

pub returns-in-run-clause-lawful : goal.returns-in-run-clause-lawful
returns-in-run-clause-lawful c = IfOk-weaker c.read_run.result _ _ (run_lawful _) c.read_run.ensures.ok

pub returns-in-run-clause-usage : goal.returns-in-run-clause-usage
returns-in-run-clause-usage c =
    let words : map string_bytes c.args.words.now ≡ codes "run" ∷ map string_bytes c.in-Some.rest.now = search rules in
    IfErr-weaker c.read_run.result _ _ (λ e none is d g. let r = run_gives _ _ d words g in none is r.0 r.2) c.read_run.ensures.usage

pub returns-in-load-clause-once : goal.returns-in-load-clause-once
returns-in-load-clause-once c =
    let words : map string_bytes c.args.words.now ≡ codes "load" ∷ map string_bytes c.in-Some.rest.now = search rules in
    IfOk-weaker c.read_load.result _ _ (λ d once. load_once _ _ d words once) c.read_load.ensures.once

pub returns-in-load-clause-lawful : goal.returns-in-load-clause-lawful
returns-in-load-clause-lawful c = IfOk-weaker c.read_load.result _ _ (load_lawful _) c.read_load.ensures.ok

pub returns-in-load-clause-usage : goal.returns-in-load-clause-usage
returns-in-load-clause-usage c =
    let words : map string_bytes c.args.words.now ≡ codes "load" ∷ map string_bytes c.in-Some.rest.now = search rules in
    IfErr-weaker c.read_load.result _ _ (λ e none is d g. let r = load_gives _ _ d words g in none is r.0 r.1 r.2 r.4) c.read_load.ensures.usage

pub returns-in-prefix-clause-once : goal.returns-in-prefix-clause-once
returns-in-prefix-clause-once c =
    let words : map string_bytes c.args.words.now ≡ codes "prefix" ∷ map string_bytes c.in-Some.rest.now = search rules in
    IfOk-weaker c.read_prefix.result _ _ (λ d once. prefix_once _ _ d words once) c.read_prefix.ensures.once

pub returns-in-prefix-clause-lawful : goal.returns-in-prefix-clause-lawful
returns-in-prefix-clause-lawful c = IfOk-weaker c.read_prefix.result _ _ (prefix_lawful _) c.read_prefix.ensures.ok

pub returns-in-prefix-clause-usage : goal.returns-in-prefix-clause-usage
returns-in-prefix-clause-usage c =
    let words : map string_bytes c.args.words.now ≡ codes "prefix" ∷ map string_bytes c.in-Some.rest.now = search rules in
    IfErr-weaker c.read_prefix.result _ _ (λ e none is d g. let r = prefix_gives _ _ d words g in none is r.0 r.1 r.3) c.read_prefix.ensures.usage

pub returns-in-epochs-clause-once : goal.returns-in-epochs-clause-once
returns-in-epochs-clause-once c =
    let words : map string_bytes c.args.words.now ≡ codes "epochs" ∷ map string_bytes c.in-Some.rest.now = search rules in
    IfOk-weaker c.read_epochs.result _ _ (λ d once. epochs_once _ _ d words once) c.read_epochs.ensures.once

pub returns-in-epochs-clause-lawful : goal.returns-in-epochs-clause-lawful
returns-in-epochs-clause-lawful c = IfOk-weaker c.read_epochs.result _ _ (epochs_lawful _) c.read_epochs.ensures.ok

pub returns-in-epochs-clause-usage : goal.returns-in-epochs-clause-usage
returns-in-epochs-clause-usage c =
    let words : map string_bytes c.args.words.now ≡ codes "epochs" ∷ map string_bytes c.in-Some.rest.now = search rules in
    IfErr-weaker c.read_epochs.result _ _ (λ e none is d g. let r = epochs_gives _ _ d words g in none is r.0 r.1 r.2 r.4) c.read_epochs.ensures.usage

pub returns-in-audit-clause-once : goal.returns-in-audit-clause-once
returns-in-audit-clause-once c =
    let words : map string_bytes c.args.words.now ≡ codes "audit" ∷ map string_bytes c.in-Some.rest.now = search rules in
    IfOk-weaker c.read_audit.result _ _ (λ d is. audit_once _ _ d words is) c.read_audit.ensures.ok

pub returns-in-audit-clause-lawful : goal.returns-in-audit-clause-lawful
returns-in-audit-clause-lawful c = IfOk-weaker c.read_audit.result _ _ (audit_lawful _) c.read_audit.ensures.ok

pub returns-in-audit-clause-usage : goal.returns-in-audit-clause-usage
returns-in-audit-clause-usage c =
    let words : map string_bytes c.args.words.now ≡ codes "audit" ∷ map string_bytes c.in-Some.rest.now = search rules in
    IfErr-weaker c.read_audit.result _ _ (λ e none is d g. none (audit_gives _ _ d words g).1) c.read_audit.ensures.usage
