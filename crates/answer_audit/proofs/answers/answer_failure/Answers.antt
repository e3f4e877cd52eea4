use Rattle.std.proofs.Common.{rules, ◌≡◌, ◌<◌, ◌≤◌, ◌∙◌, ℕ, ℤ, List, length, map, true, false, sym, ap, ap₂, arith}
use Rattle.std.specs.Prelude.{is_some}
use Rattle.std.specs.List.{range_with_len}
use Rattle.packet_key.specs.declared.key.FlowKey.{FlowKey}
use Rattle.hash_rows.specs.Rules.{rules_of}
use Rattle.push_history.specs.LawfulJournal.{sent_by}
use Rattle.push_history.specs.Shown.{shown_cells}
use Rattle.octo_text.specs.Content.{content_of}
use Rattle.told_table.specs.Tables.{lists_of}
use Rattle.audit_law.specs.Tests.{first_failing}
use Rattle.audit_law.specs.AnswerTests.{answer_at, place_in}
use Rattle.audit_law.proofs.Failing.{absent}
use Rattle.answer_audit.specs.Answered.{shown_test}
use Rattle.answer_audit.proofs.Judging.{begun_rises, estimates_are, front_fails, front_holds, front_is, if_none, judged_at, lists_long, shown_is, within_of}
use Rattle.answer_audit.proofs.Reaching.{reached_shown}
use Rattle.answer_audit.proofs.answers.answer_failure.Goals as goal

pub returns-then-is_some-clause-failure : goal.returns-then-is_some-clause-failure
returns-then-is_some-clause-failure g c =
    let some : is_some c.front_failure-failure.result ≡ true = search rules in
    front_fails c.args.journal.now.options c.args.line (content_of c.args.journal.now) (lists_of c.args.messages.now) c.args.place c.front_failure-failure.result
    c.requires.line c.front_failure-failure.ensures some

pub reach-requires-clause-len : goal.reach-requires-clause-len
reach-requires-clause-len g c κs within =
    ap length c.as_slice.ensures
    ∙ (judged_at c.args.journal.now.options c.args.journal.now.lists.answers.items _ c.get-answer.result.now c.requires.answers c.get-answer.ensures).fits.front
    ∙ sym c.requires.workers

pub reach-requires-clause-within : goal.reach-requires-clause-within
reach-requires-clause-within g c κs within = λ w lt.
    let no : is_some c.front_failure-failure.result ≡ false = search rules in
    let none = sym c.front_failure-failure.ensures ∙ absent c.front_failure-failure.result no in
    let front = c.as_slice.ensures ∙ sym (front_is c.args.journal.now c.args.place c.get-answer.result.now c.get-answer.ensures) in
    let is = within_of c.args.line (content_of c.args.journal.now) (lists_of c.args.messages.now) c.args.place none w lt in
    omega (arith, is, ap (λ (t : List ℕ). place_in t w) front)

pub reach-requires-clause-rising : goal.reach-requires-clause-rising
reach-requires-clause-rising g c κs within = λ w.
    let no : is_some c.front_failure-failure.result ≡ false = search rules in
    let none = sym c.front_failure-failure.ensures ∙ absent c.front_failure-failure.result no in
    let front = c.as_slice.ensures ∙ sym (front_is c.args.journal.now c.args.place c.get-answer.result.now c.get-answer.ensures) in
    let long = ap length (front_is c.args.journal.now c.args.place c.get-answer.result.now c.get-answer.ensures)
    ∙ (judged_at c.args.journal.now.options c.args.journal.now.lists.answers.items _ c.get-answer.result.now c.requires.answers c.get-answer.ensures).fits.front in
    let is = begun_rises c.args.line (content_of c.args.journal.now) (lists_of c.args.messages.now) c.args.place none c.args.reached.now.front.items
    (c.requires.len ∙ sym long) c.requires.begins w in
    omega (arith, is, ap (λ (t : List ℕ). place_in t w) front)

pub shown_failure-requires-after_bounds : goal.shown_failure-requires-after_bounds
shown_failure-requires-after_bounds g c κs within =
    ap length c.as_slice-3.ensures
    ∙ (judged_at c.args.journal.now.options c.args.journal.now.lists.answers.items _ c.get-answer.result.now c.requires.answers c.get-answer.ensures).fits.shown
    ∙ sym (ap length (c.as_slice-2.ensures ∙ c.requires.keys))

pub returns-clause-front : goal.returns-clause-front
returns-clause-front g c =
    if_none c.shown_failure.result
    (c.reach.ensures.front ∙ c.as_slice.ensures ∙ sym (front_is c.args.journal.now c.args.place c.get-answer.result.now c.get-answer.ensures))

pub returns-clause-failure : goal.returns-clause-failure
returns-clause-failure g c =
    let kind = g.met.K.Kind g.world.𝓛 g.world.𝓜 g.world.𝓡 ((λ s x. x), (λ x. x), (λ x. x), (λ x. x)) in
    let r = g.K.Kind.rules in
    let j = c.args.journal.now in
    let o = j.options in
    let messages = lists_of c.args.messages.now in
    let a = answer_at (content_of j) c.args.place in
    let table = c.reach.new.self.table in
    let no : is_some c.front_failure-failure.result ≡ false = search rules in
    let none = sym c.front_failure-failure.ensures ∙ absent c.front_failure-failure.result no in
    let front = c.reach.ensures.front ∙ c.as_slice.ensures ∙ sym (front_is j c.args.place c.get-answer.result.now c.get-answer.ensures) in
    let long = ap length (front_is j c.args.place c.get-answer.result.now c.get-answer.ensures)
    ∙ (judged_at o j.lists.answers.items _ c.get-answer.result.now c.requires.answers c.get-answer.ensures).fits.front in
    let lists : length messages ≡ o.workers = sym (lists_long c.args.messages.now) ∙ c.requires.workers in
    let within_all : (w : ℕ) → w < length messages → place_in c.reach.new.self.front.items w ≤ length (sent_by messages w) =
    (λ w lt. let is = within_of c.args.line (content_of j) messages c.args.place none w lt in omega (arith, is, ap (λ (t : List ℕ). place_in t w) front)) in
    let cells = reached_shown r kind.laws messages c.reach.new.self.front.items table (ap length front ∙ long ∙ sym lists) within_all (c.reach.ensures.reached c.requires.reached)
    ∙ ap (shown_cells r table.shape messages) front in
    c.shown_failure.ensures
    ∙ ap₂ (λ (keys : List FlowKey) (shown : List ℤ). first_failing (map (shown_test c.args.line r table keys shown) (range_with_len 0 (length keys))))
    (c.as_slice-2.ensures ∙ c.requires.keys) (c.as_slice-3.ensures ∙ sym (shown_is j c.args.place c.get-answer.result.now c.get-answer.ensures))
    ∙ ap first_failing (estimates_are o messages c.args.line a r table (kind.is_sketch ∙ ap rules_of (sym c.requires.sketch)) (c.reach.ensures.shape ∙ c.requires.shape) cells)
    ∙ front_holds o c.args.line (content_of j) messages c.args.place c.requires.line none
