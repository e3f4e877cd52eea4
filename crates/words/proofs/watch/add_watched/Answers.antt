use Rattle.std.proofs.Common.{rules, arith, ◌∙◌, ◌≢◌, lit<}
use Rattle.std.specs.Prelude.{All, Contains}
use Rattle.std.proofs.lemmas.Iterator.Consumers.{YieldsList-end, YieldsList-turn}
use Rattle.std.proofs.lemmas.Iterator.Splits.{YieldsList-from_str_split}
use Rattle.std.proofs.lemmas.List.{length_push}
use Rattle.std.proofs.lemmas.List.Elements.{All-push}
use Rattle.std.proofs.lemmas.List.Quantifiers.{all_pairs_push}
use Rattle.words.proofs.WatchedLists.{doubled, finished, no_text, one_more, too_many}
use Rattle.words.proofs.watch.add_watched.Goals as goal
use Rattle.words.proofs.watch.add_watched.Goals.{then-len-eq-MOST_WATCHED-via-then-len-eq-MOST_WATCHED, then-len-eq-MOST_WATCHED-via-else-len-eq-MOST_WATCHED+then-is_among}

pub returns-in_default-clause-no : goal.returns-in_default-clause-no
returns-in_default-clause-no g c =
    let W = g.T.Watched in
    let laws = g.met.T.Watched in
    let turn = YieldsList-turn (YieldsList-from_str_split 44 c.args.list.now (lit< tt) (cc) (cc) (cc)) c.loop-text.yielded _ c.loop-text.yielded_by _ _ c.in-Some.text c.in-Some.is c.next.ensures.steps in
    λ e. no_text W.has_text W.text_for laws.without_comma laws.one_text c.args.list.now _ _ turn c.in_default.ensures.text

pub returns-then-len-eq-MOST_WATCHED-clause-no : goal.returns-then-len-eq-MOST_WATCHED-clause-no
returns-then-len-eq-MOST_WATCHED-clause-no g c =
    let W = g.T.Watched in
    let laws = g.met.T.Watched in
    let turn = YieldsList-turn (YieldsList-from_str_split 44 c.args.list.now (lit< tt) (cc) (cc) (cc)) c.loop-text.yielded _ c.loop-text.yielded_by _ _ c.in-Some.text c.in-Some.is c.next.ensures.steps in
    λ e. elim c.then-len-eq-MOST_WATCHED.branch [
      | then-len-eq-MOST_WATCHED-via-then-len-eq-MOST_WATCHED w ↦ too_many W.has_text W.text_for laws.without_comma laws.one_text c.args.list.now _ turn.0 (omega (arith, c.loop-text.invariant.count))
      | then-len-eq-MOST_WATCHED-via-else-len-eq-MOST_WATCHED+then-is_among w ↦
          let among : Contains c.loop-text.values.items c.in-Some-parse.value = search rules in
          doubled W.has_text W.text_for laws.without_comma laws.one_text c.args.list.now _ _ _ _ turn c.loop-text.invariant.texts c.loop-text.invariant.have_texts c.in-Some-parse.ensures.value c.in-Some-parse.ensures.text among
    ]

pub loop-text-preserved : goal.loop-text-preserved
loop-text-preserved g c =
    let W = g.T.Watched in
    let laws = g.met.T.Watched in
    let turn = YieldsList-turn (YieldsList-from_str_split 44 c.args.list.now (lit< tt) (cc) (cc) (cc)) c.loop-text.yielded _ c.loop-text.yielded_by _ _ c.in-Some.text c.in-Some.is c.next.ensures.steps in
    let before = c.loop-text.invariant in
    let more = length_push c.loop-text.yielded c.in-Some.text in
    let longer = length_push c.loop-text.values.items c.in-Some-parse.value in
    let apart : All (λ k. k ≢ c.in-Some-parse.value) c.loop-text.values.items = search rules in
    rw c.push.ensures.items (record {
      count = omega (arith, longer, more, before.count);
      texts = one_more W.has_text W.text_for laws.without_comma laws.one_text c.args.list.now _ _ _ _ _ more turn before.texts c.in-Some-parse.ensures.text;
      have_texts = All-push W.has_text _ _ before.have_texts c.in-Some-parse.ensures.value;
      differ = all_pairs_push (λ a b. a ≢ b) _ _ before.differ apart;
      most = omega (arith, longer, before.most);
      room = c.push.ensures.room ∙ before.room;
    })

pub returns-clause-yes : goal.returns-clause-yes
returns-clause-yes g c =
    let W = g.T.Watched in
    let laws = g.met.T.Watched in
    let before = c.loop-text.invariant in
    let end = YieldsList-end (YieldsList-from_str_split 44 c.args.list.now (lit< tt) (cc) (cc) (cc)) c.loop-text.yielded _ c.loop-text.yielded_by _ _ c.in-None.is c.next.ensures.steps in
    λ e. finished W.has_text W.text_for laws.without_comma laws.one_text c.args.list.now _ _ end.1 before.texts before.have_texts before.differ before.most
