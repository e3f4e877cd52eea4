use Rattle.std.proofs.Common.{rules, ◌≡◌, ◌∙◌, arith, refl, sym, subst}
use Rattle.octo_engine.proofs.Beginning.{grown}
use Rattle.thread_setup.specs.Setups.{AreReaders, IsFreshView, IsReader}
use Rattle.thread_setup.proofs.Beginnings.{all_before, is_reader, len_more, lists_before}
use Rattle.thread_setup.proofs.readers.readers_of.Goals as goal

pub loop-preserved : goal.loop-preserved
loop-preserved g c =
    let o = c.args.options.now in
    let n = c.loop.counter in
    let h = c.loop.invariant in
    let view = c.take_last-view.ensures in
    let answers = c.take_last-answers.ensures in
    let views_len = len_more c.take_last-view.new.list.items c.loop.views.items c.take_last-view.result _ refl view in
    let lists_len = len_more c.take_last-answers.new.list.items c.loop.lists.items c.take_last-answers.result _ refl answers in
    let own = lists_before o n c.loop.lists.items c.take_last-answers.new.list.items c.take_last-answers.result h.lists answers h.lists_len in
    record {
      views = omega (arith, views_len, h.views);
      lists = own.0;
      lists_len = omega (arith, lists_len, h.lists_len);
      parts = len_more c.loop.parts.items c.push.new.self.items _ n h.parts c.push.ensures.items;
      room = c.push.ensures.room ∙ h.room;
      readers = λ w first.
          let was = h.readers w first in
          let split = all_before (IsFreshView w) c.loop.views.items c.take_last-view.new.list.items c.take_last-view.result view was.0 in (
            split.0,
            grown (λ q p. IsReader o w q p) c.loop.parts.items c.push.new.self.items n _ h.parts c.push.ensures.items was.1 (is_reader o w n _ split.1 own.1),
          );
    }

pub returns-clause-readers : goal.returns-clause-readers
returns-clause-readers g c = λ w first.
    let o = c.args.options.now in
    let h = c.loop.invariant in
    let all : c.loop.counter ≡ o.readers = search rules in
    subst (λ n. AreReaders o w n c.into_items.result.items) all (subst (λ parts. AreReaders o w c.loop.counter parts) (sym c.into_items.ensures) (h.readers w first).1)
