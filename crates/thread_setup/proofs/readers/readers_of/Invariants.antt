use Rattle.std.proofs.Common.{◌≡◌, ◌+◌, length}
use Rattle.std.specs.Prelude.{All}
use Rattle.live_view.specs.Views.{WriterView}
use Rattle.thread_setup.specs.Answers.{AreLists}
use Rattle.thread_setup.specs.Setups.{AreReaders, IsFreshView}
use Rattle.thread_setup.proofs.readers.readers_of.Given as goal

abbrev pub invariant-loop : goal.invariant-loop
invariant-loop g l = record {
  views : length l.views.items + l.counter ≡ l.options.readers;
  lists : AreLists l.options (length l.lists.items) l.lists.items;
  lists_len : length l.lists.items + l.counter ≡ l.options.readers;
  parts : length l.parts.items ≡ l.counter;
  room : l.parts.room ≡ l.options.readers;
  readers : (w : WriterView) → All (IsFreshView w) l.fn.views.items → All (IsFreshView w) l.views.items × AreReaders l.options w l.counter l.parts.items;
}
