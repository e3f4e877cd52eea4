use Rattle.std.proofs.Common.{◌≡◌}
use Rattle.std.specs.Prelude.{All}
use mathlib.Core.List.{IsPrefix}
use Rattle.live_state.specs.Copies.{HasRoomFor}
use Rattle.thread_run.specs.Readers.{AreAsked}
use Rattle.thread_run.proofs.reading.read.Given as goal

abbrev pub invariant-loop-number : goal.invariant-loop-number
invariant-loop-number g l = record {
  book : l.part.view.book ≡ l.fn.part.view.book;
  layout : l.part.view.layout ≡ l.fn.part.view.layout;
  known : IsPrefix l.fn.part.view.known l.part.view.known;
  room : All (HasRoomFor l.part.view.layout.workers l.keys) l.part.answers.items;
  asked : AreAsked g.K.Kind.rules l.keys l.fn.part.answers.items l.part.view l.part.answers.items l.number;
}
