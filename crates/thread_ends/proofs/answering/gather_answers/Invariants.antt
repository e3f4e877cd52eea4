use Rattle.std.proofs.Common.{◌≡◌}
use Rattle.std.specs.Prelude.{All}
use Rattle.std.specs.List.{flat_map}
use mathlib.Core.List.{IsPrefix}
use Rattle.live_state.specs.Copies.{HasRoomFor}
use Rattle.thread_ends.proofs.answering.gather_answers.Given as goal

abbrev pub invariant-loop-part : goal.invariant-loop-part
invariant-loop-part g l = record {
  writer : l.writer ≡ l.fn.writer;
  room : HasRoomFor l.fn.writer.layout.workers l.keys l.last;
  answers : l.answers.items ≡ flat_map (λ p. p.answers.items) l.yielded;
  answers_room : l.answers.room ≡ l.fn.answers.room;
  before : All (λ p. IsPrefix p.view.known l.fn.writer.published) l.yielded;
}
