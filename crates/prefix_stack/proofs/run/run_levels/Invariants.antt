use Rattle.std.proofs.Common.{◌≡◌, ◌+◌, ◌*◌, map}
use Rattle.std.specs.List.{range_with_len}
use Rattle.prefix_stack.specs.Levels.{level_table}
use Rattle.prefix_stack.specs.Runs.{HaveAnswers}
use Rattle.prefix_stack.proofs.run.run_levels.Given as goal

abbrev pub invariant-loop-place : goal.invariant-loop-place
invariant-loop-place g l = record {
  tables : l.tables.items ≡ map (λ k. level_table l.options.shape l.packets (8 * (k + 1))) (range_with_len 0 l.place);
  tables_room : l.tables.room ≡ 4;
  answers : HaveAnswers l.packets l.options l.watch l.place l.answers.items;
  answers_room : l.answers.room ≡ 4;
}
