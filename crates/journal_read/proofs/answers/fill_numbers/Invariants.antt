use Rattle.std.proofs.Common.{◌≡◌, length}
use Rattle.journal_read.proofs.NumberLists.{NumbersFilled}
use Rattle.journal_read.proofs.answers.fill_numbers.Given as goal

abbrev pub invariant-loop-place : goal.invariant-loop-place
invariant-loop-place l = record {
  len : length l.into.items ≡ length l.initial.into.items;
  filled : NumbersFilled l.text l.into.items l.rest l.place;
}
