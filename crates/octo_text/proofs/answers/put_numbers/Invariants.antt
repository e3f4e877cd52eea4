use Rattle.std.proofs.Common.{◌≡◌, ◌+◌, ◌*◌, ◌≤◌, ◌++◌, take, length}
use Rattle.std.specs.List.{flat_map}
use Rattle.octo_text.specs.JournalText.{spaced}
use Rattle.octo_text.proofs.answers.put_numbers.Given as goal

abbrev pub invariant-loop-number : goal.invariant-loop-number
invariant-loop-number l =
    (l.line ≡ l.initial.line ++ flat_map spaced (take l.number-index l.numbers))
    × (length l.line ≤ length l.initial.line + 21 * l.number-index)
