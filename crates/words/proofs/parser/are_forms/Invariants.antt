use Rattle.std.proofs.Common.{◌≡◌, drop, map, string_bytes}
use Rattle.std.specs.List.{list_all}
use Rattle.words.specs.Forms.{is_form}
use Rattle.words.proofs.parser.are_forms.Given as goal

abbrev pub invariant-loop-word : goal.invariant-loop-word
invariant-loop-word l = list_all is_form (map string_bytes (drop l.word-index l.words)) ≡ list_all is_form (map string_bytes l.words)
