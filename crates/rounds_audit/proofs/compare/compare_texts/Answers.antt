use Rattle.std.proofs.Common.{◌+◌, refl}
use Rattle.rounds_audit.proofs.Differing.{difference, same_lines, some_word}
use Rattle.rounds_audit.proofs.compare.compare_texts.Goals as goal

pub returns-in_default : goal.returns-in_default
returns-in_default c = same_lines c.args.kept.now c.args.lawful.now c.in_default.ensures.other

pub returns-in_default-first_other : goal.returns-in_default-first_other
returns-in_default-first_other c =
    let line = c.in-Some.ensures in
    some_word c.args.kept.now c.args.lawful.now c.up_to_line-kept.result.now c.up_to_line-lawful.result.now c.in-Some.line.number c.in-Some.line.start line.other line.kept line.lawful
    c.up_to_line-kept.ensures.words c.up_to_line-lawful.ensures.words c.in_default-first_other.ensures.other

pub returns : goal.returns
returns c =
    let line = c.in-Some.ensures in
    let word = c.in-Some-first_other.ensures in
    difference c.args.kept.now c.args.lawful.now c.up_to_line-kept.result.now c.up_to_line-lawful.result.now c.in-Some.line.number c.in-Some.line.start line.other line.kept line.lawful
    c.up_to_line-kept.ensures.words c.up_to_line-lawful.ensures.words (c.in-Some.line.number + 1) c.in-Some-first_other.word.number c.in-Some-first_other.word.start c.word_from.result c.word_from-2.result refl
    word.other word.kept word.lawful c.word_from.ensures c.word_from-2.ensures
