use Rattle.std.proofs.Common.{◌-◌}
use Rattle.rounds_audit.proofs.Differing.{line_words}
use Rattle.rounds_audit.proofs.compare.up_to_line.Goals as goal

pub returns-then-start-text-clause-words : goal.returns-then-start-text-clause-words
returns-then-start-text-clause-words c =
    line_words c.args.text.now c.args.start c.piece_end.result _ c.piece_end.ensures.end.0 c.piece_end.ensures.end.1 c.piece_end.ensures.piece
