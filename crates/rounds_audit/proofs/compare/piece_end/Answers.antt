use Rattle.rounds_audit.proofs.Differing.{cut_piece}
use Rattle.rounds_audit.proofs.compare.piece_end.Goals as goal

pub returns-clause-piece : goal.returns-clause-piece
returns-clause-piece c =
    cut_piece c.args.separator c.args.text.now c.args.start c.next_cut.result c.next_cut.ensures.end.0 c.next_cut.ensures.end.1 c.next_cut.ensures.none c.next_cut.ensures.found
