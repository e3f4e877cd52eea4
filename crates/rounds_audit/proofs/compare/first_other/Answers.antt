use Rattle.std.proofs.Common.{rules, ◌≡◌, ◌≢◌, ◌∙◌, arith}
use Rattle.std.specs.Prelude.{slice_range}
use Rattle.rounds_audit.proofs.Differing.{ends_both, ends_one, parts_here, pieces_step}
use Rattle.rounds_audit.proofs.compare.first_other.Goals as goal

pub returns-then-ne-clause-other : goal.returns-then-ne-clause-other
returns-then-ne-clause-other c =
    let was = c.pieces.invariant in
    let other : slice_range c.args.kept.now c.pieces.start c.piece_end-end.result ≢ slice_range c.args.lawful.now c.pieces.start c.piece_end-other_end.result = search rules in
    parts_here _ _ _ _ c.pieces.number _ _ other was.0 (was.1 ∙ c.piece_end-end.ensures.piece) (was.2 ∙ c.piece_end-other_end.ensures.piece)

pub pieces-preserved : goal.pieces-preserved
pieces-preserved c =
    let was = c.pieces.invariant in
    let same : slice_range c.args.kept.now c.pieces.start c.piece_end-end.result ≡ slice_range c.args.lawful.now c.pieces.start c.piece_end-other_end.result = search rules in
    let end = c.piece_end-end.ensures.end in
    let other = c.piece_end-other_end.ensures.end in
    let step = pieces_step c.args.separator c.args.kept.now c.args.lawful.now c.args.first c.pieces.start c.pieces.number c.piece_end-end.result c.piece_end-other_end.result was.0 was.1 was.2 end.0 end.1 other.0 other.1
    c.piece_end-end.ensures.piece c.piece_end-other_end.ensures.piece same in
    let few = c.requires.few in
    let at = was.3 in
    (step.0, step.1, step.2, omega (arith, at, end.0), omega (arith, few, end.1))

pub returns-then-start-longer-clause-other : goal.returns-then-start-longer-clause-other
returns-then-start-longer-clause-other c =
    let was = c.pieces.invariant in
    ends_one c.args.separator c.args.kept.now c.args.lawful.now c.args.first c.pieces.start c.pieces.number was.0 was.1 was.2 (search rules) (search rules)

pub returns-else-start-longer-clause-other : goal.returns-else-start-longer-clause-other
returns-else-start-longer-clause-other c =
    let was = c.pieces.invariant in
    ends_both c.args.separator c.args.kept.now c.args.lawful.now c.args.first c.pieces.start c.pieces.number was.0 was.1 was.2 (search rules)
