use Rattle.live_view.proofs.Turns.{admits}
use Rattle.live_view.proofs.writer.reader_of.Goals as goal

pub reader-requires : goal.reader-requires
reader-requires g c = admits g.K.Kind.rules
