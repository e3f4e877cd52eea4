use Rattle.std.proofs.Common.{◌≡◌, ◌<◌, ◌≤◌, ℕ}
use Rattle.std.specs.Prelude.{slice_index_or}
use Rattle.octo_engine.specs.Parts.{RanBlock}
use Rattle.octo_engine.proofs.rounds.run_workers_alone.Given as goal

abbrev pub invariant-loop-part : goal.invariant-loop-part
invariant-loop-part g l =
    ((w : ℕ) (p : _) → w < l.part-index → RanBlock g.K.Kind.rules g.K.Kind.stands l.options l.packets (slice_index_or l.initial.parts w p) (slice_index_or l.parts w p))
    × ((w : ℕ) (p : _) → l.part-index ≤ w → slice_index_or l.parts w p ≡ slice_index_or l.initial.parts w p)
