use Rattle.std.proofs.Common.{FitsSigned, w64}
use Rattle.std.proofs.lemmas.Int.{to_z-of_z}
use Rattle.count_min.proofs.kind.CountMinKind.counted.Goals as goal

pub returns : goal.returns
returns c = let fits : FitsSigned w64 c.args.value = c.ranges.value in simp to_z-of_z at c.counted.ensures
