use Rattle.fold_law.proofs.FoldLaw.{fold_lawful}
use Rattle.fold_law.proofs.Fronts.{no_further}
use Rattle.fold_law.proofs.laws.fold_is_lawful.Goals as goal

pub returns : goal.returns
returns c = record { heavy = fold_lawful; fronts = λ workers n m folded le. no_further workers folded n m le }
