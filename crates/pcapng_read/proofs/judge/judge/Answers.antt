use Rattle.std.proofs.Common.{subst, sym}
use Rattle.pcapng_read.specs.Plans.{Late}
use Rattle.pcapng_read.specs.declared.block.Judged.{Judged}
use Rattle.pcapng_read.proofs.Heads.{judged_late}
use Rattle.pcapng_read.proofs.judge.judge.Goals as goal

pub returns-clause-sound : goal.returns-clause-sound
returns-clause-sound c = subst (λ (j : Judged). Late c.args.limit c.args.walk.now 8 j) (sym c.judge_in.ensures.judged) (judged_late c.args.limit c.args.walk.now c.args.bytes.now)
