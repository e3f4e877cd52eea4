use Rattle.std.proofs.Common.{◌∙◌, sym, ap, ◌++◌, ◌+◌, ◌-◌, List, ℕ}
use Rattle.capture_load.specs.Generated.{generated_from}
use Rattle.capture_load.proofs.Parts.{next_record, whole_part, ended}
use Rattle.capture_load.proofs.generated.GenSource.turn.Goals as goal

pub returns-then-self-gt0-clause-left : goal.returns-then-self-gt0-clause-left
returns-then-self-gt0-clause-left c =
    let s = c.args.self.now in
    ap (λ (t : List ℕ). t ++ generated_from s.start (s.next + 1) (s.ahead - 1)) (whole_part c.put_record.new.part c.put_record.ensures.whole ∙ c.put_record.ensures.bytes)
    ∙ next_record s.start s.next s.ahead c.if-self-gt0.true
    ∙ sym (ended s c.if-self.true)
