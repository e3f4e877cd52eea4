use Rattle.std.proofs.Common.{◌++◌, ◌∷◌, [], sym, subst}
use Rattle.std.proofs.Common.{arith}
use Rattle.std.proofs.lemmas.Grind.{common_steps}
use Rattle.heavy_keys.specs.Noted.{HeavyTable}
use Rattle.heavy_keys.specs.Live.{HoldsLive}
use Rattle.heavy_keys.proofs.LiveLemmas.{holds_noted}
use Rattle.heavy_keys.proofs.heavy.Heavy.note.Goals as goal

pub returns-then-len-self-clause-noted : goal.returns-then-len-self-clause-noted
returns-then-len-self-clause-noted c = grind (arith, common_steps)

pub returns-then-len-self-clause-live : goal.returns-then-len-self-clause-live
returns-then-len-self-clause-live c = λ notes h. subst (λ (t : HeavyTable). HoldsLive t (notes ++ record { key = c.args.key; estimate = c.args.estimate } ∷ []))
    (sym (returns-then-len-self-clause-noted c)) (holds_noted c.args.self.now notes c.args.key c.args.estimate h)

pub returns-else-len-self-clause-noted : goal.returns-else-len-self-clause-noted
returns-else-len-self-clause-noted c = grind (arith, common_steps)

pub returns-else-len-self-clause-live : goal.returns-else-len-self-clause-live
returns-else-len-self-clause-live c = λ notes h. subst (λ (t : HeavyTable). HoldsLive t (notes ++ record { key = c.args.key; estimate = c.args.estimate } ∷ []))
    (sym (returns-else-len-self-clause-noted c)) (holds_noted c.args.self.now notes c.args.key c.args.estimate h)

pub returns-else-is_due-clause-noted : goal.returns-else-is_due-clause-noted
returns-else-is_due-clause-noted c = grind (arith, common_steps)

pub returns-else-is_due-clause-live : goal.returns-else-is_due-clause-live
returns-else-is_due-clause-live c = λ notes h. subst (λ (t : HeavyTable). HoldsLive t (notes ++ record { key = c.args.key; estimate = c.args.estimate } ∷ []))
    (sym (returns-else-is_due-clause-noted c)) (holds_noted c.args.self.now notes c.args.key c.args.estimate h)
