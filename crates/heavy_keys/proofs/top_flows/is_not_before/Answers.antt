use Rattle.std.proofs.Common.{◌≡◌, ◌⊎◌, false, inl, inr, ap, sym, ◌∙◌}
use Rattle.std.specs.Ordering.{is_lt}
use Rattle.std.specs.declared.cmp.Ordering.{Ordering}
use Rattle.std.specs.declared.cmp.Ordering.TheVariants.{Equal, Greater}
use Rattle.heavy_keys.proofs.top_flows.is_not_before.Goals as goal

not_less : (o : Ordering) → (o ≡ Equal) ⊎ (o ≡ Greater) → is_lt o ≡ false
not_less o (inl e) = ap is_lt e
not_less o (inr e) = ap is_lt e

pub returns-in-Equal : goal.returns-in-Equal
returns-in-Equal c = λ _. ap is_lt (sym c.cmp.ensures) ∙ not_less c.cmp.result c.in-Equal.is
