-- Tables whose cells are values of their kind.
use Rattle.std.proofs.Common.{◌≡◌, ◌<◌, ℕ, ℤ, pos, true, List, length}
use Rattle.std.proofs.lemmas.List.Elements.{All-set}
use Rattle.hash_rows.specs.Rules.{Rules, AreLaws, AreValues}
use Rattle.hash_rows.specs.Tables.{joined_at}

pub values_joined : (r : Rules) → AreLaws r → (cells : List ℤ) (cell : ℕ) (amount : ℤ) → cell < length cells → AreValues r cells → r.is_value amount ≡ true
    → AreValues r (joined_at r.join cells cell amount)
values_joined r laws cells cell amount within values value =
    All-set (λ x. r.is_value x ≡ true) cells cell _ (laws.join_value _ _ (values cell (pos 0) within) value) values

-- In generic code under `K: Kind` an answer reads a law of the kind, here `laws`, as
--   (g.met.K.Kind g.world.𝓛 g.world.𝓜 g.world.𝓡 ((λ s x. x), (λ x. x), (λ x. x), (λ x. x))).laws
-- since a kind may be sent to another thread, and its laws hold wherever a thread runs.
