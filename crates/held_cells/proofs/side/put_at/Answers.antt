use Rattle.std.proofs.Common.{arith, sym, ap, subst, ◌≡◌, is_some, nat_eq, true}
use Rattle.std.specs.Cmp.{nat_eq_equiv}
use Rattle.std.specs.List.{IsDistinct}
use Rattle.indexmap.specs.IndexMap.{get}
use Rattle.indexmap.proofs.CallerLemmas.{updates-with_value_at, keys-with_value_at, index_map_len-with_value_at}
use Rattle.held_cells.proofs.side.put_at.Goals as goal

pub returns-clause-updates : goal.returns-clause-updates
returns-clause-updates g c =
    updates-with_value_at c.args.side.now c.args.place c.args.held nat_eq_equiv c.pair_mut-value.ensures.unique c.args.cell c.requires.0 c.requires.1

pub returns-clause-unique : goal.returns-clause-unique
returns-clause-unique g c = subst (IsDistinct nat_eq) (sym (keys-with_value_at c.args.side.now c.args.place c.args.held)) c.pair_mut-value.ensures.unique

pub returns-clause-len : goal.returns-clause-len
returns-clause-len g c =
    let there : is_some (get nat_eq c.args.side.now c.args.cell) ≡ true = ap is_some c.requires.2 in
    rw there (omega (arith, index_map_len-with_value_at c.args.side.now c.args.place c.args.held))

pub returns-clause-room : goal.returns-clause-room
returns-clause-room g c = omega (arith, index_map_len-with_value_at c.args.side.now c.args.place c.args.held)
