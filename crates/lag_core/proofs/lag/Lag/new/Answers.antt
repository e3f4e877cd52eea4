use Rattle.std.proofs.Common.{◌≡◌, ◌∙◌, ℕ, List, [], sym, subst, length, map, replicate, arith, w64, to_z, of_z}
use Rattle.std.specs.Prelude.{All}
use Rattle.std.proofs.lemmas.List.{length-map}
use Rattle.listed.specs.Listed.{Listed}
use Rattle.hash_rows.specs.declared.shape.Update.{Update as Entry}
use Rattle.hash_rows.specs.Shapes.{size_of}
use Rattle.live_state.specs.declared.layout.Layout.{Layout}
use Rattle.push_history.specs.LagRun.{lag_run}
use Rattle.lag_core.specs.Workers.{terms_within}
use Rattle.lag_core.specs.Lags.{Core}
use Rattle.lag_core.proofs.CoreLaws.{conserves_at, lawful_at}
use Rattle.lag_core.proofs.Fresh.{core_fresh, none_shown, rows_fit}
use Rattle.lag_core.proofs.lag.Lag.new.Goals as goal

pub invariant_of-result : goal.invariant_of-result
invariant_of-result g c =
    let r = g.K.Kind.rules in
    let rows = c.args.updates.items in
    let items : List (List Entry) = map (λ (l : Listed Entry). l.items) rows in
    let V : Core g.row.K.Denot g.row.K-Held.Denot = record {
      shape = c.in_ok-fold.fold.table.shape;
      limits = record { threshold = c.args.threshold; capacity = c.args.capacity; full = c.args.full; updates = items };
      workers = c.in_ok-workers.workers.items;
      fold = c.in_ok-fold.fold;
      shown = c.in_ok-shown.shown;
      seen = c.in_ok-seen.seen.items;
    } in
    let count = c.len-count.result in
    let all : count ≡ length rows = c.len-count.ensures in
    let long : length items ≡ length rows = length-map rows (λ (l : Listed Entry). l.items) in
    let l : Layout = record { shape = c.args.shape; workers = count; heavy = c.args.heavy; least = to_z w64 (of_z w64 c.args.least) } in
    let shown = none_shown r l c.in_ok-shown.shown c.in_ok-shown.ensures.table c.in_ok-shown.ensures.front c.in_ok-shown.ensures.upto c.in_ok-shown.ensures.live c.in_ok-shown.ensures.missed in
    let fresh = core_fresh g.K.Kind.stands r V l c.in_ok-fold.ensures (all ∙ sym long) (c.in_ok-workers.ensures.count ∙ sym long) (omega (arith, all, long)) c.in_ok-workers.ensures.fresh
    (rows_fit r (size_of c.args.shape) rows c.in_ok-workers.ensures.few c.requires.cells c.requires.values)
    shown (subst (λ (n : ℕ). All (λ front. front.items ≡ replicate n 0) c.in_ok-seen.seen.items) (all ∙ sym long) c.in_ok-seen.ensures.zeros) in
    (lag_run (terms_within r V.limits) (length V.seen) [], fresh)

pub returns-clause-fresh : goal.returns-clause-fresh
unfolding invariant_of-result
returns-clause-fresh g c = (invariant_of-result g c).1

pub returns-clause-lawful : goal.returns-clause-lawful
returns-clause-lawful g c = λ events at. lawful_at g.K.Kind.stands g.K.Kind.rules _ _ at

pub returns-clause-conserves : goal.returns-clause-conserves
returns-clause-conserves g c = λ events at. conserves_at g.K.Kind.stands g.K.Kind.rules _ _ at (g.met.K.Kind g.world.𝓛 g.world.𝓜 g.world.𝓡 ((λ x y. y), (λ x. x), (λ x. x), (λ x. x))).laws
