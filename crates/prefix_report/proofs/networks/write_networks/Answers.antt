use Rattle.std.proofs.Common.{arith, ℕ, List, ◌∷◌, [], Ok, subst}
use Rattle.std.specs.List.{flat_map}
use Rattle.flow_base.specs.Writing.{Writes}
use Rattle.flow_base.specs.declared.flow.Failed.{Failed}
use Rattle.flow_base.proofs.WritingLemmas.{writes_none, writes_item, writes_item_stop, writes_items}
use Rattle.prefix_stack.specs.declared.hit.Hit.{Hit}
use Rattle.prefix_report.specs.PrefixText.{network_line, of_length}
use Rattle.prefix_report.proofs.Lengths.{texts_of}
use Rattle.prefix_report.proofs.networks.write_networks.Goals as goal

abbrev line_if : List ℕ → ℕ → Hit → List ℕ
line_if name bits hit = flat_map (network_line name) (of_length bits (hit ∷ []))

pub loop-hit-init : goal.loop-hit-init
loop-hit-init g c = (writes_none _ tt, omega arith)

pub returns-in_err-write_if_of-clause-writes : goal.returns-in_err-write_if_of-clause-writes
returns-in_err-write_if_of-clause-writes g c =
    let name = c.args.name.now in
    subst (λ (text : List ℕ). Writes {T = Unit {0}} {E = Failed} (g.T.Sink.holds c.args.out.now) (g.T.Sink.holds c.write_if_of.new.out) text c.from_residual.result)
    (texts_of (network_line name) c.args.bits c.args.hits.now)
    (writes_item_stop (line_if name c.args.bits) c.args.hits.now c.loop-hit.hit-index _ c.from_residual.result c.loop-hit-test.true c.from_residual.ensures.0 c.loop-hit.invariant.0 c.in_err-write_if_of.ensures.writes)

pub loop-hit-preserved : goal.loop-hit-preserved
loop-hit-preserved g c = (
  writes_item (line_if c.args.name.now c.args.bits) c.args.hits.now c.loop-hit.hit-index _ tt c.loop-hit-test.true c.loop-hit.invariant.0 c.in_ok-write_if_of.ensures.writes,
  omega (arith, c.in_ok-write_if_of.ensures.cause.later),
)

pub returns-clause-writes : goal.returns-clause-writes
returns-clause-writes g c =
    let name = c.args.name.now in
    subst (λ (text : List ℕ). Writes {T = Unit {0}} {E = Failed} (g.T.Sink.holds c.args.out.now) (g.T.Sink.holds c.loop-hit.out) text (Ok tt))
    (texts_of (network_line name) c.args.bits c.args.hits.now)
    (writes_items (line_if name c.args.bits) c.args.hits.now c.loop-hit.hit-index c.loop-hit-test.false (omega arith) c.loop-hit.invariant.0)
