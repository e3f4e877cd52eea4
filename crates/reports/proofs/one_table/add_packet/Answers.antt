use Rattle.std.proofs.Common.{rules, ◌≡◌, ◌∙◌, ◌<◌, ◌^◌, sym, ap, subst, true, w64, ℤ}
use Rattle.std.proofs.lemmas.Int.{to_z-of_z}
use mir.Val.{SFits}
use Rattle.hash_rows.specs.declared.shape.Shape.{Shape}
use Rattle.hash_rows.specs.Shapes.{size_of, cell_of}
use Rattle.reports.proofs.Adding.{reached_none, reached_put, added_all}
use Rattle.reports.proofs.one_table.add_packet.Goals as goal

pub loop-row-init : goal.loop-row-init
loop-row-init g c = (sym c.shape-shape.ensures.shape, λ packets was. was ∙ sym (reached_none g.K.Kind.rules c.shape-shape.result packets c.args.packet.now))

pub put-requires-clause-cell : goal.put-requires-clause-cell
put-requires-clause-cell g c κs within =
    subst (λ (s : Shape). c.cell_in_row.result < size_of s) (sym c.loop-row.invariant.0) c.cell_in_row.ensures.within

pub put-requires-clause-value : goal.put-requires-clause-value
put-requires-clause-value g c κs within =
    let fits : SFits w64 c.value_in_row-amount.result = search rules in
    let value = to_z-of_z w64 c.value_in_row-amount.result fits in
    let laws = (g.met.K.Kind g.world.𝓛 g.world.𝓜 g.world.𝓡 ((λ s x. x), (λ x. x), (λ x. x), (λ x. x))).laws in
    let small : c.args.packet.now.amount < 2 ^ 32 = search rules in
    subst (λ (v : ℤ). g.K.Kind.rules.is_value v ≡ true) (sym (value ∙ c.value_in_row-amount.ensures)) (laws.packet_value c.shape-shape.result c.args.packet.now c.loop-row.row small)

pub loop-row-preserved : goal.loop-row-preserved
loop-row-preserved g c =
    let fits : SFits w64 c.value_in_row-amount.result = search rules in
    let value = to_z-of_z w64 c.value_in_row-amount.result fits ∙ c.value_in_row-amount.ensures in
    let hash = c.hash_in_row-hash.ensures c.args.packet.now.key c.key_hash-key_hash.ensures in
    let cell : c.cell_in_row.result ≡ cell_of c.shape-shape.result c.args.packet.now.key c.loop-row.row = c.cell_in_row.ensures.place c.args.packet.now.key hash in (
      ap (λ t. t.shape) c.put.ensures ∙ c.loop-row.invariant.0,
      λ packets was. c.put.ensures ∙ reached_put g.K.Kind.rules c.shape-shape.result packets c.args.packet.now c.loop-row.row _ _ _ (c.loop-row.invariant.1 packets was) cell c.cell_in_row.ensures.within value,
    )

pub returns : goal.returns
returns g c = λ shape packets was.
    let all : c.shape-shape.result.rows ≡ c.loop-row.row = search rules in
    added_all g.K.Kind.rules c.shape-shape.result shape packets c.args.packet.now c.loop-row.row _ _ c.shape-shape.ensures.shape all was (c.loop-row.invariant.1 packets)
