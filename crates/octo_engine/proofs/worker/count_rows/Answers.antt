use Rattle.std.proofs.Common.{rules, ◌≡◌, ◌∙◌, ◌<◌, ◌≤◌, ◌^◌, ◌+◌, ◌-◌, sym, ap, subst, true, false, Bool, w64, ℤ, refl, arith}
use Rattle.std.proofs.lemmas.Int.{to_z-of_z}
use mir.Val.{SFits}
use Rattle.hash_rows.specs.Rules.{Rules}
use Rattle.hash_rows.specs.Shapes.{cell_of}
use Rattle.push_history.specs.Rounds.{is_waits}
use Rattle.octo_engine.specs.Counts.{HasCounted, HasMoved}
use Rattle.octo_engine.proofs.Stepping.{counted_more, counted_ends, moved_one, moved_row, next_is}
use Rattle.octo_engine.proofs.worker.count_rows.Goals as goal

pub count-requires-clause-value : goal.count-requires-clause-value
count-requires-clause-value g c κs within =
    let fits : SFits w64 c.value_in_row-value.result = search rules in
    let value = to_z-of_z w64 c.value_in_row-value.result fits in
    let laws = (g.met.K.Kind g.world.𝓛 g.world.𝓜 g.world.𝓡 ((λ s x. x), (λ x. x), (λ x. x), (λ x. x))).laws in
    let small : c.args.packet.now.amount < 2 ^ 32 = search rules in
    subst (λ (v : ℤ). g.K.Kind.rules.is_value v ≡ true) (sym (value ∙ c.value_in_row-value.ensures)) (laws.packet_value c.args.shape.now c.args.packet.now c.loop-row.row small)

pub returns-then-is_waiting-clause-keeps : goal.returns-then-is_waiting-clause-keeps
returns-then-is_waiting-clause-keeps g c = λ t w x same keeps next.
    let fits : SFits w64 c.value_in_row-value.result = search rules in
    let value = to_z-of_z w64 c.value_in_row-value.result fits ∙ c.value_in_row-value.ensures ∙ ap (λ (r : Rules). r.value c.args.shape.now c.args.packet.now c.loop-row.row) (sym same) in
    let hash = c.hash_in_row-hash.ensures c.args.packet.now.key c.key_hash-key_hash.ensures in
    let cell : c.cell_in_row-cell.result ≡ cell_of c.args.shape.now c.args.packet.now.key c.loop-row.row = c.cell_in_row-cell.ensures.place c.args.packet.now.key hash in
    let before = c.loop-row.invariant.1 t w x same keeps next in
    let le : c.args.first ≤ c.loop-row.row = search rules in
    let at = next_is t w x c.args.shape.now c.args.packet.now c.args.position c.args.first c.args.last next c.loop-row.row le c.loop-row-test.true before.now (before.counted refl) c.cell_in_row-cell.result _ cell value in
    let step = c.count.ensures.keeps t w before.now same before.keeps at.0 at.1 in
    let waits : is_waits c.count.result ≡ true = sym c.is_waiting.ensures ∙ c.if-is_waiting.true in
    let one = counted_more g.K.Kind.stands t w x (c.loop-row.row - c.args.first) _ c.count.new.self c.count.result before at.0 step.0 step.1 in
    let ended = subst (λ (b : Bool). HasCounted g.K.Kind.stands t w x (c.loop-row.row - c.args.first + 1) b c.count.new.self) waits one in
    let most : c.loop-row.row - c.args.first + 1 ≤ c.args.last - c.args.first = omega (arith, le, c.loop-row-test.true) in
    counted_ends g.K.Kind.stands t w x _ _ c.count.new.self most ended

pub loop-row-preserved : goal.loop-row-preserved
loop-row-preserved g c =
    let fits : SFits w64 c.value_in_row-value.result = search rules in
    let hash = c.hash_in_row-hash.ensures c.args.packet.now.key c.key_hash-key_hash.ensures in
    let cell : c.cell_in_row-cell.result ≡ cell_of c.args.shape.now c.args.packet.now.key c.loop-row.row = c.cell_in_row-cell.ensures.place c.args.packet.now.key hash in
    let le : c.args.first ≤ c.loop-row.row = search rules in
    let not : is_waits c.count.result ≡ false = sym c.is_waiting.ensures ∙ c.if-is_waiting.false in
    let one = moved_one c.loop-row.counter c.count.new.self (is_waits c.count.result) c.count.ensures.same c.count.ensures.lane c.count.ensures.grows c.count.ensures.counted in
    let moved = moved_row c.args.counter.now c.loop-row.counter c.count.new.self c.loop-row.row c.args.first (is_waits c.count.result) le c.loop-row.invariant.0 one in (
      subst (λ (b : Bool). HasMoved c.args.counter.now c.count.new.self (c.loop-row.row + 1 - c.args.first) b) not moved,
      λ t w x same keeps next.
          let value = to_z-of_z w64 c.value_in_row-value.result fits ∙ c.value_in_row-value.ensures ∙ ap (λ (r : Rules). r.value c.args.shape.now c.args.packet.now c.loop-row.row) (sym same) in
          let before = c.loop-row.invariant.1 t w x same keeps next in
          let at = next_is t w x c.args.shape.now c.args.packet.now c.args.position c.args.first c.args.last next c.loop-row.row le c.loop-row-test.true before.now (before.counted refl) c.cell_in_row-cell.result _ cell value in
          let step = c.count.ensures.keeps t w before.now same before.keeps at.0 at.1 in
          let more = counted_more g.K.Kind.stands t w x (c.loop-row.row - c.args.first) _ c.count.new.self c.count.result before at.0 step.0 step.1 in
          let on = subst (λ (b : Bool). HasCounted g.K.Kind.stands t w x (c.loop-row.row - c.args.first + 1) b c.count.new.self) not more in
          let number : c.loop-row.row - c.args.first + 1 ≡ c.loop-row.row + 1 - c.args.first = omega (arith, le) in
          subst (λ n. HasCounted g.K.Kind.stands t w x n false c.count.new.self) number on,
    )

pub returns-clause-keeps : goal.returns-clause-keeps
returns-clause-keeps g c = λ t w x same keeps next.
    let end : c.loop-row.row - c.args.first ≡ c.args.last - c.args.first = grind arith in
    subst (λ n. HasCounted g.K.Kind.stands t w x n false c.loop-row.counter) end (c.loop-row.invariant.1 t w x same keeps next)
