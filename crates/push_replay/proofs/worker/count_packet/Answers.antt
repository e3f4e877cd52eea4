use Rattle.std.proofs.Common.{rules, ◌≡◌, ◌∙◌, ◌<◌, ◌^◌, ◌++◌, ◌∷◌, [], ℕ, ℤ, List, true, false, length, map, get_or, sym, ap, ap₂, subst, arith, w64, to_z, of_z}
use Rattle.std.specs.List.{range_with_len}
use Rattle.std.proofs.lemmas.Int.{to_z-of_z}
use mir.Val.{SFits}
use Rattle.hash_rows.specs.Marks.{marked}
use Rattle.hash_rows.specs.Shapes.{cell_of}
use Rattle.hash_rows.specs.declared.shape.Update.{Update}
use Rattle.push_history.specs.Pushes.{is_refused}
use Rattle.push_history.specs.Updates.{update_in_row}
use Rattle.push_replay.specs.Replays.{Tells}
use Rattle.push_replay.proofs.Rows.{refused_bit, rows_more}
use Rattle.push_replay.proofs.worker.count_packet.Goals as goal

pub count-requires-clause-value : goal.count-requires-clause-value
count-requires-clause-value g c κs within =
    let fits : SFits w64 c.value_in_row.result = search rules in
    let value = to_z-of_z w64 c.value_in_row.result fits in
    let laws = (g.met.K.Kind g.world.𝓛 g.world.𝓜 g.world.𝓡 ((λ s x. x), (λ x. x), (λ x. x), (λ x. x))).laws in
    let small : c.args.packet.now.amount < 2 ^ 32 = search rules in
    subst (λ (v : ℤ). g.K.Kind.rules.is_value v ≡ true) (sym (value ∙ c.value_in_row.ensures)) (laws.packet_value c.args.shape.now c.args.packet.now c.loop-row.row small)

pub loop-row-preserved : goal.loop-row-preserved
unfolding update_in_row
loop-row-preserved g c =
    let r = g.K.Kind.rules in
    let row = c.loop-row.row in
    let F : List ℕ = marked c.args.refused.now in
    let f : ℕ → Update = update_in_row r c.args.shape.now c.args.position c.args.packet.now in
    let fits : SFits w64 c.value_in_row.result = search rules in
    let value = to_z-of_z w64 c.value_in_row.result fits ∙ c.value_in_row.ensures in
    let hash = c.hash_in_row-hash.ensures c.args.packet.now.key c.key_hash-key_hash.ensures in
    let cell : c.cell_in_row.result ≡ cell_of c.args.shape.now c.args.packet.now.key row = c.cell_in_row.ensures.place c.args.packet.now.key hash in
    let update : ℕ → ℤ → Update = λ (at : ℕ) (v : ℤ). record { packet = c.args.position; key = c.args.packet.now.key; cell = at; value = v } in
    let its : update c.cell_in_row.result (to_z w64 (of_z w64 c.value_in_row.result)) ≡ f row = ap₂ update cell value in
    let inv = c.loop-row.invariant in
    let same = c.in_ok-count.ensures.same in
    record {
      tells = λ w T updates before.
          let now = inv.tells w T updates before in
          let U : List Update = updates ++ map f (range_with_len 0 row) in
          let number : c.counted.result ≡ length U = c.counted.ensures ∙ now.replays.sketch.all_counted in
          let refused : c.is_set-refused.result ≡ is_refused (length U) F =
          c.is_set-refused.ensures ∙ ap (λ (n : ℕ). get_or c.args.refused.now n false) number ∙ refused_bit c.args.refused.now (length U) in
          let step : Tells g.K.Kind.stands r w T F (U ++ update c.cell_in_row.result (to_z w64 (of_z w64 c.value_in_row.result)) ∷ []) c.count.new.self = record {
            replays = c.in_ok-count.ensures.replays w T F U now.replays refused;
            first = c.in_ok-count.ensures.watches w T F U now.replays refused now.first;
          } in
          subst (λ (us : List Update). Tells g.K.Kind.stands r w T F us c.count.new.self) (ap (λ (u : Update). U ++ u ∷ []) its ∙ rows_more f updates row) step;
      counted = omega (arith, c.in_ok-count.ensures.counted, inv.counted);
      same = record {
        room = same.room ∙ inv.same.room;
        cells = same.cells ∙ inv.same.cells;
        lane = same.lane ∙ inv.same.lane;
        idle = same.idle;
      };
    }

pub returns-clause-tells : goal.returns-clause-tells
returns-clause-tells g c = λ w T updates before.
    let end : c.loop-row.row ≡ c.args.shape.now.rows = grind arith in
    subst (λ (n : ℕ). Tells g.K.Kind.stands g.K.Kind.rules w T (marked c.args.refused.now)
    (updates ++ map (update_in_row g.K.Kind.rules c.args.shape.now c.args.position c.args.packet.now) (range_with_len 0 n)) c.loop-row.replay) end
    (c.loop-row.invariant.tells w T updates before)
