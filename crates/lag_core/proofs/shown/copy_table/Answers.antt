use Rattle.std.proofs.Common.{rules, ◌≡◌, ◌≤◌, ◌<◌, pos, length, set, ap, ◌∙◌, arith, length-set}
use Rattle.std.proofs.lemmas.List.{ext_get_or}
use Rattle.hash_rows.specs.Tables.{joined_at}
use Rattle.lag_core.proofs.Copying.{first_more}
use Rattle.lag_core.proofs.shown.copy_table.Goals as goal

pub loop-cell-init : goal.loop-cell-init
loop-cell-init g c = (search rules, search rules, λ k lt. absurd (omega arith))

pub loop-cell-preserved : goal.loop-cell-preserved
loop-cell-preserved g c =
    let r = g.K.Kind.rules in
    let h = c.loop-cell.invariant in
    let from = c.args.from.now.cells in
    let into = c.loop-cell.into in
    let n = c.loop-cell.cell in
    let inside : n < length into.cells = search rules in
    let now : c.put.new.self.cells ≡ joined_at r.join (set into.cells n (pos 0)) n c.cell.result = search rules in
    let shape : c.put.new.self.shape ≡ into.shape = search rules in
    let laws = (g.met.K.Kind g.world.𝓛 g.world.𝓜 g.world.𝓡 ((λ s x. x), (λ x. x), (λ x. x), (λ x. x))).laws in (
      shape ∙ h.0,
      ap length now ∙ length-set _ n _ ∙ length-set into.cells n _ ∙ h.1,
      first_more r laws from into.cells c.put.new.self.cells n c.cell.result inside c.cell.ensures.value c.cell.ensures.lawful now h.2,
    )

pub returns : goal.returns
returns g c =
    let h = c.loop-cell.invariant in
    let all : length c.args.from.now.cells ≤ c.loop-cell.cell = search rules in
    λ i. record { shape = h.0 i; cells = ext_get_or (pos 0) c.loop-cell.into.cells c.args.from.now.cells h.1 (λ k lt. h.2 k (omega (arith, lt, h.1, all))) i }
