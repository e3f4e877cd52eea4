use Rattle.std.proofs.Common.{◌∙◌, ◌<◌, ◌≤◌, ℕ, List, length, slice_index_or, ap, subst, sym}
use Rattle.hash_rows.specs.Shapes.{size_of}
use Rattle.hash_rows.specs.Tables.{TableView}
use Rattle.push_rule.specs.Residues.{Counted, HasJoined, IsWorkerFor, residue_of}
use Rattle.push_rule.specs.Stands.{PrivateView, StandsFor}
use Rattle.octo_engine.proofs.Beginning.{rules_are}
use Rattle.thread_engine.proofs.Concluding.{each_for, fronts_few, fulls_are, has_ran, live_room, whole_table}
use Rattle.thread_engine.proofs.settling.conclude.Goals as goal

pub fill_counts-requires : goal.fill_counts-requires
fill_counts-requires g c =
    let kind = g.met.K.Kind g.world.𝓛 g.world.𝓜 g.world.𝓡 ((λ s x. x), (λ x. x), (λ x. x), (λ x. x)) in
    let o = c.args.options.now in
    let is = rules_are g.K.Kind.rules o g.K.Kind.sketch kind.is_sketch c.requires.sketch in
    let few = fronts_few g.K.Kind.stands g.K.Kind.rules o c.args.packets.now is c.requires.lawful c.requires.amounts c.requires.published.0 c.args.spare c.requires.published.1 in
    (c.requires.published.1.pushes.0, subst (λ l. length l ≤ c.args.spare.pushes.room) (sym c.fronts.ensures) few)

pub fill_heavy-requires : goal.fill_heavy-requires
fill_heavy-requires g c =
    let kind = g.met.K.Kind g.world.𝓛 g.world.𝓜 g.world.𝓡 ((λ s x. x), (λ x. x), (λ x. x), (λ x. x)) in
    let o = c.args.options.now in
    let is = rules_are g.K.Kind.rules o g.K.Kind.sketch kind.is_sketch c.requires.sketch in
    let few = live_room g.K.Kind.stands g.K.Kind.rules o c.args.packets.now is c.requires.lawful c.requires.amounts c.requires.published.0 c.args.spare c.requires.published.1 in
    (c.requires.published.1.live.0, subst (λ t. length t.keys ≤ c.args.spare.live.room) (sym c.heavy.ensures) few)

pub join_residues-requires-clause-each : goal.join_residues-requires-clause-each
join_residues-requires-clause-each g c κs within =
    let kind = g.met.K.Kind g.world.𝓛 g.world.𝓜 g.world.𝓡 ((λ s x. x), (λ x. x), (λ x. x), (λ x. x)) in
    let o = c.args.options.now in
    let is = rules_are g.K.Kind.rules o g.K.Kind.sketch kind.is_sketch c.requires.sketch in
    subst (λ sketches. (w : _) → (s : _) → w < length sketches → IsWorkerFor g.K.Kind.stands g.K.Kind.rules c.into_table-table.result.shape (slice_index_or sketches w s)) (sym c.as_slice.ensures)
    (subst (λ (t : TableView). (w : _) → (s : _) → w < length c.args.spare.sketches.items → IsWorkerFor g.K.Kind.stands g.K.Kind.rules t.shape (slice_index_or c.args.spare.sketches.items w s)) (sym c.into_table-table.ensures)
    (each_for g.K.Kind.stands g.K.Kind.rules o c.args.packets.now is c.requires.lawful c.requires.amounts c.requires.published.0 c.args.spare c.requires.published.1))

pub returns-clause-fulls : goal.returns-clause-fulls
returns-clause-fulls g c =
    let kind = g.met.K.Kind g.world.𝓛 g.world.𝓜 g.world.𝓡 ((λ s x. x), (λ x. x), (λ x. x), (λ x. x)) in
    let o = c.args.options.now in
    let is = rules_are g.K.Kind.rules o g.K.Kind.sketch kind.is_sketch c.requires.sketch in
    fulls_are g.K.Kind.stands g.K.Kind.rules o c.args.packets.now is c.requires.lawful c.requires.amounts c.requires.published.0 c.args.spare c.requires.published.1
    c.fill_refused.new.rows.items c.fill_refused.ensures.bits c.fill_refused.ensures.lengths

pub returns-clause-ran : goal.returns-clause-ran
returns-clause-ran g c published whole =
    let kind = g.met.K.Kind g.world.𝓛 g.world.𝓜 g.world.𝓡 ((λ s x. x), (λ x. x), (λ x. x), (λ x. x)) in
    let o = c.args.options.now in
    let is = rules_are g.K.Kind.rules o g.K.Kind.sketch kind.is_sketch c.requires.sketch in
    has_ran g.K.Kind.stands g.K.Kind.rules o c.args.packets.now is c.requires.lawful c.requires.amounts published c.args.spare whole
    c.fill_refused.new.rows.items c.fill_refused.ensures.bits c.fill_refused.ensures.lengths c.fill_counts.new.into.items c.fill_heavy.new.into.items c.missed-missed.result
    (c.fill_counts.ensures ∙ c.fronts.ensures) (c.fill_heavy.ensures ∙ ap (λ t. t.keys) c.heavy.ensures) (c.missed-missed.ensures ∙ ap (λ t. t.missed) c.heavy-2.ensures)

pub returns-clause-table : goal.returns-clause-table
returns-clause-table g c =
    let kind = g.met.K.Kind g.world.𝓛 g.world.𝓜 g.world.𝓡 ((λ s x. x), (λ x. x), (λ x. x), (λ x. x)) in
    let o = c.args.options.now in
    let is = rules_are g.K.Kind.rules o g.K.Kind.sketch kind.is_sketch c.requires.sketch in
    let old = c.into_table-table.result in
    let joined = subst (λ (xs : List (PrivateView g.row.K-Held.Denot)). (of : ℕ → Counted)
    → ((w : ℕ) (s : PrivateView g.row.K-Held.Denot) → w < length xs → StandsFor g.K.Kind.stands g.K.Kind.rules (slice_index_or xs w s) (of w).updates (of w).messages (of w).refused)
    → HasJoined g.K.Kind.rules.join (λ w. residue_of g.K.Kind.rules (of w)) (length xs) (size_of old.shape) old.cells c.join_residues.new.table.cells) c.as_slice.ensures c.join_residues.ensures.joined in
    whole_table g.K.Kind.stands g.K.Kind.rules o c.args.packets.now is c.requires.lawful c.requires.amounts c.requires.published.0 c.args.spare c.requires.published.1
    c.into_table-table.result c.join_residues.new.table c.into_table-table.ensures c.join_residues.ensures.shape c.join_residues.ensures.size joined
