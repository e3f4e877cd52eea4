-- The lines of answers are short.
use Rattle.std.proofs.Common.{◌≤◌, ◌+◌, ◌*◌, ℕ, List, All, length, map, arith}
use Rattle.std.specs.Prelude.{◌==◌}
use Rattle.std.proofs.lemmas.List.{length-map}
use Rattle.std.proofs.lemmas.List.Sums.{count_by-le-length, length-filter}
use Rattle.listed.specs.Listed.{Listed}
use Rattle.packet_key.specs.declared.key.FlowKey.{FlowKey}
use Rattle.hash_rows.specs.declared.answer.Answer.{Answer}
use Rattle.hash_rows.specs.declared.options.Options.{Options}
use Rattle.hash_rows.specs.declared.options.Sketch.{Sketch}
use Rattle.hash_rows.specs.declared.options.Sketch.TheVariants.{CountMin, CountSketch, LogLog}
use Rattle.hash_rows.specs.declared.shape.Packet.{Packet}
use Rattle.push_history.specs.Journal.{asked_keys, keys_of}
use Rattle.prefixes.specs.declared.network.Prefix.{Prefix}
use Rattle.prefixes.specs.Networks.{prefix_key}
use Rattle.prefix_stack.specs.Runs.{HaveAnswers, level_options, watched_at}
use Rattle.prefix_report.specs.Reports.{HasFewShown}

few_watched : (bits : ℕ) (watch : List Prefix) → length (watched_at bits watch) ≤ length watch
unfolding watched_at
few_watched bits watch = omega (arith, length-filter (λ p. p.length == bits) watch, count_by-le-length (λ p. p.length == bits) watch)

few_asked : (sketch : Sketch) (watched : List FlowKey) → length watched ≤ 16 → length (asked_keys sketch watched) ≤ 16
few_asked LogLog watched few = omega arith
few_asked CountMin watched few = few
few_asked CountSketch watched few = few

few_keys : (o : Options) (watch : List Prefix) (bits : ℕ) → length watch ≤ 16 → length (keys_of (level_options o watch bits)) ≤ 16
unfolding level_options
few_keys o watch bits most =
    few_asked o.sketch (map prefix_key (watched_at bits watch)) (omega (arith, length-map (watched_at bits watch) prefix_key, few_watched bits watch, most))

pub short_lines : (packets : List Packet) (o : Options) (watch : List Prefix) (rows : List (Listed Answer)) → length watch ≤ 16 → HaveAnswers packets o watch 4 rows
    → All (λ row. All HasFewShown row.items) rows
short_lines packets o watch rows most h k d lt j e within =
    let shown = (h.each k d (omega (arith, lt, h.len))).shown j e within in
    omega (arith, shown, few_keys o watch (8 * (k + 1)) most)
