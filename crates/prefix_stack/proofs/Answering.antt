-- The tables and answers of all lengths.
use Rattle.std.proofs.Common.{◌≡◌, ◌∙◌, ◌<◌, ◌+◌, ◌*◌, ◌^◌, ℕ, Bool, List, [], ◌∷◌, ◌++◌, length, map, get_or, sym, ap, subst, arith, All, length-append}
use Rattle.std.specs.Prelude.{slice_index_or}
use Rattle.std.specs.List.{range_with_len}
use Rattle.std.proofs.lemmas.List.FromFn.{get_or-map-range_with_len, length-map-range_with_len, map-range_with_len_more}
use Rattle.listed.specs.Listed.{Listed}
use Rattle.packet_key.specs.declared.key.FlowKey.{FlowKey}
use Rattle.hash_rows.specs.Amounts.{total_amount}
use Rattle.hash_rows.specs.declared.answer.Answer.{Answer}
use Rattle.hash_rows.specs.declared.options.Options.{Options}
use Rattle.hash_rows.specs.declared.options.Sketch.TheVariants.{CountMin}
use Rattle.hash_rows.specs.declared.shape.Packet.{Packet}
use Rattle.hash_rows.specs.declared.shape.Shape.{Shape}
use Rattle.hash_rows.specs.Rules.{rules_of}
use Rattle.hash_rows.specs.Sequential.{sequential_table}
use Rattle.hash_rows.specs.Shapes.{IsShape}
use Rattle.hash_rows.specs.Tables.{TableView}
use Rattle.push_history.specs.declared.event.Event.{Event}
use Rattle.push_history.specs.Journal.{journal_in, terms_of}
use Rattle.push_history.specs.LagRun.{lag_run}
use Rattle.push_history.specs.Rounds.{AreRounds, IsRoundsJournal}
use Rattle.round_law.specs.Outcome.{IsNearAnswer, IsWhole}
use Rattle.octo_engine.proofs.Beginning.{grown}
use Rattle.prefixes.specs.declared.network.Prefix.{Prefix}
use Rattle.prefix_stack.specs.Levels.{level_packets, level_table, level_tables}
use Rattle.prefix_stack.specs.Runs.{AreLevelAnswers, HaveAnswers, IsNeverBelow, level_options}
use Rattle.prefix_stack.proofs.Amounts.{level_never_below}
use Rattle.prefix_stack.proofs.Watching.{level_shape}

-- what a run in rounds says of its answers
pub answers_of_run : (packets : List Packet) (o : Options) (bits : List (List Bool)) (pushes : List ℕ) (answers : List Answer) (live : List FlowKey) (missed : ℕ) → o.sketch ≡ CountMin
    → IsRoundsJournal packets o (journal_in o bits pushes answers live missed)
    → IsWhole o bits pushes answers
    → (o.sketch ≡ CountMin → (events : List Event) → AreRounds (terms_of packets o) o events → All (IsNearAnswer (terms_of packets o) o (lag_run (terms_of packets o) o.readers events)) answers)
    → AreLevelAnswers packets o answers
answers_of_run packets o bits pushes answers live missed is journal whole near = record {
  events = journal.events;
  schedule = journal.schedule;
  answers_are = ap (λ j. j.answers) journal.journal;
  near = near is journal.events journal.schedule;
  shown = whole.shown;
}

-- the answers of one length more
pub rows_more : (packets : List Packet) (o : Options) (watch : List Prefix) (n : ℕ) (rows new : List (Listed Answer)) (row : Listed Answer) → HaveAnswers packets o watch n rows → new ≡ rows ++ row ∷ []
    → AreLevelAnswers (level_packets (8 * (n + 1)) packets) (level_options o watch (8 * (n + 1))) row.items → HaveAnswers packets o watch (n + 1) new
rows_more packets o watch n rows new row h is answers = record {
  len = ap length is ∙ length-append rows (row ∷ []) ∙ ap (λ k. k + 1) h.len;
  each = grown (λ k (r : Listed Answer). AreLevelAnswers (level_packets (8 * (k + 1)) packets) (level_options o watch (8 * (k + 1))) r.items) rows new n row h.len is h.each answers;
}

abbrev pub table_at : Shape → List Packet → ℕ → TableView
table_at shape packets k = level_table shape packets (8 * (k + 1))

pub are_level_tables : (shape : Shape) (packets : List Packet) (tables : List TableView) → tables ≡ map (table_at shape packets) (range_with_len 0 4) → tables ≡ level_tables shape packets
unfolding level_tables
are_level_tables shape packets tables is = is

pub tables_never_below : (shape : Shape) → IsShape shape → (packets : List Packet) → total_amount packets < 2 ^ 63 → (tables : List TableView) → tables ≡ map (table_at shape packets) (range_with_len 0 4)
    → IsNeverBelow packets tables
tables_never_below shape lawful packets total tables is k d p lt at =
    let table : slice_index_or tables k d ≡ table_at shape packets k = ap (λ (l : List TableView). get_or l k d) is ∙ get_or-map-range_with_len (table_at shape packets) 0 4 k k d lt (omega arith) in
    rw table (level_never_below shape lawful packets total (8 * (k + 1)) p at)

pub tables_len : (f : ℕ → TableView) (n : ℕ) (tables : List TableView) → tables ≡ map f (range_with_len 0 n) → length tables ≡ n
tables_len f n tables is = ap length is ∙ length-map-range_with_len f 0 n

pub tables_more : (f : ℕ → TableView) (n : ℕ) (tables new : List TableView) (x : TableView) → tables ≡ map f (range_with_len 0 n) → new ≡ tables ++ x ∷ [] → x ≡ f n
    → new ≡ map f (range_with_len 0 (n + 1))
tables_more f n tables new x before is same =
    is ∙ ap (λ (l : List TableView). l ++ x ∷ []) before ∙ ap (λ (y : TableView). map f (range_with_len 0 n) ++ y ∷ []) same ∙ sym (map-range_with_len_more f 0 n n (omega arith))

module _ (o : Options) (watch : List Prefix) (bits : ℕ) (packets : List Packet) (at : Options) (level : List Packet) where
  pub level_table_is : (table : TableView) → at ≡ level_options o watch bits → level ≡ level_packets bits packets → table ≡ sequential_table (rules_of CountMin) at.shape level → table ≡ level_table o.shape packets bits
  unfolding level_table
  level_table_is table same same_packets is =
      is ∙ ap (λ (shape : Shape). sequential_table (rules_of CountMin) shape level) (ap (λ (x : Options). x.shape) same ∙ level_shape o watch bits)
      ∙ ap (λ (l : List Packet). sequential_table (rules_of CountMin) o.shape l) same_packets

  pub level_answers : (answers : List Answer) → at ≡ level_options o watch bits → level ≡ level_packets bits packets → AreLevelAnswers level at answers → AreLevelAnswers (level_packets bits packets) (level_options o watch bits) answers
  level_answers answers same same_packets h =
      subst (λ (x : Options). AreLevelAnswers (level_packets bits packets) x answers) same (subst (λ (l : List Packet). AreLevelAnswers l at answers) same_packets h)
