-- The run of each length.
use Rattle.std.specs.Prelude.{◌≡◌, ◌≤ℤ◌, ◌<◌, ◌+◌, ◌*◌, ◌==◌, ℕ, pos, List, length, map, filter, All, slice_index_or}
use Rattle.listed.specs.Listed.{Listed}
use Rattle.hash_rows.specs.declared.answer.Answer.{Answer}
use Rattle.hash_rows.specs.declared.options.Options.{Options}
use Rattle.hash_rows.specs.declared.options.Mode.TheVariants.{Rounds}
use Rattle.hash_rows.specs.declared.options.Sketch.TheVariants.{CountMin}
use Rattle.hash_rows.specs.declared.shape.Packet.{Packet}
use Rattle.hash_rows.specs.Lawful.{IsLawful}
use Rattle.hash_rows.specs.Tables.{TableView}
use Rattle.push_history.specs.declared.event.Event.{Event}
use Rattle.push_history.specs.Answers.{parts_of}
use Rattle.push_history.specs.Journal.{journal_of, keys_of, terms_of}
use Rattle.push_history.specs.LagRun.{lag_run}
use Rattle.push_history.specs.Rounds.{AreRounds}
use Rattle.round_law.specs.Outcome.{IsNearAnswer}
use Rattle.prefixes.specs.declared.network.Prefix.{Prefix}
use Rattle.prefixes.specs.Networks.{prefix_key}
use Rattle.prefix_stack.specs.Descent.{hit_by}
use Rattle.prefix_stack.specs.Levels.{level_packets, network_amount}

-- those of the length
unfoldable pub watched_at : ℕ → List Prefix → List Prefix
watched_at length watch = filter (λ p. p.length == length) watch

-- the options with the watched networks of the length as watched keys
unfoldable pub level_options : Options → List Prefix → ℕ → Options
level_options o watch length = record o { watch = record { items = map prefix_key (watched_at length watch); room = 16 } }

-- the answers of the round schedule on these packets: each has an estimate for each asked key, and is near the true one
pub record AreLevelAnswers (packets : List Packet) (o : Options) (answers : List Answer) : Type 0 where
  pub events : List Event
  pub schedule : AreRounds (terms_of packets o) o events
  pub answers_are : map parts_of answers ≡ (journal_of packets o events).answers
  pub shown : All (λ a. length a.shown.items ≡ length (keys_of o)) answers
  pub near : All (IsNearAnswer (terms_of packets o) o (lag_run (terms_of packets o) o.readers events)) answers

-- the options ask for a Count-Min in rounds
pub record IsStackRun (o : Options) : Type 0 where
  pub lawful : IsLawful o
  pub sketch : o.sketch ≡ CountMin
  pub mode : o.mode ≡ Rounds

-- what the table of a network's length says of it is at least what its packets amount to
abbrev pub IsNeverBelow : List Packet → List TableView → Type 0
IsNeverBelow packets tables =
    (k : ℕ) (d : TableView) (p : Prefix) → k < 4 → p.length ≡ 8 * (k + 1)
    → pos (network_amount packets p) ≤ℤ (hit_by (slice_index_or tables k d) p).estimate

-- by length upwards, the answers of so many lengths
pub record HaveAnswers (packets : List Packet) (o : Options) (watch : List Prefix) (n : ℕ) (rows : List (Listed Answer)) : Type 0 where
  pub len : length rows ≡ n
  pub each : (k : ℕ) (d : Listed Answer) → k < n
      → AreLevelAnswers (level_packets (8 * (k + 1)) packets) (level_options o watch (8 * (k + 1))) (slice_index_or rows k d).items
