-- Which line of a journal may come next, by what the lines before said: a grammar over values, with no bytes in it.
use Rattle.std.specs.Prelude.{◌≡◌, ◌≢◌, ◌<◌, ◌≤◌, ◌^◌, ◌+◌, ◌-◌, ◌*◌, ◌/◌, ◌%◌, ℕ, List, [], ◌∷◌, ◌++◌, All, length}
use Rattle.std.specs.List.{range_with_len}
use lib.Signed.{mag}
use Rattle.packet_key.specs.declared.key.FlowKey.{FlowKey}
use Rattle.packet_key.specs.KeyText.{IsKey}
use Rattle.hash_rows.specs.declared.options.Options.{Options}
use Rattle.hash_rows.specs.declared.options.Sketch.TheVariants.{LogLog}
use Rattle.hash_rows.specs.Lawful.{IsLawful}
use Rattle.push_history.specs.Answers.{AnswerParts}
use Rattle.push_history.specs.Journal.{Journal, keys_of}
use Rattle.journal_read.specs.Terms.{told_options}
use Rattle.journal_read.specs.Entries.{Entry, Head, Terms, Watched, Worker, Run, Answered, Live, Missed, End}

-- nothing was read; the first line; the options and what stands behind them; how many messages were missed; the last line
pub data Stage : Type 0 where
  Nothing : Stage
  Titled : Stage
  Listing : Stage
  Counted : Stage
  Ended : Stage

-- what was read: where it stands; what it tells; the sum of the refused numbers that the workers' lines gave; how many of
-- the last worker's are still to come; and the least number at which its next run may begin
pub record Draft : Type 0 where
  pub stage : Stage
  pub told : Journal
  pub refused : ℕ
  pub due : ℕ
  pub least : ℕ

-- the answer that is to come is the one at this place, with a front number for each worker and an estimate for each asked
-- key, each in the range of its type
pub record IsAnswerInTurn (o : Options) (place : ℕ) (a : AnswerParts) : Type 0 where
  pub reader : a.reader ≡ place / o.asks
  pub number : a.number ≡ place % o.asks
  pub folded : a.folded < 2 ^ 64
  pub front_len : length a.front ≡ o.workers
  pub front : All (λ n. n ≤ 2 ^ 27) a.front
  pub shown_len : length a.shown ≡ length (keys_of o)
  pub shown : All (λ x. mag x < 2 ^ 63) a.shown

-- each worker was told of, with all its refused updates
pub record HasToldWorkers (d : Draft) : Type 0 where
  pub listing : d.stage ≡ Listing
  pub workers : length d.told.pushes ≡ d.told.options.workers
  pub due : d.due ≡ 0

-- the line of the entry may come next
abbrev pub MayFollow : Draft → Entry → Type 0
MayFollow d Head = d.stage ≡ Nothing
MayFollow d (Terms o) = (d.stage ≡ Titled) × IsLawful o × (told_options o ≡ o)
MayFollow d (Watched k) =
    (d.stage ≡ Listing) × (d.told.pushes ≡ []) × IsKey k × (length d.told.options.watch.items < 16)
    × All (λ l. l ≢ k) d.told.options.watch.items × (d.told.options.sketch ≢ LogLog)
MayFollow d (Worker worker pushes refused) =
    (d.stage ≡ Listing) × (d.due ≡ 0) × (worker ≡ length d.told.pushes) × (worker < d.told.options.workers)
    × (pushes ≤ 2 ^ 27) × (d.refused + refused ≤ 2 ^ 27)
MayFollow d (Run worker first last) =
    (d.stage ≡ Listing) × (worker + 1 ≡ length d.told.pushes) × (d.least ≤ first) × (first ≤ last) × (last < 2 ^ 27)
    × (last + 1 - first ≤ d.due)
MayFollow d (Answered a) =
    HasToldWorkers d × (length d.told.answers < d.told.options.readers * d.told.options.asks)
    × IsAnswerInTurn d.told.options (length d.told.answers) a
MayFollow d (Live k) =
    HasToldWorkers d × (length d.told.answers ≡ d.told.options.readers * d.told.options.asks) × IsKey k × (length d.told.live < 1024)
MayFollow d (Missed n) = HasToldWorkers d × (length d.told.answers ≡ d.told.options.readers * d.told.options.asks) × (n < 2 ^ 64)
MayFollow d End = d.stage ≡ Counted

-- more numbers in the last list
abbrev pub in_last : List (List ℕ) → List ℕ → List (List ℕ)
in_last [] ns = []
in_last (r ∷ []) ns = (r ++ ns) ∷ []
in_last (r ∷ s ∷ rs) ns = r ∷ in_last (s ∷ rs) ns

-- what is told once the options have this key too
abbrev pub with_watched : Options → FlowKey → Options
with_watched o k = record o { watch = record { items = o.watch.items ++ k ∷ []; room = o.watch.room } }

-- what was read, once this line is read too
abbrev pub read_on : Draft → Entry → Draft
read_on d Head = record d { stage = Titled }
read_on d (Terms o) = record d { stage = Listing; told = record d.told { options = o } }
read_on d (Watched k) = record d { told = record d.told { options = with_watched d.told.options k } }
read_on d (Worker worker pushes refused) = record {
  stage = d.stage;
  told = record d.told { pushes = d.told.pushes ++ pushes ∷ []; refused = d.told.refused ++ [] ∷ [] };
  refused = d.refused + refused;
  due = refused;
  least = 0;
}
read_on d (Run worker first last) = record {
  stage = d.stage;
  told = record d.told { refused = in_last d.told.refused (range_with_len first (last + 1 - first)) };
  refused = d.refused;
  due = d.due - (last + 1 - first);
  least = last + 2;
}
read_on d (Answered a) = record d { told = record d.told { answers = d.told.answers ++ a ∷ [] } }
read_on d (Live k) = record d { told = record d.told { live = d.told.live ++ k ∷ [] } }
read_on d (Missed n) = record d { stage = Counted; told = record d.told { missed = n } }
read_on d End = record d { stage = Ended }
