-- The options line doesn't tell whether the journal is asked for.
use Rattle.std.proofs.Common.{◌≡◌, refl}
use Rattle.hash_rows.specs.declared.options.Options.{Options}
use Rattle.push_history.specs.Journal.{with_journal}
use Rattle.octo_text.specs.JournalText.{share_words, lane_words, query_words, options_line}

pub same_options : (o : Options) → options_line o ≡ options_line (with_journal o)
unfolding with_journal share_words lane_words query_words options_line
same_options o = refl
