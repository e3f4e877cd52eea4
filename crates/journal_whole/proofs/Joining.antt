-- The parts of a journal, put together.
use Rattle.std.proofs.Common.{◌≡◌, ◌∙◌, ◌/◌, ◌%◌, ◌^◌, ℕ, List, [], ◌∷◌, ◌++◌, Option, refl, sym, ap, subst, arith, append_assoc, length, map, pos, true, inl, inr, Err}
use Rattle.std.specs.Prelude.{All, IsErrOf}
use Rattle.std.specs.List.{flat_map, range_with_len}
use Rattle.std.proofs.lemmas.List.{append-nil, length-map}
use Rattle.std.proofs.lemmas.List.Elements.{All-cons, All-head, All-tail}
use Rattle.flow_base.specs.Flow.{behind}
use Rattle.flow_base.specs.LinesRead.{BrokeOff}
use Rattle.flow_base.proofs.FlowLemmas.{behind-append}
use Rattle.hash_rows.specs.declared.answer.Answer.{Answer}
use Rattle.hash_rows.specs.declared.options.Options.{Options}
use Rattle.hash_rows.specs.declared.options.Sketch.TheVariants.{CountMin}
use Rattle.hash_rows.specs.declared.options.Amount.TheVariants.{Packets}
use Rattle.hash_rows.specs.declared.options.Share.TheVariants.{Turn}
use Rattle.hash_rows.specs.declared.options.Full.TheVariants.{Leave}
use Rattle.hash_rows.specs.declared.options.Mode.TheVariants.{Rounds}
use Rattle.hash_rows.specs.Lawful.{IsLawful}
use Rattle.hash_rows.specs.Marks.{marked}
use Rattle.push_history.specs.Answers.{parts_of}
use Rattle.push_history.specs.Journal.{with_journal}
use Rattle.push_history.specs.LawfulJournal.{places_by, places_of}
use Rattle.octo_text.specs.Content.{content_of, IsComplete}
use Rattle.octo_text.specs.Readable.{CanBeJudged, IsReadable}
use Rattle.octo_text.specs.declared.journal.Journal.{Journal}
use Rattle.journal_read.specs.Drafts.{Draft, Nothing, Titled, Listing, Counted, Ended}
use Rattle.journal_read.specs.Entries.{Entry, line_of, Head, Terms}
use Rattle.journal_read.specs.Reading.{Leads}
use Rattle.journal_read.specs.Terms.{told_options}
use Rattle.journal_whole.specs.declared.reading.Place.{Place}
use Rattle.journal_whole.specs.declared.reading.Place.TheVariants.{Lists, Tallied, Complete}
use Rattle.journal_whole.specs.declared.whole.JournalStop.{JournalStop}
use Rattle.journal_whole.specs.declared.whole.JournalStop.TheVariants.{BadJournal}
use Rattle.journal_whole.specs.declared.reading.Reading.{Reading}
use Rattle.journal_whole.specs.Drafted.{begun, draft_of, told_by, stage_of, HasLengths, IsProper}
use Rattle.journal_whole.specs.Taken.{BreaksFrom, TakesBadLine, TakesBreak, TakesEntries, TakesJournal, TakesOther, TakesUpTo, IsNoTerms}
use Rattle.journal_whole.proofs.Places.{all_places}
use Rattle.journal_whole.proofs.Judging.{not_both, head_alone, terms_alone}

-- nothing was read
abbrev fresh : Options → Draft
fresh o = record (begun o) { stage = Nothing }

abbrev some_options : Options
some_options = record {
  sketch = CountMin;
  shape = record { rows = 1; columns = 1 };
  amount = Packets;
  share = Turn;
  workers = 1;
  threshold = 1;
  lane = 1;
  batch = 1;
  round = 1;
  full = Leave;
  mode = Rounds;
  readers = 0;
  asks = 0;
  watch = record { items = []; room = 16 };
  heavy = 1;
  least = pos 1;
  journal = true;
}

-- the same stop, of whatever a call that went on would answer
pub same_stop : {T U : Type 0} (e f : JournalStop) → IsErrOf {T = T} (Err e) f → IsErrOf {T = U} (Err e) f
same_stop {T} {U} e f is = let same : e ≡ f = cc in ap (λ (x : JournalStop). Err x) same

pub same_line : {T : Type 0} (a b : ℕ) → IsErrOf {T = T} (Err (BadJournal a)) (BadJournal b) → a ≡ b
same_line {T} a b is = cc

-- the last line isn't read yet
pub still_going : (p : Place) → (p ≡ Complete → ⊥) → stage_of p ≡ Ended → ⊥
still_going Lists other at = not_both Listing Listing Ended refl at (omega arith)
still_going Tallied other at = not_both Counted Counted Ended refl at (omega arith)
still_going Complete other at = other refl

-- one part behind another
pub chain : (old mid new : Option (List ℕ)) (a b : List ℕ) → old ≡ behind a mid → mid ≡ behind b new → old ≡ behind (a ++ b) new
chain old mid new a b was is = was ∙ ap (behind a) is ∙ behind-append a b new

pub bad_head : (old new : Option (List ℕ)) (line : ℕ) → line ≡ 1 → TakesOther (λ stands. stands ≡ line_of Head → ⊥) old new → TakesBadLine old new line
bad_head old new line number other = record {
  bytes = other.stands;
  taken = other.taken;
  bad = record {
    before = fresh some_options;
    fresh = (refl, refl, refl, refl, refl, refl, refl, refl);
    entries = [];
    after = fresh some_options;
    lead = refl;
    going = λ at. not_both Nothing Nothing Ended refl at (omega arith);
    number = number;
    stands = other.stands;
    parts = refl;
    end = other.end;
    is_line = other.is_line;
    none = head_alone (fresh some_options) other.stands refl other.other;
  };
}

pub bad_terms : (old mid new : Option (List ℕ)) (line : ℕ) → line ≡ 2 → old ≡ behind (line_of Head) mid → TakesOther IsNoTerms mid new → TakesBadLine old new line
bad_terms old mid new line number head other = record {
  bytes = (line_of Head ++ []) ++ other.stands;
  taken = chain old mid new (line_of Head ++ []) other.stands (head ∙ ap (λ (t : List ℕ). behind t mid) (sym (append-nil (line_of Head)))) other.taken;
  bad = record {
    before = fresh some_options;
    fresh = (refl, refl, refl, refl, refl, refl, refl, refl);
    entries = Head ∷ [];
    after = record (fresh some_options) { stage = Titled };
    lead = (refl, refl);
    going = λ at. not_both Titled Titled Ended refl at (omega arith);
    number = number;
    stands = other.stands;
    parts = refl;
    end = other.end;
    is_line = other.is_line;
    none = terms_alone (record (fresh some_options) { stage = Titled }) other.stands refl other.other;
  };
}

-- where the bytes break off in the first line, or in that of the options
pub break_head : (old new : Option (List ℕ)) → BrokeOff old new → TakesBreak old new
break_head old new broke = record {
  bytes = broke.given;
  taken = broke.taken;
  breaks = record {
    before = fresh some_options;
    fresh = (refl, refl, refl, refl, refl, refl, refl, refl);
    entries = [];
    after = fresh some_options;
    lead = refl;
    going = λ at. not_both Nothing Nothing Ended refl at (omega arith);
    stands = broke.given;
    parts = refl;
    unended = broke.unended;
    short = broke.short;
  };
}

pub break_terms : (old mid new : Option (List ℕ)) → old ≡ behind (line_of Head) mid → BrokeOff mid new → TakesBreak old new
break_terms old mid new head broke = record {
  bytes = (line_of Head ++ []) ++ broke.given;
  taken = chain old mid new (line_of Head ++ []) broke.given (head ∙ ap (λ (t : List ℕ). behind t mid) (sym (append-nil (line_of Head)))) broke.taken;
  breaks = record {
    before = fresh some_options;
    fresh = (refl, refl, refl, refl, refl, refl, refl, refl);
    entries = Head ∷ [];
    after = record (fresh some_options) { stage = Titled };
    lead = (refl, refl);
    going = λ at. not_both Titled Titled Ended refl at (omega arith);
    stands = broke.given;
    parts = refl;
    unended = broke.unended;
    short = broke.short;
  };
}

-- the opening, and the lines of entries behind it
opened : (o : Options) (es : List Entry) (old mid new : Option (List ℕ)) → old ≡ behind (line_of Head ++ line_of (Terms o)) mid → mid ≡ behind (flat_map line_of es) new
    → old ≡ behind (flat_map line_of (Head ∷ Terms o ∷ es)) new
opened o es old mid new head rest =
    chain old mid new (line_of Head ++ line_of (Terms o)) (flat_map line_of es) head rest
    ∙ ap (λ (t : List ℕ). behind t new) (append_assoc (line_of Head) (line_of (Terms o)) (flat_map line_of es))

pub bad_lists : (o : Options) (d : Draft) (old mid new : Option (List ℕ)) (line : ℕ) → d ≡ begun o → IsLawful o → told_options o ≡ o
    → old ≡ behind (line_of Head ++ line_of (Terms o)) mid → TakesUpTo d 2 mid new line → TakesBadLine old new line
bad_lists o d old mid new line start law told head up = record {
  bytes = flat_map line_of (Head ∷ Terms o ∷ up.front.entries) ++ up.other.stands;
  taken = chain old up.middle new (flat_map line_of (Head ∷ Terms o ∷ up.front.entries)) up.other.stands (opened o up.front.entries old mid up.middle head up.front.taken) up.other.taken;
  bad = record {
    before = fresh o;
    fresh = (refl, refl, refl, refl, refl, refl, refl, refl);
    entries = Head ∷ Terms o ∷ up.front.entries;
    after = up.after;
    lead = (refl, ((refl, law, told), subst (λ (x : Draft). Leads x up.front.entries up.after) start up.front.lead));
    going = up.going;
    number = omega (arith, up.number);
    stands = up.other.stands;
    parts = refl;
    end = up.other.end;
    is_line = up.other.is_line;
    none = up.other.other;
  };
}

pub break_lists : (o : Options) (d : Draft) (old mid new : Option (List ℕ)) → d ≡ begun o → IsLawful o → told_options o ≡ o
    → old ≡ behind (line_of Head ++ line_of (Terms o)) mid → BreaksFrom d mid new → TakesBreak old new
break_lists o d old mid new start law told head off = record {
  bytes = flat_map line_of (Head ∷ Terms o ∷ off.front.entries) ++ off.broke.given;
  taken = chain old off.middle new (flat_map line_of (Head ∷ Terms o ∷ off.front.entries)) off.broke.given (opened o off.front.entries old mid off.middle head off.front.taken) off.broke.taken;
  breaks = record {
    before = fresh o;
    fresh = (refl, refl, refl, refl, refl, refl, refl, refl);
    entries = Head ∷ Terms o ∷ off.front.entries;
    after = off.after;
    lead = (refl, ((refl, law, told), subst (λ (x : Draft). Leads x off.front.entries off.after) start off.front.lead));
    going = off.going;
    stands = off.broke.given;
    parts = refl;
    unended = off.broke.unended;
    short = off.broke.short;
  };
}

told_is : (r : Reading) → told_by r.journal ≡ content_of r.journal
unfolding content_of with_journal
told_is r = refl

pub whole_journal : (o : Options) (d : Draft) (r : Reading) (old mid new : Option (List ℕ)) → d ≡ begun o → IsLawful o → told_options o ≡ o
    → old ≡ behind (line_of Head ++ line_of (Terms o)) mid → r.place ≡ Complete → TakesEntries d (draft_of r) mid new → TakesJournal old new (content_of r.journal)
whole_journal o d r old mid new start law told head at took = record {
  text = flat_map line_of (Head ∷ Terms o ∷ took.entries);
  taken = opened o took.entries old mid new head took.taken;
  journal = record {
    before = fresh o;
    fresh = (refl, refl, refl, refl, refl, refl, refl, refl);
    entries = Head ∷ Terms o ∷ took.entries;
    after = draft_of r;
    lead = (refl, ((refl, law, told), subst (λ (x : Draft). Leads x took.entries (draft_of r)) start took.lead));
    ended = ap stage_of at;
    told = told_is r;
    lines = refl;
  };
}

-- what the lists tell is complete
judged_for : (o : Options) (a : Answer) → HasLengths (record o { journal = true }) (parts_of a) → CanBeJudged o a
unfolding parts_of
judged_for o a fits = record { fits = record { front = fits.front; shown = fits.shown }; short = fits.small }

judged_all : (o : Options) (answers : List Answer) → All (HasLengths (record o { journal = true })) (map parts_of answers) → All (CanBeJudged o) answers
judged_all o [] all = λ k d lt. absurd (omega (arith, lt))
judged_all o (a ∷ rest) all =
    All-cons (CanBeJudged o) a rest (judged_for o a (All-head (HasLengths (record o { journal = true })) (parts_of a) (map parts_of rest) all))
    (judged_all o rest (All-tail (HasLengths (record o { journal = true })) (parts_of a) (map parts_of rest) all))

lawful_for : (o : Options) → IsLawful (record o { journal = true }) → IsLawful o
lawful_for o law = record {
  shape = law.shape;
  some_workers = law.some_workers;
  workers = law.workers;
  some_threshold = law.some_threshold;
  threshold = law.threshold;
  some_lane = law.some_lane;
  lane = law.lane;
  some_batch = law.some_batch;
  batch = law.batch;
  some_round = law.some_round;
  round = law.round;
  readers = law.readers;
  asks = law.asks;
  watch = law.watch;
  distinct = law.distinct;
  some_heavy = law.some_heavy;
  heavy = law.heavy;
  some_least = law.some_least;
  least = law.least;
  suits = law.suits;
}

-- it is the one of a whole journal
module _ (r : Reading) (proper : IsProper (draft_of r)) (at : r.place ≡ Complete) where
  abbrev j : Journal
  j = r.journal

  pushes_all : length j.lists.pushes.items ≡ j.options.workers
  pushes_all = elim proper.staged [ inl a ↦ absurd (not_both (stage_of r.place) Listing Ended a (ap stage_of at) (omega arith)) | inr b ↦ b.0 ]

  refused_all : length j.lists.refused.items ≡ j.options.workers
  refused_all = sym (length-map j.lists.refused.items marked) ∙ proper.refused_len ∙ pushes_all

  judged : All (CanBeJudged j.options) j.lists.answers.items
  judged = judged_all j.options j.lists.answers.items proper.answers_fit

  pub complete_journal : IsComplete j
  complete_journal = record {
    lawful = lawful_for j.options proper.lawful;
    refused_len = refused_all;
    pushes_len = pushes_all;
    answers_fit = λ k d lt. (judged k d lt).fits;
  }

  -- the answers stand in order
  pub places_journal : places_of (map parts_of j.lists.answers.items) ≡ places_by j.options.readers j.options.asks
  places_journal = elim proper.staged [
    | inl a ↦ absurd (not_both (stage_of r.place) Listing Ended a (ap stage_of at) (omega arith))
    | inr b ↦ proper.places ∙ ap (λ (n : ℕ). map (λ place. (place / j.options.asks, place % j.options.asks)) (range_with_len 0 n)) b.1
        ∙ all_places j.options.readers j.options.asks
  ]

  -- and it can be judged
  pub readable_journal : All (λ bits. length bits ≡ 2 ^ 27) j.lists.refused.items → IsReadable j
  readable_journal bits = record {
    lawful = lawful_for j.options proper.lawful;
    short = record {
      watched = proper.lawful.watch;
      workers = omega (arith, refused_all, proper.lawful.workers);
      refused = λ k d lt. omega (arith, bits k d lt);
    };
    workers = record { refused = refused_all; pushes = pushes_all };
    pushes = λ k d lt. omega (arith, proper.sent k d lt);
    places = places_journal;
    answers = judged;
    live = proper.live;
  }

-- what is read is proper at the start
pub begun_proper : (o : Options) → IsLawful o → IsProper (begun o)
begun_proper o law = record {
  lawful = law;
  pushes = omega arith;
  sent = λ k d lt. absurd (omega (arith, lt));
  refused_len = refl;
  refused = omega arith;
  due = omega arith;
  least = omega arith;
  early = λ _. (refl, refl);
  answers = omega arith;
  answers_fit = λ k d lt. absurd (omega (arith, lt));
  places = refl;
  live = omega arith;
  staged = inl refl;
}
