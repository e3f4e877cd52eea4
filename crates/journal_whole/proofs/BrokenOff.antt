-- Bytes that break off have neither a journal nor a bad line in them.
use Rattle.std.proofs.Common.{◌≡◌, ◌≢◌, ◌∙◌, ℕ, ◌+◌, ◌<◌, List, [], ◌∷◌, ◌++◌, Option, Some, refl, sym, ap, subst, arith, length, length-append, append_assoc}
use Rattle.std.specs.List.{flat_map}
use Rattle.std.proofs.lemmas.List.{append-nil}
use Rattle.flow_base.specs.LinesRead.{IsLine, HasNoFeed}
use Rattle.flow_base.specs.declared.lines.LineEnd.{LineEnd}
use Rattle.flow_base.specs.declared.lines.LineEnd.TheVariants.{Whole, Long, Unfinished}
use Rattle.hash_rows.specs.declared.options.Options.{Options}
use Rattle.push_history.specs.Journal.{Journal}
use Rattle.journal_read.specs.Drafts.{Draft, MayFollow, read_on}
use Rattle.journal_read.specs.Entries.{Entry, line_of}
use Rattle.journal_read.specs.Reading.{Leads, IsJournal, IsBadLine, BreaksOff, HoldsBadLine}
use Rattle.journal_whole.proofs.LineEnds.{HasEnd}
use Rattle.journal_whole.proofs.NoBadLine.{IsSound, sound_on, end_of, feed_within, read_there, fresh_sound, no_bad_line}
use Rattle.journal_whole.proofs.OneJournal.{beside, IsSettled, options_on, missed_on, may_beside, settled_on, behind_first, leads_beside, fresh_beside, fresh_settled}
use Rattle.journal_whole.proofs.OneNext.{one_line}

-- a line feed in bytes that have none
no_feed : (body rest stands : List ℕ) → HasNoFeed stands → body ++ (10 ∷ rest) ≡ stands → ⊥
no_feed body rest stands clear is =
    feed_within body stands rest [] clear (omega (arith, ap length is, length-append body (10 ∷ rest))) (is ∙ sym (append-nil stands))

-- and a line of an entry in them
no_line : (line rest stands : List ℕ) → HasEnd line → HasNoFeed stands → line ++ rest ≡ stands → ⊥
no_line line rest stands has clear is =
    no_feed has.body rest stands clear (sym (append_assoc has.body (10 ∷ []) rest) ∙ ap (λ (t : List ℕ). t ++ rest) (sym has.is) ∙ is)

leads_sound : (d a : Draft) (es : List Entry) → IsSound d → Leads d es a → IsSound a
leads_sound d a [] sound lead = subst IsSound lead sound
leads_sound d a (e ∷ es) sound lead = leads_sound (read_on d e) a es (sound_on d e lead.0 sound) lead.1

-- were the input to end behind them, the line that is begun would be a bad one
begun_bad : (given : List ℕ) (b : BreaksOff given) → IsBadLine given (Some []) (length b.entries + 1)
begun_bad given b = record {
  before = b.before;
  fresh = b.fresh;
  entries = b.entries;
  after = b.after;
  lead = b.lead;
  going = b.going;
  number = refl;
  stands = b.stands;
  parts = b.parts;
  end = Unfinished;
  is_line = (b.short, b.unended, refl);
  none = λ e may same.
      no_line (line_of e) [] b.stands (end_of b.after e (leads_sound b.before b.after b.entries (fresh_sound b.before b.fresh) b.lead) may) b.unended
      (append-nil (line_of e) ∙ sym same);
}

pub no_journal : (text more : List ℕ) (c : Journal) → BreaksOff (text ++ more) → IsJournal text c → ⊥
no_journal text more c b j = no_bad_line text more (Some []) c (length b.entries + 1) j (begun_bad (text ++ more) b)

-- a line that has ended doesn't depend on what is left
ended_line : (left : Option (List ℕ)) (stands y : List ℕ) (end : LineEnd) → (end ≢ Unfinished) → IsLine left stands end → IsLine (Some y) stands end
ended_line left stands y Whole ended at = at
ended_line left stands y Long ended at = at
ended_line left stands y Unfinished ended at = absurd (ended refl)

-- and doesn't stand in fewer bytes that have no line feed
not_ended : (stands tail broken : List ℕ) (end : LineEnd) → (end ≢ Unfinished) → IsLine (Some tail) stands end → HasNoFeed broken → length broken < 1024
    → stands ++ tail ≡ broken → ⊥
not_ended stands tail broken Whole ended at clear few is =
    no_feed at.0 tail broken clear (sym (append_assoc at.0 (10 ∷ []) tail) ∙ ap (λ (t : List ℕ). t ++ tail) (sym at.1) ∙ is)
not_ended stands tail broken Long ended at clear few is = omega (arith, at.0, few, ap length is, length-append stands tail)
not_ended stands tail broken Unfinished ended at clear few is = ended refl

not_held : (d : Draft) (o : Options) (m : ℕ) (es fs : List Entry) (a b : Draft) (s tail t : List ℕ) (end : LineEnd) → IsSettled d o m → IsSound d
    → Leads d es a → Leads (beside d o m) fs b → (end ≢ Unfinished) → IsLine (Some tail) s end → ((e : Entry) → MayFollow a e → s ≢ line_of e)
    → HasNoFeed t → length t < 1024 → flat_map line_of es ++ (s ++ tail) ≡ flat_map line_of fs ++ t → ⊥
not_held d o m [] [] a b s tail t end settled sound lead₁ lead₂ ended at none clear few is = not_ended s tail t end ended at clear few is
not_held d o m [] (f ∷ fs) a b s tail t end settled sound lead₁ lead₂ ended at none clear few is =
    let may = may_beside d o m f settled lead₂.0 in
    none f (subst (λ (z : Draft). MayFollow z f) lead₁ may)
    (read_there (line_of f) s (flat_map line_of fs ++ t) tail end (end_of d f sound may) at
    (sym (is ∙ append_assoc (line_of f) (flat_map line_of fs) t)))
not_held d o m (e ∷ es) [] a b s tail t end settled sound lead₁ lead₂ ended at none clear few is =
    no_line (line_of e) (flat_map line_of es ++ (s ++ tail)) t (end_of d e sound lead₁.0) clear
    (sym (append_assoc (line_of e) (flat_map line_of es) (s ++ tail)) ∙ is)
not_held d o m (e ∷ es) (f ∷ fs) a b s tail t end settled sound lead₁ lead₂ ended at none clear few is =
    let first = one_line d e f (flat_map line_of es ++ (s ++ tail)) (flat_map line_of fs ++ t) lead₁.0 (may_beside d o m f settled lead₂.0)
    (behind_first e f es fs (s ++ tail) t is) in
    not_held (read_on d e) (options_on o e) (missed_on m e) es fs a b s tail t end (settled_on d o m e lead₁.0 settled) (sound_on d e lead₁.0 sound)
    lead₁.1 (leads_beside d o m e f fs b first.0 lead₂.1) ended at none clear few first.1

pub no_ended : (bytes tail : List ℕ) (left : Option (List ℕ)) (line : ℕ) → BreaksOff (bytes ++ tail) → (bad : IsBadLine bytes left line) → bad.end ≢ Unfinished → ⊥
no_ended bytes tail left line b bad ended =
    let o = b.before.told.options in
    let m = b.before.told.missed in
    let lead : Leads (beside bad.before o m) b.entries b.after =
    subst (λ (z : Draft). Leads z b.entries b.after) (fresh_beside bad.before b.before bad.fresh b.fresh) b.lead in
    not_held bad.before o m bad.entries b.entries bad.after b.after bad.stands tail b.stands bad.end (fresh_settled bad.before o m bad.fresh)
    (fresh_sound bad.before bad.fresh) bad.lead lead ended (ended_line left bad.stands tail bad.end ended bad.is_line) bad.none b.unended b.short
    (sym (append_assoc (flat_map line_of bad.entries) bad.stands tail) ∙ ap (λ (u : List ℕ). u ++ tail) (sym bad.parts) ∙ b.parts)

-- with a byte left, a line has ended
some_left : (tail rest stands : List ℕ) (next : ℕ) (end : LineEnd) → IsLine (Some (tail ++ next ∷ rest)) stands end → end ≢ Unfinished
some_left tail rest stands next Whole at same = absurd (cc same)
some_left tail rest stands next Long at same = absurd (cc same)
some_left tail rest stands next Unfinished at same = omega (arith, ap length at.2, length-append tail (next ∷ rest))

pub no_line_held : (given rest : List ℕ) (next line : ℕ) → BreaksOff given → HoldsBadLine given (next ∷ rest) line → ⊥
no_line_held given rest next line b held =
    let bytes = held.0 in
    let tail = held.1 in
    let bad = held.3 in
    no_ended bytes tail (Some (tail ++ next ∷ rest)) line (subst BreaksOff held.2 b) bad (some_left tail rest bad.stands next bad.end bad.is_line)
