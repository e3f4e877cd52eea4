-- One text is that of one journal at most.
use Rattle.std.proofs.Common.{◌≡◌, ◌∙◌, ℕ, ◌<◌, List, [], ◌∷◌, ◌++◌, refl, sym, ap, ap₂, subst, arith, append_assoc}
use Rattle.std.specs.List.{flat_map}
use Rattle.packet_key.specs.declared.key.FlowKey.{FlowKey}
use Rattle.hash_rows.specs.declared.options.Options.{Options}
use Rattle.push_history.specs.Answers.{AnswerParts}
use Rattle.push_history.specs.Journal.{Journal}
use Rattle.journal_read.specs.Drafts.{Draft, Stage, MayFollow, HasToldWorkers, read_on, with_watched, Nothing, Titled, Listing, Counted, Ended}
use Rattle.journal_read.specs.Entries.{Entry, line_of, Head, Terms, Watched, Worker, Run, Answered, Live, Missed, End}
use Rattle.journal_read.specs.Reading.{Leads, IsFresh, IsJournal}
use Rattle.journal_whole.proofs.Judging.{rank, not_both}
use Rattle.journal_whole.proofs.OneNext.{one_line}

-- the same but for the options and the number of missed messages, which drafts of nothing may have of any kind
abbrev pub beside : Draft → Options → ℕ → Draft
beside d o m = record d { told = record d.told { options = o; missed = m } }

-- they are those of the draft once their lines are read
pub record IsSettled (d : Draft) (o : Options) (m : ℕ) : Type 0 where
  pub options : 1 < rank d.stage → o ≡ d.told.options
  pub missed : 2 < rank d.stage → m ≡ d.told.missed

-- what they are behind a line
abbrev pub options_on : Options → Entry → Options
options_on o Head = o
options_on o (Terms p) = p
options_on o (Watched k) = with_watched o k
options_on o (Worker w p r) = o
options_on o (Run w a b) = o
options_on o (Answered a) = o
options_on o (Live k) = o
options_on o (Missed n) = o
options_on o End = o

abbrev pub missed_on : ℕ → Entry → ℕ
missed_on m Head = m
missed_on m (Terms p) = m
missed_on m (Watched k) = m
missed_on m (Worker w p r) = m
missed_on m (Run w a b) = m
missed_on m (Answered a) = m
missed_on m (Live k) = m
missed_on m (Missed n) = n
missed_on m End = m

pub read_beside : (d : Draft) (o : Options) (m : ℕ) (e : Entry) → read_on (beside d o m) e ≡ beside (read_on d e) (options_on o e) (missed_on m e)
read_beside d o m Head = refl
read_beside d o m (Terms p) = refl
read_beside d o m (Watched k) = refl
read_beside d o m (Worker w p r) = refl
read_beside d o m (Run w a b) = refl
read_beside d o m (Answered a) = refl
read_beside d o m (Live k) = refl
read_beside d o m (Missed n) = refl
read_beside d o m End = refl

-- the options of a draft whose lists are read
listed : (d : Draft) (o : Options) (m : ℕ) → IsSettled d o m → d.stage ≡ Listing → o ≡ d.told.options
listed d o m settled at = settled.options (omega (arith, ap rank at))

workers_so : (d : Draft) (m : ℕ) → HasToldWorkers (beside d d.told.options m) → HasToldWorkers d
workers_so d m has = record { listing = has.listing; workers = has.workers; due = has.due }

pub may_beside : (d : Draft) (o : Options) (m : ℕ) (e : Entry) → IsSettled d o m → MayFollow (beside d o m) e → MayFollow d e
may_beside d o m Head settled may = may
may_beside d o m (Terms p) settled may = may
may_beside d o m (Watched k) settled may = subst (λ (p : Options). MayFollow (beside d p m) (Watched k)) (listed d o m settled may.0) may
may_beside d o m (Worker w p r) settled may = subst (λ (q : Options). MayFollow (beside d q m) (Worker w p r)) (listed d o m settled may.0) may
may_beside d o m (Run w a b) settled may = may
may_beside d o m (Answered a) settled may =
    let same = subst (λ (p : Options). MayFollow (beside d p m) (Answered a)) (listed d o m settled may.0.listing) may in
    (workers_so d m same.0, same.1, same.2)
may_beside d o m (Live k) settled may =
    let same = subst (λ (p : Options). MayFollow (beside d p m) (Live k)) (listed d o m settled may.0.listing) may in
    (workers_so d m same.0, same.1, same.2, same.3)
may_beside d o m (Missed n) settled may =
    let same = subst (λ (p : Options). MayFollow (beside d p m) (Missed n)) (listed d o m settled may.0.listing) may in
    (workers_so d m same.0, same.1, same.2)
may_beside d o m End settled may = may

pub settled_on : (d : Draft) (o : Options) (m : ℕ) (e : Entry) → MayFollow d e → IsSettled d o m → IsSettled (read_on d e) (options_on o e) (missed_on m e)
settled_on d o m Head may settled = record { options = λ late. absurd (omega (arith, late)); missed = λ late. absurd (omega (arith, late)) }
settled_on d o m (Terms p) may settled = record { options = λ late. refl; missed = λ late. absurd (omega (arith, late)) }
settled_on d o m (Watched k) may settled = record { options = λ late. ap (λ (p : Options). with_watched p k) (settled.options late); missed = settled.missed }
settled_on d o m (Worker w p r) may settled = record { options = settled.options; missed = settled.missed }
settled_on d o m (Run w a b) may settled = record { options = settled.options; missed = settled.missed }
settled_on d o m (Answered a) may settled = record { options = settled.options; missed = settled.missed }
settled_on d o m (Live k) may settled = record { options = settled.options; missed = settled.missed }
settled_on d o m (Missed n) may settled = record { options = λ late. listed d o m settled may.0.listing; missed = λ late. refl }
settled_on d o m End may settled = record {
  options = λ late. settled.options (omega (arith, ap rank may));
  missed = λ late. settled.missed (omega (arith, ap rank may));
}

-- nothing comes behind the last line
pub none_behind : (d : Draft) (e : Entry) → d.stage ≡ Ended → MayFollow d e → ⊥
none_behind d Head at may = not_both d.stage Nothing Ended may at (omega arith)
none_behind d (Terms o) at may = not_both d.stage Titled Ended may.0 at (omega arith)
none_behind d (Watched k) at may = not_both d.stage Listing Ended may.0 at (omega arith)
none_behind d (Worker w p r) at may = not_both d.stage Listing Ended may.0 at (omega arith)
none_behind d (Run w a b) at may = not_both d.stage Listing Ended may.0 at (omega arith)
none_behind d (Answered a) at may = not_both d.stage Listing Ended may.0.listing at (omega arith)
none_behind d (Live k) at may = not_both d.stage Listing Ended may.0.listing at (omega arith)
none_behind d (Missed n) at may = not_both d.stage Listing Ended may.0.listing at (omega arith)
none_behind d End at may = not_both d.stage Counted Ended may at (omega arith)

-- all is settled at the end
ended_same : (d : Draft) (o : Options) (m : ℕ) → IsSettled d o m → d.stage ≡ Ended → beside d o m ≡ d
ended_same d o m settled at =
    ap₂ (λ (p : Options) (n : ℕ). beside d p n) (settled.options (omega (arith, ap rank at))) (settled.missed (omega (arith, ap rank at)))

-- the lines behind the first of each are the same text
pub behind_first : (e f : Entry) (es fs : List Entry) (x y : List ℕ) → flat_map line_of (e ∷ es) ++ x ≡ flat_map line_of (f ∷ fs) ++ y
    → line_of e ++ (flat_map line_of es ++ x) ≡ line_of f ++ (flat_map line_of fs ++ y)
behind_first e f es fs x y is = sym (append_assoc (line_of e) (flat_map line_of es) x) ∙ is ∙ append_assoc (line_of f) (flat_map line_of fs) y

-- the line that was read is the same, and so are the drafts but for what isn't told yet
pub leads_beside : (d : Draft) (o : Options) (m : ℕ) (e f : Entry) (fs : List Entry) (after : Draft) → e ≡ f → Leads (read_on (beside d o m) f) fs after
    → Leads (beside (read_on d e) (options_on o e) (missed_on m e)) fs after
leads_beside d o m e f fs after same lead =
    subst (λ (x : Draft). Leads x fs after) (ap (read_on (beside d o m)) (sym same) ∙ read_beside d o m e) lead

-- lines that lead to the end, at the front of one text, lead to one draft
pub one_end : (d : Draft) (o : Options) (m : ℕ) (es fs : List Entry) (a b : Draft) (x y : List ℕ) → IsSettled d o m → Leads d es a → Leads (beside d o m) fs b
    → a.stage ≡ Ended → b.stage ≡ Ended → flat_map line_of es ++ x ≡ flat_map line_of fs ++ y → (a ≡ b) × (x ≡ y)
one_end d o m [] [] a b x y settled lead₁ lead₂ ended₁ ended₂ is =
    let at : d.stage ≡ Ended = ap (λ (z : Draft). z.stage) lead₁ ∙ ended₁ in
    (sym lead₁ ∙ sym (ended_same d o m settled at) ∙ lead₂, is)
one_end d o m [] (f ∷ fs) a b x y settled lead₁ lead₂ ended₁ ended₂ is =
    absurd (none_behind d f (ap (λ (z : Draft). z.stage) lead₁ ∙ ended₁) (may_beside d o m f settled lead₂.0))
one_end d o m (e ∷ es) [] a b x y settled lead₁ lead₂ ended₁ ended₂ is =
    absurd (none_behind d e (ap (λ (z : Draft). z.stage) lead₂ ∙ ended₂) lead₁.0)
one_end d o m (e ∷ es) (f ∷ fs) a b x y settled lead₁ lead₂ ended₁ ended₂ is =
    let first = one_line d e f (flat_map line_of es ++ x) (flat_map line_of fs ++ y) lead₁.0 (may_beside d o m f settled lead₂.0) (behind_first e f es fs x y is) in
    one_end (read_on d e) (options_on o e) (missed_on m e) es fs a b x y (settled_on d o m e lead₁.0 settled) lead₁.1
    (leads_beside d o m e f fs b first.0 lead₂.1) ended₁ ended₂ first.1

-- a draft of nothing
abbrev blank : Options → ℕ → Draft
blank o m = record {
  stage = Nothing;
  told = record { options = o; refused = []; pushes = []; answers = []; live = []; missed = m };
  refused = 0;
  due = 0;
  least = 0;
}

fresh_is : (d : Draft) → IsFresh d → d ≡ blank d.told.options d.told.missed
fresh_is d fresh =
    ap₂ (λ (s : Stage) (rs : List (List ℕ)). record { stage = s; told = record d.told { refused = rs }; refused = d.refused; due = d.due; least = d.least }) fresh.0 fresh.1
    ∙ ap₂ (λ (ps : List ℕ) (n : ℕ). record { stage = Nothing; told = record d.told { refused = []; pushes = ps }; refused = n; due = d.due; least = d.least }) fresh.2 fresh.5
    ∙ ap₂ (λ (qs : List AnswerParts) (n : ℕ). record { stage = Nothing; told = record d.told { refused = []; pushes = []; answers = qs }; refused = 0; due = n; least = d.least }) fresh.3 fresh.6
    ∙ ap₂ (λ (ks : List FlowKey) (n : ℕ). record { stage = Nothing; told = record d.told { refused = []; pushes = []; answers = []; live = ks }; refused = 0; due = 0; least = n }) fresh.4 fresh.7

pub fresh_beside : (d e : Draft) → IsFresh d → IsFresh e → e ≡ beside d e.told.options e.told.missed
fresh_beside d e fresh₁ fresh₂ = fresh_is e fresh₂ ∙ sym (ap (λ (z : Draft). beside z e.told.options e.told.missed) (fresh_is d fresh₁))

pub fresh_settled : (d : Draft) (o : Options) (m : ℕ) → IsFresh d → IsSettled d o m
fresh_settled d o m fresh = record {
  options = λ late. absurd (omega (arith, late, ap rank fresh.0));
  missed = λ late. absurd (omega (arith, late, ap rank fresh.0));
}

-- journals at the front of one text are one, and the same is left behind them
pub one_front : (s t x y : List ℕ) (c d : Journal) → IsJournal s c → IsJournal t d → s ++ x ≡ t ++ y → (c ≡ d) × (x ≡ y)
one_front s t x y c d j k is =
    let o = k.before.told.options in
    let m = k.before.told.missed in
    let lead : Leads (beside j.before o m) k.entries k.after =
    subst (λ (z : Draft). Leads z k.entries k.after) (fresh_beside j.before k.before j.fresh k.fresh) k.lead in
    let ends = one_end j.before o m j.entries k.entries j.after k.after x y (fresh_settled j.before o m j.fresh) j.lead lead j.ended k.ended
    (ap (λ (u : List ℕ). u ++ x) (sym j.lines) ∙ is ∙ ap (λ (u : List ℕ). u ++ y) k.lines) in
    (sym j.told ∙ ap (λ (z : Draft). z.told) ends.0 ∙ k.told, ends.1)

pub one_journal : (text : List ℕ) (c d : Journal) → IsJournal text c → IsJournal text d → c ≡ d
one_journal text c d j k = (one_front text text [] [] c d j k refl).0
