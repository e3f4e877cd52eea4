-- No bytes begin with a journal and have a bad line too, and one bad line at most.
use Rattle.std.proofs.Common.{◌≡◌, ◌≢◌, ◌∙◌, ℕ, suc, ◌+◌, ◌<◌, ◌≤◌, List, [], ◌∷◌, ◌++◌, Option, None, Some, refl, sym, ap, subst, arith, append_assoc, length, length-append}
use Rattle.std.specs.List.{flat_map}
use Rattle.std.proofs.Math.Nat.{div-le_self, mod-le}
use Rattle.std.proofs.lemmas.List.{append-nil}
use Rattle.std.proofs.lemmas.List.Elements.{All-head, All-tail}
use Rattle.flow_base.specs.Flow.{behind}
use Rattle.flow_base.specs.LinesRead.{IsLine, HasNoFeed}
use Rattle.flow_base.specs.declared.lines.LineEnd.{LineEnd}
use Rattle.flow_base.specs.declared.lines.LineEnd.TheVariants.{Whole, Long, Unfinished}
use Rattle.packet_key.specs.declared.key.FlowKey.{FlowKey}
use Rattle.hash_rows.specs.declared.options.Options.{Options}
use Rattle.hash_rows.specs.declared.options.Sketch.{Sketch}
use Rattle.hash_rows.specs.declared.options.Sketch.TheVariants.{CountMin, CountSketch, LogLog}
use Rattle.hash_rows.specs.Lawful.{IsLawful}
use Rattle.push_history.specs.Journal.{Journal, asked_keys}
use Rattle.journal_read.specs.Drafts.{Draft, MayFollow, read_on, Listing, Ended}
use Rattle.journal_read.specs.Entries.{Entry, line_of, Head, Terms, Watched, Worker, Run, Answered, Live, Missed, End}
use Rattle.journal_read.specs.Reading.{Leads, IsFresh, IsJournal, IsBadLine}
use Rattle.journal_whole.specs.Taken.{TakesJournal, TakesBadLine}
use Rattle.journal_whole.proofs.Cuts.{feed_cut}
use Rattle.journal_whole.proofs.Judging.{rank}
use Rattle.journal_whole.proofs.LineEnds.{HasEnd, head_end, last_end, worker_end, run_end, missed_end, answer_end}
use Rattle.journal_whole.proofs.OneJournal.{beside, IsSettled, options_on, missed_on, may_beside, settled_on, none_behind, behind_first, leads_beside, fresh_beside, fresh_settled, one_front}
use Rattle.journal_whole.proofs.OneNext.{one_line}
use Rattle.journal_whole.proofs.Proper.{lawful_more}
use Rattle.journal_whole.proofs.Weights.{product_most}
use Rattle.journal_whole.proofs.WordEnds.{watched_end, live_end, options_end}

-- the options that are read are lawful, and few workers are told of
pub record IsSound (d : Draft) : Type 0 where
  pub lawful : 1 < rank d.stage → IsLawful d.told.options
  pub pushes : length d.told.pushes ≤ 16

-- once the lists are read
law_at : (d : Draft) → IsSound d → d.stage ≡ Listing → IsLawful d.told.options
law_at d sound at = sound.lawful (omega (arith, ap rank at))

pub sound_on : (d : Draft) (e : Entry) → MayFollow d e → IsSound d → IsSound (read_on d e)
sound_on d Head may sound = record { lawful = λ late. absurd (omega (arith, late)); pushes = sound.pushes }
sound_on d (Terms o) may sound = record { lawful = λ late. may.1; pushes = sound.pushes }
sound_on d (Watched k) may sound = record { lawful = λ late. lawful_more d.told.options k (law_at d sound may.0) may.3 may.4 may.5; pushes = sound.pushes }
sound_on d (Worker w p r) may sound =
    let law = law_at d sound may.0 in
    record { lawful = λ late. law; pushes = omega (arith, may.2, may.3, law.workers, length-append d.told.pushes (p ∷ [])) }
sound_on d (Run w a b) may sound = record { lawful = sound.lawful; pushes = sound.pushes }
sound_on d (Answered a) may sound = record { lawful = sound.lawful; pushes = sound.pushes }
sound_on d (Live k) may sound = record { lawful = sound.lawful; pushes = sound.pushes }
sound_on d (Missed n) may sound = record { lawful = λ late. law_at d sound may.0.listing; pushes = sound.pushes }
sound_on d End may sound = record { lawful = λ late. sound.lawful (omega (arith, ap rank may)); pushes = sound.pushes }

few_asked : (sketch : Sketch) (watched : List FlowKey) → length watched ≤ 16 → length (asked_keys sketch watched) ≤ 16
few_asked CountMin watched few = few
few_asked CountSketch watched few = few
few_asked LogLog watched few = omega arith

-- the line of each entry ends with its one line feed
pub end_of : (d : Draft) (e : Entry) → IsSound d → MayFollow d e → HasEnd (line_of e)
end_of d Head sound may = head_end
end_of d (Terms o) sound may = options_end o may.1
end_of d (Watched k) sound may = watched_end k may.2
end_of d (Worker w p r) sound may =
    let law = law_at d sound may.0 in
    worker_end w p r (omega (arith, may.3, law.workers)) (omega (arith, may.4)) (omega (arith, may.5))
end_of d (Run w a b) sound may =
    run_end w a b (omega (arith, may.1, sound.pushes)) (omega (arith, may.3, may.4)) (omega (arith, may.4))
end_of d (Answered a) sound may =
    let o = d.told.options in
    let place = length d.told.answers in
    let law = law_at d sound may.0.listing in
    let at = may.2 in
    let few = product_most o.readers o.asks law.readers law.asks in
    let keys = few_asked o.sketch o.watch.items law.watch in
    answer_end a
    (omega (arith, at.reader, div-le_self place o.asks, may.1, few))
    (omega (arith, at.number, mod-le place o.asks, may.1, few))
    at.folded at.front at.shown (omega (arith, at.front_len, law.workers)) (omega (arith, at.shown_len, keys))
end_of d (Live k) sound may = live_end k may.2
end_of d (Missed n) sound may = missed_end n may.2
end_of d End sound may = last_end

-- a line feed within bytes that have none
pub feed_within : (xs ys x y : List ℕ) → HasNoFeed ys → length xs < length ys → xs ++ (10 ∷ x) ≡ ys ++ y → ⊥
feed_within [] [] x y clear lt is = omega (arith, lt)
feed_within [] (c ∷ ys) x y clear lt is = All-head (λ b. b ≢ 10) c ys clear (cc is)
feed_within (b ∷ xs) [] x y clear lt is = omega (arith, lt)
feed_within (b ∷ xs) (c ∷ ys) x y clear lt is = feed_within xs ys x y (All-tail (λ b. b ≢ 10) c ys clear) (omega (arith, lt)) (cc is)

-- a line that stands at the front is the one that is read there
pub read_there : (line stands rest y : List ℕ) (end : LineEnd) → HasEnd line → IsLine (Some y) stands end → line ++ rest ≡ stands ++ y → stands ≡ line
read_there line stands rest y Whole has at is =
    let cut = feed_cut has.body at.0 rest y has.piece.clear at.2
    (sym (append_assoc has.body (10 ∷ []) rest) ∙ ap (λ (t : List ℕ). t ++ rest) (sym has.is) ∙ is ∙ ap (λ (t : List ℕ). t ++ y) at.1 ∙ append_assoc at.0 (10 ∷ []) y) in
    at.1 ∙ ap (λ (t : List ℕ). t ++ 10 ∷ []) (sym cut.0) ∙ sym has.is
read_there line stands rest y Long has at is =
    absurd (feed_within has.body stands rest y at.1 (omega (arith, at.0, has.piece.most))
    (sym (append_assoc has.body (10 ∷ []) rest) ∙ ap (λ (t : List ℕ). t ++ rest) (sym has.is) ∙ is))
read_there line stands rest y Unfinished has at is =
    let whole = sym (append_assoc has.body (10 ∷ []) rest) ∙ ap (λ (t : List ℕ). t ++ rest) (sym has.is) ∙ is in
    absurd (feed_within has.body stands rest y at.1
    (omega (arith, ap length whole, length-append has.body (10 ∷ rest), length-append stands y, ap length at.2)) whole)

-- what may come next, seen from the other draft
may_there : (d : Draft) (o : Options) (m : ℕ) (e : Entry) → IsSettled d o m → MayFollow d e → MayFollow (beside d o m) e
may_there d o m e settled may =
    may_beside (beside d o m) d.told.options d.told.missed e
    (record { options = λ late. sym (settled.options late); missed = λ late. sym (settled.missed late) }) may

not_both_read : (d : Draft) (o : Options) (m : ℕ) (es fs : List Entry) (a b : Draft) (x y stands : List ℕ) (end : LineEnd) → IsSettled d o m → IsSound d
    → Leads d es a → Leads (beside d o m) fs b → a.stage ≡ Ended → b.stage ≢ Ended → IsLine (Some y) stands end
    → ((e : Entry) → MayFollow b e → stands ≢ line_of e) → flat_map line_of es ++ x ≡ flat_map line_of fs ++ (stands ++ y) → ⊥
not_both_read d o m [] [] a b x y stands end settled sound lead₁ lead₂ ended going at none is =
    going (ap (λ (z : Draft). z.stage) (sym lead₂) ∙ ap (λ (z : Draft). z.stage) lead₁ ∙ ended)
not_both_read d o m [] (f ∷ fs) a b x y stands end settled sound lead₁ lead₂ ended going at none is =
    none_behind d f (ap (λ (z : Draft). z.stage) lead₁ ∙ ended) (may_beside d o m f settled lead₂.0)
not_both_read d o m (e ∷ es) [] a b x y stands end settled sound lead₁ lead₂ ended going at none is =
    none e (subst (λ (z : Draft). MayFollow z e) lead₂ (may_there d o m e settled lead₁.0))
    (read_there (line_of e) stands (flat_map line_of es ++ x) y end (end_of d e sound lead₁.0) at
    (sym (append_assoc (line_of e) (flat_map line_of es) x) ∙ is))
not_both_read d o m (e ∷ es) (f ∷ fs) a b x y stands end settled sound lead₁ lead₂ ended going at none is =
    let first = one_line d e f (flat_map line_of es ++ x) (flat_map line_of fs ++ (stands ++ y)) lead₁.0 (may_beside d o m f settled lead₂.0)
    (behind_first e f es fs x (stands ++ y) is) in
    not_both_read (read_on d e) (options_on o e) (missed_on m e) es fs a b x y stands end (settled_on d o m e lead₁.0 settled) (sound_on d e lead₁.0 sound)
    lead₁.1 (leads_beside d o m e f fs b first.0 lead₂.1) ended going at none first.1

pub fresh_sound : (d : Draft) → IsFresh d → IsSound d
fresh_sound d fresh = record { lawful = λ late. absurd (omega (arith, late, ap rank fresh.0)); pushes = omega (arith, ap length fresh.2) }

-- what is left behind a journal and behind a bad line, of the same bytes
not_read : (text bytes x y : List ℕ) (c : Journal) (line : ℕ) (left : Option (List ℕ)) → ((stands : List ℕ) (end : LineEnd) → IsLine left stands end → IsLine (Some y) stands end)
    → IsJournal text c → IsBadLine bytes left line → text ++ x ≡ bytes ++ y → ⊥
not_read text bytes x y c line left seen j bad is =
    let o = bad.before.told.options in
    let m = bad.before.told.missed in
    let lead : Leads (beside j.before o m) bad.entries bad.after =
    subst (λ (z : Draft). Leads z bad.entries bad.after) (fresh_beside j.before bad.before j.fresh bad.fresh) bad.lead in
    not_both_read j.before o m j.entries bad.entries j.after bad.after x y bad.stands bad.end (fresh_settled j.before o m j.fresh) (fresh_sound j.before j.fresh)
    j.lead lead j.ended bad.going (seen bad.stands bad.end bad.is_line) bad.none
    (ap (λ (u : List ℕ). u ++ x) (sym j.lines) ∙ is ∙ ap (λ (u : List ℕ). u ++ y) bad.parts ∙ append_assoc (flat_map line_of bad.entries) bad.stands y)

nothing_left : (left : Option (List ℕ)) (stands : List ℕ) (end : LineEnd) → IsLine left stands end → IsLine (Some []) stands end
nothing_left left stands Whole at = at
nothing_left left stands Long at = at
nothing_left left stands Unfinished at = (at.0, at.1, refl)

-- bytes that begin with a journal have no bad line
pub no_bad_line : (text more : List ℕ) (left : Option (List ℕ)) (c : Journal) (line : ℕ) → IsJournal text c → IsBadLine (text ++ more) left line → ⊥
no_bad_line text more left c line j bad =
    not_read text (text ++ more) more [] c line left (nothing_left left) j bad (sym (append-nil (text ++ more)))

some_inside : (given : List ℕ) (bytes rest : List ℕ) → Some given ≡ behind bytes (Some rest) → given ≡ bytes ++ rest
some_inside given bytes rest is = cc is

-- of one source a journal is taken, or a bad line
pub not_taken : (given : List ℕ) (a b : Option (List ℕ)) (c : Journal) (line : ℕ) → TakesJournal (Some given) a c → TakesBadLine (Some given) b line → ⊥
not_taken given None b c line j bad = cc j.taken
not_taken given (Some x) None c line j bad = cc bad.taken
not_taken given (Some x) (Some y) c line j bad =
    not_read j.text bad.bytes x y c line (Some y) (λ stands end at. at) j.journal bad.bad
    (sym (some_inside given j.text x j.taken) ∙ some_inside given bad.bytes y bad.taken)

-- and one journal alone, with the same left behind it
pub one_taken : (given : List ℕ) (a b : Option (List ℕ)) (c d : Journal) → TakesJournal (Some given) a c → TakesJournal (Some given) b d → (c ≡ d) × (a ≡ b)
one_taken given None b c d j k = absurd (cc j.taken)
one_taken given (Some x) None c d j k = absurd (cc k.taken)
one_taken given (Some x) (Some y) c d j k =
    let one = one_front j.text k.text x y c d j.journal k.journal (sym (some_inside given j.text x j.taken) ∙ some_inside given k.text y k.taken) in
    (one.0, ap (λ (t : List ℕ). Some t) one.1)

-- two bad lines at the front of one text are the same one
one_read : (d : Draft) (o : Options) (m : ℕ) (es fs : List Entry) (a b : Draft) (s x t y : List ℕ) (end end₂ : LineEnd) → IsSettled d o m → IsSound d
    → Leads d es a → Leads (beside d o m) fs b → IsLine (Some x) s end → IsLine (Some y) t end₂
    → ((e : Entry) → MayFollow a e → s ≢ line_of e) → ((e : Entry) → MayFollow b e → t ≢ line_of e)
    → flat_map line_of es ++ (s ++ x) ≡ flat_map line_of fs ++ (t ++ y) → length es ≡ length fs
one_read d o m [] [] a b s x t y end end₂ settled sound lead₁ lead₂ at₁ at₂ none₁ none₂ is = refl
one_read d o m [] (f ∷ fs) a b s x t y end end₂ settled sound lead₁ lead₂ at₁ at₂ none₁ none₂ is =
    let may = may_beside d o m f settled lead₂.0 in
    absurd (none₁ f (subst (λ (z : Draft). MayFollow z f) lead₁ may)
    (read_there (line_of f) s (flat_map line_of fs ++ (t ++ y)) x end (end_of d f sound may) at₁
    (sym (is ∙ append_assoc (line_of f) (flat_map line_of fs) (t ++ y)))))
one_read d o m (e ∷ es) [] a b s x t y end end₂ settled sound lead₁ lead₂ at₁ at₂ none₁ none₂ is =
    absurd (none₂ e (subst (λ (z : Draft). MayFollow z e) lead₂ (may_there d o m e settled lead₁.0))
    (read_there (line_of e) t (flat_map line_of es ++ (s ++ x)) y end₂ (end_of d e sound lead₁.0) at₂
    (sym (append_assoc (line_of e) (flat_map line_of es) (s ++ x)) ∙ is)))
one_read d o m (e ∷ es) (f ∷ fs) a b s x t y end end₂ settled sound lead₁ lead₂ at₁ at₂ none₁ none₂ is =
    let first = one_line d e f (flat_map line_of es ++ (s ++ x)) (flat_map line_of fs ++ (t ++ y)) lead₁.0 (may_beside d o m f settled lead₂.0)
    (behind_first e f es fs (s ++ x) (t ++ y) is) in
    ap suc (one_read (read_on d e) (options_on o e) (missed_on m e) es fs a b s x t y end end₂ (settled_on d o m e lead₁.0 settled) (sound_on d e lead₁.0 sound)
    lead₁.1 (leads_beside d o m e f fs b first.0 lead₂.1) at₁ at₂ none₁ none₂ first.1)

one_number : (bytes other x y : List ℕ) (line number : ℕ) → IsBadLine bytes (Some x) line → IsBadLine other (Some y) number → bytes ++ x ≡ other ++ y → line ≡ number
one_number bytes other x y line number j k is =
    let o = k.before.told.options in
    let m = k.before.told.missed in
    let lead : Leads (beside j.before o m) k.entries k.after =
    subst (λ (z : Draft). Leads z k.entries k.after) (fresh_beside j.before k.before j.fresh k.fresh) k.lead in
    let many = one_read j.before o m j.entries k.entries j.after k.after j.stands x k.stands y j.end k.end (fresh_settled j.before o m j.fresh) (fresh_sound j.before j.fresh)
    j.lead lead j.is_line k.is_line j.none k.none
    (sym (append_assoc (flat_map line_of j.entries) j.stands x) ∙ ap (λ (u : List ℕ). u ++ x) (sym j.parts) ∙ is
    ∙ ap (λ (u : List ℕ). u ++ y) k.parts ∙ append_assoc (flat_map line_of k.entries) k.stands y) in
    j.number ∙ ap (λ (n : ℕ). n + 1) many ∙ sym k.number

-- of one source one bad line is told
pub one_bad_line : (given : List ℕ) (a b : Option (List ℕ)) (line number : ℕ) → TakesBadLine (Some given) a line → TakesBadLine (Some given) b number → line ≡ number
one_bad_line given None b line number j k = absurd (cc j.taken)
one_bad_line given (Some x) None line number j k = absurd (cc k.taken)
one_bad_line given (Some x) (Some y) line number j k =
    one_number j.bytes k.bytes x y line number j.bad k.bad (sym (some_inside given j.bytes x j.taken) ∙ some_inside given k.bytes y k.taken)
