-- What the writer keeps, after each of its steps.
use Rattle.std.proofs.Common.{◌≡◌, ◌⊎◌, true, ◌<◌, ◌≤◌, List, [], ◌∷◌, ◌++◌, length, fold, refl, sym, subst, ap, ◌∙◌, ⊎_elim, arith, length-append, append_assoc, Option, Some, None}
use Rattle.std.proofs.lemmas.List.{append-nil, map-append}
use Rattle.std.proofs.lemmas.List.Elements.{All-nil, All-cons, All-append}
use Rattle.hash_rows.specs.Rules.{Rules}
use Rattle.live_view.specs.Views.{History, PublishedView, with_all, longer}
use Rattle.live_state.specs.Fold.{StateView, most, fits, Fit, IsStateAfter, layout_of}
use Rattle.live_view.specs.Rule.{notes, pair_of, turned, messages, IsChain, late}
use Rattle.live_view.specs.Writers.{IsWriter}
use Rattle.hash_rows.specs.declared.shape.Push.{Push}
use Rattle.live_view.specs.declared.history.Entry.{Entry}
use Rattle.live_view.specs.declared.history.HistoryWriter.{HistoryWriter}
use Rattle.live_view.specs.declared.rule.Notes.{Notes}
use mathlib.Core.List.{IsPrefix}
use Rattle.push_history.proofs.Prefixes.{prefix_whole}
use Rattle.live_view.proofs.Folds.{count_is}
use Rattle.live_view.proofs.Turns.{turned_all, sums_go_on}

with_none : (s : History) → with_all s [] ≡ s
with_none s = λ i. record { book = s.book; log = append-nil s.log i }

pub chain_on : (s : History) (es : List Entry) (e : Entry) → IsChain s es → e.prefix ≡ longer (with_all s (messages es)) e.message → IsChain s (es ++ e ∷ [])
chain_on s [] e h is = (is ∙ ap (λ t. longer t e.message) (with_none s), tt)
chain_on s (x ∷ es) e h is =
    let log : x.prefix.log ++ messages es ≡ s.log ++ x.message ∷ messages es = ap (λ (t : History). t.log ++ messages es) h.0 ∙ append_assoc s.log (x.message ∷ []) (messages es) in
    let same : with_all x.prefix (messages es) ≡ with_all s (x.message ∷ messages es) = λ i. record { book = (h.0 i).book; log = log i } in
    (h.0, chain_on x.prefix es e h.1 (is ∙ ap (λ t. longer t e.message) (sym same)))

-- the message was late already, or it comes next
abbrev pub Stepped : HistoryWriter → Push → History → Type 0
Stepped old m s = ((old.stuck ≡ Some m) × (s ≡ old.prefix)) ⊎ ((old.stuck ≡ None) × (s ≡ longer old.prefix m))

stepped : (base : History) (old : HistoryWriter) (m : Push) (s : History) → old.prefix ≡ late old.stuck base → Stepped old m s → s ≡ longer base m
stepped base old m s h step = ⊎_elim
    (λ (t : (old.stuck ≡ Some m) × (s ≡ old.prefix)). t.1 ∙ (h ∙ ap (λ o. late o base) t.0))
    (λ (t : (old.stuck ≡ None) × (s ≡ longer old.prefix m)). t.1 ∙ ap (λ x. longer x m) (h ∙ ap (λ o. late o base) t.0))
    step

late_length : (o : Option Push) (s : History) → length s.log ≤ length (late o s).log
late_length None s = omega arith
late_length (Some m) s = omega (arith, length-append s.log (m ∷ []))

module _ (r : Rules) where
  kept_published : (p q : PublishedView) (v : Notes) (es : List Entry) (history_writer : HistoryWriter) → IsWriter r p v es history_writer → q ≡ fold (turned r) p es → IsWriter r q (notes q.history.log (Some (pair_of q))) [] history_writer
  kept_published p q v es history_writer h e = let all = e ∙ turned_all r p es h.chain in record {
    sums = sums_go_on r p q es h.sums h.fit h.chain e;
    seat_is = refl;
    fit = All-nil (λ (x : Push). fits r (layout_of q.figures) x ≡ true);
    chain = tt;
    prefix = h.prefix ∙ ap (late history_writer.stuck) (sym (with_none q.history ∙ ap (λ (x : PublishedView). x.history) all));
    count = h.count;
    room = h.room;
  }

  pub published : (p q : PublishedView) (v w : Notes) (es rest : List Entry) (history_writer : HistoryWriter) → IsWriter r p v es history_writer → q ≡ fold (turned r) p es → w ≡ notes q.history.log (Some (pair_of q)) → rest ≡ [] → IsWriter r q w rest history_writer
  published p q v w es rest history_writer h e seat none = subst (λ (z : Notes × List Entry). IsWriter r q z.0 z.1 history_writer) (λ i. (sym seat i, sym none i)) (kept_published p q v es history_writer h e)

  pub grown : (p q : PublishedView) (v w : Notes) (es : List Entry) (history_writer : HistoryWriter) → IsWriter r p v es history_writer → q ≡ fold (turned r) p es → w ≡ notes q.history.log (Some (pair_of q)) → w.known ≡ v.known ++ messages es
  grown p q v w es history_writer h e seat = let all = e ∙ turned_all r p es h.chain in
      ap (λ (z : Notes). z.known) seat ∙ (ap (λ (x : PublishedView). x.history.log) all ∙ ap (λ (z : Notes). z.known ++ messages es) (sym h.seat_is))

  appended_here : (p : PublishedView) (v : Notes) (es : List Entry) (old new : HistoryWriter) (e : Entry) → IsWriter r p v es old → fits r (layout_of p.figures) e.message ≡ true
      → e.prefix ≡ new.prefix → Stepped old e.message new.prefix → new.count ≡ length new.prefix.log → new.count < most → new.stuck ≡ None → IsWriter r p v (es ++ e ∷ []) new
  appended_here p v es old new e h fit same step count room none =
      let P : Push → Type 0 = λ x. fits r (layout_of p.figures) x ≡ true in
      let mapped : messages (es ++ e ∷ []) ≡ messages es ++ e.message ∷ [] = map-append (λ (x : Entry). x.message) es (e ∷ []) in
      let next : new.prefix ≡ longer (with_all p.history (messages es)) e.message = stepped (with_all p.history (messages es)) old e.message new.prefix h.prefix step in
      let log : (p.history.log ++ messages es) ++ e.message ∷ [] ≡ p.history.log ++ messages (es ++ e ∷ []) = append_assoc p.history.log (messages es) (e.message ∷ []) ∙ ap (λ (l : List Push). p.history.log ++ l) (sym mapped) in
      record {
        sums = h.sums;
        seat_is = h.seat_is;
        fit = subst (λ (l : List Push). Fit r (layout_of p.figures) l) (sym mapped) (All-append P (messages es) (e.message ∷ []) h.fit (All-cons P e.message [] fit (All-nil P)));
        chain = chain_on p.history es e h.chain (same ∙ next);
        prefix = next ∙ ((λ i. record { book = p.history.book; log = log i }) ∙ ap (λ o. late o (with_all p.history (messages (es ++ e ∷ [])))) (sym none));
        count = count;
        room = room;
      }

  pub appended : (p p' : PublishedView) (v v' : Notes) (es es' : List Entry) (old new : HistoryWriter) (e : Entry) → IsWriter r p v es old → p' ≡ p → v' ≡ v → es' ≡ es ++ e ∷ [] → fits r (layout_of p.figures) e.message ≡ true
      → e.prefix ≡ new.prefix → Stepped old e.message new.prefix → new.count ≡ length new.prefix.log → new.count < most → new.stuck ≡ None → IsWriter r p' v' es' new
  appended p p' v v' es es' old new e h ip iv ies fit same step count room none =
      subst (λ (z : PublishedView × (Notes × List Entry)). IsWriter r z.0 z.1.0 z.1.1 new) (λ i. (sym ip i, (sym iv i, sym ies i))) (appended_here p v es old new e h fit same step count room none)

  pub short : (p : PublishedView) (v : Notes) (es : List Entry) (history_writer : HistoryWriter) → IsWriter r p v es history_writer → length p.history.log < most
  short p v es history_writer h =
      let one : length history_writer.prefix.log ≡ length (late history_writer.stuck (with_all p.history (messages es))).log = ap (λ (s : History). length s.log) h.prefix in
      omega (arith, late_length history_writer.stuck (with_all p.history (messages es)), one, h.count, h.room, length-append p.history.log (messages es))

  pub counted : (p : PublishedView) (v : Notes) (es : List Entry) (history_writer : HistoryWriter) → IsWriter r p v es history_writer → p.figures.folded ≡ length p.history.log
  counted p v es history_writer h = omega (arith, count_is r p.figures p.history.log h.sums, short p v es history_writer h)

  pub all_known : (s : StateView) (list known : List Push) → IsStateAfter r s known → IsPrefix list known → s.folded ≡ length list → length list < most → known ≡ list
  all_known s list known h pre n lt = sym (prefix_whole list known pre (omega (arith, count_is r s known h, n)))
