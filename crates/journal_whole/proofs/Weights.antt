-- How far the lines of a journal can go on.
use Rattle.std.proofs.Common.{◌≡◌, ◌∙◌, ℕ, ◌+◌, ◌-◌, ◌*◌, ◌^◌, ◌≤◌, List, [], ◌∷◌, ◌++◌, Option, refl, sym, ap, subst, arith, length, length-append}
use Rattle.std.specs.List.{flat_map}
use Rattle.std.proofs.Math.Nat.{mul-le-mul}
use Rattle.std.proofs.lemmas.List.{append-nil}
use Rattle.std.proofs.lemmas.Grind.{flat_map-append}
use Rattle.flow_base.specs.Flow.{behind}
use Rattle.flow_base.proofs.FlowLemmas.{behind-append, behind-nil}
use Rattle.journal_read.specs.Drafts.{Draft, Stage, MayFollow, read_on, Nothing, Titled, Listing, Counted, Ended}
use Rattle.journal_read.specs.Entries.{Entry, line_of, Head, Terms, Watched, Worker, Run, Answered, Live, Missed, End}
use Rattle.journal_read.specs.Reading.{Leads}
use Rattle.journal_whole.specs.Drafted.{IsProper}
use Rattle.journal_whole.specs.Taken.{TakesEntries, TakesEntry}
use Rattle.journal_whole.proofs.Proper.{proper_on}
use Rattle.journal_whole.proofs.Judging.{rank, not_early}

-- the items read, but of the refused updates those that runs told
abbrev pub weight : Draft → ℕ
weight d =
    length d.told.options.watch.items + length d.told.pushes + (d.refused - d.due) + length d.told.answers + length d.told.live + rank d.stage

rank_most : (s : Stage) → rank s ≤ 4
rank_most Nothing = omega arith
rank_most Titled = omega arith
rank_most Listing = omega arith
rank_most Counted = omega arith
rank_most Ended = omega arith

pub product_most : (q n : ℕ) → q ≤ 4 → n ≤ 1024 → q * n ≤ 4096
product_most q n few₁ few₂ = mul-le-mul few₁ few₂

pub weight_most : (d : Draft) → IsProper d → weight d ≤ 2 ^ 28
weight_most d proper =
    omega (
      arith,
      proper.lawful.watch,
      proper.lawful.workers,
      proper.pushes,
      proper.refused,
      proper.answers,
      proper.live,
      rank_most d.stage,
      product_most d.told.options.readers d.told.options.asks proper.lawful.readers proper.lawful.asks,
    )

rank_at : (s t : Stage) → s ≡ t → rank s ≡ rank t
rank_at s t at = ap rank at

-- each line adds to it
pub weight_more : (d : Draft) (e : Entry) → IsProper d → MayFollow d e → weight d + 1 ≤ weight (read_on d e)
weight_more d Head proper may = absurd (not_early d Nothing proper may (omega arith))
weight_more d (Terms o) proper may = absurd (not_early d Titled proper may.0 (omega arith))
weight_more d (Watched k) proper may = omega (arith, length-append d.told.options.watch.items (k ∷ []))
weight_more d (Worker w p r) proper may = omega (arith, may.1, length-append d.told.pushes (p ∷ []))
weight_more d (Run w a b) proper may = omega (arith, may.3, may.5, proper.due)
weight_more d (Answered a) proper may = omega (arith, length-append d.told.answers (a ∷ []))
weight_more d (Live k) proper may = omega (arith, length-append d.told.live (k ∷ []))
weight_more d (Missed n) proper may = omega (arith, rank_at d.stage Listing may.0.listing)
weight_more d End proper may = omega (arith, rank_at d.stage Counted may)

-- one line more
leads_more : (d mid after : Draft) (es : List Entry) (e : Entry) → Leads d es mid → MayFollow mid e → read_on mid e ≡ after → Leads d (es ++ e ∷ []) after
leads_more d mid after [] e lead may read = (subst (λ (x : Draft). MayFollow x e) (sym lead) may, ap (λ (x : Draft). read_on x e) lead ∙ read)
leads_more d mid after (x ∷ es) e lead may read = (lead.0, leads_more (read_on d x) mid after es e lead.1 may read)

-- so many lines were read, of a journal that has at most so many
pub record Went (before now : Draft) (old new : Option (List ℕ)) (line : ℕ) : Type 0 where
  pub took : TakesEntries before now old new
  pub number : line ≡ length took.entries + 3
  pub bound : length took.entries ≤ weight now

pub went_none : (d : Draft) (old : Option (List ℕ)) → Went d d old old 3
went_none d old = record { took = record { entries = []; lead = refl; taken = sym (behind-nil old) }; number = refl; bound = omega arith }

pub entry_grows : (mid now : Draft) (old new : Option (List ℕ)) → IsProper mid → TakesEntry mid now old new → weight mid + 1 ≤ weight now
entry_grows mid now old new proper step =
    subst (λ (d : Draft). weight mid + 1 ≤ weight d) step.read (weight_more mid step.entry proper step.may)

pub entry_proper : (mid now : Draft) (old new : Option (List ℕ)) → IsProper mid → TakesEntry mid now old new → IsProper now
entry_proper mid now old new proper step = subst IsProper step.read (proper_on mid step.entry proper step.may)

pub went_more : (before mid now : Draft) (old middle new : Option (List ℕ)) (line : ℕ) → IsProper mid → Went before mid old middle line → TakesEntry mid now middle new
    → Went before now old new (line + 1)
went_more before mid now old middle new line proper went step = record {
  took = record {
    entries = went.took.entries ++ step.entry ∷ [];
    lead = leads_more before mid now went.took.entries step.entry went.took.lead step.may step.read;
    taken = went.took.taken
        ∙ ap (behind (flat_map line_of went.took.entries)) step.taken
        ∙ behind-append (flat_map line_of went.took.entries) (line_of step.entry) new
        ∙ ap (λ (t : List ℕ). behind t new) (one_more went.took.entries step.entry);
  };
  number = omega (arith, went.number, length-append went.took.entries (step.entry ∷ []));
  bound = omega (arith, went.bound, length-append went.took.entries (step.entry ∷ []), entry_grows mid now middle new proper step);
}
  where
    one_more : (es : List Entry) (e : Entry) → flat_map line_of es ++ line_of e ≡ flat_map line_of (es ++ e ∷ [])
    one_more es e = ap (λ (t : List ℕ). flat_map line_of es ++ t) (sym (append-nil (line_of e))) ∙ sym (flat_map-append line_of es (e ∷ []))
