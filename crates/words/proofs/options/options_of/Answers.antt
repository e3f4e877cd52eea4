use Rattle.std.proofs.Common.{rules, ℕ, ◌≡◌, ◌∙◌, refl, sym, ap, subst, codes, false, true≢false}
use Rattle.std.specs.Prelude.{MatchOption, None}
use Rattle.hash_rows.specs.OptionTexts.{sketch_text}
use Rattle.hash_rows.specs.declared.options.Sketch.{Sketch}
use Rattle.hash_rows.specs.declared.options.Options.{Options}
use Rattle.words.specs.Grammar.{value_in}
use Rattle.words.specs.Options.{GivesOptions, GivesShape, suits, usual_threshold}
use Rattle.words.specs.Values.{ReadsChoice, IsNumberOf}
use Rattle.words.proofs.Once.{same_choice, same_sketch}
use Rattle.words.proofs.options.options_of.Goals as goal

pub returns-then-not-suits : goal.returns-then-not-suits
returns-then-not-suits c = λ parts keys am reads_keys room o g.
    let reads = subst (λ v. ReadsChoice sketch_text c.args.usual v c.in_ok-sketch.sketch) (c.get_str.ensures ∙ am.values (codes "sketch") refl) c.in_ok-sketch.ensures in
    let same = same_choice sketch_text c.args.usual _ _ _ same_sketch g.sketch reads in
    let bad : suits c.in_ok-sketch.sketch parts ≡ false = sym (c.suits.ensures parts am) ∙ search rules in
    true≢false (sym g.suited ∙ ap (λ (s : Sketch). suits s parts) same ∙ bad)

pub returns-in_err-threshold : goal.returns-in_err-threshold
returns-in_err-threshold c = λ parts keys am reads_keys room.
    let reads = subst (λ v. ReadsChoice sketch_text c.args.usual v c.in_ok-sketch.sketch) (c.get_str.ensures ∙ am.values (codes "sketch") refl) c.in_ok-sketch.ensures in
    let none : c.from_residual-in_err-threshold.result ≡ None = search rules in
    subst (λ r. MatchOption r ((o : Options) → GivesOptions c.args.usual keys parts o → ⊥) (GivesOptions c.args.usual keys parts)) (sym none) (λ o g.
    let same = same_choice sketch_text c.args.usual _ _ _ same_sketch g.sketch reads in
    let usual = ap usual_threshold same ∙ sym c.usual_threshold-otherwise.ensures in
    let number = subst (λ (d : ℕ). IsNumberOf 1 1099511627776 d (value_in (codes "threshold") parts) o.threshold) usual g.threshold in
    c.in_err-threshold.ensures o.threshold (subst (λ v. IsNumberOf 1 1099511627776 c.usual_threshold-otherwise.result v o.threshold) (sym (c.get_str-2.ensures ∙ am.values (codes "threshold") refl)) number))

pub returns-in_err-shape : goal.returns-in_err-shape
returns-in_err-shape c = λ parts keys am reads_keys room.
    let reads = subst (λ v. ReadsChoice sketch_text c.args.usual v c.in_ok-sketch.sketch) (c.get_str.ensures ∙ am.values (codes "sketch") refl) c.in_ok-sketch.ensures in
    let none : c.from_residual-in_err-shape.result ≡ None = search rules in
    subst (λ r. MatchOption r ((o : Options) → GivesOptions c.args.usual keys parts o → ⊥) (GivesOptions c.args.usual keys parts)) (sym none) (λ o g.
    let same = same_choice sketch_text c.args.usual _ _ _ same_sketch g.sketch reads in
    c.in_err-shape.ensures parts am o.shape (subst (λ (s : Sketch). GivesShape parts s o.shape) same g.shape))
